-- Connections that are created and served one after another have their answers.
use Rattle.std.proofs.Common.{◌≡◌, ℕ, ◌==◌, List, [], ◌∷◌, ◌++◌, ap, ◌∙◌, refl, sym, subst, arith, true, false, Bool}
use Rattle.std.proofs.Common.{append_assoc, append-nil, Option}
use Rattle.std.specs.Prelude.{◌||◌, ◌&&◌}
use Rattle.iol_core.specs.Calls.Outside.{lacks_conn}
use Rattle.iol_core.specs.State.{State}
use Rattle.iol_core.specs.declared.events.Event.TheVariants as event
use Rattle.iol_core.specs.declared.events.Reply.{Reply}
use Rattle.iol_core.specs.declared.events.Reply.TheVariants as reply
use Rattle.iol_laws.specs.ConnNumbers.{ConnectionNumbersRise}
use Rattle.iol_proc.specs.World.{WorldState, copying, OutsideStep}
use Rattle.iol_proc.specs.declared.choice.Choice.{Choice}
use Rattle.iol_proc.specs.declared.choice.Choice.TheVariants as choice
use Rattle.iol_serve.specs.Service.{Serves, hung_up}
use Rattle.iol_serve.specs.declared.ending.Ending.{Ending}
use Rattle.iol_serve.specs.declared.ending.Ending.TheVariants.{Over}
use Rattle.flash_cgi.specs.declared.worker.Worker.{Worker}
use Rattle.flash_laws.specs.Serves.Rounds.{in_rounds}
use Rattle.flash_laws.specs.SiteContents.{Refusals, SiteContents}
use Rattle.flash_laws.specs.Site.{net_pool}
use Rattle.flash_laws.specs.Site.Past.{Past}
use Rattle.flash_laws.specs.World.{AreFair, RunKeepsConsistency, StepKeepsConsistency, ConsistentIsAnswered}
use Rattle.flash_laws.specs.World.{ConsistentIsWhole}
use Rattle.flash_laws.specs.World.Fair.{any_refusal, AnyIsFair}
use Rattle.flash_laws.specs.World.Consistency.{Actor, actor_turns, past_of}
use Rattle.flash_laws.proofs.Lists.{later_of, self}
use Rattle.flash_laws.proofs.Site.Pasts.{past-outside}
use Rattle.flash_lite.specs.WorkerSet.{worker_set_of}
use Rattle.flash_lite.specs.Library.{library_of}
use Rattle.flash_lite.specs.Workers.{worker_turns}
use Rattle.flash_lite.specs.declared.site.Site.{Site}
use Rattle.flash_served.specs.Served.{AreFairSessions, AreRight, AreSessions, Holds, IsAnswered, IsFresh, IsNoConn}
use Rattle.flash_served.specs.Served.{IsSession, ServesNone, ServesRight, Session, SessionsAreRight}
use Rattle.flash_served.proofs.Served.{served_right}

-- a past without bytes of a connection of the net
record HasNone (p : Past) (c : ℕ) : Type 0 where
  pub net : p.net c ≡ true
  pub unread : p.came c ≡ []
  pub unsent : p.sent c ≡ []
  pub stays : p.gone c ≡ false

fresh-by : (c : ℕ) (xs : List Choice) (rs : List Reply) → HasNone (past_of xs rs) c → IsFresh c xs rs
fresh-by c xs rs has = record { net = has.net; unread = has.unread; unsent = has.unsent; stays = has.stays }

never : (b : Bool) → b ≡ false → (b || false) ≡ false
never false is = refl
never true is = absurd (cc (is))

module _ (s : Site) (slots : List (List ℕ)) (keeps : RunKeepsConsistency in_rounds (worker_set_of s))
    (answered : ConsistentIsAnswered (worker_set_of s)) (whole : ConsistentIsWhole (worker_set_of s))
    (numbers : ConnectionNumbersRise) where
  module _ (refuses : Refusals) where
    abbrev site_contents : SiteContents
    site_contents = library_of s slots refuses

    -- a connection that was just made has no history
    made-fresh : (past : List Choice) (ps : List Reply) (c : ℕ) (w mid : WorldState State (Actor Worker))
        → Holds s slots refuses past ps w
        → OutsideStep copying (actor_turns in_rounds worker_turns) w (event.ConnNew net_pool) (reply.Conn c) mid
        → IsFresh c (past ++ choice.Outside (event.ConnNew net_pool) ∷ []) (ps ++ reply.Conn c ∷ [])
    made-fresh past ps c w mid consistent made = fresh-by c _ _
        (subst (λ (p : Past). HasNone p c)
        (sym (past-outside past ps (event.ConnNew net_pool) (reply.Conn c) consistent.even)) (record {
          net = later_of ((past_of past ps).net c) ((c == c) && (net_pool == net_pool)) (and-self c);
          unread = append-nil ((past_of past ps).came c) ∙ none.0;
          unsent = append-nil ((past_of past ps).sent c) ∙ none.1;
          stays =
              never ((past_of past ps).gone c) (consistent.in_slots.serves.fit.unreported c (omega (arith, number)));
        }))
      where
        number : c ≡ w.machine.next_conn
        number = (numbers.next w.machine mid.machine net_pool c made.step).0

        none : ((past_of past ps).came c ≡ []) × ((past_of past ps).sent c ≡ []) × ((past_of past ps).net c ≡ false)
        none = consistent.in_slots.serves.fit.fresh c (omega (arith, number))

        and-self : (a : ℕ) → ((a == a) && (net_pool == net_pool)) ≡ true
        and-self a = ap (λ b. b && (net_pool == net_pool)) (self a)

    -- one session
    session-right : (past : List Choice) (ps : List Reply) (it : Session) (w after : WorldState State (Actor Worker))
        → Holds s slots refuses past ps w
        → (is : IsSession it w after) → AreFair refuses is.proceeds.choices is.proceeds.replies
        → Holds s slots refuses ((past ++ choice.Outside (event.ConnNew net_pool) ∷ []) ++ is.proceeds.choices)
        ((ps ++ reply.Conn it.conn ∷ []) ++ is.proceeds.replies) after
        × IsAnswered site_contents it.ending it.came it.sent
    session-right past ps it w after consistent is fair =
        let begun = keeps site_contents past (choice.Outside (event.ConnNew net_pool) ∷ []) ps (reply.Conn it.conn ∷ [])
        w is.begun (is.begun, is.made, refl) (tt, tt) tt consistent in
        served_right (worker_set_of s) keeps answered whole site_contents _ _ it.conn it.ending it.came it.sent is.begun
        after begun
        (made-fresh past ps it.conn w is.begun consistent is.made) is.proceeds is.over fair

    -- one more session before the others
    right-more : (past : List Choice) (ps : List Reply) (xs : List Choice) (rs : List Reply) (it : Session)
        (its : List Session)
        (after : WorldState State (Actor Worker)) → IsAnswered site_contents it.ending it.came it.sent
        → AreRight s slots refuses (past ++ xs) (ps ++ rs) its after
        → AreRight s slots refuses past ps (it ∷ its) after
    right-more past ps xs rs it its after first rest = record {
      answered = (first, rest.answered);
      choices = xs ++ rest.choices;
      replies = rs ++ rest.replies;
      holds = subst (λ (l : List Choice). Holds s slots refuses l (ps ++ (rs ++ rest.replies)) after)
          (append_assoc past xs rest.choices)
          (subst (λ (l : List Reply). Holds s slots refuses ((past ++ xs) ++ rest.choices) l after)
          (append_assoc ps rs rest.replies) rest.holds);
    }

    one-more : (past : List Choice) (ps : List Reply) (it : Session) (its : List Session)
        (w mid after : WorldState State (Actor Worker))
        → (is : IsSession it w mid) → IsAnswered site_contents it.ending it.came it.sent
        → AreRight s slots refuses ((past ++ choice.Outside (event.ConnNew net_pool) ∷ []) ++ is.proceeds.choices)
        ((ps ++ reply.Conn it.conn ∷ []) ++ is.proceeds.replies) its after
        → AreRight s slots refuses past ps (it ∷ its) after
    one-more past ps it its w mid after is first rest =
        right-more past ps (choice.Outside (event.ConnNew net_pool) ∷ is.proceeds.choices)
        (reply.Conn it.conn ∷ is.proceeds.replies) it its after first
        (subst (λ (l : List Choice). AreRight s slots refuses l (ps ++ (reply.Conn it.conn ∷ is.proceeds.replies)) its
        after) (append_assoc past (choice.Outside (event.ConnNew net_pool) ∷ []) is.proceeds.choices)
        (subst (λ (l : List Reply). AreRight s slots refuses ((past ++ choice.Outside (event.ConnNew net_pool) ∷ [])
        ++ is.proceeds.choices) l its after) (append_assoc ps (reply.Conn it.conn ∷ []) is.proceeds.replies) rest))

    none-right : (past : List Choice) (ps : List Reply) (w after : WorldState State (Actor Worker))
        → Holds s slots refuses past ps w → after ≡ w
        → AreRight s slots refuses past ps [] after
    none-right past ps w after consistent same = record {
      answered = tt;
      choices = [];
      replies = [];
      holds = subst (λ (v : WorldState State (Actor Worker)). Holds s slots refuses (past ++ []) (ps ++ []) v)
          (sym same)
          (subst (λ (l : List Choice). Holds s slots refuses l (ps ++ []) w) (sym (append-nil past))
          (subst (λ (l : List Reply). Holds s slots refuses past l w) (sym (append-nil ps)) consistent));
    }

    pub fair-sessions : (past : List Choice) (ps : List Reply) (its : List Session)
        (w after : WorldState State (Actor Worker))
        → (sessions : AreSessions its w after) → Holds s slots refuses past ps w
        → AreFairSessions refuses its w after sessions
        → AreRight s slots refuses past ps its after
    fair-sessions past ps [] w after sessions consistent fair = none-right past ps w after consistent sessions
    fair-sessions past ps (it ∷ its) w after sessions consistent fair =
        let did = session-right past ps it w sessions.0 consistent sessions.1 fair.0 in
        one-more past ps it its w sessions.0 after sessions.1 did.1
        (fair-sessions _ _ its sessions.0 after sessions.2 did.0 fair.1)

  -- the turns of each session are fair, if any refusal is allowed
  any-fair : AnyIsFair → (its : List Session) (w after : WorldState State (Actor Worker))
      → (sessions : AreSessions its w after)
      → AreFairSessions any_refusal its w after sessions
  any-fair fair [] w after sessions = tt
  any-fair fair (it ∷ its) w after sessions =
      (fair sessions.1.proceeds.choices sessions.1.proceeds.replies, any-fair fair its sessions.0 after sessions.2)

  pub any-sessions : AnyIsFair
      → (past : List Choice) (ps : List Reply) (its : List Session) (w after : WorldState State (Actor Worker))
      → AreSessions its w after → Holds s slots any_refusal past ps w → AreRight s slots any_refusal past ps its after
  any-sessions fair past ps its w after sessions consistent =
      fair-sessions any_refusal past ps its w after sessions consistent (any-fair fair its w after sessions)

-- a connection that is created and served
pub serves_right : SessionsAreRight
    → (n : ℕ) (ending : Ending) (left rest held now : Option (List ℕ)) (w begun after : WorldState State (Actor Worker))
    → OutsideStep copying (actor_turns in_rounds worker_turns) w (event.ConnNew net_pool) (reply.Conn n) begun
    → Serves (actor_turns in_rounds worker_turns) n (hung_up ending) left rest held now begun after
    → (ending ≡ Over → lacks_conn after.machine n ≡ true) → ServesRight ending left rest held now w after
serves_right law n ending left rest held now w begun after made served over = record {
  session = it;
  ends = refl;
  given = served.given;
  taken = served.taken;
  serves = is;
  fair = λ s slots refuses past ps consistent fair. (law s slots past ps (it ∷ []) w after (after, is, refl)).fair
      refuses consistent (fair, tt);
  any = λ s slots past ps consistent. (law s slots past ps (it ∷ []) w after (after, is, refl)).any consistent;
}
  where
    it : Session
    it = record { conn = n; ending = ending; came = served.came; sent = served.sent }

    is : IsSession it w after
    is = record { begun = begun; made = made; proceeds = served.proceeds; over = over }

-- if no connection is created, the invariant is preserved
pub serves_none : ((s : Site) → StepKeepsConsistency in_rounds (worker_set_of s))
    → (r : Reply) (w after : WorldState State (Actor Worker))
    → OutsideStep copying (actor_turns in_rounds worker_turns) w (event.ConnNew net_pool) r after → IsNoConn r
    → ServesNone w after
serves_none keeps r w after step none = record {
  reply = r;
  refused = step;
  none = none;
  holds = λ s slots refuses past ps consistent.
      keeps s (library_of s slots refuses) past ps (choice.Outside (event.ConnNew net_pool)) r w after step tt tt
      consistent;
}
