-- A connection of a world with the server's invariant has its answer.
use Rattle.std.proofs.Common.{◌≡◌, ◌==◌, ℕ, Bool, List, [], ◌∷◌, ◌++◌, ap, ◌∙◌, subst, sym, refl, arith, Option, Some}
use Rattle.std.proofs.Common.{None, true, false, append-nil, append_assoc, is_none, unwrap_or}
use Rattle.std.specs.Prelude.{◌||◌, ◌&&◌}
use Rattle.iol_core.specs.Calls.Outside.{lacks_conn}
use Rattle.iol_core.specs.NumberedLists.{lookup}
use Rattle.iol_core.specs.Text.{bytes_of}
use Rattle.iol_core.specs.State.{State, Connection, conn_at, no_conn}
use Rattle.iol_core.specs.declared.events.Event.TheVariants as event
use Rattle.iol_core.specs.declared.events.Reply.{Reply}
use Rattle.iol_core.specs.declared.events.Reply.TheVariants as reply
use Rattle.iol_laws.specs.ConnNumbers.{ConnectionNumbersRise}
use Rattle.iol_proc.specs.Histories.{stream_over, sent_over}
use Rattle.iol_proc.specs.World.{OutsideStep, WorldState, copying}
use Rattle.iol_proc.specs.declared.choice.Choice.{Choice}
use Rattle.iol_proc.specs.declared.choice.Choice.TheVariants as choice
use Rattle.flash_laws.specs.Serves.Rounds.{in_rounds}
use Rattle.flash_laws.specs.SiteContents.{Begins, IsAnswer, SiteContents}
use Rattle.flash_laws.specs.Site.{net_pool}
use Rattle.flash_laws.specs.Site.Past.{Past, made_by, gone_by}
use Rattle.flash_laws.specs.Workers.WorkerSet.{WorkerSet}
use Rattle.flash_laws.specs.World.{AreFair, RunKeepsConsistency, Consistent, ConsistentIsAnswered, ConsistentIsWhole}
use Rattle.flash_laws.specs.World.Consistency.{Actor, actor_turns, gone_over, made_over, past_of}
use Rattle.flash_laws.proofs.Lists.{later_of, self}
use Rattle.flash_laws.proofs.Site.Pasts.{past-outside}
use Rattle.flash_laws.proofs.World.Responses.{begins-less}
use Rattle.flash_clients.specs.Visits.{IsVisit, IsVisitAnswered, VisitsAreAnswered}
use Rattle.flash_clients.proofs.Histories.{none-after_reply, sent-both, stream-both, reports-first, reports-none}

-- ---- a removed connection

none-found : (found : Option Connection) → is_none found ≡ true → found ≡ None
none-found None lacks = refl
none-found (Some x) lacks = absurd (cc (lacks))

lacking-is-none : (s : State) (c : ℕ) → lacks_conn s c ≡ true → conn_at s c ≡ no_conn
unfolding conn_at
lacking-is-none s c lacks =
    ap (λ (found : Option Connection). unwrap_or found no_conn) (none-found (lookup s.conns c) lacks)

-- ---- a new connection

-- a connection of the net without history
record HasNone (p : Past) (c : ℕ) : Type 0 where
  pub net : p.net c ≡ true
  pub unread : p.came c ≡ []
  pub unsent : p.sent c ≡ []
  pub stays : p.gone c ≡ false

never : (b : Bool) → b ≡ false → (b || false) ≡ false
never false is = refl
never true is = absurd (cc (is))

module _ (worker_set : WorkerSet) (keeps : RunKeepsConsistency in_rounds worker_set)
    (answered : ConsistentIsAnswered worker_set) (whole : ConsistentIsWhole worker_set)
    (numbers : ConnectionNumbersRise) (site_contents : SiteContents) where
  made_new : (past : List Choice) (ps : List Reply) (c : ℕ) (w mid : WorldState State (Actor worker_set.Worker))
      → Consistent site_contents worker_set past ps w
      → OutsideStep copying (actor_turns in_rounds worker_set.turns) w (event.ConnNew net_pool) (reply.Conn c) mid
      → HasNone (past_of (past ++ choice.Outside (event.ConnNew net_pool) ∷ []) (ps ++ reply.Conn c ∷ [])) c
  made_new past ps c w mid consistent made =
      subst (λ (p : Past). HasNone p c)
      (sym (past-outside past ps (event.ConnNew net_pool) (reply.Conn c) consistent.even)) (record {
        net =
            later_of ((past_of past ps).net c) ((c == c) && (net_pool == net_pool))
            (ap (λ b. b && (net_pool == net_pool)) (self c));
        unread = append-nil ((past_of past ps).came c) ∙ none.0;
        unsent = append-nil ((past_of past ps).sent c) ∙ none.1;
        stays = never ((past_of past ps).gone c) (consistent.in_slots.serves.fit.unreported c (omega (arith, number)));
      })
    where
      number : c ≡ w.machine.next_conn
      number = (numbers.next w.machine mid.machine net_pool c made.step).0

      none : ((past_of past ps).came c ≡ []) × ((past_of past ps).sent c ≡ []) × ((past_of past ps).net c ≡ false)
      none = consistent.in_slots.serves.fit.fresh c (omega (arith, number))

  module _ (past : List Choice) (ps : List Reply) (c : ℕ) (came sent : List ℕ) (gone : Bool)
      (w after : WorldState State (Actor worker_set.Worker))
      (consistent : Consistent site_contents worker_set past ps w)
      (visit : IsVisit worker_set.turns c came sent gone w after)
      (fair : AreFair site_contents.refuses visit.choices visit.replies) where
    abbrev xs : List Choice
    xs = past ++ choice.Outside (event.ConnNew net_pool) ∷ []

    abbrev rs : List Reply
    rs = ps ++ reply.Conn c ∷ []

    begun : Consistent site_contents worker_set xs rs visit.begun
    begun = keeps site_contents past (choice.Outside (event.ConnNew net_pool) ∷ []) ps (reply.Conn c ∷ []) w visit.begun
        (visit.begun, visit.made, refl) (tt, tt) tt consistent

    fresh : HasNone (past_of xs rs) c
    fresh = made_new past ps c w visit.begun consistent visit.made

    consistency : Consistent site_contents worker_set (xs ++ visit.choices) (rs ++ visit.replies) after
    consistency =
        keeps site_contents xs visit.choices rs visit.replies visit.begun after visit.run visit.site_preserving fair
        begun

    net : made_over c (xs ++ visit.choices) (rs ++ visit.replies) ≡ true
    unfolding made_over
    net = reports-first (λ e r. made_by c e r) xs visit.choices rs visit.replies begun.even fresh.net

    came_is : stream_over c (xs ++ visit.choices) (rs ++ visit.replies) ≡ came
    came_is = stream-both c xs visit.choices rs visit.replies begun.even
        ∙ (ap (λ (l : List ℕ). l ++ stream_over c visit.choices visit.replies) fresh.unread ∙ visit.comes)

    sent_is : sent_over c (xs ++ visit.choices) (rs ++ visit.replies) ≡ sent
    sent_is = sent-both c xs visit.choices rs visit.replies begun.even
        ∙ (ap (λ (l : List ℕ). l ++ sent_over c visit.choices visit.replies) fresh.unsent ∙ visit.goes)

    stays : gone ≡ false → gone_over c (xs ++ visit.choices) (rs ++ visit.replies) ≡ false
    unfolding gone_over
    stays here = reports-none (λ e r. gone_by c e r) xs visit.choices rs visit.replies begun.even fresh.stays
        (none-after_reply c visit.choices visit.replies (visit.reports ∙ here))

    begins : Begins site_contents came sent
    begins = subst (λ (l : List ℕ). Begins site_contents l sent) came_is
        (subst (λ (l : List ℕ). Begins site_contents (stream_over c (xs ++ visit.choices) (rs ++ visit.replies)) l)
        sent_is
        (begins-less site_contents _ _ (bytes_of (conn_at after.machine c).outgoing)
        (answered site_contents _ _ after consistency c net)))

    all : gone ≡ false → lacks_conn after.machine c ≡ true → IsAnswer site_contents came sent
    all here lacks = subst (λ (l : List ℕ). IsAnswer site_contents l sent) came_is
        (subst (λ (l : List ℕ). IsAnswer site_contents (stream_over c (xs ++ visit.choices) (rs ++ visit.replies)) l)
        (all_sent ∙ sent_is)
        (whole site_contents _ _ after consistency c net (ap (λ (k : Connection). k.closed) removed) (stays here)))
      where
        removed : conn_at after.machine c ≡ no_conn
        removed = lacking-is-none after.machine c lacks

        all_sent : sent_over c (xs ++ visit.choices) (rs ++ visit.replies)
            ++ bytes_of (conn_at after.machine c).outgoing
            ≡ sent_over c (xs ++ visit.choices) (rs ++ visit.replies)
        all_sent =
            ap (λ (k : Connection). sent_over c (xs ++ visit.choices) (rs ++ visit.replies) ++ bytes_of k.outgoing)
            removed
            ∙ append-nil (sent_over c (xs ++ visit.choices) (rs ++ visit.replies))

    visit_answered : IsVisitAnswered worker_set site_contents past ps c came sent gone w after visit
    visit_answered = record {
      begins = begins;
      whole = all;
      consistent =
          subst (λ (l : List Choice). Consistent site_contents worker_set l (ps ++ reply.Conn c ∷ visit.replies) after)
          (append_assoc past (choice.Outside (event.ConnNew net_pool) ∷ []) visit.choices)
          (subst (λ (l : List Reply). Consistent site_contents worker_set (xs ++ visit.choices) l after)
          (append_assoc ps (reply.Conn c ∷ []) visit.replies) consistency);
    }

pub visits_answered : (worker_set : WorkerSet) → RunKeepsConsistency in_rounds worker_set
    → ConsistentIsAnswered worker_set → ConsistentIsWhole worker_set → ConnectionNumbersRise
    → VisitsAreAnswered worker_set
visits_answered worker_set keeps answered whole numbers =
    λ site_contents past ps c came sent gone w after consistent visit fair.
    visit_answered worker_set keeps answered whole numbers site_contents past ps c came sent gone w after consistent
    visit fair
