-- A served connection of a world with the invariant has its answer.
use Rattle.std.proofs.Common.{◌≡◌, ℕ, List, [], ◌∷◌, ◌++◌, ap, ◌∙◌, subst, Option, Some, None, true, false, append-nil}
use Rattle.std.proofs.Common.{is_none, unwrap_or, refl}
use Rattle.iol_core.specs.Calls.Outside.{lacks_conn}
use Rattle.iol_core.specs.NumberedLists.{lookup}
use Rattle.iol_core.specs.Text.{bytes_of}
use Rattle.iol_core.specs.State.{State, Connection, conn_at, no_conn}
use Rattle.iol_core.specs.declared.events.Event.TheVariants as event
use Rattle.iol_core.specs.declared.events.Reply.{Reply}
use Rattle.iol_proc.specs.Histories.{stream_over, sent_over}
use Rattle.iol_proc.specs.World.{WorldState, copying, WorldRun}
use Rattle.iol_proc.specs.declared.choice.Choice.{Choice}
use Rattle.iol_proc.specs.declared.choice.Choice.TheVariants as choice
use Rattle.iol_serve.specs.Service.{AreOn, Proceeds, IsOn, hung_up}
use Rattle.iol_serve.specs.declared.ending.Ending.{Ending}
use Rattle.iol_serve.specs.declared.ending.Ending.TheVariants.{Over}
use Rattle.flash_laws.specs.Serves.Rounds.{in_rounds}
use Rattle.flash_laws.specs.SiteContents.{SiteContents, Begins, IsAnswer}
use Rattle.flash_laws.specs.Site.Past.{made_by, gone_by}
use Rattle.flash_laws.specs.Workers.WorkerSet.{WorkerSet}
use Rattle.flash_laws.specs.World.{AreFair, Consistent, RunKeepsConsistency, ConsistentIsAnswered, ConsistentIsWhole}
use Rattle.flash_laws.specs.World.Undisturbed.{IsSitePreserving, AreSitePreserving}
use Rattle.flash_laws.specs.World.Consistency.{Actor, actor_turns, made_over, gone_over}
use Rattle.flash_laws.proofs.World.Responses.{begins-less}
use Rattle.flash_served.specs.Served.{IsFresh, IsAnswered}
use Rattle.flash_served.proofs.Histories.{stream-both, sent-both, after_reply-then, unreported-then, none-after_reply}

-- ---- external events are site-preserving: no call comes from outside

module _ (worker_set : WorkerSet) where
  site_preserving-one : (c : ℕ) (x : Choice) (w after : WorldState State (Actor worker_set.Worker)) → IsOn c x
      → IsSitePreserving w x after
  site_preserving-one c (choice.Outside (event.Call d k)) w after on = absurd on
  site_preserving-one c (choice.Outside (event.Arrive d bytes)) w after on = tt
  site_preserving-one c (choice.Outside (event.PeerClosed d how)) w after on = tt
  site_preserving-one c (choice.Outside (event.Transmit d max)) w after on = tt
  site_preserving-one c (choice.Outside e) w after on = absurd on
  site_preserving-one c (choice.Turn by) w after on = tt

  all-site_preserving : (c : ℕ) (xs : List Choice) (rs : List Reply)
      (w after : WorldState State (Actor worker_set.Worker))
      → (run : WorldRun copying (actor_turns in_rounds worker_set.turns) w xs rs after) → AreOn c xs
      → AreSitePreserving (actor_turns in_rounds worker_set.turns) w xs rs after run
  all-site_preserving c [] rs w after run on = tt
  all-site_preserving c (x ∷ xs) [] w after run on = tt
  all-site_preserving c (x ∷ xs) (r ∷ rs) w after run on =
      (site_preserving-one c x w run.0 on.0, all-site_preserving c xs rs run.0 after run.2 on.1)

-- ---- a connection that does not exist any more

none-found : (found : Option Connection) → is_none found ≡ true → found ≡ None
none-found None lacks = refl
none-found (Some x) lacks = absurd (cc (lacks))

lacking-is-none : (s : State) (c : ℕ) → lacks_conn s c ≡ true → conn_at s c ≡ no_conn
unfolding conn_at
lacking-is-none s c lacks =
    ap (λ (found : Option Connection). unwrap_or found no_conn) (none-found (lookup s.conns c) lacks)

-- ---- the law

pub served_right : (worker_set : WorkerSet) → RunKeepsConsistency in_rounds worker_set → ConsistentIsAnswered worker_set
    → ConsistentIsWhole worker_set
    → (site_contents : SiteContents) (past : List Choice) (ps : List Reply) (c : ℕ) (ending : Ending)
    (came sent : List ℕ)
    (w after : WorldState State (Actor worker_set.Worker)) → Consistent site_contents worker_set past ps w
    → IsFresh c past ps
    → (on : Proceeds (actor_turns in_rounds worker_set.turns) c came sent (hung_up ending) w after)
    → (ending ≡ Over → lacks_conn after.machine c ≡ true) → AreFair site_contents.refuses on.choices on.replies
    → Consistent site_contents worker_set (past ++ on.choices) (ps ++ on.replies) after
    × IsAnswered site_contents ending came sent
unfolding made_over gone_over
served_right worker_set keeps answered whole site_contents past ps c ending came sent w after consistent fresh on lacks
    fair =
    (consistency, record { begins = begun; whole = λ over. all over })
  where
    consistency : Consistent site_contents worker_set (past ++ on.choices) (ps ++ on.replies) after
    consistency = keeps site_contents past on.choices ps on.replies w after on.run
        (all-site_preserving worker_set c on.choices on.replies w after on.run on.alone) fair consistent

    net : made_over c (past ++ on.choices) (ps ++ on.replies) ≡ true
    net = after_reply-then (λ e r. made_by c e r) past on.choices ps on.replies consistent.even fresh.net

    came_is : stream_over c (past ++ on.choices) (ps ++ on.replies) ≡ came
    came_is = stream-both c past on.choices ps on.replies consistent.even
        ∙ (ap (λ (l : List ℕ). l ++ stream_over c on.choices on.replies) fresh.unread ∙ on.comes)

    sent_is : sent_over c (past ++ on.choices) (ps ++ on.replies) ≡ sent
    sent_is = sent-both c past on.choices ps on.replies consistent.even
        ∙ (ap (λ (l : List ℕ). l ++ sent_over c on.choices on.replies) fresh.unsent ∙ on.goes)

    begun : Begins site_contents came sent
    begun = subst (λ (l : List ℕ). Begins site_contents l sent) came_is
        (subst (λ (l : List ℕ). Begins site_contents (stream_over c (past ++ on.choices) (ps ++ on.replies)) l) sent_is
        (begins-less site_contents _ _ (bytes_of (conn_at after.machine c).outgoing)
        (answered site_contents _ _ after consistency c net)))

    all : ending ≡ Over → IsAnswer site_contents came sent
    all over = subst (λ (l : List ℕ). IsAnswer site_contents l sent) came_is
        (subst (λ (l : List ℕ). IsAnswer site_contents (stream_over c (past ++ on.choices) (ps ++ on.replies)) l)
        (all_sent ∙ sent_is)
        (whole site_contents _ _ after consistency c net (ap (λ (k : Connection). k.closed) gone) stays))
      where
        gone : conn_at after.machine c ≡ no_conn
        gone = lacking-is-none after.machine c (lacks over)

        stays : gone_over c (past ++ on.choices) (ps ++ on.replies) ≡ false
        stays = unreported-then (λ e r. gone_by c e r) past on.choices ps on.replies consistent.even fresh.stays
            (none-after_reply c on.choices on.replies (on.reports ∙ ap (λ (e : Ending). hung_up e) over))

        all_sent : sent_over c (past ++ on.choices) (ps ++ on.replies) ++ bytes_of (conn_at after.machine c).outgoing
            ≡ sent_over c (past ++ on.choices) (ps ++ on.replies)
        all_sent = ap (λ (k : Connection). sent_over c (past ++ on.choices) (ps ++ on.replies) ++ bytes_of k.outgoing)
            gone
            ∙ append-nil (sent_over c (past ++ on.choices) (ps ++ on.replies))
