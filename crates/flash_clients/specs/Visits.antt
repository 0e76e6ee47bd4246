-- A connection of a world, from its creation on.
use Rattle.std.specs.Prelude.{◌≡◌, ℕ, Bool, List, ◌∷◌, ◌++◌, IsTrue, IsFalse}
use Rattle.std.specs.List.{list_any}
use Rattle.iol_core.specs.Calls.Outside.{lacks_conn}
use Rattle.iol_core.specs.State.{State}
use Rattle.iol_core.specs.declared.events.Event.TheVariants as event
use Rattle.iol_core.specs.declared.events.Reply.{Reply}
use Rattle.iol_core.specs.declared.events.Reply.TheVariants as reply
use Rattle.iol_proc.specs.Histories.{stream_over, sent_over, drops_with}
use Rattle.iol_proc.specs.Turns.{TransitionRelation}
use Rattle.iol_proc.specs.World.{OutsideStep, WorldState, WorldRun, copying}
use Rattle.iol_proc.specs.declared.choice.Choice.{Choice}
use Rattle.iol_proc.specs.declared.choice.Choice.TheVariants as choice
use Rattle.flash_laws.specs.Serves.Rounds.{in_rounds}
use Rattle.flash_laws.specs.SiteContents.{Begins, IsAnswer, SiteContents}
use Rattle.flash_laws.specs.Site.{net_pool}
use Rattle.flash_laws.specs.Workers.WorkerSet.{WorkerSet}
use Rattle.flash_laws.specs.World.{AreFair, Consistent}
use Rattle.flash_laws.specs.World.Undisturbed.{AreSitePreserving}
use Rattle.flash_laws.specs.World.Consistency.{Actor, actor_turns}

-- In the world w a connection of the net is created, and then site-preserving choices are made. On it, these bytes are
-- received and these are sent; gone is whether one of the choices reports that its peer is gone.
pub record IsVisit {W : Type 0} (works : TransitionRelation W) (c : ℕ) (came sent : List ℕ) (gone : Bool)
    (w after : WorldState State (Actor W))
    : Type 0 where
  pub begun : WorldState State (Actor W)
  pub made : OutsideStep copying (actor_turns in_rounds works) w (event.ConnNew net_pool) (reply.Conn c) begun
  pub choices : List Choice
  pub replies : List Reply
  pub run : WorldRun copying (actor_turns in_rounds works) begun choices replies after
  pub site_preserving : AreSitePreserving (actor_turns in_rounds works) begun choices replies after run
  pub comes : stream_over c choices replies ≡ came
  pub goes : sent_over c choices replies ≡ sent
  pub reports : list_any (λ x. drops_with x c) choices ≡ gone

module _ (worker_set : WorkerSet) (site_contents : SiteContents) (past : List Choice) (ps : List Reply) (c : ℕ)
    (came sent : List ℕ) (gone : Bool)
    (w after : WorldState State (Actor worker_set.Worker)) (visit : IsVisit worker_set.turns c came sent gone w after)
  where
    pub record IsVisitAnswered : Type 0 where
      -- the bytes sent begin an answer to the bytes received
      pub begins : Begins site_contents came sent
      -- and are an answer once the connection is removed, unless its peer was reported as gone
      pub whole : IsFalse gone → IsTrue (lacks_conn after.machine c) → IsAnswer site_contents came sent
      -- the world satisfies the server's invariant
      pub consistent : Consistent site_contents worker_set (past ++ choice.Outside (event.ConnNew net_pool)
          ∷ visit.choices) (ps ++ reply.Conn c ∷ visit.replies) after

-- In a world that satisfies the server's invariant, each connection of the net is answered, whatever happens on others,
-- if the choices since its creation are fair.
abbrev pub VisitsAreAnswered : WorkerSet → Type 0
VisitsAreAnswered worker_set =
    (site_contents : SiteContents) (past : List Choice) (ps : List Reply) (c : ℕ) (came sent : List ℕ) (gone : Bool)
    (w after : WorldState State (Actor worker_set.Worker)) → Consistent site_contents worker_set past ps w
    → (visit : IsVisit worker_set.turns c came sent gone w after)
    → AreFair site_contents.refuses visit.choices visit.replies
    → IsVisitAnswered worker_set site_contents past ps c came sent gone w after visit
