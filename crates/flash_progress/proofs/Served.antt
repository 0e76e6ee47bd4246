-- Progress of a server of files: it becomes idle, and then each connection is served.
use Rattle.std.proofs.Common.{inl, inr, ◌≡◌, ℕ, suc, ◌+◌, ◌*◌, ◌%◌, ◌≤◌, List, [], ◌∷◌, ◌++◌, length, map, ap, ◌∙◌}
use Rattle.std.proofs.Common.{refl, sym, subst, arith, true, false, Bool}
use Rattle.std.proofs.Math.Nat.{mul-le-mul_left}
use Rattle.std.specs.List.{AllByRecursion}
use Rattle.std.specs.Prelude.{slice_index}
use Rattle.iol_core.specs.State.{State, conn_at, new_state}
use Rattle.iol_core.specs.Run.{Run}
use Rattle.iol_core.specs.declared.events.Event.{Event}
use Rattle.iol_core.specs.declared.events.Reply.{Reply}
use Rattle.iol_core.specs.declared.limits.TheConstants.{MAX_OPEN}
use Rattle.iol_laws.specs.Frame.{EachStepLeavesTheRest}
use Rattle.iol_laws.specs.Labels.{ArrivalsLieInTheirPool}
use Rattle.iol_laws.specs.Order.{IsOrderly, EachStepKeepsOrder}
use Rattle.iol_proc.specs.Idle.{Idles, Went, rounds}
use Rattle.iol_proc.specs.Quiescence.{Quiesces}
use Rattle.iol_proc.specs.World.{WorldState, copying, domains_of}
use Rattle.iol_proc.specs.declared.choice.Choice.{Choice}
use Rattle.iol_proc.specs.declared.process_slot.ProcessSlot.{ProcessSlot}
use Rattle.iol_proc.proofs.Quiescence.{quiescent_idle, each_quiescent}
use Rattle.flash_laws.specs.Serves.Rounds.{in_rounds}
use Rattle.flash_laws.specs.SiteContents.{SiteContents}
use Rattle.flash_laws.specs.Site.{server}
use Rattle.flash_laws.specs.Site.Places.{runs_scripts}
use Rattle.flash_laws.specs.Workers.WorkerSet.{WorkerSet, IsFixedFor}
use Rattle.flash_laws.specs.World.{AreFair, Consistent}
use Rattle.flash_laws.specs.World.Done.{IsDone}
use Rattle.flash_laws.specs.World.Idle.{actor_quiescent}
use Rattle.flash_laws.specs.World.Remains.{IsFull}
use Rattle.flash_laws.specs.World.Quiesces.{ActorsAreQuiescent}
use Rattle.flash_laws.specs.World.Consistency.{Actor, actor_turns, past_of}
use Rattle.flash_laws.proofs.Site.IdleMoments.{actor_quiesces}
use Rattle.flash_laws.proofs.Site.SitePreservingTurns.{rounds-site_preserving}
use Rattle.flash_laws.proofs.World.AllLaws.{AllLaws}
use Rattle.flash_laws.proofs.World.Idle.Whole.{idle_done}
use Rattle.flash_laws.proofs.World.Fair.{server-among}
use Rattle.flash_laws.proofs.World.Steps.{run_keeps}
use Rattle.flash_progress.specs.Bound.{turns_in_rounds, turns_of_all, longest_response}
use Rattle.flash_progress.specs.Served.{CanRead, NoneLacksResource, clients_in, RunsLongEnough, IsServed, BecomesIdle}
use Rattle.flash_progress.specs.Served.{ServesAll, ArrivalsCanBeRead}
use Rattle.flash_progress.proofs.TurnsLeft.{AreShort}
use Rattle.flash_progress.proofs.Lengths.{are-short}
use Rattle.flash_progress.proofs.Holders.{holds-new}
use Rattle.flash_progress.proofs.Invariant.{MoreLaws, few-now, read-step}
use Rattle.flash_progress.proofs.FileServer.{Allowed, IsFileServer, alone, file_server_becomes_idle, left, left-most-of}

-- ---- arrivals can be read

-- In each reachable state.
pub arrivals_can_be_read : ArrivalsLieInTheirPool → EachStepLeavesTheRest → EachStepKeepsOrder → ArrivalsCanBeRead
arrivals_can_be_read homes steps orders = record {
  new = new;
  step = λ s t e r order reads step. read-step homes steps orders s t e r order reads step;
  reached = λ slots t es rs run. over (new_state slots) t es rs (orders.new slots) (new slots) run;
}
  where
    new : (slots : List (List ℕ)) → CanRead (new_state slots)
    new slots = record { home = homes.new slots; holders = holds-new slots }

    over : (s t : State) (es : List Event) (rs : List Reply) → IsOrderly s → CanRead s → Run s es rs t → CanRead t
    over s t [] [] order reads run = subst CanRead (sym run) reads
    over s t (e ∷ es) (r ∷ rs) order reads run =
        over run.0 t es rs (orders.step s run.0 e r order run.1)
        (read-step homes steps orders s run.0 e r order reads run.1) run.2
    over s t [] (r ∷ rs) order reads run = absurd run
    over s t (e ∷ es) [] order reads run = absurd run

-- ---- the theorem

-- Fair turns of the server have allowed replies, if none lacks a resource.
allowed-all : (site_contents : SiteContents) (ds : List ℕ) → ds ≡ server ∷ [] → (i : ℕ) (ts : List Went)
    → NoneLacksResource ts
    → AreFair site_contents.refuses (rounds ds i (length ts)) (map (λ t. t.1) ts)
    → AllByRecursion (λ t. Allowed site_contents t.1) ts
allowed-all site_contents ds is i [] none fair = tt
allowed-all site_contents ds is i (t ∷ ts) none fair = (
  (none.0, server-among site_contents.refuses (slice_index ds (i % length ds)) t.1 here fair.0),
  allowed-all site_contents ds is (suc i) ts none.1 fair.1,
)
  where
    first : i % 1 ≡ 0
    first = omega arith

    here : slice_index ds (i % length ds) ≡ server
    here = ap (λ (l : List ℕ). slice_index l (i % length l)) is ∙ ap (λ k. slice_index (server ∷ []) k) first

module _ (worker_set : WorkerSet) (laws : AllLaws worker_set) (more : MoreLaws) where
  no-scripts : (site_contents : SiteContents) (m : State) → IsFixedFor site_contents worker_set m → worker_set.count ≡ 0
      → site_contents.scripts ≡ false
  no-scripts site_contents m fixed none = fixed.scripts ∙ ap (λ (k : ℕ). runs_scripts k) none

  module _ (site_contents : SiteContents) (xs : List Choice) (rs : List Reply)
      (w after : WorldState State (Actor worker_set.Worker)) (most : ℕ) (idle : Bool)
      (has : RunsLongEnough worker_set site_contents xs rs w most idle after) where
    plain : site_contents.scripts ≡ false
    plain = no-scripts site_contents w.machine has.consistent.fixed has.files

    short : AreShort site_contents (longest_response w.machine)
    short = are-short site_contents w.machine has.consistent.fixed.site plain worker_set laws

    is_file_server : IsFileServer site_contents worker_set laws more plain has.files (longest_response w.machine) short
        w.machine.next_conn w
    is_file_server = record {
      xs = xs;
      rs = rs;
      consistent = has.consistent;
      reads = has.reads;
      places = has.places;
      few = few-now w.machine has.consistent.order;
    }

    suffices : turns_in_rounds (left site_contents worker_set laws more plain has.files (longest_response w.machine)
        short w.machine.next_conn w) (MAX_OPEN + 2) ≤ most
    suffices =
        let less = left-most-of site_contents worker_set laws more plain has.files (longest_response w.machine) short
        w.machine.next_conn w is_file_server in
        let all = has.suffices in
        let product :
        (2 * (MAX_OPEN + 2) + 3) *
        (left site_contents worker_set laws more plain has.files (longest_response w.machine) short
        w.machine.next_conn w + 1) ≤ (2 * (MAX_OPEN + 2) + 3) * (turns_of_all w.machine (clients_in w) + 1) =
        mul-le-mul_left (2 * (MAX_OPEN + 2) + 3) (omega (arith, less)) in
        omega (arith, all, product)

    allowed : AllByRecursion (λ t. Allowed site_contents t.1) has.ends.went
    allowed = allowed-all site_contents (domains_of w.process_slots) one 0 has.ends.went has.lacks_none has.fair
      where
        one : domains_of w.process_slots ≡ server ∷ []
        one =
            ap (λ (l : List (ProcessSlot (Actor worker_set.Worker))). domains_of l)
            (alone site_contents worker_set laws more plain has.files (longest_response w.machine) short
            w.machine.next_conn w is_file_server)

    rests : idle ≡ true
    rests = file_server_becomes_idle site_contents worker_set laws more plain has.files (longest_response w.machine)
        short w.machine.next_conn w after most idle is_file_server has.ends allowed suffices

    abbrev choices : List Choice
    choices = rounds (domains_of w.process_slots) 0 (length has.ends.went)

    abbrev replies : List Reply
    replies = map (λ t. t.1) has.ends.went

    consistent_after : Consistent site_contents worker_set (xs ++ choices) (rs ++ replies) after
    consistent_after = run_keeps in_rounds site_contents worker_set laws choices replies w after xs rs has.ends.run
        (rounds-site_preserving (actor_turns in_rounds worker_set.turns) (domains_of w.process_slots) 0
        (length has.ends.went) replies w after has.ends.run) has.fair has.consistent

    module _ (quiesces : Quiesces worker_set.quiescent worker_set.turns) where
      quiescent : ActorsAreQuiescent worker_set.turns worker_set.quiescent
      quiescent = record {
        all =
            λ v end many ends. quiescent_idle (actor_quiescent worker_set.quiescent)
            (actor_turns in_rounds worker_set.turns)
            (actor_quiesces laws.left.waits worker_set.turns worker_set.quiescent quiesces) v many end ends;
        each = λ v end many place process_slot ends there.
            each_quiescent (actor_quiescent worker_set.quiescent) (actor_turns in_rounds worker_set.turns)
            (actor_quiesces laws.left.waits worker_set.turns worker_set.quiescent quiesces) v many place end
            process_slot ends there;
      }

      done : IsDone site_contents worker_set.count after.machine (past_of (xs ++ choices) (rs ++ replies))
          consistent_after.in_slots.state.clients
      done = idle_done worker_set laws quiescent site_contents (xs ++ choices) (rs ++ replies) w after most
          (subst (λ b. Idles copying (actor_turns in_rounds worker_set.turns) w most b after) rests has.ends)
          consistent_after

      served : (c : ℕ) → (past_of (xs ++ choices) (rs ++ replies)).net c ≡ true
          → IsServed site_contents after.machine (past_of (xs ++ choices) (rs ++ replies))
          consistent_after.in_slots.state.clients c
      served c net = elim (done.accepted c net) [
        | inl taken ↦ accepted taken
        | inr full ↦ which (conn_at after.machine c).accepted refl full
      ]
        where
          accepted : (conn_at after.machine c).accepted ≡ true
              → IsServed site_contents after.machine (past_of (xs ++ choices) (rs ++ replies))
              consistent_after.in_slots.state.clients c
          accepted taken = gone ((past_of (xs ++ choices) (rs ++ replies)).gone c) refl
            where
              gone : (b : Bool) → (past_of (xs ++ choices) (rs ++ replies)).gone c ≡ b
                  → IsServed site_contents after.machine (past_of (xs ++ choices) (rs ++ replies))
                  consistent_after.in_slots.state.clients c
              gone true is = inr (inl is)
              gone false is = elim (done.answered c net taken is) [
                | inl whole ↦ inl whole
                | inr rest ↦ elim rest [
                  | inl held ↦ inr (inr (inl held))
                  | inr waits ↦ absurd (let some = waits.some in let none = has.files in omega (arith, some, none))
                ]
              ]

          which : (b : Bool) → (conn_at after.machine c).accepted ≡ b
              → IsFull after.machine consistent_after.in_slots.state.clients
              → IsServed site_contents after.machine (past_of (xs ++ choices) (rs ++ replies))
              consistent_after.in_slots.state.clients c
          which true is full = accepted is
          which false is full = inr (inr (inr (is, full)))

  pub becomes_idle : BecomesIdle worker_set
  becomes_idle site_contents xs rs w most idle after has = rests site_contents xs rs w after most idle has

  pub serves_all : Quiesces worker_set.quiescent worker_set.turns → ServesAll worker_set
  serves_all quiesces site_contents xs rs w most idle after has = record {
    consistent = consistent_after site_contents xs rs w after most idle has;
    each = served site_contents xs rs w after most idle has quiesces;
  }
