-- The calls of a site over any store: the machine is that of the site, for all contents of its slots.
use Rattle.std.proofs.Common.{◌≡◌, ℕ, ◌+◌, List, [], ◌∷◌, refl, sym, subst, ap, ◌∙◌, Option, None, true}
use Rattle.std.specs.Prelude.{option_map}
use Rattle.iol_core.specs.Calls.Files.{file_called}
use Rattle.iol_core.specs.Meaning.{first}
use Rattle.iol_core.specs.Run.{meaning}
use Rattle.iol_core.specs.State.{State, new_state}
use Rattle.iol_core.specs.declared.events.Event.{Event}
use Rattle.iol_core.specs.declared.events.Reply.{Reply}
use Rattle.iol_system.specs.Machine.{SystemState, machine_of}
use Rattle.iol_system.specs.Prelude.{read_of, state_view, with_slots}
use Rattle.iol_system.specs.Promises.{Chain}
use Rattle.flash_lite.specs.Setup.{IsMade, calls, first_refusal, is_in_range}
use Rattle.flash_lite.specs.SiteState.{HasJobQueue, LeavesSite, state_of}
use Rattle.flash_lite.specs.declared.site.Site.{Site}
use Rattle.flash_lite.proofs.World.JobQueues.{has_job_queue}
use Rattle.flash_lite.proofs.Calls.Outcome.{led}
use Rattle.flash_lite.proofs.Calls.PassedRuns.{Passes, over, first_passed}

-- any bytes
abbrev Any : List (List ℕ) → Type 0
Any x = Unit {0}

chain_passes : (es : List Event) (rs : List Reply) (old new : SystemState) → Chain old es rs new
    → first_refusal rs ≡ None → Passes Any (with_slots [] old.kernel) es (with_slots [] new.kernel)
unfolding with_slots
chain_passes [] [] old new chain none = ap (λ (s : SystemState). with_slots [] s.kernel) chain
chain_passes [] (r ∷ rs) old new chain none = absurd chain
chain_passes (e ∷ es) [] old new chain none = absurd chain
chain_passes (e ∷ es) (r ∷ rs) old new chain none =
    let b = chain.1.beside in
    let one = first_passed (meaning (with_slots b.before old.kernel) e) (with_slots b.before old.kernel)
    (with_slots b.after chain.0.kernel) r rs none b.step in
    let rest = chain_passes es rs chain.0 new chain.2 one.rest in (
      b.before,
      tt,
      one.unrefused,
      subst (λ (m : State). Passes Any (over [] m) es (with_slots [] new.kernel)) one.after
          rest,
    )

-- the machine's own slots
with_own : (s : SystemState) → with_slots (machine_of s).slots s.kernel ≡ machine_of s
unfolding with_slots read_of state_view
with_own s = refl

-- the state without its slots is the machine with empty slots
bare : (s : SystemState) → with_slots [] s.kernel ≡ over [] (machine_of s)
unfolding with_slots
bare s = ap (λ (m : State). over [] m) (with_own s)

own : (s : SystemState) → machine_of s ≡ over (machine_of s).slots (with_slots [] s.kernel)
unfolding with_slots
own s = sym (with_own s)

pub leaves_by : (s : Site) (old new : SystemState) (rs : List Reply) → is_in_range s ≡ true → Chain old (calls s) rs new
    → first_refusal rs ≡ None → LeavesSite s (machine_of old) (machine_of new)
leaves_by s old new rs fits chain none slots is =
    let start : with_slots [] old.kernel ≡ new_state [] = bare old ∙ ap (λ (m : State). over [] m) is in
    let l =
    led Any s [] (with_slots [] new.kernel) fits
    (subst (λ (m : State). Passes Any m (calls s) (with_slots [] new.kernel)) start
    (chain_passes (calls s) rs old new chain none)) in
    let state : machine_of new ≡ state_of s (machine_of new).slots =
    own new ∙ ap (λ (m : State). over (machine_of new).slots m) l.state in
    record {
      state = state;
      named = λ i f at. ap (λ (m : State). file_called m f.name.items) state
          ∙ ap (λ (o : Option ℕ). option_map (λ k. k + 1) o) (l.named i f at);
      job_queues =
          λ k within. subst (λ (m : State). HasJobQueue m k) (sym state)
          (has_job_queue s (machine_of new).slots k within);
    }

pub made_by : (s : Site) (old new : SystemState) (es : List Event) (rs : List Reply) → es ≡ calls s
    → Chain old es rs new → first_refusal rs ≡ None → IsMade s old new
made_by s old new es rs is chain none =
    record { replies = rs; chain = subst (λ (l : List Event). Chain old l rs new) is chain; passed = none }
