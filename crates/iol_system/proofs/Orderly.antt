-- A run preserves that the machine's state is orderly, over any store.
use Rattle.std.proofs.Common.{◌≡◌, ℕ, List, [], ◌∷◌, refl, sym, subst}
use Rattle.iol_core.specs.Run.{meaning, outcome}
use Rattle.iol_core.specs.State.{State}
use Rattle.iol_core.specs.declared.events.Event.{Event}
use Rattle.iol_core.specs.declared.events.Reply.{Reply}
use Rattle.iol_kernel.specs.FileCalls.{with_slots, StepsBeside}
use Rattle.iol_kernel.specs.KernelState as held
use Rattle.iol_kernel.specs.KernelState.{KernelState}
use Rattle.iol_laws.specs.Order.{IsOrderly}
use Rattle.iol_laws.proofs.Order.Steps.{orderly_step, orderly-slots}
use Rattle.iol_system.specs.Laws.{RunsStayOrderly}
use Rattle.iol_system.specs.Machine.{SystemState, machine_of}
use Rattle.iol_system.proofs.Beside.{with_slots-machine}

slots-again : (slots other : List (List ℕ)) (h : KernelState)
    → record (with_slots slots h) { slots = other } ≡ with_slots other h
unfolding with_slots
slots-again slots other h = refl

orderly_with : (slots other : List (List ℕ)) (h : KernelState) → IsOrderly (with_slots slots h)
    → IsOrderly (with_slots other h)
orderly_with slots other h order =
    subst (λ (s : State). IsOrderly s) (slots-again slots other h) (orderly-slots (with_slots slots h) other order)

-- after a step that is the machine's except for the bytes of files
orderly_beside : (old new : KernelState) (e : Event) (r : Reply) (stored after : List (List ℕ))
    → StepsBeside (λ s. meaning s e) old (outcome r) new → IsOrderly (held.machine_of stored old)
    → IsOrderly (held.machine_of after new)
orderly_beside old new e r stored after beside order =
    let was = subst (λ (s : State). IsOrderly s) (sym (with_slots-machine stored old)) order in
    let stepped =
    orderly_step (with_slots beside.before old) (with_slots beside.after new) e r
    (orderly_with _ beside.before old was) beside.step in
    subst (λ (s : State). IsOrderly s) (with_slots-machine after new) (orderly_with beside.after _ new stepped)

pub chain_orderly : RunsStayOrderly
chain_orderly old new [] [] chain order = subst (λ (s : SystemState). IsOrderly (machine_of s)) (sym chain) order
chain_orderly old new (e ∷ es) (r ∷ rs) chain order =
    chain_orderly chain.0 new es rs chain.2
    (orderly_beside old.kernel chain.0.kernel e r old.disk.slots chain.0.disk.slots chain.1.beside order)
chain_orderly old new [] (r ∷ rs) chain order = absurd chain
chain_orderly old new (e ∷ es) [] chain order = absurd chain
