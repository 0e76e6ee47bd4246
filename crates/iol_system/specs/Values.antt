-- Values of aggregates over a run of events.
use Rattle.std.specs.Prelude.{◌≡◌, ℕ, List, Some, IsFalse}
use Rattle.std.specs.List.{list_any}
use Rattle.iol_core.specs.State.{State, aggregate}
use Rattle.iol_core.specs.Text.{Text}
use Rattle.iol_core.specs.Values.{gives_up}
use Rattle.iol_core.specs.declared.events.Event.{Event}
use Rattle.iol_system.specs.Machine.{SystemState, machine_of}

-- an aggregate that no event gives up has the same text after the run as before
pub record ValuesStayOver (old : State) (es : List Event) (new : State) : Type 0 where
  pub each : (d a : ℕ) (t : Text) → aggregate old d a ≡ Some t → IsFalse (list_any (λ e. gives_up e d a) es)
      → aggregate new d a ≡ Some t

-- an aggregate that no event gives up keeps its text, in the machine that a system represents
abbrev pub KeepsValues : (old : SystemState) → List Event → (new : SystemState) → Type 0
KeepsValues old es new = ValuesStayOver (machine_of old) es (machine_of new)
