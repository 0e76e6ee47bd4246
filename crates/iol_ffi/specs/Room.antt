-- The room that an event needs for the bytes that it takes.
use Rattle.std.specs.Prelude.{◌≡◌, ◌⊎◌, ◌<◌, ℕ, List}
use Rattle.iol_core.specs.declared.events.Call.{Call}
use Rattle.iol_core.specs.declared.events.Call.TheVariants as call
use Rattle.iol_core.specs.declared.events.Event.{Event}
use Rattle.iol_core.specs.declared.events.Event.TheVariants as event
use Rattle.iol_ffi.specs.Events.{IsEvent, event_with}
use Rattle.iol_ffi.specs.declared.events.IolEvent.{IolEvent}
use Rattle.iol_ffi.specs.declared.events.Request.{Request}

-- the most bytes that a call may take and return as a copy
abbrev pub most_of_call : Call → ℕ
most_of_call (call.Read fd count) = count
most_of_call _ = 0

-- likewise for an event
abbrev pub most_bytes : Event → ℕ
most_bytes (event.Call by c) = most_of_call c
most_bytes (event.Transmit conn max) = max
most_bytes _ = 0

-- likewise for the event of a request, for any bytes that C passed
pub record IsMost (r : Request) (most : ℕ) : Type 0 where
  pub each : (bytes : List ℕ) → most ≡ most_bytes (event_with r bytes)

-- a copying read, or a transmission: a second event does not return the same bytes again
abbrev pub TakesBytes : Event → Type 0
TakesBytes e = ((by : ℕ) × (fd : ℕ) × (count : ℕ) × (e ≡ event.Call by (call.Read fd count)))
    ⊎ ((conn : ℕ) × (max : ℕ) × (e ≡ event.Transmit conn max))

-- C passed an event that may return more bytes than there is room for
pub record LacksRoom (e : IolEvent) (bytes names : List ℕ) (room : ℕ) : Type 0 where
  pub event : Event
  pub is : IsEvent event e bytes names
  pub short : room < most_bytes event
