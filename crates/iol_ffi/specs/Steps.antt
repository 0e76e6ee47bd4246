-- The effect of one call of `iol_step`.
use Rattle.std.specs.Prelude.{◌≡◌, ◌⊎◌, ◌≤◌, ℕ, List, length, Option, Some, ◌≢◌}
use Rattle.iol_core.specs.declared.events.Event.{Event}
use Rattle.iol_core.specs.declared.events.Reply.{Reply}
use Rattle.iol_system.specs.Machine.{SystemState}
use Rattle.iol_system.specs.Promises.{Promises}
use Rattle.iol_ffi.specs.Events.{CopiesList, IsEvent, IsNoEvent}
use Rattle.iol_ffi.specs.Memory.{NeedsNoMemory}
use Rattle.iol_ffi.specs.Replies.{Encodes}
use Rattle.iol_ffi.specs.Room.{LacksRoom, TakesBytes, most_bytes}
use Rattle.iol_ffi.specs.declared.Machine.{Machine}
use Rattle.iol_ffi.specs.declared.events.IolEvent.{IolEvent}
use Rattle.iol_ffi.specs.declared.replies.IolReply.{IolReply}

-- A system takes a step by an event, and C gets its reply. The bytes that a copying read or a transmission took have
-- room.
pub record Executes (event : Event) (r : IolReply) (out : List ℕ) (old new : SystemState) : Type 0 where
  pub reply : Reply
  pub promises : Promises old event reply new
  pub encodes : Encodes reply r out
  pub fits : TakesBytes event → r.refusal ≢ 101

-- a step from one machine to the other, by this event and with this reply, with all promises of a step
abbrev pub Steps : Option Machine → Event → Reply → Option Machine → Type 0
Steps (Some old) e r (Some new) = Promises old.system e r new.system
Steps o e r n = ⊥

-- The machine takes a step by an event, and C gets its reply. The bytes that a copying read or a transmission took have
-- room.
pub record TakesStep (event : Event) (r : IolReply) (out : List ℕ) (old new : Option Machine) : Type 0 where
  pub reply : Reply
  pub steps : Steps old event reply new
  pub encodes : Encodes reply r out
  pub fits : TakesBytes event → r.refusal ≢ 101

-- The machine takes a step by the event that C passed, for whose bytes `out` has room. If this event needs no memory, C
-- gets no refusal for lack of memory.
pub record CarriesOut (e : IolEvent) (bytes names : List ℕ) (r : IolReply) (out : List ℕ) (old new : Option Machine) :
    Type 0 where
  pub event : Event
  pub is : IsEvent event e bytes names
  pub room : most_bytes event ≤ length out
  pub takes : TakesStep event r out old new
  pub needs : NeedsNoMemory e old → r.refusal ≢ 17

-- Why nothing was done: there was no memory for the event's list, C passed no event, or `out` has less room than the
-- event may need for the bytes that it takes.
abbrev pub IsReason : IolEvent → (bytes names : List ℕ) → IolReply → (room : ℕ) → Type 0
IsReason e bs ns r room = ((r.refusal ≡ 17) × CopiesList e)
    ⊎ (((r.refusal ≡ 100) × IsNoEvent e) ⊎ ((r.refusal ≡ 101) × LacksRoom e bs ns room))

-- a step, or nothing was done
abbrev pub CarriesOutOrNot : IolEvent → (bytes names : List ℕ) → IolReply → (out : List ℕ) → (old new : Option Machine)
    → Type 0
CarriesOutOrNot e bs ns r out old new = CarriesOut e bs ns r out old new
    ⊎ ((new ≡ old) × IsReason e bs ns r (length out))
