-- Runs of calls from C: the main theorem at the boundary.
use Rattle.std.specs.Prelude.{◌≡◌, ◌⊎◌, ℕ, List, [], ◌∷◌, length, Some}
use Rattle.iol_back.specs.Disk.{IfHonest}
use Rattle.iol_core.specs.Run.{Run}
use Rattle.iol_core.specs.declared.events.Event.{Event}
use Rattle.iol_core.specs.declared.events.Reply.{Reply}
use Rattle.iol_system.specs.Machine.{machine_of}
use Rattle.iol_system.specs.Promises.{Chain}
use Rattle.iol_ffi.specs.Events.{IsEvent}
use Rattle.iol_ffi.specs.Replies.{Encodes}
use Rattle.iol_ffi.specs.Steps.{CarriesOutOrNot, IsReason}
use Rattle.iol_ffi.specs.declared.Machine.{Machine}
use Rattle.iol_ffi.specs.declared.events.IolEvent.{IolEvent}
use Rattle.iol_ffi.specs.declared.replies.IolReply.{IolReply}

-- one call of `iol_step`: its arguments and its results
pub record StepCall : Type 0 where
  pub event : IolEvent
  pub bytes : List ℕ
  pub names : List ℕ
  pub reply : IolReply
  pub out : List ℕ

-- calls of `iol_step`, one after another, each of which keeps its contract
abbrev pub Calls : (old : Machine) → List StepCall → (new : Machine) → Type 0
Calls old [] new = new ≡ old
Calls old (c ∷ cs) new = (mid : Machine)
    × CarriesOutOrNot c.event c.bytes c.names c.reply c.out (Some old) (Some mid) × Calls mid cs new

-- the events that calls denote, and the replies that C got, without the calls that did nothing
abbrev pub Denote : List StepCall → List Event → List Reply → Type 0
Denote [] es rs = (es ≡ []) × (rs ≡ [])
Denote (c ∷ cs) es rs = (IsReason c.event c.bytes c.names c.reply (length c.out) × Denote cs es rs)
    ⊎ ((e : Event) × (r : Reply) × (later : List Event) × (more : List Reply) × (es ≡ e ∷ later) × (rs ≡ r ∷ more)
    × IsEvent e c.event c.bytes c.names × Encodes r c.reply c.out × Denote cs later more)

-- The effect of the calls and the replies that C got are a run: a chain of steps that keep all promises, and over an
-- honest store a run of the copying machine.
pub record IsRun (old : Machine) (cs : List StepCall) (new : Machine) : Type 0 where
  pub events : List Event
  pub replies : List Reply
  pub denote : Denote cs events replies
  pub chain : Chain old.system events replies new.system
  pub run : IfHonest old.system.disk (Run (machine_of old.system) events replies (machine_of new.system))

abbrev pub CallsAreARun : Type 0
CallsAreARun = (old new : Machine) (cs : List StepCall) → Calls old cs new → IsRun old cs new
