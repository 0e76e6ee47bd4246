-- The number of connections of the server.
use Rattle.std.specs.Prelude.{ℕ, ◌≤◌, List, Option}
use Rattle.iol_core.specs.NumberedLists.{taken}
use Rattle.flash_laws.specs.declared.phase.PendingCall.{PendingCall}
use Rattle.flash_laws.specs.declared.phase.PendingCall.TheVariants.{Nothing, Accepting, At}

-- at most 256, and one fewer while another is being accepted
abbrev pub most_in : PendingCall → ℕ
most_in Nothing = 256
most_in Accepting = 255
most_in (At fd) = 256

abbrev pub IsFew : {A : Type 0} → List (Option A) → PendingCall → Type 0
IsFew conns pending_call = taken conns ≤ most_in pending_call
