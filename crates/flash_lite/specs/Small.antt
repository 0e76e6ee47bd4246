-- The calls of a phase, and the bounds of its numbers.
use Rattle.std.specs.Prelude.{ℕ, ◌+◌, ◌-◌, ◌≤◌, ◌^◌, Some, None, if◌then◌else◌}
use Rattle.iol_core.specs.declared.descriptors.Mode.TheVariants as modes
use Rattle.iol_core.specs.declared.events.Call.{Call}
use Rattle.iol_core.specs.declared.events.Call.TheVariants as call
use Rattle.iol_core.specs.declared.limits.TheConstants.{MAX_AGGREGATE_BYTES}
use Rattle.flash_http.specs.Request.{Answer, serve, refuse}
use Rattle.flash_laws.specs.Conn.{Following, is_head_only, most_read, text_of}
use Rattle.flash_laws.specs.declared.phase.Payload.TheVariants.{Error}
use Rattle.flash_laws.specs.declared.phase.Sending.{Sending}
use Rattle.flash_laws.specs.declared.phase.Phase.{Phase}
use Rattle.flash_laws.specs.declared.phase.Phase.TheVariants.{Joining, SendingWhole, CuttingPiece, SendingPiece}
use Rattle.flash_laws.specs.declared.phase.Phase.TheVariants.{DroppingPiece, DroppingSent}

abbrev pub size_of : Following → ℕ
size_of None = 0
size_of (Some x) = x.1

-- the bytes of a response that are taken, and those that are left
abbrev pub reach_of : Sending → ℕ
reach_of s = s.taken + (s.len - s.from) + size_of s.more

abbrev pub reach : Phase → ℕ
reach (SendingWhole s) = reach_of s
reach (CuttingPiece s) = reach_of s
reach (SendingPiece s piece) = reach_of s
reach (DroppingPiece s piece) = reach_of s
reach (DroppingSent a taken more) = taken + size_of more
reach d = 0

abbrev pub IsSmall : Phase → Type 0
IsSmall (Joining a size body len) = size + len ≤ MAX_AGGREGATE_BYTES
IsSmall d = reach d ≤ 2 ^ 40

-- the first call for a request
abbrev pub first_call : Answer → Call
first_call (serve w) = call.OpenFile w.name modes.Read
first_call (refuse status head_only close) = call.AggMake (text_of (refuse status head_only close) (Error status))

-- a file is read, or its length requested if only the head is requested
abbrev pub read_call : Answer → (file : ℕ) → Call
read_call q file = if is_head_only q then call.Length file else call.IolRead file most_read
