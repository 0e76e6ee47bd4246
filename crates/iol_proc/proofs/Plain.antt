-- The reply to a call other than `show` and `read` is no copy of bytes, for any machine.
use Rattle.std.proofs.Common.{ℕ, sym, subst}
use Rattle.iol_core.specs.State.{State}
use Rattle.iol_core.specs.Run.{StepsTo, called}
use Rattle.iol_core.specs.declared.events.Call.{Call}
use Rattle.iol_core.specs.declared.events.Call.TheVariants as call
use Rattle.iol_core.specs.declared.events.Event.TheVariants as event
use Rattle.iol_core.specs.declared.events.Reply.{Reply}
use Rattle.iol_core.specs.declared.events.Reply.TheVariants as reply
use Rattle.iol_kernel.specs.FileCalls.{with_slots}
use Rattle.iol_system.specs.Machine.{SystemState}
use Rattle.iol_system.specs.Promises.{Promises}
use Rattle.iol_proc.specs.CopyFree.{IsCopyFreeCall, IsPlain}

answer_plain : (s : State) (by : ℕ) (c : Call) → IsCopyFreeCall c → IsPlain (called s by c).answer
answer_plain s by (call.Show agg) copy_free = absurd copy_free
answer_plain s by (call.Read fd count) copy_free = absurd copy_free
answer_plain s by c copy_free = tt

step_plain : (s t : State) (by : ℕ) (c : Call) (r : Reply) → IsCopyFreeCall c → StepsTo s (event.Call by c) r t
    → IsPlain r
step_plain s t by c (reply.Refused x) copy_free step = tt
step_plain s t by c r copy_free step = subst IsPlain (sym step.1) (answer_plain s by c copy_free)

-- nor is the reply of a system, over any store
pub promised_plain : (old new : SystemState) (by : ℕ) (c : Call) (r : Reply) → IsCopyFreeCall c
    → Promises old (event.Call by c) r new → IsPlain r
promised_plain old new by c r copy_free p =
    step_plain (with_slots p.beside.before old.kernel) (with_slots p.beside.after new.kernel) by c r copy_free
    p.beside.step
