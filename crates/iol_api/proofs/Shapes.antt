-- The reply of a call is a value of the call's type, or a refusal.
use Rattle.std.proofs.Common.{inl, inr, refl}
use Rattle.iol_core.specs.Meaning.{Meaning, Step}
use Rattle.iol_core.specs.Run.{outcome, replied}
use Rattle.iol_core.specs.State.{State}
use Rattle.iol_core.specs.declared.events.Reply.{Reply}
use Rattle.iol_core.specs.declared.events.Reply.TheVariants as reply
use Rattle.iol_system.specs.Prelude.{KernelState, StepsBeside, with_slots}
use Rattle.iol_api.specs.Typed.{IsReply}

pub is_reply : {A : Type 0} (f : A → Reply) (m : Meaning A) (s t : State) (r : Reply)
    → Step (replied f m) s (outcome r) t → IsReply f r
is_reply f m s t (reply.Refused x) step = inr (x, refl)
is_reply f m s t r step = inl (m.answer, step.1)

pub reply_of : {A : Type 0} {old new : KernelState} {r : Reply} (f : A → Reply) (m : State → Meaning A)
    → StepsBeside (λ s. replied f (m s)) old (outcome r) new → IsReply f r
reply_of {old = old} {new = new} {r = r} f m b =
    is_reply f (m (with_slots b.before old)) (with_slots b.before old) (with_slots b.after new) r b.step
