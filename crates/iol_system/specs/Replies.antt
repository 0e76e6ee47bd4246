-- The reply to a call.
use Rattle.std.specs.Prelude.{Result, Ok, Err}
use Rattle.iol_core.specs.declared.refusals.Refusal.{Refusal}
use Rattle.iol_core.specs.declared.events.Reply.{Reply}
use Rattle.iol_core.specs.declared.events.Reply.TheVariants as reply

-- the answer of a call as a reply, or its refusal
abbrev pub reported : {A : Type 0} → (A → Reply) → Result A Refusal → Reply
reported f (Ok a) = f a
reported f (Err x) = reply.Refused x
