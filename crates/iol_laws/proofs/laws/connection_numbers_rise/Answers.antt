use Rattle.std.proofs.Common.{◌≡◌, ℕ, ap}
use Rattle.iol_core.specs.State.{State}
use Rattle.iol_core.specs.declared.events.Reply.TheVariants as reply
use Rattle.iol_laws.proofs.Streams.NextNumber.{next_step}
use Rattle.iol_laws.proofs.laws.connection_numbers_rise.Goals as goal

number : (a b : ℕ) → reply.Conn a ≡ reply.Conn b → a ≡ b
number a b e = cc

pub returns : goal.returns
returns c = record {
  rises = next_step;
  next = λ s t p c step. (number c s.next_conn step.1, ap (λ (x : State). x.next_conn) step.2);
}
