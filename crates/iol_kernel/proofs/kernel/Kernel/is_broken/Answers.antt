use Rattle.std.proofs.Common.{◌∙◌, Some, ap, sym}
use Rattle.std.specs.Prelude.{not}
use Rattle.iol_core.specs.Calls.Writes.{is_broken}
use Rattle.iol_core.specs.State.{Connection, is_gone}
use Rattle.iol_core.specs.declared.descriptors.Descriptor.{Descriptor}
use Rattle.iol_kernel.specs.Kernel.{as_read, state_of}
use Rattle.iol_kernel.proofs.Queues.LookUps.{conn_at-none, conn_at-there}
use Rattle.iol_kernel.proofs.State.ReadOf.{reading-read_of}
use Rattle.iol_kernel.proofs.kernel.Kernel.is_broken.Goals as goal

pub returns-in-WriteEnd : goal.returns-in-WriteEnd
returns-in-WriteEnd c =
    λ f. ap not (c.is_reading.ensures ∙ sym (reading-read_of f (state_of c.args.self.now) c.in-WriteEnd.pipe))
    ∙ sym (ap (λ (x : Descriptor). is_broken (as_read f c.args.self.now) (Some x)) c.in-WriteEnd.is)

pub returns-in-Some : goal.returns-in-Some
returns-in-Some c = λ f.
    c.is_gone.ensures
    ∙ sym (ap (λ (x : Descriptor). is_broken (as_read f c.args.self.now) (Some x)) c.in-Connection.is
    ∙ ap (λ (y : Connection). is_gone y.peer)
    (conn_at-there f (state_of c.args.self.now) c.in-Connection.conn c.in-Some.found.now c.in-Some.ensures))

pub returns-in-None : goal.returns-in-None
returns-in-None c = λ f.
    sym (ap (λ (x : Descriptor). is_broken (as_read f c.args.self.now) (Some x)) c.in-Connection.is
    ∙ ap (λ (y : Connection). is_gone y.peer)
    (conn_at-none f (state_of c.args.self.now) c.in-Connection.conn c.in-None.ensures))
