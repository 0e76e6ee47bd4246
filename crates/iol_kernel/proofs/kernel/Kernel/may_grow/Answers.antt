use Rattle.std.proofs.Common.{◌∙◌, Some, ap, sym}
use Rattle.std.specs.Prelude.{is_none}
use Rattle.iol_core.specs.Calls.Reads.{may_grow}
use Rattle.iol_core.specs.State.{Connection}
use Rattle.iol_core.specs.declared.descriptors.Descriptor.{Descriptor}
use Rattle.iol_kernel.specs.Kernel.{as_read, state_of}
use Rattle.iol_kernel.proofs.Queues.LookUps.{conn_at-none, conn_at-there}
use Rattle.iol_kernel.proofs.State.ReadOf.{writing-read_of}
use Rattle.iol_kernel.proofs.kernel.Kernel.may_grow.Goals as goal

pub returns-in-ReadEnd : goal.returns-in-ReadEnd
returns-in-ReadEnd c = λ f. c.is_writing.ensures
    ∙ sym (ap (λ (x : Descriptor). may_grow (as_read f c.args.self.now) (Some x)) c.in-ReadEnd.is
    ∙ writing-read_of f (state_of c.args.self.now) c.in-ReadEnd.pipe)

pub returns-in-Some : goal.returns-in-Some
returns-in-Some c = λ f.
    c.may_grow.ensures
    ∙ sym (ap (λ (x : Descriptor). may_grow (as_read f c.args.self.now) (Some x)) c.in-Connection.is
    ∙ ap (λ (y : Connection). is_none y.peer)
    (conn_at-there f (state_of c.args.self.now) c.in-Connection.conn c.in-Some.found.now c.in-Some.ensures))

pub returns-in-None : goal.returns-in-None
returns-in-None c = λ f.
    sym (ap (λ (x : Descriptor). may_grow (as_read f c.args.self.now) (Some x)) c.in-Connection.is
    ∙ ap (λ (y : Connection). is_none y.peer)
    (conn_at-none f (state_of c.args.self.now) c.in-Connection.conn c.in-None.ensures))
