use Rattle.std.proofs.Common.{◌∙◌, ◌-◌, ap, sym}
use Rattle.std.specs.Prelude.{min}
use Rattle.iol_core.specs.declared.limits.TheConstants.{MAX_QUEUE_BYTES}
use Rattle.iol_kernel.specs.Kernel.{as_read}
use Rattle.iol_kernel.proofs.Queues.LookUps.{fitting-queue}
use Rattle.iol_kernel.proofs.kernel.Kernel.fitting.Goals as goal

pub returns : goal.returns
returns c = λ f. c.min.ensures ∙ ap (λ k. min c.args.count (MAX_QUEUE_BYTES - k)) (c.unsent.ensures.len f)
    ∙ sym (fitting-queue (as_read f c.args.self.now) c.args.count c.args.to.now c.in_default.not-File)
