use Rattle.std.proofs.Common.{◌∙◌, ap, sym, not}
use Rattle.iol_core.specs.Meaning.{◌when◌}
use Rattle.iol_core.specs.declared.refusals.Refusal.TheVariants.{Denied}
use Rattle.iol_kernel.specs.Kernel.{state_of}
use Rattle.iol_kernel.proofs.Connections.OneConnection.{denied-read_of}
use Rattle.iol_kernel.proofs.kernel.Kernel.hidden_pool.Goals as goal

pub returns-then-may_read : goal.returns-then-may_read
returns-then-may_read c = λ f.
    ap (λ b. Denied c.pool-pool.result when not b) (sym c.if-may_read.true)
    ∙ denied-read_of f (state_of c.args.self.now) c.args.to c.args.conn c.pool-pool.result _ c.may_read.result
    (sym c.in_ok-get.ensures) c.pool-pool.ensures (c.may_read.ensures f)

pub returns : goal.returns
returns c = λ f.
    ap (λ b. Denied c.pool-pool.result when not b) (sym c.if-may_read.false)
    ∙ denied-read_of f (state_of c.args.self.now) c.args.to c.args.conn c.pool-pool.result _ c.may_read.result
    (sym c.in_ok-get.ensures) c.pool-pool.ensures (c.may_read.ensures f)
