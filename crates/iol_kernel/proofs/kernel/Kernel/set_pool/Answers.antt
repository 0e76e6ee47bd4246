use Rattle.std.proofs.Common.{rules}
use Rattle.iol_core.specs.Calls.Pools as calls
use Rattle.iol_kernel.specs.Kernel.{state_of}
use Rattle.iol_kernel.proofs.State.Refinement.{carried_done, carried_refused}
use Rattle.iol_kernel.proofs.kernel.Kernel.set_pool.Goals as goal

pub returns-in_err-test_pool : goal.returns-in_err-test_pool
returns-in_err-test_pool c =
    let e = c.in_err-test_pool.ensures.refused in
    let done = carried_refused (λ s. calls.set_pool s c.args.by c.args.pool) (state_of c.args.self.now)
    c.in_err-test_pool.field-0.0 c.requires e.refused e.roomy in
    search (rules, done)

pub returns : goal.returns
returns c =
    carried_done (λ s. calls.set_pool s c.args.by c.args.pool) (state_of c.args.self.now)
    (state_of c.set_default.new.self) c.in_ok-test_pool.ensures.may.passed tt c.set_default.ensures
