use Rattle.std.proofs.Common.{rules}
use Rattle.iol_core.specs.Calls.Pools as calls
use Rattle.iol_kernel.specs.Kernel.{state_of}
use Rattle.iol_kernel.proofs.State.Effects.{keeps_late}
use Rattle.iol_kernel.proofs.kernel.Kernel.pool_create.Goals as goal

pub returns-in_err-add_pool : goal.returns-in_err-add_pool
returns-in_err-add_pool c =
    let e = c.in_err-add_pool.ensures in
    let late = keeps_late (λ s. calls.pool_create s c.args.by c.args.chunks c.args.list.now) (state_of c.args.self.now)
    (state_of c.add_pool.new.self) c.in_err-add_pool.field-0.0 e.err c.requires
    (search (rules, c.in_ok-names.ensures.may.passed)) e.late in
    record { create = search (rules, late); chunks = search (rules); room = search (rules); no_room = search (rules) }
