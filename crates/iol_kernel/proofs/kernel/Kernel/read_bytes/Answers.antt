use Rattle.std.proofs.Common.{rules}
use Rattle.iol_kernel.proofs.kernel.Kernel.read_bytes.Goals as goal

pub returns-in-None : goal.returns-in-None
returns-in-None g c = let serves = c.copy_queue.ensures.serves (g.B.Backing.disk c.args.backing.now) in
    search (rules, serves)
