use Rattle.std.proofs.Common.{◌∙◌, ap, sym}
use Rattle.iol_core.specs.State as machine
use Rattle.iol_kernel.specs.Kernel.{state_of}
use Rattle.iol_kernel.proofs.FileCalls.Opens.{file_pool-read_of}
use Rattle.iol_kernel.proofs.kernel.Kernel.file_pool.Goals as goal

pub returns : goal.returns
returns c = λ f. c.pool_of.ensures
    ∙ ap (λ (x : machine.File). x.pool) (sym (file_pool-read_of f (state_of c.args.self.now) c.args.file))
