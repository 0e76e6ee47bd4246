use Rattle.std.proofs.Common.{rules}
use Rattle.iol_kernel.specs.Kernel.{state_of}
use Rattle.iol_kernel.proofs.FileCalls.FileNames.{has-file_called}
use Rattle.iol_kernel.proofs.kernel.Kernel.is_named.Goals as goal

pub returns : goal.returns
returns c = λ f. (let same = has-file_called f (state_of c.args.self.now) c.args.name.now in search (rules, same))
