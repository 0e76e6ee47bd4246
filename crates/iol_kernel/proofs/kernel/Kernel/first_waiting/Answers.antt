use Rattle.std.proofs.Common.{◌∙◌, sym}
use Rattle.iol_kernel.specs.Kernel.{state_of}
use Rattle.iol_kernel.proofs.Connections.Accept.{waiting-read_of}
use Rattle.iol_kernel.proofs.kernel.Kernel.first_waiting.Goals as goal

pub returns : goal.returns
returns c = λ f. c.first_waiting.ensures ∙ sym (waiting-read_of f (state_of c.args.self.now) c.args.by)
