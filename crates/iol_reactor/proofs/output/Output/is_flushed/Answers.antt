use Rattle.std.proofs.Common.{arith}
use Rattle.iol_reactor.proofs.Bytes.{all_dropped}
use Rattle.iol_reactor.proofs.output.Output.is_flushed.Goals as goal

pub returns : goal.returns
returns c = all_dropped c.args.self.now.left.items c.args.self.now.at _ (omega (arith, c.len.ensures))
