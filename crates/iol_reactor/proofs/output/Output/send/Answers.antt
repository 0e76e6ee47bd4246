use Rattle.iol_reactor.proofs.Bytes.{passes_none}
use Rattle.iol_reactor.proofs.output.Output.send.Goals as goal

pub returns-then-is_err-clause-some : goal.returns-then-is_err-clause-some
returns-then-is_err-clause-some g c = (c.args.bytes.now, passes_none _ _)
