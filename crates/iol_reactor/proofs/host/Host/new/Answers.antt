use Rattle.iol_reactor.proofs.Serving.{began}
use Rattle.iol_reactor.proofs.host.Host.new.Goals as goal

pub invariant_of-result : goal.invariant_of-result
invariant_of-result g c =
    record { served = began g.P.Process.turns g.V.Service.starts g.V.Service.POOL c.args.world c.requires }
