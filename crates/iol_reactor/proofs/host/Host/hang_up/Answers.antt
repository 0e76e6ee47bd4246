use Rattle.iol_reactor.proofs.Serving.{continues_on, proceeds}
use Rattle.iol_reactor.proofs.Visits.{visits_advance}
use Rattle.std.proofs.Common.{[], true}
use Rattle.iol_reactor.proofs.host.Host.hang_up.Goals as goal

pub invariant_of-self : goal.invariant_of-self
invariant_of-self g c = record {
  served = proceeds g.P.Process.turns g.V.Service.starts g.V.Service.POOL c.args.self.now.world c.hang_up.new.world
      c.hang_up.ensures.honest
      (λ honest. continues_on g.P.Process.turns g.V.Service.POOL c.args.conn [] [] true _ _
      (c.hang_up.ensures.alone honest)) c.args.self.now.served;
}

pub returns-clause-visits : goal.returns-clause-visits
returns-clause-visits g c = visits_advance g.P.Process.turns g.V.Service.starts g.V.Service.POOL c.args.conn [] []
    true c.args.self.now.world c.hang_up.new.world c.hang_up.ensures.honest c.hang_up.ensures.alone
