use Rattle.iol_reactor.proofs.Serving.{continues_same, proceeds}
use Rattle.iol_reactor.proofs.Visits.{visits_same}
use Rattle.iol_reactor.proofs.host.Host.is_over.Goals as goal

pub invariant_of-self : goal.invariant_of-self
invariant_of-self g c = record {
  served = proceeds g.P.Process.turns g.V.Service.starts g.V.Service.POOL c.args.self.now.world c.is_over.new.world
      c.is_over.ensures.honest
      (λ honest. continues_same g.P.Process.turns g.V.Service.POOL _ _ c.is_over.ensures.same)
      c.args.self.now.served;
}

pub returns-clause-visits : goal.returns-clause-visits
returns-clause-visits g c = visits_same g.P.Process.turns g.V.Service.starts g.V.Service.POOL c.args.self.now.world
    c.is_over.new.world c.is_over.ensures.honest c.is_over.ensures.same
