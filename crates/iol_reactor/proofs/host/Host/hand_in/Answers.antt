use Rattle.iol_reactor.proofs.Serving.{continues_on, proceeds}
use Rattle.iol_reactor.proofs.Visits.{visits_arrive}
use Rattle.std.proofs.Common.{[], false}
use Rattle.iol_reactor.proofs.host.Host.hand_in.Goals as goal

pub invariant_of-self : goal.invariant_of-self
invariant_of-self g c = record {
  served = proceeds g.P.Process.turns g.V.Service.starts g.V.Service.POOL c.args.self.now.world c.hand_in.new.world
      c.hand_in.ensures.honest
      (λ honest. let s = c.hand_in.ensures.alone honest in
      continues_on g.P.Process.turns g.V.Service.POOL c.args.conn s.came [] false _ _ s.proceeds)
      c.args.self.now.served;
}

pub returns-clause-visits : goal.returns-clause-visits
returns-clause-visits g c =
    visits_arrive g.P.Process.turns g.V.Service.starts g.V.Service.POOL c.args.conn _ _ c.hand_in.ensures.rest.0
    c.args.self.now.world c.hand_in.new.world c.hand_in.ensures.honest c.hand_in.ensures.rest.1 c.hand_in.ensures.alone
