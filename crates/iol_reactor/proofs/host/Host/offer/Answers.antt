use Rattle.iol_reactor.proofs.Serving.{continues_on, proceeds}
use Rattle.iol_reactor.proofs.Visits.{visits_advance}
use Rattle.std.proofs.Common.{[], false}
use Rattle.iol_reactor.proofs.host.Host.offer.Goals as goal

pub invariant_of-self : goal.invariant_of-self
invariant_of-self g c = record {
  served = proceeds g.P.Process.turns g.V.Service.starts g.V.Service.POOL c.args.self.now.world c.offer.new.world
      c.offer.ensures.honest
      (λ honest. continues_on g.P.Process.turns g.V.Service.POOL c.args.conn [] c.offer.ensures.alone.sent false _ _
      c.offer.ensures.alone.proceeds) c.args.self.now.served;
}

pub returns-clause-visits : goal.returns-clause-visits
returns-clause-visits g c = let s = c.offer.ensures.alone in (
  s.sent,
  s.taken,
  visits_advance g.P.Process.turns g.V.Service.starts g.V.Service.POOL c.args.conn [] s.sent
      false c.args.self.now.world c.offer.new.world c.offer.ensures.honest (λ honest. s.proceeds),
)
