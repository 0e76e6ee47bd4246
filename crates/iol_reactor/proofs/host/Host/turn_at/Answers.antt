use Rattle.std.proofs.Common.{[], false}
use Rattle.iol_reactor.proofs.Serving.{continues_on, goes_turn_at, proceeds}
use Rattle.iol_reactor.proofs.Visits.{carries_own, visits_stay}
use Rattle.iol_reactor.proofs.host.Host.turn_at.Goals as goal

pub invariant_of-self : goal.invariant_of-self
invariant_of-self g c = record {
  served = proceeds g.P.Process.turns g.V.Service.starts g.V.Service.POOL c.args.self.now.world c.turn_at.new.self
      c.turn_at.ensures.honest
      (λ honest. continues_on g.P.Process.turns g.V.Service.POOL 0 [] [] false _ _
      (goes_turn_at g.P.Process.turns 0 _ _ _ _ (c.turn_at.ensures.run honest))) c.args.self.now.served;
}

pub returns-clause-alone : goal.returns-clause-alone
returns-clause-alone g c = λ n honest. goes_turn_at g.P.Process.turns n _ _ _ _ (c.turn_at.ensures.run honest)

pub returns-clause-visits : goal.returns-clause-visits
returns-clause-visits g c = visits_stay g.P.Process.turns g.V.Service.starts g.V.Service.POOL c.args.self.now.world
    c.turn_at.new.self c.turn_at.ensures.honest
    (λ n honest. carries_own g.P.Process.turns g.V.Service.POOL n [] [] false _ _
    (goes_turn_at g.P.Process.turns n _ _ _ _ (c.turn_at.ensures.run honest)))
