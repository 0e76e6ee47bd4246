use Rattle.std.proofs.Common.{arith, subst}
use Rattle.std.proofs.lemmas.List.{take_all}
use Rattle.iol_system.specs.Safe.{IsSafe}
use Rattle.iol_system.proofs.Chains.{chain_honest, chain_more, chain_run, chain_safe, chain_stays, chain_values}
use Rattle.iol_system.proofs.system.System.run.Goals as goal

-- one more event
pub loop-event-preserved : goal.loop-event-preserved
loop-event-preserved g c = record {
  chain =
      rw c.push_reserved.ensures.items
      (chain_more _ _ _ _ _ _ _ _ (omega arith) c.event-item.is c.loop-event.invariant.chain c.step_ref-reply.ensures);
  count = omega (arith, c.push_reserved.ensures.len);
  room = omega (arith, c.push_reserved.ensures.capacity);
}

-- all events
pub returns-clause-run : goal.returns-clause-run
returns-clause-run g c =
    chain_run _ _ _ _ (rw (take_all c.loop-event.event-index c.args.events.now (omega arith)) at
    c.loop-event.invariant.chain)

pub returns-clause-honest : goal.returns-clause-honest
returns-clause-honest g c = chain_honest _ _ _ _ c.loop-event.invariant.chain

pub returns-clause-safe : goal.returns-clause-safe
returns-clause-safe g c = chain_safe _ _ _ _ c.loop-event.invariant.chain (subst IsSafe c.self.view_is c.self.invariant)

pub returns-clause-stays : goal.returns-clause-stays
returns-clause-stays g c = chain_stays _ _ _ _ c.loop-event.invariant.chain

pub returns-clause-values : goal.returns-clause-values
returns-clause-values g c =
    chain_values _ _ _ _ (rw (take_all c.loop-event.event-index c.args.events.now (omega arith)) at
    c.loop-event.invariant.chain)
