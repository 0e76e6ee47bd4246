use Rattle.std.proofs.Common.{ap}
use Rattle.iol_serve.proofs.Drains.{sends_drained, sends_refused}
use Rattle.iol_serve.proofs.serve.send_piece.Goals as goal

pub returns-then-drained-clause-sends : goal.returns-then-drained-clause-sends
returns-then-drained-clause-sends g c =
    sends_drained g.P.Process.turns c.args.conn _ _ _ c.args.world.now c.drain_to.new.self c.in-Ok.ensures.copied
    c.in-Ok.ensures.system.drains.written

pub returns-then-drained-eq0-clause-sends : goal.returns-then-drained-eq0-clause-sends
returns-then-drained-eq0-clause-sends g c =
    sends_drained g.P.Process.turns c.args.conn _ _ _ c.args.world.now c.drain_to.new.self c.in-Ok.ensures.copied
    c.in-Ok.ensures.system.drains.written

pub returns-else-drained-eq0-clause-sends : goal.returns-else-drained-eq0-clause-sends
returns-else-drained-eq0-clause-sends g c =
    sends_drained g.P.Process.turns c.args.conn _ _ _ c.args.world.now c.drain_to.new.self c.in-Ok.ensures.copied
    c.in-Ok.ensures.system.drains.written

pub returns-in-Err-clause-sends : goal.returns-in-Err-clause-sends
returns-in-Err-clause-sends g c =
    sends_refused g.P.Process.turns c.args.conn _ _ c.args.world.now c.drain_to.new.self
    (ap g.W.Write.contents c.in-Err.ensures.system.refuses.err_writer)
    (λ i. record {
      machine = c.in-Err.ensures.system.refuses.err i;
      process_slots = c.in-Err.ensures.process_slots i;
      resource_failure = c.in-Err.ensures.resource_failure i;
    })
