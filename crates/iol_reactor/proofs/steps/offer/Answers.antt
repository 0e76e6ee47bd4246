use Rattle.std.proofs.Common.{◌≡◌, ◌∙◌, true, ap, subst, sym}
use Rattle.iol_core.specs.Calls.Outside.{lacks_conn}
use Rattle.iol_system.specs.Machine.{SystemState, tables_of}
use Rattle.iol_serve.proofs.Drains.{sends_drained, sends_refused}
use Rattle.iol_reactor.proofs.Visits.{lacks_same}
use Rattle.iol_reactor.proofs.steps.offer.Goals as goal

pub returns-in-Ok-clause-alone : goal.returns-in-Ok-clause-alone
returns-in-Ok-clause-alone g c =
    sends_drained g.P.Process.turns c.args.conn _ _ _ c.args.world.now c.drain_into.new.self c.in-Ok.ensures.copied
    c.in-Ok.ensures.system.drains.written

pub returns-in-Err-clause-alone : goal.returns-in-Err-clause-alone
returns-in-Err-clause-alone g c =
    sends_refused g.P.Process.turns c.args.conn _ _ c.args.world.now c.drain_into.new.self
    (ap g.G.Gather.contents c.in-Err.ensures.system.refuses.err_writer)
    (λ i. record {
      machine = c.in-Err.ensures.system.refuses.err i;
      process_slots = c.in-Err.ensures.process_slots i;
      resource_failure = c.in-Err.ensures.resource_failure i;
    })

pub returns-in-Err-clause-over : goal.returns-in-Err-clause-over
returns-in-Err-clause-over g c = λ none. lacks_same c.drain_into.new.self.machine c.args.conn
    ∙ subst (λ (m : SystemState). lacks_conn (tables_of m.kernel) c.args.conn ≡ true)
    (sym c.in-Err.ensures.system.refuses.err) c.in-Err.ensures.system.refuses.refused.1
