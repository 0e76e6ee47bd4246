use Rattle.std.proofs.Common.{arith}
use Rattle.iol_reactor.proofs.Ordered.{ordered_grown}
use Rattle.iol_reactor.proofs.deadlines.Deadlines.set.Goals as goal

pub invariant_of-self : goal.invariant_of-self
invariant_of-self g c = record {
  ordered = ordered_grown c.push_back.result c.args.self.now.entries.items c.push_back.new.self.items
      (record { at = c.max-at.result; key = c.args.key }) c.push_back.ensures.items
      (omega (arith, c.max-at.ensures, c.last.ensures)) c.args.self.now.ordered;
}
