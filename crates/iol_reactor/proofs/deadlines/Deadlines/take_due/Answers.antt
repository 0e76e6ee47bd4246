use Rattle.std.proofs.Common.{ap, arith}
use Rattle.iol_reactor.proofs.Ordered.{front_least, ordered_rest}
use Rattle.iol_reactor.proofs.deadlines.Deadlines.take_due.Goals as goal

pub returns-then-now-first-clause-later : goal.returns-then-now-first-clause-later
returns-then-now-first-clause-later g c = λ _ k d within.
    let first = ap (λ e. e.at) c.in_ok-first.ensures.lookup in
    let least = front_least c.args.self.now.entries.items k d c.in_ok-first.first.now c.args.self.now.ordered within in
    omega (arith, first, least, c.if-now-first.true)

pub invariant_of-self : goal.invariant_of-self
invariant_of-self g c = record {
  ordered = ordered_rest c.args.self.now.entries.items c.pop_front.new.self.items c.pop_front.ensures.rest
      c.args.self.now.ordered;
}
