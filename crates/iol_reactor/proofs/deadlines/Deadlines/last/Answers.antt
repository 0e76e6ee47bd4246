use Rattle.std.proofs.Common.{◌≡◌, ◌∙◌, ◌-◌, ap, arith, length, suc, deque_len}
use Rattle.std.proofs.lemmas.Bool.Decides.{nat_tests}
use Rattle.iol_reactor.proofs.Ordered.{back_is}
use Rattle.iol_reactor.proofs.deadlines.Deadlines.last.Goals as goal

pub returns-in-Some : goal.returns-in-Some
returns-in-Some g c =
    let q = c.args.self.now.entries in
    let some = c.in-Some.ensures.item.0 in
    let long : length q.items ≡ suc (deque_len q - 1) = grind (arith, nat_tests, some) in
    ap (λ d. d.at) c.in-Some.ensures.lookup ∙ back_is q.items (deque_len q - 1) c.in-Some.last.now long
