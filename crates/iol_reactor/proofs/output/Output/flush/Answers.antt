use Rattle.std.proofs.Common.{◌≡◌, ◌≤◌, ◌-◌, ◌^◌, ◌+◌, length, length-drop, length-take, min, List, ℕ, arith, drop}
use Rattle.std.proofs.Common.{subst, sym, ap}
use Rattle.iol_reactor.specs.Bytes.{Passes}
use Rattle.iol_reactor.proofs.Bytes.{passes_from}
use Rattle.iol_reactor.proofs.output.Output.flush.Goals as goal

pub returns-else-eq-clause-passes : goal.returns-else-eq-clause-passes
returns-else-eq-clause-passes g c =
    let left : List ℕ = c.deref.result.now in
    let same : length left ≡ length c.args.self.now.left.items = ap length c.deref.ensures.value in
    let place : c.min.result ≡ min c.args.self.now.at (length left) =
    omega (arith, c.min.ensures, c.len.ensures, same) in
    let count : c.saturating_sub-accepted.result ≡ length left - c.min.result - length
    c.write_all-sending.result.1.now =
    omega (
      arith,
      c.saturating_sub-accepted.ensures,
      length-take (length left - c.min.result) (drop c.min.result left),
      length-drop c.min.result left,
    ) in
    let sum : c.saturating_add-self.result ≡ min (c.args.self.now.at + c.saturating_sub-accepted.result) (2 ^ 64 - 1) =
    omega (arith, c.saturating_add-self.ensures, c.count.ensures.at) in
    let short : length left ≤ 2 ^ 64 - 1 = omega (arith, c.len.ensures, c.len.type_inv, same) in
    subst
    (λ (l : List ℕ). Passes (g.S.Socket.accepted c.args.socket.now)
    (g.S.Socket.accepted c.write_all-sending.new.socket) (drop c.args.self.now.at c.args.self.now.left.items)
    (drop c.saturating_add-self.result l))
    (sym c.count.ensures.left)
    (subst
    (λ (l : List ℕ). Passes (g.S.Socket.accepted c.args.socket.now)
    (g.S.Socket.accepted c.write_all-sending.new.socket) (drop c.args.self.now.at l)
    (drop c.saturating_add-self.result l))
    c.deref.ensures.value
    (passes_from _ _ left _ c.args.self.now.at c.min.result c.saturating_sub-accepted.result
    c.saturating_add-self.result (2 ^ 64 - 1) c.write_all-sending.ensures.passes place count sum short))
