use Rattle.std.proofs.Common.{◌≡◌, ◌&&◌, ◌∙◌, ℕ, not, find, option_map, Some, refl, sym, ap, subst, arith}
use Rattle.iol_pool.specs.Pools.{names_in}
use Rattle.iol_sock.specs.Table.{ConnTable}
use Rattle.iol_sock.proofs.WaitingList.{first_as, first-below}
use Rattle.iol_sock.proofs.table.Connections.first_waiting.Goals as goal

pub returns-in_err-number : goal.returns-in_err-number
returns-in_err-number c =
    let first =
    subst
    (λ (t : ConnTable). c.first_named.result
    ≡ option_map (λ e. e.0) (find (λ e. not e.1.accepted && names_in c.args.store.now.pools e.1.pool c.args.d)
    t.conns)) c.self.view_is
    (first_as c.args.store.now.pools _ c.args.d c.self.inside.live.entries _ _ c.first_named.result c.self.invariant.0
    refl c.pools.ensures c.first_named.ensures) in
    c.from_residual.ensures ∙ sym c.in_err-number.was ∙ first

pub overflow_cast-number : goal.overflow_cast-number
overflow_cast-number c =
    let below = first-below (λ p. names_in c.pools.result.now p c.args.d) c.self.inside.live.entries _ _
    c.self.inside.live.next c.in_ok-number.number c.first_named.result c.self.invariant.0 refl
    c.numbers_rise.ensures c.first_named.ensures c.in_ok-number.was in
    omega (arith, below, c.self.invariant.1)

pub returns : goal.returns
returns c =
    let first =
    subst
    (λ (t : ConnTable). c.first_named.result
    ≡ option_map (λ e. e.0) (find (λ e. not e.1.accepted && names_in c.args.store.now.pools e.1.pool c.args.d)
    t.conns)) c.self.view_is
    (first_as c.args.store.now.pools _ c.args.d c.self.inside.live.entries _ _ c.first_named.result c.self.invariant.0
    refl c.pools.ensures c.first_named.ensures) in
    ap (λ (n : ℕ). Some n) c.new.ensures ∙ sym c.in_ok-number.was ∙ first
