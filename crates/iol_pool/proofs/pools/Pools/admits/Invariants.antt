use Rattle.std.proofs.Common.{◌≡◌, drop, not}
use Rattle.std.specs.Prelude.{find}
use Rattle.iol_pool.specs.Pools.{names_in}
use Rattle.iol_pool.proofs.pools.Pools.admits.Given as goal

abbrev pub invariant-loop-p : goal.invariant-loop-p
invariant-loop-p l = find (λ p. not (names_in l.self p l.d)) (drop l.p-index l.pools)
    ≡ find (λ p. not (names_in l.self p l.d)) l.pools
