use Rattle.std.proofs.Common.{◌≡◌, ℕ, ◌+◌, ◌-◌, ◌<◌, [], ◌∷◌, map, arith, refl, sym, ap, ◌∙◌, subst}
use Rattle.iol_core.specs.declared.numbers.BufId.{BufId}
use Rattle.iol_hold.specs.StoreState.{Stored, AllReclaimedBut, IsInPool, IsReclaimed, count_of, with_count}
use Rattle.iol_hold.proofs.EmptyPools.{all_reclaimed_same}
use Rattle.iol_hold.specs.Moves.{Moves, pool_meant}
use Rattle.iol_hold.proofs.Counts.{one_less}
use Rattle.iol_hold.proofs.Moves.{shares_move, moves_trans}
use Rattle.iol_hold.proofs.LiveBuffers.{tidy_count}
use Rattle.iol_hold.proofs.Releases.{frees_none, frees_trans}
use Rattle.iol_hold.proofs.store.Store.release.Goals as goal

pub returns-then-count-gt1 : goal.returns-then-count-gt1
returns-then-count-gt1 c =
    let s = c.args.self.now in
    let t = c.set_count.new.self in
    let b : BufId = c.args.hold.buf in
    let n : ℕ = c.count_at-count.result - 1 in
    let is : n + 1 ≡ count_of s b =
    omega (arith, c.count_at-count.ensures, ap (count_of s) c.buf-buf.ensures, c.if-count-gt1.true) in
    let set = c.set_count.ensures.set in
    let same : t ≡ with_count s b.page n = set ∙ ap (λ x. with_count s x.page n) c.buf-buf.ensures in
    let some : 0 < n = omega (arith, c.if-count-gt1.true) in
    record {
      moves =
          subst (λ x. Moves s x (b ∷ []) []) (sym same)
          (shares_move (record {
            counts = one_less s b n is;
            arena = refl;
            pools = refl;
            tidy =
                λ h. tidy_count s b n (omega (arith, is)) some h;
          }));
      frees = frees_none s t (ap (λ (x : Stored). x.arena.entries) set) (ap (λ (x : Stored). x.arena.limit) set)
          (ap (λ (x : Stored). x.pools) set);
      lists = ap (λ (x : Stored). map pool_meant x.pools) set;
      reclaimed = λ one. absurd (omega (arith, one, is, some));
      reclaims =
          λ home all. all_reclaimed_same s t (ap (λ (x : Stored). x.arena) set) (ap (λ (x : Stored). x.pools) set) all;
    }

pub returns-else-count-gt1 : goal.returns-else-count-gt1
returns-else-count-gt1 c =
    let s = c.args.self.now in
    let t = c.reclaim.new.self in
    let p : ℕ = c.args.hold.pool in
    let freed = c.free.ensures in
    let then = c.reclaim.ensures in
    record {
      moves = subst (λ b. Moves s t (b ∷ []) []) c.buf-buf.ensures (moves_trans freed.moves then.moves);
      frees = frees_trans freed.frees then.frees then.moves.counts;
      lists = then.lists ∙ ap (map pool_meant) freed.pools;
      reclaimed = λ one. subst (IsReclaimed t) c.pool.ensures then.reclaimed;
      reclaims =
          λ home all. then.reclaims (subst (λ q. AllReclaimedBut q c.free.new.self) (sym c.pool.ensures)
          (freed.others p (subst (λ b. IsInPool s p b) (sym c.buf-buf.ensures) home) all));
    }
