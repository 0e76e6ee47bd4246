use Rattle.std.proofs.Common.{◌≡◌, ℕ, ◌∙◌, sym, ap, subst, refl, map, [], List}
use Rattle.iol_arena.specs.State.{State, page_count}
use Rattle.iol_pool.specs.Pools.{reclaimed, reclaimed_arena, Pool, pool_in}
use Rattle.iol_hold.specs.StoreState.{Stored, IsReclaimed}
use Rattle.iol_hold.proofs.EmptyPools.{reclaimed_then}
use Rattle.iol_pool.proofs.Owners.{map-reclaimed}
use Rattle.iol_hold.specs.Moves.{Moves, pool_meant}
use Rattle.iol_hold.specs.View.{stored}
use Rattle.iol_hold.proofs.ChunkReturns.{moves_both, with_both, reclaimed_moves, reclaimed_reclaimed}
use Rattle.iol_hold.proofs.ChunkReturns.{length-reclaimed_arena}
use Rattle.iol_hold.specs.Releases.{HasAllOrNone, Reclaims}
use Rattle.iol_hold.proofs.Releases.{chunks_reclaimed, frees_chunks, reclaimed_entries, reclaimed_limit, open_reclaimed}
use Rattle.iol_hold.proofs.store.Store.reclaim.Goals as goal

moves : (s : Stored) (p : ℕ) (a : State) (ps : List Pool) → a ≡ reclaimed_arena s.arena s.pools p
    → ps ≡ reclaimed s.arena s.pools p → Moves s (with_both s a ps) [] []
moves s p a ps e f =
    moves_both s a (reclaimed_arena s.arena s.pools p) ps (reclaimed s.arena s.pools p) e f (reclaimed_moves s p)

pub invariant_of-self : goal.invariant_of-self
invariant_of-self c = record {
  counts = c.self.invariant.counts ∙ sym (length-reclaimed_arena c.self.inside.arena c.self.inside.pools c.args.pool)
      ∙ sym (ap page_count c.reclaim.ensures.arena);
  tidy =
      (moves (stored c.self.inside) c.args.pool c.reclaim.new.arena c.reclaim.new.self c.reclaim.ensures.arena
      c.reclaim.ensures.pools).tidy c.self.invariant.tidy;
}

reclaimed_now : (s : Stored) (p : ℕ) (a : State) (ps : List Pool) → a ≡ reclaimed_arena s.arena s.pools p
    → ps ≡ reclaimed s.arena s.pools p → IsReclaimed (with_both s a ps) p
reclaimed_now s p a ps e f =
    subst (λ a. IsReclaimed (with_both s a ps) p) (sym e)
    (subst (λ ps. IsReclaimed (with_both s (reclaimed_arena s.arena s.pools p) ps) p) (sym f)
    (reclaimed_reclaimed s.arena s.pools p s.counts))

pub returns : goal.returns
returns c =
    let s : Stored = stored c.self.inside in
    let p : ℕ = c.args.pool in
    let a = c.reclaim.new.arena in
    let ps = c.reclaim.new.self in
    let t = with_both s a ps in
    let e = c.reclaim.ensures in
    let moved = moves s p a ps e.arena e.pools in
    let now = reclaimed_now s p a ps e.arena e.pools in
    subst (λ x. Reclaims x t p) c.self.view_is (record {
      moves = moved;
      lists = ap (map pool_meant) e.pools ∙ map-reclaimed pool_meant (λ x cs. refl) s.arena s.pools p;
      reclaimed = now;
      reclaims = reclaimed_then s t p e.arena e.pools now;
      frees = frees_chunks s t (ap (λ (a : State). a.entries) e.arena ∙ reclaimed_entries s.arena s.pools p)
          (ap (λ (a : State). a.limit) e.arena ∙ reclaimed_limit s.arena s.pools p)
          (λ q is. ap (λ (ps : List Pool). pool_in ps q) e.pools ∙ open_reclaimed s.arena s.pools p q is)
          (λ q. subst (λ (ps : List Pool). HasAllOrNone s (with_both s a ps) q) (sym e.pools)
          (chunks_reclaimed s.arena s.pools p q));
      tidy = moved.tidy c.self.invariant.tidy;
    })
