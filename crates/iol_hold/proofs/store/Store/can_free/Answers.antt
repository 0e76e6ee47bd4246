use Rattle.std.proofs.Common.{◌≡◌, ◌∙◌, ◌+◌, ◌<◌, ℕ, List, length, flat_map, refl, sym, ap, arith, subst}
use Rattle.std.specs.List.{filter}
use Rattle.iol_arena.specs.State.{chunk_count}
use Rattle.iol_arena.specs.Chunks.{chunk_pages}
use Rattle.iol_pool.specs.Pools.{pool_in}
use Rattle.iol_pool.proofs.Counts.{pages_more, take_fewer}
use Rattle.iol_pool.proofs.Owners.{within_chunks}
use Rattle.iol_hold.specs.Reclaimable.{is_reclaimable}
use Rattle.iol_hold.specs.StoreState.{Stored}
use Rattle.iol_hold.proofs.store.Store.can_free.Goals as goal

pub reclaimable_in-here-requires : goal.reclaimable_in-here-requires
reclaimable_in-here-requires c =
    let all = within_chunks c.self.inside.arena c.self.inside.pools c.args.p c.as_slice-chunks.result.now
    c.chunks.result.now c.self.invariant.tidy.owned c.as_slice-chunks.ensures.value c.chunks.ensures in
    let is : c.chunk-item.result < chunk_count c.self.inside.arena =
    subst (λ (n : ℕ). n < chunk_count c.self.inside.arena) (sym c.chunk-item.is)
    (all c.loop-chunk.chunk-index c.chunk-item.result c.loop-chunk-test.true) in
    omega (arith, is, ap (λ (s : Stored). chunk_count s.arena) c.self.view_is)

pub returns-then-left-here : goal.returns-then-left-here
returns-then-left-here c =
    let f = is_reclaimable c.args.self.now c.args.spared.now in
    let cs = c.as_slice-chunks.result.now in
    let more = pages_more f cs c.loop-chunk.chunk-index c.chunk-item.result c.loop-chunk-test.true c.chunk-item.is in
    let part = take_fewer f cs (c.loop-chunk.chunk-index + 1) in
    let all : cs ≡ (pool_in c.args.self.now.pools c.args.p).chunks = c.as_slice-chunks.ensures.value ∙ c.chunks.ensures
    ∙ ap (λ (s : Stored). (pool_in s.pools c.args.p).chunks) c.self.view_is in (
      (λ y. omega (
        arith,
        more,
        part,
        c.loop-chunk.invariant,
        c.reclaimable_in-here.ensures,
        c.if-left-here.true,
        ap (λ (l : List ℕ). length (filter f (flat_map chunk_pages l))) all,
      )),
      (λ y. refl),
    )
