use Rattle.std.proofs.Common.{◌≡◌, ◌+◌, take, length, flat_map}
use Rattle.std.specs.List.{filter}
use Rattle.iol_arena.specs.Chunks.{chunk_pages}
use Rattle.iol_hold.specs.Reclaimable.{is_reclaimable}
use Rattle.iol_hold.proofs.store.Store.can_free.Given as goal

abbrev pub invariant-loop-chunk : goal.invariant-loop-chunk
invariant-loop-chunk l =
    l.left + length (filter (is_reclaimable l.self l.spared) (flat_map chunk_pages (take l.chunk-index l.chunks)))
    ≡ l.pages
