-- A refused read: there is room for the range, or all extents are unchanged.
use Rattle.std.proofs.Common.{◌≡◌, ◌⊎◌, ℕ, ◌+◌, ◌<◌, List, length, ap, ◌∙◌, arith, inl, inr}
use Rattle.std.specs.List.{flat_map}
use Rattle.iol_core.specs.declared.numbers.BufId.{BufId}
use Rattle.iol_core.specs.declared.refusals.Refusal.{Refusal}
use Rattle.iol_arena.specs.Chunks.{chunk_pages}
use Rattle.iol_back.specs.Disk.{Disk}
use Rattle.iol_extent.specs.declared.spans.Span.{Span}
use Rattle.iol_pool.specs.Pools.{Pool, pool_in}
use Rattle.iol_hold.specs.Room.{pages_of}
use Rattle.iol_hold.specs.declared.slices.Slice.{Slice}
use Rattle.iol_cache.specs.declared.files.CachedFile.{CachedFile}
use Rattle.iol_cache.specs.CacheState.{Cached, clean_held, extents_in, file_in}
use Rattle.iol_cache.specs.Evictions.{HasPages, Holding}
use Rattle.iol_cache.specs.Gaps.{gap_pages}
use Rattle.iol_cache.specs.ReadSteps.{HasRoom, LacksRoom, Pins}
use Rattle.iol_cache.specs.KeptCover.{SameExtents}
use Rattle.iol_cache.specs.PinnedPages.{pinned_beside}
use Rattle.iol_cache.specs.Ranges.{PinsRange}
use Rattle.iol_cache.specs.ReadResults.{LeavesRange, RefusesRead, RoomToRead}

-- The room while hits are held.
module _ (f from to : ℕ) (a b : Holding) (pins : List Slice) (gs : List Span) (x : PinsRange f from to a b pins gs)
  where
    abbrev p : ℕ
    p = (file_in a.cache.files f).pool

    abbrev q : ℕ
    q = (file_in b.cache.files f).pool

    abbrev pins_hit : Pins a.store a.cache f from to
    pins_hit = record {
      hits = x.hits;
      gaps = gs;
      tile = x.tile;
      mid = b.store;
      pins = pins;
      lies = x.lies;
      shares =
          x.shares;
    }

    pool_hit : q ≡ p
    pool_hit = ap (λ (fs : List CachedFile). (file_in fs f).pool) x.counted.files ∙ x.rooms.pools f

    pinned_hit : pinned_beside b.store (clean_held b.cache.files) q ≡ pinned_beside b.store (clean_held a.cache.files) p
    pinned_hit = ap (pinned_beside b.store (clean_held b.cache.files)) pool_hit
        ∙ ap (λ (l : List BufId). pinned_beside b.store l p) (ap clean_held x.counted.files ∙ x.rooms.clean)

    all_hit : length (pages_of b.store q) ≡ length (pages_of a.store p)
    all_hit = ap (λ n. length (pages_of b.store n)) pool_hit
        ∙ ap (λ (ps : List Pool). length (flat_map chunk_pages (pool_in ps p).chunks)) x.shares.pools

    pub has_hit : HasPages q (gap_pages gs) b → HasRoom a.store a.cache f from to
    has_hit h = record { pinned = pins_hit; fits = omega (arith, h, pinned_hit, all_hit) }

    pub lacks_hit : length (pages_of b.store q) < pinned_beside b.store (clean_held b.cache.files) q + gap_pages gs
        → LacksRoom a.store a.cache f from to
    lacks_hit h = record { pinned = pins_hit; lacks = omega (arith, h, pinned_hit, all_hit) }

leaves_met : (f from to : ℕ) (old new : Holding) (y : Refusal) → LeavesRange f from to old new y
    → HasRoom old.store old.cache f from to ⊎ SameExtents old.cache new.cache
leaves_met f from to old new y (inl (is, x)) = inr (record { each = x.same.extents })
leaves_met f from to old new y (inr x) =
    let u = x.undone in
    elim u.met [
      | inl has ↦ inl (has_hit f from to old x.hit x.pins x.gaps x.pinned has)
      | inr same ↦ inr (record {
        each = λ g.
            ap (λ (c : Cached). extents_in c.files g) u.cache ∙ ap (λ (h : Holding). extents_in h.cache.files g) same
            ∙ ap (λ (fs : List CachedFile). extents_in fs g) x.pinned.counted.files ∙ x.pinned.rooms.extents g;
      })
    ]

-- a refused read
pub refused_met : (f at n : ℕ) (disk : Disk) (old new : Holding) (y : Refusal) → RefusesRead f at n disk old new y
    → RoomToRead f at n disk old ⊎ SameExtents old.cache new.cache
refused_met f at n disk old new y x = elim (leaves_met f x.range.from x.range.to old new y x.leaves) [
  | inl has ↦ inl (record { range = x.range; room = has })
  | inr same ↦ inr same
]
