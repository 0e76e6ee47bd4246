-- The effects of a write on a store and a cache over it.
use Rattle.std.specs.Prelude.{◌≡◌, ℕ, ◌≤◌, ◌^◌, List, ◌++◌, IsTrue, IsFalse}
use Rattle.iol_core.specs.NumberedLists.{is_numbered}
use Rattle.iol_core.specs.declared.limits.TheConstants.{MAX_FILE_BYTES}
use Rattle.iol_arena.specs.State.{page_count}
use Rattle.iol_pool.specs.Pools.{pool_in}
use Rattle.iol_hold.specs.Moves.{Covers, Moves, SameLists}
use Rattle.iol_hold.specs.Releases.{FreesOnly}
use Rattle.iol_hold.specs.StoreState.{AllReclaimed, Stored}
use Rattle.iol_hold.specs.Texts.{bufs_of}
use Rattle.iol_hold.specs.declared.slices.Slice.{Slice}
use Rattle.iol_evict.specs.Order.{Ranking}
use Rattle.iol_extent.specs.Extents.{Adds, Extent, ExtentMap, IsApart, unmet}
use Rattle.iol_extent.specs.declared.spans.Span.{Span}
use Rattle.iol_cache.specs.CacheState.{extents_in, file_in, held, order_in, with_file, with_order, all_parts}
use Rattle.iol_cache.specs.Cuts.{CutsAround}
use Rattle.iol_cache.specs.Evictions.{Holding}
use Rattle.iol_cache.specs.Marks.{HasMarksLeft}
use Rattle.iol_cache.specs.Replacement.{HasPlaces, Indexing, MayGo, Reindexes, indexing_in, put_some, reordered}
use Rattle.iol_cache.specs.SharedBytes.{CountsBelow}
use Rattle.iol_cache.specs.Sound.{IsLaid, IsSound}
use Rattle.iol_cache.specs.declared.write.cut.Replacement.{Replacement}

-- the slices of the parts on both sides of a range, and of the new bytes
abbrev pub parts_put : (left right e : Extent) → List Slice
parts_put left right e = left.parts ++ (right.parts ++ e.parts)

-- The parts on both sides of a range of file f, and an extent of new bytes, may replace the extents that it meets:
-- these may be removed, the new slices are held in addition to them and can be marked, and there is room for three
-- extents and their entries.
pub record MayReplace (f : ℕ) (range : Span) (put : Replacement) (s : Stored) (old : Indexing) : Type 0 where
  pub cuts : CutsAround old.extents.extents range.from range.to put.left put.right put.bytes
  pub stands : MayGo f s old
  pub beside : Covers s (bufs_of (all_parts old.extents.extents ++ parts_put put.left put.right put.bytes))
  pub few : HasMarksLeft old.marks (parts_put put.left put.right put.bytes)
  pub places : HasPlaces 3 old

-- The parts on both sides of a range of file f, and an extent of new bytes, replaced the extents that it met. The
-- order and the marks follow, and only those extents were released.
pub record Replaces (f : ℕ) (range : Span) (put : Replacement) (s t : Stored) (es fs : ExtentMap) (r q : Ranking)
    (marks new : List ℕ) : Type 0 where
  pub is : fs.extents ≡ put_some (put_some (put_some (unmet es.extents range.from range.to) put.left) put.right)
      put.bytes
  pub adds : Adds es.extents put.bytes fs.extents
  pub apart : IsApart 0 fs.extents
  pub ranks : q ≡ reordered r f es.extents range.from range.to put.left put.right put.bytes
  pub follows : Reindexes f es.extents fs.extents r q marks new
  pub moves : Moves s t (bufs_of (all_parts es.extents ++ parts_put put.left put.right put.bytes))
      (bufs_of (all_parts fs.extents))
  pub frees : FreesOnly s t
  pub lists : SameLists s t
  pub reclaims : AllReclaimed s → AllReclaimed t

-- The parts on both sides of a range of a file of a sound cache, and an extent of new bytes, may replace the extents
-- that it meets: the range ends within the greatest length of a file, the extent is in the file's pool, all are held
-- in addition to what the cache holds, few times, and there is room for three extents and their entries.
pub record MayPutOver (f : ℕ) (range : Span) (put : Replacement) (h : Holding) : Type 0 where
  pub sound : IsSound h.store h.cache
  pub file : IsTrue (is_numbered h.cache.files f)
  pub short : range.to ≤ MAX_FILE_BYTES
  pub cuts : CutsAround (extents_in h.cache.files f) range.from range.to put.left put.right put.bytes
  pub laid : IsLaid h.store (file_in h.cache.files f).pool put.bytes
  pub held : Covers h.store (held h.cache.files ++ bufs_of (parts_put put.left put.right put.bytes))
  pub few : CountsBelow h.store (2 ^ 61)
  pub places : HasPlaces 3 (indexing_in h.cache f)

-- The parts on both sides of a file's range, and an extent of new bytes, replaced the extents that it met.
pub record PutsOver (f : ℕ) (range : Span) (put : Replacement) (old new : Holding) : Type 0 where
  pub extents : ExtentMap
  pub order : Ranking
  pub is : extents.extents ≡ put_some (put_some (put_some
      (unmet (extents_in old.cache.files f) range.from range.to) put.left) put.right) put.bytes
  pub adds : Adds (extents_in old.cache.files f) put.bytes extents.extents
  pub apart : IsApart 0 extents.extents
  pub files : new.cache.files ≡ with_file old.cache.files f
      (record { pool = (file_in old.cache.files f).pool; extents = extents })
  pub orders : new.cache.orders ≡ with_order old.cache.orders (file_in old.cache.files f).pool order
  pub ranks : order ≡ reordered (order_in old.cache.orders (file_in old.cache.files f).pool) f
      (extents_in old.cache.files f)
      range.from range.to put.left put.right put.bytes
  pub follows : Reindexes f (extents_in old.cache.files f) extents.extents
      (order_in old.cache.orders (file_in old.cache.files f).pool) order old.cache.marks new.cache.marks
  pub moves : Moves old.store new.store
      (bufs_of (all_parts (extents_in old.cache.files f) ++ parts_put put.left put.right put.bytes))
      (bufs_of (all_parts extents.extents))
  pub frees : FreesOnly old.store new.store
  pub lists : SameLists old.store new.store
  pub reclaims : AllReclaimed old.store → AllReclaimed new.store

-- The extents of a file changed, and with them its order and the marks; slices held by the caller became parts of
-- extents.
pub record Changes (f : ℕ) (own : List Slice) (old new : Holding) : Type 0 where
  pub extents : ExtentMap
  pub order : Ranking
  pub apart : IsApart 0 extents.extents
  pub files : new.cache.files ≡ with_file old.cache.files f
      (record { pool = (file_in old.cache.files f).pool; extents = extents })
  pub orders : new.cache.orders ≡ with_order old.cache.orders (file_in old.cache.files f).pool order
  pub follows : Reindexes f (extents_in old.cache.files f) extents.extents
      (order_in old.cache.orders (file_in old.cache.files f).pool) order old.cache.marks new.cache.marks
  pub moves : Moves old.store new.store (bufs_of (all_parts (extents_in old.cache.files f) ++ own))
      (bufs_of (all_parts extents.extents))
  pub pages : page_count new.store.arena ≡ page_count old.store.arena
  pub pools : (p : ℕ) → IsFalse (pool_in old.store.pools p).closed
      → pool_in new.store.pools p ≡ pool_in old.store.pools p
