-- The state of a cache of files.
use Rattle.std.specs.Prelude.{◌≡◌, ℕ, ◌+◌, ◌≤◌, ◌&&◌, not, if◌then◌else◌, List, [], flat_map, length, max}
use Rattle.std.specs.Prelude.{sum_by, Option, Some, None, Result, OnErr, OnOk, ◌==◌}
use Rattle.iol_core.specs.NumberedLists.{numbered_or}
use Rattle.iol_core.specs.Prelude.{with_numbered}
use Rattle.iol_core.specs.declared.numbers.BufId.{BufId}
use Rattle.iol_hold.specs.Texts.{bufs_of}
use Rattle.iol_hold.specs.declared.slices.Slice.{Slice}
use Rattle.iol_extent.specs.Extents.{Extent, begins_at, dirty_count, without_at}
use Rattle.iol_evict.specs.Order.{Ranking, evicted_at, is_at}
use Rattle.iol_evict.specs.declared.entry.Entry.{Entry}
use Rattle.iol_cache.specs.declared.files.CachedFile.{CachedFile}

-- The files by number, for each pool the order in which clean extents of its files are evicted, and for each page the
-- number of references by clean extents to the buffer that begins there.
pub record Cached : Type 0 where
  pub files : List CachedFile
  pub orders : List Ranking
  pub marks : List ℕ

abbrev pub no_file : CachedFile
no_file = record { pool = 0; extents = record { extents = []; room = 0 } }

abbrev pub no_order : Ranking
no_order = record { low = 0; entries = []; room = 0; kept = 0 }

-- files and pools are numbered from 1
unfoldable pub file_in : List CachedFile → (f : ℕ) → CachedFile
file_in fs f = numbered_or fs f no_file

unfoldable pub with_file : List CachedFile → (f : ℕ) → CachedFile → List CachedFile
with_file fs f x = with_numbered fs f x

unfoldable pub order_in : List Ranking → (p : ℕ) → Ranking
order_in os p = numbered_or os p no_order

unfoldable pub with_order : List Ranking → (p : ℕ) → Ranking → List Ranking
with_order os p x = with_numbered os p x

abbrev pub extents_in : List CachedFile → (f : ℕ) → List Extent
extents_in fs f = (file_in fs f).extents.extents

-- Slices and buffers of extents.

abbrev pub parts_in : Option Extent → List Slice
parts_in None = []
parts_in (Some e) = e.parts

-- the slices of the extent that begins at a place
abbrev pub parts_at : List CachedFile → (f at : ℕ) → List Slice
parts_at fs f at = parts_in (begins_at (extents_in fs f) at)

-- the slices of all these extents
abbrev pub all_parts : List Extent → List Slice
all_parts es = flat_map (λ e. e.parts) es

abbrev pub clean_parts : Extent → List Slice
clean_parts e = if e.dirty then [] else e.parts

abbrev pub clean_in : List Extent → List Slice
clean_in es = flat_map clean_parts es

-- the buffers that extents hold, once for each slice
unfoldable pub held : List CachedFile → List BufId
held fs = flat_map (λ f. bufs_of (all_parts f.extents.extents)) fs

-- the buffers that clean extents hold
unfoldable pub clean_held : List CachedFile → List BufId
clean_held fs = flat_map (λ f. bufs_of (clean_in f.extents.extents)) fs

-- Clean extents and the entries of an order.

abbrev pub begins_clean : (at : ℕ) → Extent → ℕ
begins_clean at e = if e.at == at && not e.dirty then 1 else 0

-- the number of clean extents that begin at a place
abbrev pub clean_at : (at : ℕ) → List Extent → ℕ
clean_at at es = sum_by (begins_clean at) es

abbrev pub entry_one : (f at : ℕ) → Entry → ℕ
entry_one f at e = if is_at e f at then 1 else 0

-- the number of entries of a place
abbrev pub entries_at : (f at : ℕ) → List Entry → ℕ
entries_at f at es = sum_by (entry_one f at) es

-- the number of clean extents of a file that begin at a place, if the file is of the pool
abbrev pub clean_of : List CachedFile → (p f at : ℕ) → ℕ
clean_of fs p f at = if (file_in fs f).pool == p then clean_at at (extents_in fs f) else 0

-- the entries of a pool's order are of the clean extents of its files
pub record AreRanked (fs : List CachedFile) (os : List Ranking) : Type 0 where
  pub each : (p f at : ℕ) → entries_at f at (order_in os p).entries ≡ clean_of fs p f at

-- Dirty extents. The order keeps a place for each.

-- the number of dirty extents of a file, if the file is of the pool
abbrev pub dirty_of : (p : ℕ) → CachedFile → ℕ
dirty_of p x = if x.pool == p then dirty_count x.extents.extents else 0

-- a pool's order keeps a place for each dirty extent of the pool's files
pub record AreReady (fs : List CachedFile) (os : List Ranking) : Type 0 where
  pub each : (p : ℕ) → (order_in os p).kept ≡ sum_by (dirty_of p) fs

-- the number of extents of all files, and of those that are dirty
abbrev pub extents_in_all : List CachedFile → ℕ
extents_in_all fs = sum_by (λ x. length x.extents.extents) fs

abbrev pub dirty_in_all : List CachedFile → ℕ
dirty_in_all fs = sum_by (λ x. dirty_count x.extents.extents) fs

-- Removal of an extent.

abbrev pub lacking : CachedFile → (at : ℕ) → CachedFile
lacking x at =
    record { pool = x.pool; extents = record { extents = without_at x.extents.extents at; room = x.extents.room + 1 } }

-- without the extent that begins at a place of a file
abbrev pub without_extent : List CachedFile → (f at : ℕ) → List CachedFile
without_extent fs f at = with_file fs f (lacking (file_in fs f) at)

-- a clean extent of a pool's file is evicted: L of the pool's order becomes its height
abbrev pub with_evicted : List Ranking → (p f at : ℕ) → List Ranking
with_evicted os p f at = with_order os p (evicted_at (order_in os p) f at)

-- a file of the pool, without extents
abbrev pub new_file : (pool : ℕ) → CachedFile
new_file p = record { pool = p; extents = record { extents = []; room = 0 } }

-- Empty orders were appended, if needed, up to a total of n. An error appends none.
pub record AddsOrders {A E : Type 0} (n : ℕ) (old new : List Ranking) (r : Result A E) : Type 0 where
  pub same : (p : ℕ) → order_in new p ≡ order_in old p
  pub enough : OnOk r (n ≤ length new)
  pub no_fewer : length old ≤ length new
  pub no_more : length new ≤ max n (length old)
  pub err : OnErr r (new ≡ old)
