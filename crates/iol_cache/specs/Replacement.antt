-- The replacement of a range of a file: the extents, their entries in the order, and their marks.
use Rattle.std.specs.Prelude.{◌≡◌, ℕ, ◌+◌, ◌<◌, ◌≤◌, ◌^◌, ◌==◌, max, if◌then◌else◌, List, [], ◌∷◌, length, slice_index}
use Rattle.std.specs.Prelude.{Option, Some, None, IsSome, ◌≢◌}
use Rattle.std.specs.List.{filter}
use Rattle.iol_arena.specs.Prelude.{page_count}
use Rattle.iol_evict.specs.Order.{Ranking, entered, left_at, with_one_given_back, with_one_kept}
use Rattle.iol_extent.specs.Extents.{ExtentMap, put_in, dirty_count}
use Rattle.iol_extent.specs.Prelude.{Adds, Extent, IsApart, IsGap, begins_at, end_of, last_end, meets, unmet}
use Rattle.iol_extent.specs.Prelude.{without_at}
use Rattle.iol_hold.specs.Prelude.{Covers, FreesOnly, Moves, SameLists}
use Rattle.iol_hold.specs.Places.{byte_len}
use Rattle.iol_hold.specs.StoreState.{AllReclaimed, Stored}
use Rattle.iol_hold.specs.Texts.{AllReadable, bufs_of}
use Rattle.iol_cache.specs.declared.files.CachedFile.{CachedFile}
use Rattle.iol_cache.specs.CacheState.{Cached, all_parts, clean_in, entries_at, file_in, order_in, parts_in}
use Rattle.iol_cache.specs.Marks.{AreWithin, HasMarksLeft, at_page}
use Rattle.iol_cache.specs.RangeReads.{RanksFile}

-- The extents of file f changed, and the entries of the file in the order and among the marks. L is unchanged.
pub record Reindexes (f : ℕ) (es fs : List Extent) (r t : Ranking) (marks new : List ℕ) : Type 0 where
  pub ranked : RanksFile r f es → RanksFile t f fs
  pub others : (g b : ℕ) → g ≢ f → entries_at g b t.entries ≡ entries_at g b r.entries
  pub low : t.low ≡ r.low
  pub kept : t.kept + dirty_count es ≡ r.kept + dirty_count fs
  pub each : (p : ℕ) → slice_index new p + at_page p (bufs_of (clean_in es)) ≡ slice_index marks p
      + at_page p (bufs_of (clean_in fs))
  pub long : length new ≡ length marks

-- the marks count these clean extents at least
pub record HaveClean (marks : List ℕ) (es : List Extent) : Type 0 where
  pub each : (p : ℕ) → at_page p (bufs_of (clean_in es)) ≤ slice_index marks p

-- the order keeps a place for each of these extents that is dirty
pub record IsReady (r : Ranking) (es : List Extent) : Type 0 where
  pub enough : dirty_count es ≤ r.kept

-- The extents of file f are apart; the order has the clean ones and a place for each dirty one, and the marks count
-- them.
pub record IsIndexed (f : ℕ) (es : List Extent) (r : Ranking) (marks : List ℕ) : Type 0 where
  pub apart : IsApart 0 es
  pub ranked : RanksFile r f es
  pub ready : IsReady r es
  pub marked : HaveClean marks es

-- with one extent more, if it has a byte
abbrev pub put_some : List Extent → Extent → List Extent
put_some es e = if byte_len e.parts == 0 then es else put_in es e

-- The order when extents of file f are removed and put in.

-- a clean extent leaves it; the place kept for a dirty one is given back
abbrev pub forgotten : Ranking → (f : ℕ) → Extent → Ranking
forgotten r f e = if e.dirty then with_one_given_back r else left_at r f e.at

-- the same for an extent that may be absent
abbrev pub forgotten_at : Ranking → (f : ℕ) → Option Extent → Ranking
forgotten_at r f None = r
forgotten_at r f (Some e) = forgotten r f e

abbrev pub all_forgotten : Ranking → (f : ℕ) → List Extent → Ranking
all_forgotten r f [] = r
all_forgotten r f (e ∷ es) = all_forgotten (forgotten r f e) f es

-- a clean extent enters it; for a dirty one a place is kept; one without bytes is not put in
abbrev pub remembered : Ranking → (f : ℕ) → Extent → Ranking
remembered r f e =
    if byte_len e.parts == 0 then r else if e.dirty then with_one_kept r else entered r f e.at (byte_len e.parts) 1

-- the extents that a range meets are removed, and the parts on both sides of it and the new bytes are put in
abbrev pub reordered : Ranking → (f : ℕ) → List Extent → (from to : ℕ) → (left right e : Extent) → Ranking
reordered r f es from to left right e =
    remembered (remembered (remembered (all_forgotten r f (filter (meets from to) es)) f left) f right) f e

-- The extents of a file, and with them the order and the marks, when some are removed and others are put in.

-- the extents of a file, the order of its pool, and the marks of pages
pub record Indexing : Type 0 where
  pub extents : ExtentMap
  pub order : Ranking
  pub marks : List ℕ

abbrev pub indexing_of : ExtentMap → Ranking → (marks : List ℕ) → Indexing
indexing_of es r marks = record { extents = es; order = r; marks = marks }

-- of a file of a cache
abbrev pub indexing_in : Cached → (f : ℕ) → Indexing
indexing_in c f =
    let x : CachedFile = file_in c.files f in
    indexing_of x.extents (order_in c.orders x.pool) c.marks

-- there is room for n more extents and their entries
pub record HasPlaces (n : ℕ) (old : Indexing) : Type 0 where
  pub extents : n ≤ old.extents.room
  pub entries : n ≤ old.order.room

-- an extent of file f begins at a place, and may leave the order and the marks
pub record MayForget (f at : ℕ) (old : Indexing) : Type 0 where
  pub begins : IsSome (begins_at old.extents.extents at)
  pub indexed : IsIndexed f old.extents.extents old.order old.marks
  pub within : AreWithin (length old.marks) (parts_in (begins_at old.extents.extents at))

-- The extent of file f that begins at a place left the order and the marks, or the place that was kept for it was given
-- back. The order has no less room.
pub record Forgets (f at : ℕ) (es : List Extent) (r t : Ranking) (marks new : List ℕ) : Type 0 where
  pub follows : Reindexes f es (without_at es at) r t marks new
  pub order : t ≡ forgotten_at r f (begins_at es at)
  pub room : r.room ≤ t.room

-- Extents of file f may be removed: they are indexed, each page has a mark, and their slices are held and can be
-- read.
pub record MayGo (f : ℕ) (s : Stored) (old : Indexing) : Type 0 where
  pub indexed : IsIndexed f old.extents.extents old.order old.marks
  pub pages : length old.marks ≡ page_count s.arena
  pub held : Covers s (bufs_of (all_parts old.extents.extents))
  pub readable : AllReadable s (all_parts old.extents.extents)

-- Some extents of file f were removed, or none. Their references were released, and the order and the marks follow.
-- There is no less room, and the remaining extents may be removed, too.
pub record LetsGo (f : ℕ) (s t : Stored) (old new : Indexing) : Type 0 where
  pub room : old.extents.room ≤ new.extents.room
  pub order_room : old.order.room ≤ new.order.room
  pub follows : Reindexes f old.extents.extents new.extents.extents old.order new.order old.marks new.marks
  pub moves : Moves s t (bufs_of (all_parts old.extents.extents)) (bufs_of (all_parts new.extents.extents))
  pub frees : FreesOnly s t
  pub lists : SameLists s t
  pub reclaims : AllReclaimed s → AllReclaimed t
  pub left : MayGo f t new

-- the extent of file f that begins at a place was removed
pub record TakesOut (f at : ℕ) (s t : Stored) (es fs : ExtentMap) (r q : Ranking) (marks new : List ℕ) : Type 0 where
  pub extents : fs.extents ≡ without_at es.extents at
  pub order : q ≡ forgotten_at r f (begins_at es.extents at)
  pub gone : LetsGo f s t (indexing_of es r marks) (indexing_of fs q new)

-- the extents of file f that have bytes of a range were removed
pub record ClearsRange (f from to : ℕ) (s t : Stored) (es fs : ExtentMap) (r q : Ranking) (marks new : List ℕ) :
    Type 0 where
  pub extents : fs.extents ≡ unmet es.extents from to
  pub order : q ≡ all_forgotten r f (filter (meets from to) es.extents)
  pub gone : LetsGo f s t (indexing_of es r marks) (indexing_of fs q new)

-- An extent may be put into file f, if it has a byte: its range is a gap, there is room for it and its entry, and its
-- slices can be marked.
pub record MayCome (f : ℕ) (e : Extent) (old : Indexing) : Type 0 where
  pub fits : 0 < byte_len e.parts → end_of e < 2 ^ 32
  pub gap : 0 < byte_len e.parts → IsGap old.extents.extents e.at (end_of e)
  pub indexed : IsIndexed f old.extents.extents old.order old.marks
  pub places : HasPlaces 1 old
  pub within : AreWithin (length old.marks) e.parts
  pub few : HasMarksLeft old.marks e.parts

-- An extent was put in, if it has a byte, and all other cells are unchanged. There is room for at most one extent
-- less.
pub record ComesIn (e : Extent) (old new : ExtentMap) : Type 0 where
  pub extents : new.extents ≡ put_some old.extents e
  pub adds : Adds old.extents e new.extents
  pub apart : IsApart 0 new.extents
  pub ends : 0 < byte_len e.parts → last_end new.extents ≡ max (end_of e) (last_end old.extents)
  pub room : old.room ≤ new.room + 1

-- The order and the marks of file f follow an extent that is put in, if it has a byte. There is room for at most one
-- entry less.
pub record Remembers (f : ℕ) (e : Extent) (old new : Indexing) : Type 0 where
  pub follows : Reindexes f old.extents.extents new.extents.extents old.order new.order old.marks new.marks
  pub order : new.order ≡ remembered old.order f e
  pub room : old.order.room ≤ new.order.room + 1

-- an extent was put into file f, if it has a byte, and the order and the marks follow
pub record PutsIn (f : ℕ) (e : Extent) (es fs : ExtentMap) (r q : Ranking) (marks new : List ℕ) : Type 0 where
  pub comes : ComesIn e es fs
  pub remembers : Remembers f e (indexing_of es r marks) (indexing_of fs q new)
