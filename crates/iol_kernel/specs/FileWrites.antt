-- The state that a write to a file leaves, in addition to its meaning.
use Rattle.std.specs.Prelude.{◌≡◌, ◌⊎◌, ℕ, ◌+◌, ◌<◌, ◌≤◌, List, [], length, slice_set, Option, Some, Result, Err, IfErr}
use Rattle.std.specs.Prelude.{OnErr, OnOk, ⊤, IsTrue, IsFalse, ◌≢◌}
use Rattle.iol_arena.specs.State.{pages_for}
use Rattle.iol_core.specs.Meaning.{WantOfRoom}
use Rattle.iol_core.specs.State.{Domain}
use Rattle.iol_core.specs.Text.{labelled}
use Rattle.iol_core.specs.Calls.Writes.{iol_write, write}
use Rattle.iol_core.specs.declared.descriptors.Mode.{Mode}
use Rattle.iol_core.specs.declared.descriptors.Descriptor.{Descriptor}
use Rattle.iol_core.specs.declared.descriptors.Descriptor.TheVariants as on
use Rattle.iol_core.specs.declared.refusals.Refusal.{Refusal}
use Rattle.iol_core.specs.declared.refusals.Refusal.TheVariants.{Memory, NoRoom}
use Rattle.iol_arena.specs.Pages.{MadeOn}
use Rattle.iol_back.specs.Disk.{Disk}
use Rattle.iol_hold.specs.Moves.{Moves, SameLists}
use Rattle.iol_hold.specs.Places.{byte_len}
use Rattle.iol_hold.specs.Pages.{KeepsPages}
use Rattle.iol_hold.specs.Releases.{FreesOnly}
use Rattle.iol_hold.specs.Room.{lowest_of, pages_of}
use Rattle.iol_hold.specs.StoreState.{Stored}
use Rattle.iol_hold.specs.Texts.{bufs_of, text_of}
use Rattle.iol_hold.specs.declared.slices.Slice.{Slice}
use Rattle.iol_cache.specs.CacheState.{clean_held, file_in}
use Rattle.iol_desc.specs.Tables.{fds_in, with_fds_in}
use Rattle.iol_cache.specs.Composition.{copied_pages}
use Rattle.iol_cache.specs.Evictions.{Holding}
use Rattle.iol_cache.specs.Overwrites.{LeavesAll, LiesDirty, OnlyMakesRoom, WritesFile}
use Rattle.iol_cache.specs.PageChanges.{FillsLowest}
use Rattle.iol_cache.specs.PinnedPages.{pinned_beside}
use Rattle.iol_kernel.specs.FileCalls.{Serves, holding_of}
use Rattle.iol_kernel.specs.Calls.{CarriesOut}
use Rattle.iol_kernel.specs.KeptCover.{KeepsBeside, LacksPages}
use Rattle.iol_kernel.specs.KernelState.{KernelState, slices_in}
use Rattle.iol_kernel.specs.Room.{AfterRoom, can_fit}
use Rattle.iol_kernel.specs.declared.open_file.OpenFile.{OpenFile}

-- the pool of the file in slot f
abbrev pub pool_of_file : KernelState → (f : ℕ) → ℕ
pool_of_file h f = (file_in h.cache.files f).pool

-- the pages of the file's pool that something other than clean extents holds, and those for the bytes that are copied
-- there
abbrev pub pages_to_write : KernelState → (f : ℕ) → List Slice → ℕ
pages_to_write h f source = pinned_beside h.store (clean_held h.cache.files) (pool_of_file h f)
    + copied_pages (pool_of_file h f) source

-- The state after a refused write. A refusal before room was made changed nothing. A late refusal at most evicted
-- extents, in the order of eviction, and the bytes placed are released. After NoRoom, and whenever the pages needed
-- cannot be had, no extent was evicted and no page was filled.
abbrev pub LeavesUnwritten : (f : ℕ) (source : List Slice) (old new : KernelState) → Refusal → Type 0
LeavesUnwritten f source old new x =
    (new ≡ old)
    ⊎ (WantOfRoom (pool_of_file old f) x
    × OnlyMakesRoom (pool_of_file old f) (copied_pages (pool_of_file old f) source) (holding_of old) (holding_of new)
    × ((p : ℕ) → x ≡ NoRoom p → LeavesAll (holding_of old) (holding_of new)))

-- In the tables one descriptor changed, which is open on the file: its position moved from `at` by `len` bytes.
pub record OnlyMoves (f at len : ℕ) (old new : List (Domain (List Slice))) : Type 0 where
  pub domain : ℕ
  pub fd : ℕ
  pub mode : Mode
  pub is : new ≡ with_fds_in old domain (slice_set (fds_in old domain) fd (Some (on.File f (at + len) mode)))

-- The bytes of the source are dirty in place of those of the file from `at` on: those of the file's pool at the same
-- places, the others as copies on the lowest pages that were free after room was made. Every other byte in memory keeps
-- its place, except that clean ones of the file's pool may have been evicted if the copies need more pages than were
-- free. NoRoom is returned only if the pages needed are more than the pool has, and success only if they are not. A
-- write of no bytes changes no pages and no files. Nothing else changed except the caller's descriptor.
pub record WritesOver {A : Type 0} (f at : ℕ) (source : List Slice) (old : KernelState) (r : Result A Refusal)
    (new : KernelState) : Type 0 where
  pub lies : OnOk r (LiesDirty f at source new.cache)
  pub over : 0 < byte_len source → OnOk r (WritesFile f at source (holding_of old) (holding_of new))
  pub nothing : byte_len source ≡ 0 → OnOk r (holding_of new ≡ holding_of old)
  pub moves : OnOk r (OnlyMoves f at (byte_len source) old.domains new.domains)
  pub beside : let p = pool_of_file old f in
      KeepsBeside f at (byte_len source) p (LacksPages old p (copied_pages p source)) old.cache new.cache
  pub room : OnOk r (pages_to_write old f source ≤ length (pages_of old.store (pool_of_file old f)))
  pub no_room : (p : ℕ) → r ≡ Err (NoRoom p)
      → length (pages_of old.store (pool_of_file old f)) < pages_to_write old f source
  pub pages : FillsLowest (pool_of_file old f) old.store new.store
  pub lists : SameLists old.store new.store
  pub same : new ≡ record old { store = new.store; domains = new.domains; cache = new.cache }
  pub refused : OnErr r (new.domains ≡ old.domains)
  pub leaves : IfErr r (LeavesUnwritten f source old new)

-- An aggregate is written over the bytes of the file that a descriptor is open on: the meaning, and the state after it.
pub record WritesAgg (d fd a f at : ℕ) (old : KernelState) (r : Result ℕ Refusal) (new : KernelState) : Type 0 where
  pub serves : (disk : Disk) → Serves (λ s. iol_write s d fd a) disk old r disk new
  pub over : WritesOver f at (slices_in old.domains d a) old r new

-- A write of an aggregate, by the descriptor's object.
abbrev pub WritesOn : (d fd a : ℕ) → Option Descriptor → (old : KernelState) → Result ℕ Refusal → (new : KernelState)
    → Type 0
WritesOn d fd a (Some (on.File f at mode)) old r new = WritesOver f at (slices_in old.domains d a) old r new
WritesOn d fd a _ old r new = CarriesOut (λ s. iol_write s d fd a) old r new

-- `count` bytes were written to a file from `at` on: they filled the lowest pages of the pool that were free after room
-- was made, and no others. Whatever the result, every other byte of files that was in memory keeps its place, except
-- that clean ones of the pool's files may have been evicted if more pages were needed than were free.
pub record PutsInFile {A : Type 0} (f at pool count : ℕ) (old : KernelState) (r : Result A Refusal)
    (new : KernelState) : Type 0 where
  pub fills :
      OnOk r (AfterRoom pool count old (λ roomy. KeepsPages roomy.store new.store (lowest_of roomy.store pool count)))
  pub beside : KeepsBeside f at count pool (LacksPages old pool (pages_for count)) old.cache new.cache

-- New bytes are on the lowest free pages of a pool, in one buffer per run of adjacent pages, as slices that have the
-- only references. The generation of each of these pages is incremented, and no other page, pool or list changed.
pub record PlacesNew (pool : ℕ) (bytes : List ℕ) (old placed : Stored) (slices : List Slice) : Type 0 where
  pub text : text_of placed slices ≡ labelled pool bytes
  pub made : MadeOn old.arena placed.arena (bufs_of slices) (lowest_of old pool (length bytes))
  pub moves : Moves old placed [] (bufs_of slices)
  pub pages : KeepsPages old placed (lowest_of old pool (length bytes))
  pub lists : SameLists old placed

-- the extents in memory of a kernel's files, over these pages
abbrev pub over_pages : Stored → KernelState → Holding
over_pages s h = record { store = s; cache = h.cache }

-- New bytes replaced those of a file from `at` on, dirty and as any write of their slices does; the slices were then
-- released. Otherwise only one descriptor's position changed.
pub record LaysOver (f at pool : ℕ) (bytes : List ℕ) (old new : KernelState) : Type 0 where
  pub slices : List Slice
  pub placed : Stored
  pub written : Stored
  pub places : PlacesNew pool bytes old.store placed slices
  pub over : 0 < length bytes → WritesFile f at slices (over_pages placed old) (over_pages written new)
  pub nothing : length bytes ≡ 0 → over_pages written new ≡ over_pages placed old
  pub lies : LiesDirty f at slices new.cache
  pub released : Moves written new.store (bufs_of slices) []
  pub frees : FreesOnly written new.store
  pub moves : OnlyMoves f at (length bytes) old.domains new.domains
  pub rest : new ≡ record old { store = new.store; cache = new.cache; domains = new.domains }

-- New bytes were placed and released again. No extent was evicted or added.
pub record GivesUpNew (pool : ℕ) (bytes : List ℕ) (old new : KernelState) : Type 0 where
  pub slices : List Slice
  pub placed : Stored
  pub left : Stored
  pub places : PlacesNew pool bytes old.store placed slices
  pub room : OnlyMakesRoom pool 0 (over_pages placed old) (over_pages left new)
  pub released : Moves left new.store (bufs_of slices) []
  pub frees : FreesOnly left new.store
  pub lists : SameLists left new.store
  pub rest : new ≡ record old { store = new.store; cache = new.cache }

-- A write of bytes that fit in the pool was refused for lack of memory: it at most evicted extents, in the order of
-- eviction, and the bytes placed are released.
pub record UnlaidRoomy (pool : ℕ) (bytes : List ℕ) (old new : KernelState) (x : Refusal) : Type 0 where
  pub memory : x ≡ Memory
  pub fits : IsTrue (can_fit old pool (length bytes))
  pub left : AfterRoom pool (length bytes) old (λ roomy. (new ≡ roomy) ⊎ GivesUpNew pool bytes roomy new)

-- The state after a refused write. A refusal before room was made, or NoRoom, changed nothing. A refusal for lack of
-- memory at most evicted extents, and only if the bytes fit.
abbrev pub LeavesUnlaid : (pool : ℕ) (bytes : List ℕ) (old new : KernelState) → Refusal → Type 0
LeavesUnlaid pool bytes old new x = (new ≡ old) ⊎ UnlaidRoomy pool bytes old new x

-- Room was made for new bytes, and they replaced those of a file; or the write was refused, and the file is unchanged.
pub record LaysInFile {A : Type 0} (f at pool : ℕ) (bytes : List ℕ) (old : KernelState) (r : Result A Refusal)
    (new : KernelState) : Type 0 where
  pub lays : OnOk r (AfterRoom pool (length bytes) old (λ roomy. LaysOver f at pool bytes roomy new))
  pub leaves : IfErr r (LeavesUnlaid pool bytes old new)

-- New bytes are written over those of a file that was found open and whose pool has room for them: the meaning, and the
-- places of these and of other bytes afterwards. The only refusal is Memory, and then the bytes placed are released.
pub record FillsFile (d fd : ℕ) (x : OpenFile) (pool : ℕ) (bytes : List ℕ) (old : KernelState) (r : Result ℕ Refusal)
    (new : KernelState) : Type 0 where
  pub serves : (disk : Disk) → Serves (λ s. write s d fd bytes) disk old r disk new
  pub roomy : (p : ℕ) → r ≢ Err (NoRoom p)
  pub late : IfErr r (WantOfRoom pool)
  pub fills : OnOk r (KeepsPages old.store new.store (lowest_of old.store pool (length bytes)))
  pub beside : KeepsBeside x.file x.at (length bytes) pool ⊥ old.cache new.cache
  pub lays : OnOk r (LaysOver x.file x.at pool bytes old new)
  pub leaves : IfErr r (λ y. (new ≡ old) ⊎ GivesUpNew pool bytes old new)

-- New bytes are written over those of a file that was found open, after clean extents of the pool's files were evicted:
-- the meaning, and the places of these and of other bytes afterwards. NoRoom is returned only if the bytes do not fit,
-- success and Memory only if they do. There is no other refusal.
pub record PutsOver (d fd : ℕ) (x : OpenFile) (pool : ℕ) (bytes : List ℕ) (old : KernelState) (r : Result ℕ Refusal)
    (new : KernelState) : Type 0 where
  pub serves : (disk : Disk) → Serves (λ s. write s d fd bytes) disk old r disk new
  pub room : OnOk r (IsTrue (can_fit old pool (length bytes)))
  pub no_room : (p : ℕ) → r ≡ Err (NoRoom p) → IsFalse (can_fit old pool (length bytes))
  pub memory : r ≡ Err Memory → IsTrue (can_fit old pool (length bytes))
  pub late : IfErr r (WantOfRoom pool)
  pub puts : PutsInFile x.file x.at pool (length bytes) old r new
  pub lays : LaysInFile x.file x.at pool bytes old r new

-- A write of these bytes by copying, if the descriptor is open on a file.
abbrev pub LaysOn : Option Descriptor → (pool : ℕ) (bytes : List ℕ) → (old : KernelState) → Result ℕ Refusal
    → (new : KernelState) → Type 0
LaysOn (Some (on.File f at mode)) pool bytes old r new = LaysInFile f at pool bytes old r new
LaysOn _ pool bytes old r new = ⊤

-- A write of `count` bytes by copying, if the descriptor is open on a file.
abbrev pub PutsOn : Option Descriptor → (pool count : ℕ) → (old : KernelState) → Result ℕ Refusal → (new : KernelState)
    → Type 0
PutsOn (Some (on.File f at mode)) pool count old r new = PutsInFile f at pool count old r new
PutsOn _ pool count old r new = ⊤
