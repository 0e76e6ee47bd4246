-- The effect of a read of a file, in addition to the machine's step: the places of its bytes, and the changes of pages
-- and of the cache.
use Rattle.std.specs.Prelude.{◌≡◌, ◌⊎◌, ℕ, ◌+◌, ◌-◌, ◌≤◌, ◌&&◌, Bool, not, min, List, [], ◌∷◌, length, take, drop}
use Rattle.std.specs.Prelude.{slice_set, Option, Some, None, Result, Ok, Err, IfOk, IfErr, OnErr, OnOk, if◌then◌else◌}
use Rattle.std.specs.Prelude.{⊤}
use Rattle.iol_core.specs.State as machine
use Rattle.iol_core.specs.State.{State, Domain, is_live, descriptor}
use Rattle.iol_core.specs.Meaning.{◌when◌, first}
use Rattle.iol_core.specs.Text.{bytes_of}
use Rattle.iol_core.specs.Calls.Aggregates.{too_many_aggs}
use Rattle.iol_core.specs.Calls.Descriptors.{denied_by}
use Rattle.iol_core.specs.Calls.Reads as calls
use Rattle.iol_core.specs.Prelude.{WantOfRoomOrFault}
use Rattle.iol_core.specs.declared.descriptors.Mode.{Mode}
use Rattle.iol_core.specs.declared.descriptors.Descriptor.{Descriptor}
use Rattle.iol_core.specs.declared.descriptors.Descriptor.TheVariants as on
use Rattle.iol_core.specs.declared.refusals.Refusal.{Refusal}
use Rattle.iol_core.specs.declared.refusals.Refusal.TheVariants.{NoRoom, Fault, TooMany, WrongMode}
use Rattle.iol_back.specs.Disk.{Disk}
use Rattle.iol_hold.specs.Moves.{Moves, SameLists}
use Rattle.iol_hold.specs.Places.{byte_len}
use Rattle.iol_hold.specs.Releases.{FreesOnly}
use Rattle.iol_hold.specs.StoreState.{Stored}
use Rattle.iol_hold.specs.Texts.{bufs_of, text_of}
use Rattle.iol_hold.specs.declared.slices.Slice.{Slice}
use Rattle.iol_desc.specs.Tables.{fds_in, with_agg_in, with_fds_in}
use Rattle.iol_cache.specs.CacheState.{Cached, file_in}
use Rattle.iol_cache.specs.Contents.{bytes_in_slot}
use Rattle.iol_cache.specs.PageChanges.{FillsLowest}
use Rattle.iol_cache.specs.Evictions.{Holding}
use Rattle.iol_cache.specs.ReadResults.{IsBacked, IsEnd, NoRoomToRead, ReadsFile, RefusesRead, RoomToRead, ReportsFault}
use Rattle.iol_cache.specs.ReadResults.{ReportsRoom}
use Rattle.iol_kernel.specs.FileCalls.{Serves, holding_of}
use Rattle.iol_kernel.specs.Calls.{CarriesOut}
use Rattle.iol_kernel.specs.KeptCover.{KeepsUnless, LacksPagesToRead}
use Rattle.iol_kernel.specs.KernelState.{KernelState, machine_of, read_of}
use Rattle.iol_kernel.specs.OpenDescriptors.{IsOpenOn}
use Rattle.iol_kernel.specs.Readings.{Reading}
use Rattle.iol_kernel.specs.declared.open_file.OpenFile.{OpenFile}

-- Of n bytes of a file from `at` on, `many` are within the file.
pub record IsReadable (disk : Disk) (c : Cached) (f at n many : ℕ) : Type 0 where
  pub end : ℕ
  pub ends : IsEnd disk c f end
  pub whole : (s : Stored) → IsBacked disk (record { store = s; cache = c })
      → end ≡ length (bytes_in_slot s disk.slots c.files f)
  pub fewer : many ≡ min n (end - at)

-- A domain's descriptor, which is open on a file at a position, and the number of bytes to read there.
pub record FileRead : Type 0 where
  pub domain : ℕ
  pub fd : ℕ
  pub file : ℕ
  pub at : ℕ
  pub mode : Mode
  pub count : ℕ

abbrev pub file_read : (d fd f at : ℕ) → Mode → (n : ℕ) → FileRead
file_read d fd f at mode n = record { domain = d; fd = fd; file = f; at = at; mode = mode; count = n }

-- a read of n bytes by a domain's descriptor, from the file it was found open on
abbrev pub read_at : (d fd : ℕ) → OpenFile → (n : ℕ) → FileRead
read_at d fd found n = file_read d fd found.file found.at found.mode n

-- the descriptor is open on the file, at the position
pub record IsOpenAt (h : KernelState) (x : FileRead) : Type 0 where
  pub is : IsOpenOn h x.domain x.fd (on.File x.file x.at x.mode)

-- neither NoRoom nor Fault
abbrev pub IsBeforeRoom : Refusal → Type 0
IsBeforeRoom (NoRoom p) = ⊥
IsBeforeRoom (Fault f) = ⊥
IsBeforeRoom y = ⊤

-- the tests that may refuse a read of a file before the store is asked: only a read by reference makes an aggregate
abbrev pub read_tests : State → (by f : ℕ) → Mode → (makes_agg : Bool) → List (Option Refusal)
read_tests s by f mode makes_agg =
    (WrongMode when not (calls.reads mode)) ∷
    (TooMany when (makes_agg && too_many_aggs s by 1 0)) ∷
    denied_by s by (Some (machine.file s f).pool) ∷ []

-- A read passed these tests, or was refused by the first that holds, before it asked for room.
pub record TestsRead {A : Type 0} (d f : ℕ) (mode : Mode) (makes_agg : Bool) (h : KernelState)
    (r : Result A Refusal) : Type 0 where
  pub passed : OnOk r ((g : Reading) → first (read_tests (read_of g h) d f mode makes_agg) ≡ None)
  pub refused : IfErr r (λ x. (g : Reading) → first (read_tests (read_of g h) d f mode makes_agg) ≡ Some x)
  pub early : IfErr r (λ x. IsBeforeRoom x)

-- the pool of the file's bytes
abbrev pub pool_read : KernelState → FileRead → ℕ
pool_read h x = (file_in h.cache.files x.file).pool

-- the domains with the position moved by `len` bytes
abbrev pub moved_on : List (Domain (List Slice)) → FileRead → (len : ℕ) → List (Domain (List Slice))
moved_on ds x len =
    with_fds_in ds x.domain (slice_set (fds_in ds x.domain) x.fd (Some (on.File x.file (x.at + len) x.mode)))

-- The bytes became the domain's next aggregate, and the position moved past them. Bytes that were in memory keep their
-- places; the others are in the new extents.
pub record GivesRead (x : FileRead) (disk : Disk) (old new : KernelState) : Type 0 where
  pub slices : List Slice
  pub read : ReadsFile x.file x.at x.count disk (holding_of old) (holding_of new) slices
  pub domains : new.domains ≡ with_agg_in (moved_on old.domains x (byte_len slices)) x.domain slices

-- the extents in memory of a kernel's files, over these pages
abbrev pub holding_over : Stored → KernelState → Holding
holding_over s h = record { store = s; cache = h.cache }

-- The state after a refused read. A read that was refused before it asked for room changed nothing. After a late
-- refusal hits may have been counted, and, if the pages needed could be had, clean extents may have been evicted to
-- make room, in the order of eviction. A refusal for lack of memory may come before any hit was shared.
abbrev pub LeavesAtRefusal : (x : FileRead) → Disk → (old : KernelState) → (after : Disk) → (new : KernelState)
    → Refusal → Type 0
LeavesAtRefusal x disk old after new y =
    (IsBeforeRoom y × (new ≡ old) × (after ≡ disk))
    ⊎ (WantOfRoomOrFault (pool_read old x) x.file y
    × RefusesRead x.file x.at x.count disk (holding_of old) (holding_of new) y)

-- A read of a file by reference. Every byte of a file that was in memory keeps its place, except that clean ones of the
-- file's pool may have been evicted if more pages were needed than were free. The lowest free pages of the file's pool
-- are filled, and no others. NoRoom is returned only if the pages pinned and needed do not fit the pool, and success
-- only if they do. Fault is returned exactly when one more failure of the store was counted. A refusal before that
-- changed nothing.
pub record ReadsFileAs {A : Type 0} (x : FileRead) (disk : Disk) (old : KernelState) (r : Result A Refusal)
    (after : Disk) (new : KernelState) : Type 0 where
  pub keeps : KeepsUnless (pool_read old x) (LacksPagesToRead x.file x.at x.count disk (holding_of old)) old.cache
      new.cache
  pub pages : FillsLowest (pool_read old x) old.store new.store
  pub lists : SameLists old.store new.store
  pub room : ReportsRoom (RoomToRead x.file x.at x.count disk (holding_of old))
      (NoRoomToRead x.file x.at x.count disk (holding_of old)) r
  pub fault : ReportsFault disk after r
  pub same : new ≡ record old { store = new.store; cache = new.cache; domains = new.domains }
  pub refused : OnErr r (new.domains ≡ old.domains)
  pub leaves : IfErr r (LeavesAtRefusal x disk old after new)

-- The result of a read by reference of an open file: the machine's step, the places of the bytes, and the new
-- aggregate.
pub record TakesFromFile (x : FileRead) (disk : Disk) (old : KernelState) (r : Result ℕ Refusal) (after : Disk)
    (new : KernelState) : Type 0 where
  pub serves : Serves (λ s. calls.iol_read s x.domain x.fd x.count) disk old r after new
  pub reads : ReadsFileAs x disk old r after new
  pub gives : OnOk r (GivesRead x disk old new)

-- The bytes read by reference over these pages were copied and released, and the position moved past them. The bytes
-- copied are those in memory then, whatever the store had returned before. Gaps have new clean extents.
pub record GivesCopy (x : FileRead) (disk : Disk) (old : KernelState) (mid : Stored) (new : KernelState)
    (bytes : List ℕ) : Type 0 where
  pub slices : List Slice
  pub copied : bytes ≡ bytes_of (text_of mid slices)
  pub read : ReadsFile x.file x.at x.count disk (holding_of old) (holding_over mid new) slices
  pub released : Moves mid new.store (bufs_of slices) []
  pub domains : new.domains ≡ moved_on old.domains x (byte_len slices)

-- A read of a file by copying: the effect of a read by reference whose slices were then released. A refusal before that
-- changed nothing.
pub record CopiesFileAs (x : FileRead) (disk : Disk) (old : KernelState) (r : Result (List ℕ) Refusal)
    (after : Disk) (new : KernelState) : Type 0 where
  pub mid : Stored
  pub reads : ReadsFileAs x disk old r after (record new { store = mid })
  pub gives : IfOk r (GivesCopy x disk old mid new)
  pub early : IfErr r (λ y. ((new ≡ old) × (after ≡ disk)) ⊎ WantOfRoomOrFault (pool_read old x) x.file y)
  pub frees : FreesOnly mid new.store
  pub lists : SameLists mid new.store

-- the result of a read by copying
pub record CopiesFromFile (x : FileRead) (disk : Disk) (old : KernelState) (r : Result (List ℕ) Refusal) (after : Disk)
    (new : KernelState) : Type 0 where
  pub serves : Serves (λ s. calls.read s x.domain x.fd x.count) disk old r after new
  pub copies : CopiesFileAs x disk old r after new
  pub short : IfOk r (λ bytes. length bytes ≤ x.count)

-- the first n bytes of a memory that a read filled, or the read's refusal
abbrev pub first_of : (filled : List ℕ) → Result ℕ Refusal → Result (List ℕ) Refusal
first_of filled (Ok n) = Ok (take n filled)
first_of filled (Err y) = Err y

-- The result of a read by copying into a memory. The bytes read are at its front, as many as it returns the number of,
-- and the rest of the memory is unchanged. A refusal leaves all of it unchanged.
pub record CopiesInto (x : FileRead) (memory filled : List ℕ) (disk : Disk) (old : KernelState) (r : Result ℕ Refusal)
    (after : Disk) (new : KernelState) : Type 0 where
  pub copies : CopiesFromFile x disk old (first_of filled r) after new
  pub count : IfOk r (λ n. n ≤ x.count)
  pub len : length filled ≡ length memory
  pub rest : IfOk r (λ n. drop n filled ≡ drop n memory)
  pub err : OnErr r (filled ≡ memory)

-- A read by reference, by the descriptor's object: for a file, as above; for anything else nothing is copied and the
-- store under the files is not asked.
abbrev pub ReadsOn : (d fd n : ℕ) → Option Descriptor → Disk → KernelState → Result ℕ Refusal → Disk → KernelState
    → Type 0
ReadsOn d fd n (Some (on.File f at mode)) disk old r after new =
    ReadsFileAs (file_read d fd f at mode n) disk old r after new
    × OnOk r (GivesRead (file_read d fd f at mode n) disk old new)
ReadsOn d fd n _ disk old r after new = CarriesOut (λ s. calls.iol_read s d fd n) old r new × (after ≡ disk)

-- the object that a live domain's descriptor is open on
abbrev pub held_by : State → (d fd : ℕ) → Option Descriptor
held_by s d fd = if is_live s d then descriptor s d fd else None

abbrev pub Reads : (d fd n : ℕ) → Disk → KernelState → Result ℕ Refusal → Disk → KernelState → Type 0
Reads d fd n disk old r after new = ReadsOn d fd n (held_by (machine_of [] old) d fd) disk old r after new
