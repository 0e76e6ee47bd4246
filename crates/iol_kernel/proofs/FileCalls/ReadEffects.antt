-- The effects of a read of a file on a kernel, from the contract of the cache of files.
use Rattle.std.proofs.Common.{◌≡◌, ◌∙◌, ◌⊎◌, ℕ, ◌+◌, ◌≤◌, List, [], ◌∷◌, ◌++◌, length, ap, refl, sym, subst, arith}
use Rattle.std.proofs.Common.{Some, None, true, inl, inr, length-append}
use Rattle.std.specs.Prelude.{Ok, Err}
use Rattle.iol_core.specs.State.{Domain}
use Rattle.iol_core.specs.Meaning.{first, WantOfRoomOrFault}
use Rattle.iol_core.specs.declared.limits.TheConstants.{MAX_FILE_BYTES}
use Rattle.iol_core.specs.declared.refusals.Refusal.{Refusal}
use Rattle.iol_core.specs.declared.refusals.Refusal.TheVariants as refusal
use Rattle.iol_core.specs.declared.refusals.Refusal.TheVariants.{Memory}
use Rattle.iol_back.specs.Disk.{Disk}
use Rattle.iol_extent.specs.Extents.{Extent}
use Rattle.iol_extent.specs.Spans.{AreInOrder}
use Rattle.iol_extent.specs.declared.spans.Span.{Span}
use Rattle.iol_hold.specs.Moves.{SameLists}
use Rattle.iol_hold.specs.Places.{byte_len}
use Rattle.iol_hold.specs.StoreState.{Stored}
use Rattle.iol_hold.specs.declared.slices.Slice.{Slice}
use Rattle.iol_hold.proofs.Releases.{frees_none}
use Rattle.iol_cache.specs.CacheState.{Cached, extents_in}
use Rattle.iol_cache.specs.Evictions.{Holding}
use Rattle.iol_cache.specs.KeptCover.{SameExtents}
use Rattle.iol_cache.specs.PageChanges.{FillsLowest}
use Rattle.iol_cache.specs.ReadResults.{FaultCounts, NoRoomToRead, ReadsFile, RefusesRead, RoomToRead, ReportsFault}
use Rattle.iol_cache.specs.ReadResults.{ReportsRoom}
use Rattle.iol_cache.specs.SharedBytes.{CountsBelow, places_over}
use Rattle.iol_cache.specs.Weave.{places_read}
use Rattle.iol_cache.proofs.Extents.KeptCover.{apart_of}
use Rattle.iol_cache.proofs.RangeReads.LackOfPages.{refused_met}
use Rattle.iol_cache.proofs.RangeReads.PageChanges.{fills_none}
use Rattle.iol_cache.proofs.RangeReads.SharedBytes.{length-places_over}
use Rattle.iol_kernel.specs.FileCalls.{holding_of}
use Rattle.iol_kernel.specs.FileReads.{CopiesFileAs, FileRead, IsBeforeRoom, IsOpenAt, LeavesAtRefusal, ReadsFileAs}
use Rattle.iol_kernel.specs.FileReads.{TakesFromFile, pool_read, read_tests}
use Rattle.iol_kernel.specs.KernelState.{KernelState, objects_of, IsSound, machine_of}
use Rattle.iol_kernel.proofs.FileCalls.FileReads.{numbered_here, position_short, untouched_iol_read}
use Rattle.iol_kernel.proofs.FileCalls.FileTests.{iol_read-first, refuses_iol_read}
use Rattle.iol_kernel.specs.KeptCover.{LacksPagesToRead}
use Rattle.iol_kernel.proofs.FileCalls.KeptCover.{keeps_same, read_unless, refused_unless}
use Rattle.iol_kernel.proofs.FileCalls.FileNames.{cache_sound}
use Rattle.iol_kernel.proofs.FileCalls.StoreSteps.{over}
use Rattle.iol_kernel.proofs.State.Uses.{all_few}

abbrev Domains : Type 0
Domains = List (Domain (List Slice))

-- The facts that a refusal gives of room and failures do not depend on the type of the result.

room_reported : (A B : Type 0) (has lacks : Type 0) (y : Refusal) → ReportsRoom {A = A} has lacks (Err y)
    → ReportsRoom {A = B} has lacks (Err y)
room_reported A B has lacks (refusal.NoRoom p) h = h
room_reported A B has lacks (refusal.Fault f) h = h
room_reported A B has lacks y h = h

counts_reported : (A B : Type 0) (old new : Disk) (y : Refusal) → FaultCounts {A = A} old new (Err y)
    → FaultCounts {A = B} old new (Err y)
counts_reported A B old new (refusal.Fault f) h = h
counts_reported A B old new y h = h

pub fault_reported : (A B : Type 0) (old new : Disk) (y : Refusal) → ReportsFault {A = A} old new (Err y)
    → ReportsFault {A = B} old new (Err y)
fault_reported A B old new y reported =
    record { honest = reported.honest; slots = reported.slots; counts = counts_reported A B old new y reported.counts }

-- each count is below 2^59
pub counts_few : (h : KernelState) → IsSound h → CountsBelow h.store 576460752303423488
counts_few h sound =
    record { each = λ b. omega (arith, sound.counted.each b, all_few b h.domains (objects_of h) sound.limits) }

-- a refusal before room is requested reports no lack of room and no fault
early_reported : (A : Type 0) (has lacks : Type 0) (disk : Disk) (y : Refusal) → IsBeforeRoom y
    → ReportsRoom {A = A} has lacks (Err y) × FaultCounts {A = A} disk disk (Err y)
early_reported A has lacks disk (refusal.NoRoom p) none = absurd none
early_reported A has lacks disk (refusal.Fault f) none = absurd none
early_reported A has lacks disk y before = (tt, refl)

-- a refusal that changed nothing
pub reads_nothing : {A : Type 0} (x : FileRead) (disk : Disk) (h k : KernelState) (y : Refusal) → k ≡ h → IsBeforeRoom y
    → ReadsFileAs {A = A} x disk h (Err y) disk k
reads_nothing {A} x disk h k y same before =
    let reported =
    early_reported A (RoomToRead x.file x.at x.count disk (holding_of h))
    (NoRoomToRead x.file x.at x.count disk (holding_of h)) disk y before in
    subst (λ (l : KernelState). ReadsFileAs {A = A} x disk h (Err y) disk l) (sym same) (record {
      keeps = keeps_same (pool_read h x) (LacksPagesToRead x.file x.at x.count disk (holding_of h)) h.cache h.cache
          refl;
      pages = fills_none (pool_read h x) (frees_none h.store h.store refl refl refl);
      lists = refl;
      room = reported.0;
      fault = record { honest = refl; slots = λ i. refl; counts = reported.1 };
      same = refl;
      refused = refl;
      leaves = inl (before, refl, refl);
    })

-- a refused read: there was room for the range, or all extents are unchanged
pub read_met : (x : FileRead) (disk after : Disk) (old new : KernelState) (y : Refusal)
    → LeavesAtRefusal x disk old after new y → RoomToRead x.file x.at x.count disk (holding_of old)
    ⊎ SameExtents old.cache new.cache
read_met x disk after old new y (inl (before, same, asked)) =
    inr (record { each = λ f. ap (λ (k : KernelState). extents_in k.cache.files f) same })
read_met x disk after old new y (inr (late, refused)) =
    refused_met x.file x.at x.count disk (holding_of old) (holding_of new) y refused

-- a copying read that changed nothing
pub copies_nothing : (x : FileRead) (disk : Disk) (h : KernelState) (y : Refusal) → IsBeforeRoom y
    → CopiesFileAs x disk h (Err y) disk h
copies_nothing x disk h y before = record {
  mid = h.store;
  reads = reads_nothing {A = List ℕ} x disk h h y refl before;
  gives = tt;
  early = inl (refl, refl);
  frees = frees_none h.store h.store refl refl refl;
  lists = refl;
}

length-read : (old new : List Extent) (at to : ℕ) (gs : List Span) → AreInOrder at to gs
    → length (places_read old new at to gs) + at ≡ to
length-read old new at to [] order = omega (arith, length-places_over old at to, order)
length-read old new at to (g ∷ gs) order =
    let A = places_over old at g.from in
    let B = places_over new g.from g.to in
    omega (
      arith,
      length-append (A ++ B) (places_read old new g.to to gs),
      length-append A B,
      length-places_over old at g.from,
      length-places_over new g.from g.to,
      length-read old new g.to to gs order.2,
      order.0,
      order.1,
    )

-- a read ends within the greatest length of a file
pub read_fits : {x : FileRead} {h : KernelState} {n : ℕ} {disk : Disk} {a c : Holding} {xs : List Slice} → IsOpenAt h x
    → ReadsFile x.file x.at n disk a c xs → x.at + byte_len xs ≤ MAX_FILE_BYTES
read_fits {x} {h} {n} {disk} {a} {c} {xs} held reads =
    let r = reads.reads in
    omega (
      arith,
      position_short held,
      ap length r.lies,
      length-read (extents_in a.cache.files x.file) (extents_in c.cache.files x.file) reads.range.from reads.range.to
          r.gaps r.pinned.tile.gaps,
      reads.range.begins,
      reads.range.stops,
      reads.range.ends.short,
    )

-- A read by reference that changed nothing: a test refused it, or it found no memory.

pub takes_nothing : {x : FileRead} {h : KernelState} → IsOpenAt h x → (disk : Disk) (y : Refusal)
    → first (read_tests (machine_of [] h) x.domain x.file x.mode true) ≡ Some y → IsBeforeRoom y
    → TakesFromFile x disk h (Err y) disk h
takes_nothing {x} {h} held disk y is before = record {
  serves = refuses_iol_read h h x.domain x.fd x.count y held.is.sound (iol_read-first held ∙ is) refl disk;
  reads = reads_nothing {A = ℕ} x disk h h y refl before;
  gives = tt;
}

pub takes_unmade : {x : FileRead} {h : KernelState} {ds : Domains} → IsOpenAt h x → (disk : Disk) → ds ≡ h.domains
    → first (read_tests (machine_of [] h) x.domain x.file x.mode true) ≡ None
    → TakesFromFile x disk h (Err Memory) disk (record h { domains = ds })
takes_unmade {x} {h} {ds} held disk kept passed =
    let same : ◌≡◌ {A = KernelState} (record h { domains = ds }) h =
    ap (λ (ys : Domains). record h { domains = ys }) kept in
    record {
      serves = untouched_iol_read held (record h { domains = ds }) Memory (iol_read-first held ∙ passed) tt same disk;
      reads = reads_nothing {A = ℕ} x disk h (record h { domains = ds }) Memory same tt;
      gives = tt;
    }

module _ {x : FileRead} {h : KernelState} (disk after : Disk) (t : Stored) (c : Cached) (held : IsOpenAt h x)
    (pages : FillsLowest (pool_read h x) h.store t) (lists : SameLists h.store t) where
  abbrev has : Type 0
  has = RoomToRead x.file x.at x.count disk (holding_of h)

  abbrev lacks : Type 0
  lacks = NoRoomToRead x.file x.at x.count disk (holding_of h)

  pub reads_refused : (A B : Type 0) (y : Refusal) (ds : Domains) → ds ≡ h.domains
      → RefusesRead x.file x.at x.count disk (holding_of h) (over t c) y → ReportsRoom {A = A} has lacks (Err y)
      → ReportsFault {A = A} disk after (Err y) → WantOfRoomOrFault (pool_read h x) x.file y
      → ReadsFileAs {A = B} x disk h (Err y) after (record h { store = t; domains = ds; cache = c })
  reads_refused A B y ds kept refused room fault late = record {
    keeps =
        refused_unless x.file x.at x.count disk (holding_of h) (over t c) y
        (apart_of {h = holding_of h} (cache_sound h held.is.sound)) refused;
    pages = pages;
    lists = lists;
    room = room_reported A B has lacks y room;
    fault = fault_reported A B disk after y fault;
    same = refl;
    refused = kept;
    leaves = inr (late, refused);
  }

  pub reads_done : {B : Type 0} (r : B) (xs : List Slice) (m : Stored) (ds : Domains)
      → ReadsFile x.file x.at x.count disk (holding_of h) (over m c) xs → has → after.failures ≡ disk.failures
      → after.honest ≡ disk.honest → (disk.honest ≡ true → after.slots ≡ disk.slots)
      → ReadsFileAs {A = B} x disk h (Ok r) after (record h { store = t; domains = ds; cache = c })
  reads_done r xs m ds reads room counts honest slots = record {
    keeps =
        read_unless x.file x.at x.count disk (holding_of h) (over m c) xs (numbered_here held)
        (apart_of {h = holding_of h} (cache_sound h held.is.sound)) reads;
    pages = pages;
    lists = lists;
    room = room;
    fault = record { honest = honest; slots = slots; counts = counts };
    same = refl;
    refused = tt;
    leaves = tt;
  }
