-- If there is no room for an event, it evicts nothing when it is refused, whatever the refusal.
use Rattle.std.proofs.Common.{inl, inr, ◌≡◌, ◌⊎◌, ◌+◌, ◌<◌, ℕ, ◌≤◌, arith, true, false, List, Option, Some, length}
use Rattle.std.proofs.Common.{refl, ap, subst, sym}
use Rattle.iol_back.specs.Disk.{Disk}
use Rattle.iol_core.specs.State.{descriptor}
use Rattle.iol_core.specs.Calls.Writes.{fitting}
use Rattle.iol_core.specs.declared.descriptors.Descriptor.{Descriptor}
use Rattle.iol_core.specs.declared.descriptors.Descriptor.TheVariants as on
use Rattle.iol_core.specs.declared.descriptors.Mode.{Mode}
use Rattle.iol_core.specs.declared.events.Call.{Call}
use Rattle.iol_core.specs.declared.events.Call.TheVariants as call
use Rattle.iol_core.specs.declared.events.Event.{Event}
use Rattle.iol_core.specs.declared.events.Event.TheVariants as event
use Rattle.iol_core.specs.declared.events.Reply.{Reply}
use Rattle.iol_core.specs.declared.events.Reply.TheVariants as reply
use Rattle.iol_core.specs.declared.refusals.Refusal.{Refusal}
use Rattle.iol_hold.specs.Room.{pages_of}
use Rattle.iol_hold.specs.StoreState.{Stored}
use Rattle.iol_hold.specs.declared.slices.Slice.{Slice}
use Rattle.iol_cache.specs.ReadSteps.{HasRoom}
use Rattle.iol_cache.specs.KeptCover.{SameExtents}
use Rattle.iol_cache.specs.ReadResults.{LeavesRange, RoomToRead}
use Rattle.iol_cache.proofs.RangeReads.LackOfPages.{has_hit}
use Rattle.iol_kernel.specs.FileCalls.{holding_of}
use Rattle.iol_kernel.specs.FileReads.{FileRead, LeavesAtRefusal, file_read}
use Rattle.iol_kernel.specs.KernelState.{KernelState}
use Rattle.iol_kernel.specs.Room.{MayHaveEvicted, can_fit}
use Rattle.iol_kernel.specs.FileWrites.{LeavesUnlaid, LeavesUnwritten, pages_to_write, pool_of_file}
use Rattle.iol_system.specs.StoreCalls.{uses_cache}
use Rattle.iol_system.specs.Late.{CallLeaves, CopyLeaves, LeavesLate, PutLeaves, ReadLeaves, WriteLeaves}
use Rattle.iol_system.specs.InPlace.{IsInRange}
use Rattle.iol_system.specs.Laws.{EvictsNothing, IsRead, RefusedWithoutRoomEvictsNothing}
use Rattle.iol_system.specs.Machine.{SystemState, tables_of}
use Rattle.iol_system.proofs.LackOfRoom.{only_hit, only_reserved, same_cache}
use Rattle.iol_system.specs.Room.{CallHasRoom, HasRoomFor, HasRoomToRead, HasRoomToWrite, IsRefused}
use Rattle.iol_system.specs.Wants.{Fits, Wants, for_written}

-- From the state that a refusal leaves, for an event that reads some bytes of files.

module _ (Read : (f i : ℕ) → Type 0) (h k : KernelState) (x : Refusal) where
  abbrev Kept : Type 0
  Kept = EvictsNothing Read h.cache k.cache

  same_kept : k ≡ h → Kept
  same_kept same = same_cache Read h.cache k.cache (ap (λ (s : KernelState). s.cache) same)

  room_met : (pool n : ℕ) → MayHaveEvicted pool n h k x → (can_fit h pool n ≡ true) ⊎ Kept
  room_met pool n (inl same) = inr (same_kept same)
  room_met pool n (inr late) = inl late.fits

  laid_met : (pool : ℕ) (bytes : List ℕ) → LeavesUnlaid pool bytes h k x → (can_fit h pool (length bytes) ≡ true) ⊎ Kept
  laid_met pool bytes (inl same) = inr (same_kept same)
  laid_met pool bytes (inr late) = inl late.fits

  written_met : (f : ℕ) (xs : List Slice) → LeavesUnwritten f xs h k x
      → (pages_to_write h f xs ≤ length (pages_of h.store (pool_of_file h f))) ⊎ Kept
  written_met f xs (inl same) = inr (same_kept same)
  written_met f xs (inr late) =
      elim late.1.met [ inl has ↦ inl has | inr left ↦ inr (only_reserved Read h.cache k.cache left.same) ]

  range_met : (f from to : ℕ) → ((i : ℕ) → from ≤ i → i < to → Read f i)
      → LeavesRange f from to (holding_of h) (holding_of k) x → HasRoom h.store h.cache f from to ⊎ Kept
  range_met f from to read (inl late) = inr (only_reserved Read h.cache k.cache late.1.same)
  range_met f from to read (inr back) = elim back.undone.met [
    | inl has ↦ inl (has_hit f from to (holding_of h) back.hit back.pins back.gaps back.pinned has)
    | inr same ↦ inr (only_hit Read f from to (holding_of h) (holding_of k) x read back same)
  ]

  read_met : (y : FileRead) (disk after : Disk) → ((i : ℕ) → y.at ≤ i → i < y.at + y.count → Read y.file i)
      → LeavesAtRefusal y disk h after k x → RoomToRead y.file y.at y.count disk (holding_of h) ⊎ Kept
  read_met y disk after read (inl early) = inr (same_kept early.1)
  read_met y disk after read (inr late) =
      let range = late.1.range in
      elim (range_met y.file range.from range.to
      (λ i low high. read i (omega (arith, low, high, range.begins, range.stops))
      (omega (arith, high, range.stops))) late.1.leaves) [
        | inl has ↦ inl (record { range = range; room = has })
        | inr kept ↦ inr kept
      ]

-- For each object of a descriptor.

module _ (old new : SystemState) (x : Refusal) where
  abbrev Met : ((f i : ℕ) → Type 0) → Type 0 → Type 0
  Met Read has = has ⊎ EvictsNothing Read old.kernel.cache new.kernel.cache

  -- a read of a file, over these pages
  over_met : (by fd n f at : ℕ) (mode : Mode) (mid : Stored)
      → LeavesAtRefusal (file_read by fd f at mode n) old.disk old.kernel new.disk (record new.kernel { store = mid }) x
      → Met (IsInRange (Some (on.File f at mode)) n) (HasRoomToRead old (Some (on.File f at mode)) n)
  over_met by fd n f at mode mid leaves =
      read_met (IsInRange (Some (on.File f at mode)) n) old.kernel (record new.kernel { store = mid }) x
      (file_read by fd f at mode n) old.disk new.disk (λ i low high. (refl, low, high)) leaves

  read_on : (by fd n : ℕ) (o : Option Descriptor) → ReadLeaves by fd n old o (reply.Refused x) new
      → Met (IsInRange o n) (HasRoomToRead old o n)
  read_on by fd n (Some (on.File f at mode)) late = over_met by fd n f at mode new.kernel.store late.1
  read_on by fd n o late = inl tt

  copy_on : (by fd n : ℕ) (o : Option Descriptor) → CopyLeaves by fd n old o (reply.Refused x) new
      → Met (IsInRange o n) (HasRoomToRead old o n)
  copy_on by fd n (Some (on.File f at mode)) late = over_met by fd n f at mode late.mid late.leaves
  copy_on by fd n o late = inl tt

  write_on : (xs : List Slice) (o : Option Descriptor) → WriteLeaves old.kernel o xs (reply.Refused x) new.kernel
      → Met (λ f i. ⊥) (HasRoomToWrite old.kernel o xs)
  write_on xs (Some (on.File f at mode)) late = written_met (λ f i. ⊥) old.kernel new.kernel x f xs late.1
  write_on xs o late = inl tt

  put_on : (bytes : List ℕ) (w : Wants) (o : Option Descriptor)
      → w.count ≡ fitting (tables_of old.kernel) o (length bytes)
      → PutLeaves w bytes old.kernel o (reply.Refused x) new.kernel → Met (λ f i. ⊥) (Fits old.kernel w)
  put_on bytes w (Some (on.File f at mode)) taken late =
      subst (λ n. Met (λ f i. ⊥) (can_fit old.kernel w.pool n ≡ true)) (sym taken)
      (laid_met (λ f i. ⊥) old.kernel new.kernel x w.pool bytes late)
  put_on bytes w o taken late = room_met (λ f i. ⊥) old.kernel new.kernel x w.pool w.count late

  call_met : (by : ℕ) (c : Call) → CallLeaves old by c (reply.Refused x) new
      → (uses_cache (tables_of old.kernel) (event.Call by c) ≡ false → new.kernel ≡ old.kernel)
      → Met (IsRead (tables_of old.kernel) (event.Call by c)) (CallHasRoom old by c)
  call_met by (call.AggMake bytes) late unused = room_met (λ f i. ⊥) old.kernel new.kernel x _ _ late
  call_met by (call.PoolCreate chunks list) late unused =
      inr (same_kept (λ f i. ⊥) old.kernel new.kernel x (unused refl))
  call_met by (call.IolRead fd n) late unused = read_on by fd n _ late
  call_met by (call.IolWrite fd a) late unused = write_on _ _ late
  call_met by (call.Read fd n) late unused = copy_on by fd n _ late
  call_met by (call.Write fd bytes) late unused =
      put_on bytes (for_written old.kernel by fd bytes) (descriptor (tables_of old.kernel) by fd) refl late
  call_met by c late unused = inl tt

  refusal_met : (e : Event) → LeavesLate old e (reply.Refused x) new
      → (uses_cache (tables_of old.kernel) e ≡ false → new.kernel ≡ old.kernel)
      → Met (IsRead (tables_of old.kernel) e) (HasRoomFor old e)
  refusal_met (event.Call by c) late unused = call_met by c late unused
  refusal_met (event.Arrive c bytes) late unused = room_met (λ f i. ⊥) old.kernel new.kernel x _ _ late
  refusal_met e late unused = inl tt

pub event_met : (old new : SystemState) (e : Event) (r : Reply) → LeavesLate old e r new
    → (uses_cache (tables_of old.kernel) e ≡ false → IsRefused r → new.kernel ≡ old.kernel) → IsRefused r
    → HasRoomFor old e ⊎ EvictsNothing (IsRead (tables_of old.kernel) e) old.kernel.cache new.kernel.cache
event_met old new e (reply.Refused x) late unused is = refusal_met old new x e late (λ not'. unused not' tt)
event_met old new e r late unused is = absurd is

-- so the extents of every file are unchanged, or there is room
pub extents_met : (old new : SystemState) (e : Event) (r : Reply) → LeavesLate old e r new
    → (uses_cache (tables_of old.kernel) e ≡ false → IsRefused r → new.kernel ≡ old.kernel) → IsRefused r
    → HasRoomFor old e ⊎ SameExtents old.kernel.cache new.kernel.cache
extents_met old new e r late unused is =
    elim (event_met old new e r late unused is) [ inl has ↦ inl has | inr kept ↦ inr (record { each = kept.extents }) ]

-- from the promises of the event
pub refused_evicts : RefusedWithoutRoomEvictsNothing
refused_evicts old new e r x is =
    event_met old new e r x.late (λ unused was. ap (λ (s : SystemState). s.kernel) (x.refused unused was)) is
