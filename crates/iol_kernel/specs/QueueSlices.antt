-- Into how many slices reads and writes of queues divide their bytes.
use Rattle.std.specs.Prelude.{◌≡◌, ℕ, ◌+◌, ◌≤◌, ◌++◌, List, [], length, map, Option, Some, Result, OnOk}
use Rattle.iol_arena.specs.State.{pages_for}
use Rattle.iol_core.specs.Calls.Reads.{iol_read}
use Rattle.iol_core.specs.Calls.Writes.{iol_write}
use Rattle.iol_core.specs.declared.descriptors.Descriptor.{Descriptor}
use Rattle.iol_core.specs.declared.descriptors.Descriptor.TheVariants as on
use Rattle.iol_core.specs.declared.refusals.Refusal.{Refusal}
use Rattle.iol_desc.specs.Tables.{with_agg_in}
use Rattle.iol_hold.specs.Places.{byte_len, slice_places}
use Rattle.iol_hold.specs.declared.slices.Slice.{Slice}
use Rattle.iol_pipe.specs.Queue.{first_parts, fitting}
use Rattle.iol_sock.specs.Table.{conn_in}
use Rattle.iol_kernel.specs.Calls.{Attempts, CarriesOut}
use Rattle.iol_kernel.specs.KernelState.{KernelState, objects_of, queue_at, slices_in}
use Rattle.iol_kernel.specs.Views.{Objects}

-- the slices queued for reading by a descriptor
abbrev pub unread_slices : Objects (List Slice) → Option Descriptor → List Slice
unread_slices all (Some (on.ReadEnd p)) = (queue_at all.pipes p).queue
unread_slices all (Some (on.Connection c)) = (conn_in all.conns c).incoming
unread_slices all o = []

-- the slices written to a descriptor's queue and not yet taken
abbrev pub unsent_slices : Objects (List Slice) → Option Descriptor → List Slice
unsent_slices all (Some (on.WriteEnd p)) = (queue_at all.pipes p).queue
unsent_slices all (Some (on.Connection c)) = (conn_in all.conns c).outgoing
unsent_slices all o = []

-- Slices were taken off a queue: its first ones, of which only the last may have been cut. With those left they are at
-- most one more than before, and those left are no more than before.
pub record DividesFront (front old new : List Slice) : Type 0 where
  pub cut : map slice_places front ≡ first_parts (byte_len front) (map slice_places old)
  pub few : length front + length new ≤ length old + 1
  pub left : length new ≤ length old

-- A queue got as many of `count` new bytes as fit, at its end: at most one slice for each page that they need.
pub record GrowsFew (count : ℕ) (old new : List Slice) : Type 0 where
  pub slices : List Slice
  pub few : length slices ≤ pages_for (fitting old count)
  pub added : new ≡ old ++ slices

-- A queue got as many bytes of these slices as fit, at its end: whole slices, of which only the last may have been cut.
pub record GrowsShared (source old new : List Slice) : Type 0 where
  pub parts : map slice_places new
      ≡ map slice_places old ++ first_parts (fitting old (byte_len source)) (map slice_places source)

-- A domain's next aggregate has the slices that were taken off the queue that a descriptor is open on.
pub record TakesSlices (d : ℕ) (from : Option Descriptor) (old new : KernelState) : Type 0 where
  pub slices : List Slice
  pub added : new.domains ≡ with_agg_in old.domains d slices
  pub front : DividesFront slices (unread_slices (objects_of old) from) (unread_slices (objects_of new) from)

-- The slices of a domain's aggregate were written to the queue that a descriptor is open on.
abbrev pub QueuesAgg : (d a : ℕ) → Option Descriptor → (old new : KernelState) → Type 0
QueuesAgg d a to old new =
    GrowsShared (slices_in old.domains d a) (unsent_slices (objects_of old) to) (unsent_slices (objects_of new) to)

-- `count` bytes were written by copying to the queue that a descriptor is open on.
abbrev pub QueuesFew : (count : ℕ) → Option Descriptor → (old new : KernelState) → Type 0
QueuesFew count to old new = GrowsFew count (unsent_slices (objects_of old) to) (unsent_slices (objects_of new) to)

-- `count` bytes arrived on a connection.
abbrev pub ArrivesFew : (count c : ℕ) → (old new : KernelState) → Type 0
ArrivesFew count c old new = GrowsFew count (conn_in old.conns c).incoming (conn_in new.conns c).incoming

-- The front of a queue becomes a domain's next aggregate, if there is memory for it: the answer, and the slices.
pub record TakesNext {E : Type 0} (d fd n : ℕ) (from : Descriptor) (old : KernelState) (r : Result ℕ E)
    (new : KernelState) : Type 0 where
  pub attempts : Attempts (λ s. iol_read s d fd n) old r new
  pub slices : OnOk r (TakesSlices d (Some from) old new)

-- A queue is read by reference: the machine's step, and the slices of the new aggregate.
pub record ReadsQueue (d fd n : ℕ) (from : Descriptor) (old : KernelState) (r : Result ℕ Refusal)
    (new : KernelState) : Type 0 where
  pub carries : CarriesOut (λ s. iol_read s d fd n) old r new
  pub slices : OnOk r (TakesSlices d (Some from) old new)

-- An aggregate is written to a queue by reference: the machine's step, and the slices that the queue got.
pub record WritesQueue (d fd a : ℕ) (to : Descriptor) (old : KernelState) (r : Result ℕ Refusal)
    (new : KernelState) : Type 0 where
  pub carries : CarriesOut (λ s. iol_write s d fd a) old r new
  pub slices : OnOk r (QueuesAgg d a (Some to) old new)
