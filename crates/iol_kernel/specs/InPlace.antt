-- The calls that serve a connection in place, from a reader and to a writer.
use Rattle.std.specs.Prelude.{◌≡◌, ℕ, List, Option, Result, Ok, IfOk, OnErr}
use Rattle.iol_core.specs.Calls.Outside.{arrive}
use Rattle.iol_core.specs.declared.refusals.Refusal.{Refusal}
use Rattle.iol_back.specs.Disk.{Disk}
use Rattle.iol_hold.specs.Moves.{Stays}
use Rattle.iol_pipe.specs.declared.arrive.Arrived.{Arrived}
use Rattle.iol_sock.specs.declared.drain_to.Drained.{Drained}
use Rattle.iol_kernel.specs.Streams.{BringsIn, DrainsTo, RefusesArrival, RefusesDrain, TakesIn, TakesRead}
use Rattle.iol_kernel.specs.Kernel.{Serves, machine, state_of}
use Rattle.iol_kernel.specs.KernelState.{IsSound}
use Rattle.iol_kernel.specs.declared.kernel.Kernel.{Kernel}

-- One read of a reader arrives on connection c, at most max bytes. Clean extents may have been evicted for it. After a
-- refusal the reader is unchanged. `left` gives the bytes that a reader has left, if they are known. Every byte that
-- remains keeps its place.
pub record TakesFromReader {R : Type 0} (c max : ℕ) (left : R → Option (List ℕ)) (reader after : R) (old : Kernel)
    (r : Result Arrived Refusal) (new : Kernel) : Type 0 where
  pub refuses : RefusesArrival c max (state_of old) (state_of new) reader after r
  pub brings : IfOk r (BringsIn c max (left after) (state_of old) (state_of new))
  pub read : IfOk r (λ a. TakesIn (left reader) (left after) a.taken
      (λ bytes. (disk : Disk) → Serves (λ s. arrive s c bytes) disk old (Ok a.taken) disk new))
  pub sound : IsSound (state_of new)
  pub stays : Stays old.store new.store

-- One read of a reader arrives on connection c, at most max bytes, and no extent is evicted for it. After a refusal the
-- reader is unchanged.
pub record ReadsFromReader {R : Type 0} (c max : ℕ) (left : R → Option (List ℕ)) (reader after : R) (old : Kernel)
    (r : Result Arrived Refusal) (new : Kernel) : Type 0 where
  pub takes : TakesRead c max (left reader) (left after) (state_of old) r (state_of new)
  pub err_reader : OnErr r (after ≡ reader)

-- The bytes queued for sending on connection c are drained to a writer, at most max bytes, if there is such a
-- connection. `held` gives the bytes that a writer has, if they are known. Every byte that remains keeps its place.
pub record DrainsToWriter {W : Type 0} (c max : ℕ) (held : W → Option (List ℕ)) (writer after : W) (old : Kernel)
    (r : Result Drained Refusal) (new : Kernel) : Type 0 where
  pub refuses : RefusesDrain (machine old) c (state_of old) (state_of new) writer after r
  pub drains : IfOk r (DrainsTo c max (held writer) (held after) (state_of old) (state_of new))
  pub sound : IsSound (state_of new)
  pub stays : Stays old.store new.store

-- The bytes queued for sending on connection c are drained to a writer, at most max bytes.
abbrev pub LendsToWriter : {W : Type 0} → (c max : ℕ) (held : W → Option (List ℕ)) (writer after : W) (old new : Kernel)
    → Drained
    → Type 0
LendsToWriter c max held writer after old new d =
    DrainsTo c max (held writer) (held after) (state_of old) (state_of new) d
