-- Connections of a system that are served in place, from readers and to writers.
use Rattle.std.specs.Prelude.{◌≡◌, ℕ, List, Option, Result, Ok, IfOk, OnErr}
use Rattle.iol_back.specs.Disk.{IfHonest}
use Rattle.iol_core.specs.Calls.Outside.{arrive}
use Rattle.iol_core.specs.Meaning.{Step}
use Rattle.iol_core.specs.declared.refusals.Refusal.{Refusal}
use Rattle.iol_hold.specs.Moves.{Stays}
use Rattle.iol_kernel.specs.FileCalls.{StepsBeside}
use Rattle.iol_kernel.specs.Prelude.{BringsIn, DrainsTo, RefusesArrival, RefusesDrain, TakesIn}
use Rattle.iol_pipe.specs.declared.arrive.Arrived.{Arrived}
use Rattle.iol_sock.specs.declared.drain_to.Drained.{Drained}
use Rattle.iol_system.specs.Machine.{SystemState, machine_of, tables_of}
use Rattle.iol_system.specs.Safe.{IsSafe}

-- These n bytes arrive. Over an honest store it is the copying machine's step; over any store it is that step except
-- for the bytes of files.
pub record Comes (c n : ℕ) (bytes : List ℕ) (old new : SystemState) : Type 0 where
  pub step : IfHonest old.disk (Step (arrive (machine_of old) c bytes) (machine_of old) (Ok n) (machine_of new))
  pub beside : StepsBeside (λ s. arrive s c bytes) old.kernel (Ok n) new.kernel

-- The bytes of one read arrive on connection c. The bytes that the reader had left, if they are known, were `left`, and
-- are now `after`. A refusal comes before the read, and over an honest store leaves the copying machine's state
-- unchanged.
pub record ServesReader {R : Type 0} (c max : ℕ) (old new : SystemState) (reader read_from : R)
    (left after : Option (List ℕ))
    (r : Result Arrived Refusal) : Type 0 where
  pub refuses : RefusesArrival c max old.kernel new.kernel reader read_from r
  pub brings : IfOk r (BringsIn c max after old.kernel new.kernel)
  pub read : IfOk r (λ a. TakesIn left after a.taken (λ bytes. Comes c a.taken bytes old new))
  pub err_machine : IfHonest old.disk (OnErr r (machine_of new ≡ machine_of old))
  pub disk : new.disk ≡ old.disk
  pub safe : IsSafe new
  pub stays : Stays old.kernel.store new.kernel.store

-- A writer takes some of the first bytes queued for sending on connection c. The bytes it had, if they are known, were
-- `held`, and are now `now`. A refusal changes nothing.
pub record ServesWriter {W : Type 0} (c max : ℕ) (old new : SystemState) (writer written_to : W)
    (held now : Option (List ℕ))
    (r : Result Drained Refusal) : Type 0 where
  pub refuses : RefusesDrain (tables_of old.kernel) c old new writer written_to r
  pub drains : IfOk r (DrainsTo c max held now old.kernel new.kernel)
  pub disk : new.disk ≡ old.disk
  pub safe : IsSafe new
  pub stays : Stays old.kernel.store new.kernel.store

-- Connection c is served by a reader. `left` gives the bytes that the reader has left, if they are known.
abbrev pub ServesFrom : {R : Type 0} → (left : R → Option (List ℕ)) → (reader after : R) → (c max : ℕ)
    → (old new : SystemState)
    → Result Arrived Refusal → Type 0
ServesFrom left reader after c max old new r = ServesReader c max old new reader after (left reader) (left after) r

-- Connection c is served to a writer. `held` gives the bytes that the writer has, if they are known.
abbrev pub ServesTo : {W : Type 0} → (held : W → Option (List ℕ)) → (writer after : W) → (c max : ℕ)
    → (old new : SystemState)
    → Result Drained Refusal → Type 0
ServesTo held writer after c max old new r = ServesWriter c max old new writer after (held writer) (held after) r
