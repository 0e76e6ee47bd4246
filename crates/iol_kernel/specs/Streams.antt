-- The bytes that arrive from a reader and those that are drained to a writer, in terms of the copying machine.
use Rattle.std.specs.Prelude.{◌≡◌, ℕ, zero, suc, ◌-◌, ◌<◌, ◌≤◌, ◌==◌, min, Bool}
use Rattle.std.specs.Prelude.{List, [], ◌∷◌, length, take, Option, Some, Result, Ok, Err, IfOk, OnOk, IfErr, OnErr}
use Rattle.std.specs.Prelude.{IsTrue, IsFalse, ◌≢◌}
use Rattle.std.specs.Io.KnownBytes.{Appends, Consumes}
use Rattle.iol_core.specs.State.{State, conn_at}
use Rattle.iol_core.specs.Text.{Text, bytes_of}
use Rattle.iol_core.specs.Meaning.{◌when◌, WantOfRoom, first}
use Rattle.iol_core.specs.Calls.Outside.{arrive, transmit, lacks_conn}
use Rattle.iol_core.specs.declared.limits.TheConstants.{MAX_QUEUE_BYTES, PAGE_BYTES}
use Rattle.iol_core.specs.declared.refusals.Refusal.{Refusal}
use Rattle.iol_core.specs.declared.refusals.Refusal.TheVariants.{BadFd, BadRange, NoRoom, Memory}
use Rattle.iol_hold.specs.Moves.{Stays}
use Rattle.iol_hold.specs.Room.{has_room}
use Rattle.iol_pool.specs.Pools.{pool_in}
use Rattle.iol_pipe.specs.Arrivals.{IsOneRead}
use Rattle.iol_pipe.specs.declared.arrive.Arrived.{Arrived}
use Rattle.iol_sock.specs.Refusals.{IsPassed, IsRefused}
use Rattle.iol_sock.specs.declared.drain_to.Drained.{Drained}
use Rattle.iol_kernel.specs.Calls.{Arrives, Leaves, Steps}
use Rattle.iol_kernel.specs.KernelState.{KernelState, IsSound, machine_of}
use Rattle.iol_kernel.specs.QueueSlices.{ArrivesFew}
use Rattle.iol_kernel.specs.Room.{AfterRoom, IsSame, MayHaveEvicted, can_fit}

-- Arriving bytes.

-- at most max bytes are asked of a reader: refused as an arrival of one byte is
abbrev pub arrive_from_refusals : State → (c max : ℕ) → List (Option Refusal)
arrive_from_refusals s c max =
    (BadFd when lacks_conn s c) ∷
    (BadRange when (max == 0)) ∷
    (arrive s c (0 ∷ [])).refusals

-- One read passes the tests: its bytes are to be placed in this pool.
pub record MayBringIn (c max pool : ℕ) (h : KernelState) : Type 0 where
  pub passed : IsPassed (arrive_from_refusals (machine_of [] h) c max)
  pub there : IsFalse (lacks_conn (machine_of [] h) c)
  pub lands : (conn_at (machine_of [] h) c).pool ≡ pool
  pub opened : IsFalse (pool_in h.store.pools pool).closed

-- A read is refused by the first test that holds, and the refusal is neither NoRoom nor Memory.
pub record FailsToRead (c max : ℕ) (x : Refusal) (h : KernelState) : Type 0 where
  pub refused : first (arrive_from_refusals (machine_of [] h) c max) ≡ Some x
  pub roomy : (p : ℕ) → x ≢ NoRoom p
  pub memory : x ≢ Memory

-- A reader gave n of the bytes that it has left, if these are known, and P holds for these n bytes.
pub record TakesIn (left after : Option (List ℕ)) (n : ℕ) (P : List ℕ → Type 0) : Type 0 where
  pub bytes : List ℕ
  pub count : length bytes ≡ n
  pub given : Consumes left after bytes
  pub arrives : P bytes

-- the most bytes that one read asks for: the minimum of max, a page, and the free part of the incoming queue
abbrev pub most_asked : (max : ℕ) → (incoming : Text) → ℕ
most_asked max incoming = min (min max PAGE_BYTES) (MAX_QUEUE_BYTES - length incoming)

-- One read arrived on connection c, after which the reader has the bytes `after` left. Room was made for one byte, and
-- the bytes of the read are on the lowest page that was free then, in at most one slice. If the read gave no bytes, the
-- system represents the same machine state.
pub record BringsIn (c max : ℕ) (after : Option (List ℕ)) (old new : KernelState) (a : Arrived) : Type 0 where
  pub reported : IsOneRead (most_asked max (conn_at (machine_of [] old) c).incoming) after a
  pub made : AfterRoom (conn_at (machine_of [] old) c).pool 1 old (λ roomy. Arrives c a.taken roomy new)
  pub slices : ArrivesFew a.taken c old new
  pub none : a.taken ≡ 0 → IsSame old new

-- A read is refused as an arrival of one byte is: NoRoom only if there is no room for the byte, and success only if
-- there is.
pub record RefusesByte {A : Type 0} (s : State) (c max : ℕ) (has_room : Bool) (r : Result A Refusal) : Type 0 where
  pub passed : OnOk r (IsPassed (arrive_from_refusals s c max))
  pub refused : IfErr r (IsRefused (arrive_from_refusals s c max) (WantOfRoom (conn_at s c).pool))
  pub room : OnOk r (IsTrue has_room)
  pub no_room : (p : ℕ) → r ≡ Err (NoRoom p) → IsFalse has_room

-- A read is refused as an arrival of one byte is, before anything was read: at most clean extents were evicted by then.
-- Memory is returned only if the byte fits in the pool.
pub record RefusesArrival {A R : Type 0} (c max : ℕ) (old new : KernelState) (reader after : R)
    (r : Result A Refusal) : Type 0 where
  pub byte : RefusesByte (machine_of [] old) c max (can_fit old (conn_at (machine_of [] old) c).pool 1) r
  pub memory : r ≡ Err Memory → IsTrue (can_fit old (conn_at (machine_of [] old) c).pool 1)
  pub err : IfErr r (MayHaveEvicted (conn_at (machine_of [] old) c).pool 1 old new)
  pub err_reader : OnErr r (after ≡ reader)

-- One read arrives, of bytes that the reader has left, and no extent is evicted for them. If it gives no bytes, the
-- system represents the same machine state; a refusal changes nothing.
pub record TakesRead (c max : ℕ) (left after : Option (List ℕ)) (old : KernelState)
    (r : Result Arrived Refusal) (new : KernelState) : Type 0 where
  pub refuses : RefusesByte (machine_of [] old) c max (has_room old.store (conn_at (machine_of [] old) c).pool 1) r
  pub read : IfOk r (λ a. TakesIn left after a.taken
      (λ bytes. Steps (λ s. arrive s c bytes) old (Ok a.taken) new))
  pub made : IfOk r (λ a. Arrives c a.taken old new)
  pub slices : IfOk r (λ a. ArrivesFew a.taken c old new)
  pub reported : IfOk r (IsOneRead (most_asked max (conn_at (machine_of [] old) c).incoming) after)
  pub none : IfOk r (λ a. a.taken ≡ 0 → (stored : List (List ℕ))
      → machine_of stored new ≡ machine_of stored old)
  pub cache : new.cache ≡ old.cache
  pub err : OnErr r (new ≡ old)
  pub sound : IsSound new
  pub stays : Stays old.store new.store

-- Bytes sent.

-- the state after n bytes are sent: after `transmit` of n, or unchanged if n is 0
abbrev pub sent_on : (c n : ℕ) → State → State
sent_on c zero s = s
sent_on c (suc n) s = (transmit s c (suc n)).after

-- A writer was given the first bytes queued for sending on connection c, at most max. The bytes it accepted are written
-- and count as sent. They are all of these bytes, or fewer, and then the writer failed.
pub record DrainsTo (c max : ℕ) (held now : Option (List ℕ)) (old new : KernelState) (d : Drained) : Type 0 where
  pub most : d.taken ≤ min max (length (conn_at (machine_of [] old) c).outgoing)
  pub all : IsFalse d.failed → d.taken ≡ min max (length (conn_at (machine_of [] old) c).outgoing)
  pub fewer : IsTrue d.failed → d.taken < min max (length (conn_at (machine_of [] old) c).outgoing)
  pub written : Appends held now (take d.taken (bytes_of (conn_at (machine_of [] old) c).outgoing))
  pub left : Leaves (sent_on c d.taken) old new

-- Draining connection c is refused exactly when there is no such connection. A refusal leaves the writer and the system
-- unchanged.
pub record RefusesDrain {A S W : Type 0} (s : State) (c : ℕ) (old new : S) (writer after : W)
    (r : Result A Refusal) : Type 0 where
  pub passed : OnOk r (IsFalse (lacks_conn s c))
  pub refused : IfErr r (λ x. (x ≡ BadFd) × IsTrue (lacks_conn s c))
  pub err : OnErr r (new ≡ old)
  pub err_writer : OnErr r (after ≡ writer)
