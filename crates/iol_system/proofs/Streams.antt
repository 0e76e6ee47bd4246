-- Serving a connection in place keeps a system safe: each domain may still read all its bytes, and files are unchanged.
use Rattle.std.proofs.Common.{◌≡◌, ℕ, zero, suc, drop, List, [], refl, sym, ap, subst, Option, inl, inr}
use Rattle.std.specs.Prelude.{Result, Ok, Err, IfOk, IfErr, OnErr}
use Rattle.std.proofs.lemmas.Result.{on_err_weaker}
use Rattle.iol_back.specs.Disk.{Disk, IfHonest}
use Rattle.iol_core.specs.Access.{HasAccess}
use Rattle.iol_core.specs.Positions.{ArePlaced}
use Rattle.iol_core.specs.Calls.Outside as outside
use Rattle.iol_core.specs.Run.{meaning, outcome}
use Rattle.iol_core.specs.State.{State, Connection, conn_at, content, domain, with_conn}
use Rattle.iol_core.proofs.KeptAccess.{access_conn}
use Rattle.iol_core.proofs.Positions.{placed_step}
use Rattle.iol_core.specs.declared.events.Event.TheVariants as event
use Rattle.iol_core.specs.declared.events.Reply.TheVariants as reply
use Rattle.iol_core.specs.declared.refusals.Refusal.{Refusal}
use Rattle.iol_sock.specs.declared.drain_to.Drained.{Drained}
use Rattle.iol_pipe.specs.declared.arrive.Arrived.{Arrived}
use Rattle.iol_kernel.specs.FileCalls.{Serves, StepsBeside}
use Rattle.iol_kernel.specs.Streams.{DrainsTo, RefusesDrain, TakesIn, sent_on}
use Rattle.iol_kernel.specs.KernelState as held
use Rattle.iol_kernel.specs.KernelState.{KernelState, IsSound}
use Rattle.iol_kernel.specs.Room.{MayHaveEvicted, MakesRoom}
use Rattle.iol_kernel.proofs.State.CacheUntouched.{backed_stays}
use Rattle.iol_system.specs.Machine.{machine_of, system_of, tables_of}
use Rattle.iol_system.specs.Safe.{IsSafe}
use Rattle.iol_system.specs.Streams.{Comes}
use Rattle.iol_system.proofs.Beside.{access_beside}

-- Bytes received.

-- the bytes that the kernel took, as a step of the event
served_beside : (h k : KernelState) (c n : ℕ) (bytes : List ℕ) → StepsBeside (λ s. outside.arrive s c bytes) h (Ok n) k
    → StepsBeside (λ s. meaning s (event.Arrive c bytes)) h (outcome (reply.Count n)) k
served_beside h k c n bytes x =
    record { before = x.before; after = x.after; step = (x.step.0, ap reply.Count x.step.1, x.step.2) }

came_safe : (h k : KernelState) (disk : Disk) (c n : ℕ) (bytes : List ℕ) → IsSafe (system_of h disk)
    → Serves (λ s. outside.arrive s c bytes) disk h (Ok n) disk k → IsSafe (system_of k disk)
came_safe h k disk c n bytes safe x = record {
  sound = x.sound;
  access =
      access_beside h k (event.Arrive c bytes) (reply.Count n) disk.slots disk.slots
      (served_beside h k c n bytes x.beside) safe.access;
  backed = λ honest. x.backed (safe.backed honest);
  placed = λ honest. (let s = x.step (safe.backed honest) (safe.placed honest) in
      placed_step (held.machine_of disk.slots h) (held.machine_of disk.slots k) (event.Arrive c bytes) (reply.Count n)
      (safe.placed honest) (s.0, ap reply.Count s.1, s.2));
}

-- room was made, and no bytes arrived
roomy_safe : (h k : KernelState) (disk : Disk) (pool pages : ℕ) → IsSafe (system_of h disk) → MakesRoom pool pages h k
    → IsSafe (system_of k disk)
roomy_safe h k disk pool pages safe room = record {
  sound = room.sound;
  access =
      access_beside h k event.DropClean reply.Done disk.slots disk.slots
      (record { before = []; after = []; step = (refl, refl, room.same.beside []) }) safe.access;
  backed = λ honest. room.same.backed disk (safe.backed honest);
  placed = λ honest. subst ArePlaced (sym (room.same.files disk (safe.backed honest))) (safe.placed honest);
}

pub arrived_safe : (h k : KernelState) (disk : Disk) (c pool n : ℕ) (left after : Option (List ℕ))
    (r : Result Arrived Refusal) → IsSafe (system_of h disk)
    → IfOk r
    (λ a. TakesIn left after a.taken (λ bytes. (disk : Disk)
    → Serves (λ s. outside.arrive s c bytes) disk h (Ok a.taken) disk k)) → IfErr r (MayHaveEvicted pool n h k)
    → IsSafe (system_of k disk)
arrived_safe h k disk c pool n left after (Ok a) safe read err =
    came_safe h k disk c a.taken read.bytes safe (read.arrives disk)
arrived_safe h k disk c pool n left after (Err x) safe read (inl same) =
    subst (λ (l : KernelState). IsSafe (system_of l disk)) (sym same) safe
arrived_safe h k disk c pool n left after (Err x) safe read (inr late) = roomy_safe h k disk pool _ safe late.room

pub arrived_comes : (h k : KernelState) (disk : Disk) (c : ℕ) (left after : Option (List ℕ))
    (r : Result Arrived Refusal) → IsSafe (system_of h disk)
    → IfOk r
    (λ a. TakesIn left after a.taken (λ bytes. (disk : Disk)
    → Serves (λ s. outside.arrive s c bytes) disk h (Ok a.taken) disk k))
    → IfOk r
    (λ a. TakesIn left after a.taken (λ bytes. Comes c a.taken bytes (system_of h disk) (system_of k disk)))
arrived_comes h k disk c left after (Ok a) safe read = record {
  bytes = read.bytes;
  count = read.count;
  given = read.given;
  arrives = record {
    step = λ honest. (read.arrives disk).step (safe.backed honest) (safe.placed honest);
    beside =
        (read.arrives disk).beside;
  };
}
arrived_comes h k disk c left after (Err x) safe read = read

-- no bytes arrived, and the machine's state is unchanged
pub refused_stays : (h k : KernelState) (disk : Disk) (pool n : ℕ) (r : Result Arrived Refusal)
    → IsSafe (system_of h disk) → IfErr r (MayHaveEvicted pool n h k)
    → IfHonest disk (OnErr r (machine_of (system_of k disk) ≡ machine_of (system_of h disk)))
refused_stays h k disk pool n (Ok a) safe err = λ honest. tt
refused_stays h k disk pool n (Err x) safe (inl same) =
    λ honest. ap (λ (l : KernelState). held.machine_of disk.slots l) same
refused_stays h k disk pool n (Err x) safe (inr late) = λ honest. late.room.same.files disk (safe.backed honest)

-- Bytes sent.

sent_access : (c n : ℕ) (s : State) → HasAccess s → HasAccess (sent_on c n s)
sent_access c zero s access = access
sent_access c (suc n) s access =
    access_conn s c (record (conn_at s c) { outgoing = drop (suc n) (conn_at s c).outgoing }) access

placed_conn : (s : State) (c : ℕ) (x : Connection) → ArePlaced s → ArePlaced (with_conn s c x)
unfolding with_conn domain content
placed_conn s c x placed = record { slots = placed.slots; few = placed.few; each = placed.each }

sent_placed : (c n : ℕ) (s : State) → ArePlaced s → ArePlaced (sent_on c n s)
sent_placed c zero s placed = placed
sent_placed c (suc n) s placed =
    placed_conn s c (record (conn_at s c) { outgoing = drop (suc n) (conn_at s c).outgoing }) placed

pub drained_safe : (h k : KernelState) (disk : Disk) (c max : ℕ) (before after : Option (List ℕ))
    (r : Result Drained Refusal) → IsSafe (system_of h disk) → IsSound k
    → IfOk r (DrainsTo c max before after h k) → OnErr r (k ≡ h) → IsSafe (system_of k disk)
drained_safe h k disk c max before after (Ok d) safe sound drains err = record {
  sound = sound;
  access =
      subst HasAccess (sym (drains.left.bytes disk.slots))
      (sent_access c d.taken (held.machine_of disk.slots h) safe.access);
  backed = λ honest. backed_stays disk h k safe.sound sound drains.left.cache drains.left.stays (safe.backed honest);
  placed =
      λ honest. subst ArePlaced (sym (drains.left.bytes disk.slots))
      (sent_placed c d.taken (held.machine_of disk.slots h) (safe.placed honest));
}
drained_safe h k disk c max before after (Err x) safe sound drains err =
    subst (λ (l : KernelState). IsSafe (system_of l disk)) (sym err) safe

-- a refusal leaves the store under the files unchanged, too
pub refuses_same : {W : Type 0} (h k : KernelState) (disk : Disk) (c : ℕ) (writer after : W)
    (r : Result Drained Refusal) → RefusesDrain (tables_of h) c h k writer after r
    → RefusesDrain (tables_of h) c (system_of h disk) (system_of k disk) writer after r
refuses_same h k disk c writer after r x =
    record {
      passed = x.passed;
      refused = x.refused;
      err =
          on_err_weaker r (λ same. ap (λ l. system_of l disk) same) x.err;
      err_writer = x.err_writer;
    }
