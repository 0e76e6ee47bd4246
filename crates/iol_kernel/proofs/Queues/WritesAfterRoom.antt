-- New bytes at the end of a queue that a domain writes to, after evictions of clean extents.
use Rattle.std.proofs.Common.{◌≡◌, ℕ, ◌∙◌, List, [], ◌∷◌, length, Option, Some, None, refl, sym, ap, subst, true, false}
use Rattle.std.specs.Prelude.{Result, Err, not, is_none, ◌&&◌}
use Rattle.iol_arena.specs.State.{pages_for}
use Rattle.iol_core.specs.State as machine
use Rattle.iol_core.specs.State.{State, descriptor}
use Rattle.iol_core.specs.Meaning.{◌when◌, first}
use Rattle.iol_core.specs.Calls.Aggregates as aggs
use Rattle.iol_core.specs.Calls.Writes as writing
use Rattle.iol_core.specs.declared.descriptors.Descriptor.{Descriptor}
use Rattle.iol_core.specs.declared.descriptors.Descriptor.TheVariants as on
use Rattle.iol_core.specs.declared.refusals.Refusal.{Refusal}
use Rattle.iol_core.specs.declared.refusals.Refusal.TheVariants.{NoDomain, BadFd, NoPool, WrongMode, TooLong}
use Rattle.iol_core.specs.declared.refusals.Refusal.TheVariants.{PoolClosed, BrokenPipe, WouldBlock, NoRoom}
use Rattle.iol_hold.specs.Room.{has_room}
use Rattle.iol_kernel.specs.KernelState.{KernelState, read_of}
use Rattle.iol_kernel.specs.Room.{MakesRoom, MayPlaceIn, can_fit}
use Rattle.iol_kernel.specs.WritesByCopy.{FillsQueue, MayPut, PlacesInQueue, lands_in, written_to}
use Rattle.iol_kernel.specs.Readings.{Reading, bytes_over}
use Rattle.iol_kernel.proofs.AggregateCalls.NewAggregates.{open_after}
use Rattle.iol_kernel.proofs.State.AfterRoom.{kept_reading, queue_none, queue_places}
use Rattle.iol_kernel.proofs.State.ReadOf.{closed-read_of}

-- the pool for the new bytes is open
pub may_place : {d fd : ℕ} {target : Descriptor} {pool : ℕ} {bytes : List ℕ} {h : KernelState}
    → MayPut d fd target pool bytes h → MayPlaceIn pool h
may_place {d} {fd} {target} {pool} {bytes} {h} may =
    record { sound = may.sound; opened = sym (closed-read_of (bytes_over [] h.store) h pool) ∙ may.passes.opened }

-- The tests of a write do not depend on the bytes of files.

-- the tests of a write, by the object of the descriptor
abbrev tests : State → (d : ℕ) → Option Descriptor → (n : ℕ) → List (Option Refusal)
tests s d to n =
    (NoDomain when not (machine.is_live s d)) ∷
    (BadFd when is_none to) ∷
    (NoPool when (not (writing.is_file to) && is_none (machine.domain s d).default)) ∷
    (WrongMode when not (writing.can_write to)) ∷
    (TooLong when writing.is_too_long to n) ∷
    (PoolClosed (aggs.default_pool s d) when
    (not (writing.is_file to) && (machine.pool s (aggs.default_pool s d)).closed)) ∷
    (BrokenPipe when writing.is_broken s to) ∷
    (WouldBlock when writing.takes_none s to n) ∷ []

-- the tests and the answer for a descriptor do not depend on the bytes of files
blind : (d n : ℕ) (s : State) (x : List (List ℕ)) (o : Option Descriptor)
    → (first (tests (record s { slots = x }) d o n) ≡ first (tests s d o n))
    × (writing.fitting (record s { slots = x }) o n ≡ writing.fitting s o n)
    × (writing.pool_for (record s { slots = x }) d o ≡ writing.pool_for s d o)
unfolding machine.domain machine.file machine.pool machine.pipe_at machine.conn_at
blind d n s x None = (refl, refl, refl)
blind d n s x (Some (on.File f at mode)) = (refl, refl, refl)
blind d n s x (Some (on.ReadEnd p)) = (refl, refl, refl)
blind d n s x (Some (on.WriteEnd p)) = (refl, refl, refl)
blind d n s x (Some (on.Connection c)) = (refl, refl, refl)

to_same : (d fd : ℕ) (s : State) (x : List (List ℕ)) → descriptor (record s { slots = x }) d fd ≡ descriptor s d fd
unfolding machine.domain
to_same d fd s x = refl

write_first : (d fd : ℕ) (bytes : List ℕ) (s : State) (x : List (List ℕ))
    → first (writing.write (record s { slots = x }) d fd bytes).refusals ≡ first (writing.write s d fd bytes).refusals
write_first d fd bytes s x =
    let t : State = record s { slots = x } in
    ap (λ (o : Option Descriptor). first (tests t d o (length bytes))) (to_same d fd s x)
    ∙ (blind d (length bytes) s x (descriptor s d fd)).0

write_answer : (d fd : ℕ) (bytes : List ℕ) (s : State) (x : List (List ℕ))
    → (writing.write (record s { slots = x }) d fd bytes).answer ≡ (writing.write s d fd bytes).answer
write_answer d fd bytes s x =
    let t : State = record s { slots = x } in
    ap (λ (o : Option Descriptor). writing.fitting t o (length bytes)) (to_same d fd s x)
    ∙ (blind d (length bytes) s x (descriptor s d fd)).1

write_pool : (d fd : ℕ) (s : State) (x : List (List ℕ)) → lands_in d fd (record s { slots = x }) ≡ lands_in d fd s
write_pool d fd s x =
    let t : State = record s { slots = x } in
    ap (λ (o : Option Descriptor). writing.pool_for t d o) (to_same d fd s x) ∙ (blind d 0 s x (descriptor s d fd)).2

module _ (d fd : ℕ) (target : Descriptor) (pool count : ℕ) (bytes : List ℕ) (h k : KernelState)
    (may : MayPut d fd target pool bytes h) (room : MakesRoom pool (pages_for count) h k) where
  pub may_still : MayPut d fd target pool bytes k
  may_still = record {
    sound = room.sound;
    to = λ f. kept_reading (λ s. descriptor s d fd) pool (pages_for count) h k f room (to_same d fd) ∙ may.to f;
    passes = record {
      passed = λ f. kept_reading (λ s. first (writing.write s d fd bytes).refusals) pool (pages_for count) h k f room
          (write_first d fd bytes) ∙ may.passes.passed f;
      pool = λ f. may.passes.pool f
          ∙ sym (kept_reading (lands_in d fd) pool (pages_for count) h k f room (write_pool d fd));
      opened = open_after pool (pages_for count) h k room pool may.passes.opened;
    };
  }

  module _ (counted : (f : Reading) → (writing.write (read_of f h) d fd bytes).answer ≡ count) where
    pub write_places : (l : KernelState) (r : Result ℕ Refusal) → has_room k.store pool count ≡ true
        → can_fit h pool count ≡ true → FillsQueue d fd pool bytes k r l → PlacesInQueue d fd bytes h r l
    write_places l r roomy fits' filled =
        queue_places (λ s. writing.write s d fd bytes) (written_to d fd) (lands_in d fd) pool count h k room
        (write_first d fd bytes) (write_answer d fd bytes) (write_pool d fd) (λ s x late. late) may.passes.passed
        (λ f. sym (may.passes.pool f)) counted
        l r roomy fits' (subst (λ p. FillsQueue d fd p bytes k r l) (may_still.passes.pool (bytes_over [] k.store))
        filled)

    pub write_none : k ≡ h → can_fit h pool count ≡ false → PlacesInQueue d fd bytes h (Err (NoRoom pool)) k
    write_none same lacks =
        queue_none (λ s. writing.write s d fd bytes) (written_to d fd) (lands_in d fd) pool count h k room
        (write_first d fd bytes) (write_answer d fd bytes) (write_pool d fd) (λ s x late. late) may.passes.passed
        (λ f. sym (may.passes.pool f)) counted same may.passes.pool lacks
