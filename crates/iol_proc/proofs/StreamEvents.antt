-- Input and output in place are events of the copying machine.
use Rattle.std.proofs.Common.{◌≡◌, ◌∙◌, ◌≤◌, ℕ, zero, suc, ◌==◌, min, length, List, [], ◌∷◌, Option, None, Bool, true}
use Rattle.std.proofs.Common.{false, refl, ap, arith}
use Rattle.std.proofs.lemmas.Bool.Decides.{nat_tests}
use Rattle.std.specs.Prelude.{Result, Ok, Err, IfOk, OnOk, OnErr}
use Rattle.iol_back.specs.Disk.{IfHonest}
use Rattle.iol_core.specs.State.{State, conn_at}
use Rattle.iol_core.specs.Calls.Outside.{lacks_conn, transmit}
use Rattle.iol_core.specs.Meaning.{◌when◌, first}
use Rattle.iol_core.specs.declared.events.Reply.TheVariants as reply
use Rattle.iol_core.specs.declared.refusals.Refusal.{Refusal}
use Rattle.iol_kernel.specs.Streams.{DrainsTo, TakesIn, sent_on}
use Rattle.iol_kernel.specs.KernelState as held
use Rattle.iol_kernel.specs.KernelState.{KernelState, read_of}
use Rattle.iol_kernel.specs.Views.{state_view}
use Rattle.iol_pipe.specs.declared.arrive.Arrived.{Arrived}
use Rattle.iol_sock.specs.declared.drain_to.Drained.{Drained}
use Rattle.iol_system.specs.Machine.{SystemState, machine_of, tables_of}
use Rattle.iol_system.specs.Streams.{Comes}
use Rattle.iol_proc.specs.Streams.{ArrivesAs, SendsAs}
use Rattle.iol_proc.specs.Turns.{TransitionRelation}
use Rattle.iol_proc.specs.World.{WorldState, copied}
use Rattle.iol_proc.specs.declared.process_slot.ProcessSlot.{ProcessSlot}

-- connections do not depend on the store's bytes
conn-slots : (slots : List (List ℕ)) (h : KernelState) (c : ℕ)
    → conn_at (held.machine_of slots h) c ≡ conn_at (tables_of h) c
unfolding read_of state_view conn_at
conn-slots slots h c = refl

lacks_conn-slots : (slots : List (List ℕ)) (h : KernelState) (c : ℕ)
    → lacks_conn (held.machine_of slots h) c ≡ lacks_conn (tables_of h) c
unfolding read_of state_view
lacks_conn-slots slots h c = refl

-- none of three refusals holds
first_none : (a b c : Bool) (x y z : Refusal) → a ≡ false → b ≡ false → c ≡ false
    → first ((x when a) ∷ (y when b) ∷ (z when c) ∷ []) ≡ None
first_none false false false x y z ea eb ec = refl
first_none true b c x y z ea eb ec = absurd (cc)
first_none a true c x y z ea eb ec = absurd (cc)
first_none a b true x y z ea eb ec = absurd (cc)

-- if there are bytes to send, sending them is not refused
sends : (slots : List (List ℕ)) (h : KernelState) (c n max : ℕ) → lacks_conn (tables_of h) c ≡ false
    → suc n ≤ min max (length (conn_at (tables_of h) c).outgoing)
    → first (transmit (held.machine_of slots h) c (suc n)).refusals ≡ None
sends slots h c n max there most =
    let some : length (conn_at (held.machine_of slots h) c).outgoing == 0 ≡ false =
    rw (conn-slots slots h c) (grind (arith, nat_tests, most)) in
    let asked : suc n == 0 ≡ false = grind (arith, nat_tests) in
    first_none _ _ _ _ _ _ (lacks_conn-slots slots h c ∙ there) asked some

-- the state of a world from its parts
world_state : {P : Type 0} → State → List (ProcessSlot P) → Bool → WorldState State P
world_state m process_slots resource_failure =
    record { machine = m; process_slots = process_slots; resource_failure = resource_failure }

same_copied : {P : Type 0} (old new : WorldState SystemState P) → new.process_slots ≡ old.process_slots
    → new.resource_failure ≡ old.resource_failure → machine_of new.machine ≡ machine_of old.machine
    → copied new ≡ copied old
unfolding world_state
same_copied old new process_slots resource_failure machine =
    ap (λ m. world_state m new.process_slots new.resource_failure) machine
    ∙ (ap (λ s. world_state (machine_of old.machine) s new.resource_failure) process_slots
    ∙ ap (λ r. world_state (machine_of old.machine) old.process_slots r) resource_failure)

-- a refusal leaves the machine and the processes unchanged
pub refused_copied : {P A E : Type 0} (r : Result A E) (old new : WorldState SystemState P)
    → new.process_slots ≡ old.process_slots → new.resource_failure ≡ old.resource_failure
    → IfHonest old.machine.disk (OnErr r (machine_of new.machine ≡ machine_of old.machine))
    → IfHonest old.machine.disk (OnErr r (copied new ≡ copied old))
refused_copied (Ok a) old new process_slots resource_failure same = λ honest. tt
refused_copied (Err e) old new process_slots resource_failure same =
    λ honest. same_copied old new process_slots resource_failure (same honest)

module _ {P : Type 0} (turns : TransitionRelation P) where
  arrives_as : (c n : ℕ) (bytes : List ℕ) (old new : WorldState SystemState P) → new.process_slots ≡ old.process_slots
      → new.resource_failure ≡ old.resource_failure → old.machine.disk.honest ≡ true
      → Comes c n bytes old.machine new.machine → ArrivesAs turns c n bytes (copied old) (copied new)
  arrives_as c n bytes old new process_slots resource_failure honest came =
      let step = came.step honest in
      record {
        step = (step.0, ap reply.Count step.1, step.2);
        process_slots_stay = process_slots;
        resource_failure_stays = resource_failure;
      }

  pub arrived_copied : {E : Type 0} (c : ℕ) (left after : Option (List ℕ)) (r : Result Arrived E)
      (old new : WorldState SystemState P) → new.process_slots ≡ old.process_slots
      → new.resource_failure ≡ old.resource_failure
      → IfOk r (λ a. TakesIn left after a.taken (λ bytes. Comes c a.taken bytes old.machine new.machine))
      → IfHonest old.machine.disk
      (IfOk r
      (λ a. TakesIn left after a.taken (λ bytes. ArrivesAs turns c a.taken bytes (copied old) (copied new))))
  arrived_copied c left after (Ok a) old new process_slots resource_failure read = λ honest. record {
    bytes = read.bytes;
    count = read.count;
    given = read.given;
    arrives = arrives_as c a.taken read.bytes old new process_slots resource_failure honest read.arrives;
  }
  arrived_copied c left after (Err e) old new process_slots resource_failure read = λ honest. tt

  sends_as : (c n max : ℕ) (old new : WorldState SystemState P) → new.process_slots ≡ old.process_slots
      → new.resource_failure ≡ old.resource_failure → lacks_conn (tables_of old.machine.kernel) c ≡ false
      → n ≤ min max (length (conn_at (tables_of old.machine.kernel) c).outgoing)
      → machine_of new.machine ≡ sent_on c n (machine_of old.machine) → SendsAs turns c n (copied old) (copied new)
  sends_as c zero max old new process_slots resource_failure there most sent =
      same_copied old new process_slots resource_failure sent
  sends_as c (suc n) max old new process_slots resource_failure there most sent = record {
    step = (sends old.machine.disk.slots old.machine.kernel c n max there most, refl, sent);
    process_slots_stay = process_slots;
    resource_failure_stays = resource_failure;
  }

  pub drained_copied : {E : Type 0} (c max : ℕ) (before after : Option (List ℕ)) (r : Result Drained E)
      (old new : WorldState SystemState P) → new.process_slots ≡ old.process_slots
      → new.resource_failure ≡ old.resource_failure → new.machine.disk ≡ old.machine.disk
      → OnOk r (lacks_conn (tables_of old.machine.kernel) c ≡ false)
      → IfOk r (DrainsTo c max before after old.machine.kernel new.machine.kernel)
      → IfOk r (λ d. SendsAs turns c d.taken (copied old) (copied new))
  drained_copied c max before after (Ok d) old new process_slots resource_failure disk there drains =
      sends_as c d.taken max old new process_slots resource_failure there drains.most
      (ap (λ k. held.machine_of k.slots new.machine.kernel) disk ∙ drains.left.bytes old.machine.disk.slots)
  drained_copied c max before after (Err e) old new process_slots resource_failure disk there drains = tt
