-- Replies that report the answer of a call.
use Rattle.std.proofs.Common.{◌≡◌, ℕ, List, false, refl, ap, sym, subst}
use Rattle.std.specs.Prelude.{Result, Ok, Err, OnErr}
use Rattle.iol_core.specs.State.{State}
use Rattle.iol_core.specs.Meaning.{Meaning, Step}
use Rattle.iol_core.specs.Run.{meaning, outcome, replied}
use Rattle.iol_core.specs.declared.refusals.Refusal.{Refusal}
use Rattle.iol_core.specs.declared.refusals.Refusal.TheVariants.{NoRoom}
use Rattle.iol_core.specs.declared.events.Event.{Event}
use Rattle.iol_core.specs.declared.events.Reply.{Reply}
use Rattle.iol_core.specs.declared.events.Reply.TheVariants as reply
use Rattle.iol_kernel.specs.FileCalls.{StepsBeside, with_slots}
use Rattle.iol_kernel.specs.KernelState.{KernelState}
use Rattle.iol_laws.specs.Aggregates.{is_refusal}
use Rattle.iol_system.specs.Replies.{reported}
use Rattle.iol_system.specs.Room.{IsEarly, IsMemory, IsNoRoom, IsRefused}

-- the reply to a call without an answer
abbrev pub done : Unit {0} → Reply
done u = reply.Done

-- the reply with the bytes sent and their checksum
abbrev pub sent : List ℕ × ℕ → Reply
sent x = reply.Segment x.0 x.1

-- each answer is reported by a reply that is not a refusal
abbrev pub Reports : {A : Type 0} → (A → Reply) → Type 0
Reports {A} f = (a : A) → is_refusal (f a) ≡ false

pub answered : (x : Reply) → is_refusal x ≡ false → outcome x ≡ Ok x
answered (reply.Refused y) is = absurd (cc)
answered x is = refl

pub unrefused : (x : Reply) → is_refusal x ≡ false → IsRefused x → ⊥
unrefused (reply.Refused y) is was = absurd (cc)
unrefused x is was = was

-- an early reply, or one for lack of room or memory, is a refusal
pub early_refused : (x : Reply) → IsEarly x → IsRefused x
early_refused (reply.Refused y) is = tt
early_refused x is = is

pub room_refused : (x : Reply) → IsNoRoom x → IsRefused x
room_refused (reply.Refused y) is = tt
room_refused x is = is

pub memory_refused : (x : Reply) → IsMemory x → IsRefused x
memory_refused (reply.Refused y) is = tt
memory_refused x is = is

pub reported_step : {A : Type 0} (f : A → Reply) → Reports f → (m : Meaning A) (s t : State) (r : Result A Refusal)
    → Step m s r t → Step (replied f m) s (outcome (reported f r)) t
reported_step f reports m s t (Ok a) step =
    subst (λ (o : Result Reply Refusal). Step (replied f m) s o t) (sym (answered (f a) (reports a)))
    (step.0, ap f step.1, step.2)
reported_step f reports m s t (Err x) step = step

-- the event has the meaning of the call, with its answer reported
abbrev pub Means : {A : Type 0} → (f : A → Reply) → (State → Meaning A) → Event → Type 0
Means {A} f m e = (s t : State) (r : Result A Refusal) → Step (m s) s r t
    → Step (meaning s e) s (outcome (reported f r)) t

pub reported_beside : {A : Type 0} (f : A → Reply) (m : State → Meaning A) (e : Event) (old new : KernelState)
    (r : Result A Refusal) → Means f m e → StepsBeside m old r new
    → StepsBeside (λ s. meaning s e) old (outcome (reported f r)) new
reported_beside f m e old new r means b =
    record {
      before = b.before;
      after = b.after;
      step =
          means (with_slots b.before old) (with_slots b.after new) r b.step;
    }

pub no_room_reported : {A : Type 0} (f : A → Reply) (r : Result A Refusal) → Reports f
    → ((p : ℕ) → r ≡ Err (NoRoom p) → ⊥) → IsNoRoom (reported f r) → ⊥
no_room_reported f (Ok a) reports roomy is = unrefused (f a) (reports a) (room_refused (f a) is)
no_room_reported f (Err (NoRoom p)) reports roomy is = roomy p refl
no_room_reported f (Err x) reports roomy is = is

pub refused_reported : {A : Type 0} (f : A → Reply) (r : Result A Refusal) (X : Type 0) → Reports f → OnErr r X
    → IsRefused (reported f r) → X
refused_reported f (Ok a) X reports err is = absurd (unrefused (f a) (reports a) is)
refused_reported f (Err x) X reports err is = err

pub early_reported : {A : Type 0} (f : A → Reply) (r : Result A Refusal) (X : Type 0) → Reports f → OnErr r X
    → IsEarly (reported f r) → X
early_reported f r X reports err is = refused_reported f r X reports err (early_refused (reported f r) is)
