-- From the result of a call to its reply: room, faults and early refusals.
use Rattle.std.proofs.Common.{◌≡◌, ◌∙◌, ℕ, List, refl, sym, ap, subst, inl, inr}
use Rattle.std.specs.Prelude.{◌⊎◌, Result, Ok, Err, IfErr, OnErr, OnOk}
use Rattle.iol_back.specs.Disk.{Disk}
use Rattle.iol_cache.specs.ReadResults.{FaultCounts, ReportsRoom}
use Rattle.iol_core.specs.State.{State, Domain}
use Rattle.iol_core.specs.Meaning.{FaultIn, WantOfRoom, WantOfRoomOrFault}
use Rattle.iol_core.specs.Run.{outcome}
use Rattle.iol_core.specs.declared.events.Reply.{Reply}
use Rattle.iol_core.specs.declared.events.Reply.TheVariants as reply
use Rattle.iol_core.specs.declared.refusals.Refusal.{Refusal}
use Rattle.iol_core.specs.declared.refusals.Refusal.TheVariants.{NoRoom, Fault, Memory}
use Rattle.iol_hold.specs.declared.slices.Slice.{Slice}
use Rattle.iol_kernel.specs.FileReads.{IsBeforeRoom}
use Rattle.iol_kernel.specs.KernelState.{KernelState}
use Rattle.iol_system.specs.Late.{IfRefused, SameTables}
use Rattle.iol_system.specs.Replies.{reported}
use Rattle.iol_system.specs.Room.{IsDone, IsEarly, IsFault, IsMemory, IsNoRoom, IsRefused}
use Rattle.iol_system.proofs.ReplyAnswers.{Reports, answered, early_refused, memory_refused, room_refused, unrefused}

-- A property of the result is one of the reply.

pub ok_reported : {A : Type 0} (f : A → Reply) (r : Result A Refusal) (X : Type 0) → OnOk r X → IsDone (reported f r)
    → X
ok_reported f (Ok a) X ok is = ok
ok_reported f (Err x) X ok is = absurd is

pub lacks_reported : {A : Type 0} (f : A → Reply) (r : Result A Refusal) (X : Type 0) → Reports f
    → ((p : ℕ) → r ≡ Err (NoRoom p) → X) → IsNoRoom (reported f r) → X
lacks_reported f (Ok a) X reports lacks is = absurd (unrefused (f a) (reports a) (room_refused (f a) is))
lacks_reported f (Err (NoRoom p)) X reports lacks is = lacks p refl
lacks_reported f (Err x) X reports lacks is = absurd is

pub memory_reported : {A : Type 0} (f : A → Reply) (r : Result A Refusal) (X : Type 0) → Reports f
    → (r ≡ Err Memory → X) → IsMemory (reported f r) → X
memory_reported f (Ok a) X reports fits is = absurd (unrefused (f a) (reports a) (memory_refused (f a) is))
memory_reported f (Err Memory) X reports fits is = fits refl
memory_reported f (Err x) X reports fits is = absurd is

pub counts_reported : {A : Type 0} (f : A → Reply) (r : Result A Refusal) (old new : Disk) → Reports f
    → FaultCounts old new r → FaultCounts old new (outcome (reported f r))
counts_reported f (Ok a) old new reports counts =
    subst (λ (o : Result Reply Refusal). FaultCounts old new o) (sym (answered (f a) (reports a))) counts
counts_reported f (Err (Fault n)) old new reports counts = counts
counts_reported f (Err x) old new reports counts = counts

pub has_reported : {A : Type 0} (f : A → Reply) (r : Result A Refusal) (has lacks : Type 0) → ReportsRoom has lacks r
    → IsDone (reported f r) → has
has_reported f (Ok a) has lacks room is = room
has_reported f (Err x) has lacks room is = absurd is

pub room_reported : {A : Type 0} (f : A → Reply) (r : Result A Refusal) (has lacks : Type 0) → Reports f
    → ReportsRoom has lacks r → IsNoRoom (reported f r) → lacks
room_reported f (Ok a) has lacks reports room is = absurd (unrefused (f a) (reports a) (room_refused (f a) is))
room_reported f (Err (NoRoom p)) has lacks reports room is = room
room_reported f (Err x) has lacks reports room is = absurd is

pub fault_reported : {A : Type 0} (f : A → Reply) (r : Result A Refusal) (has lacks : Type 0) → Reports f
    → ReportsRoom has lacks r → IsFault (reported f r) → has
fault_reported f (Ok a) has lacks reports room is = room
fault_reported f (Err (Fault n)) has lacks reports room is = room
fault_reported f (Err x) has lacks reports room is = absurd is

-- an early refusal is not late

pub early_room : (p : ℕ) (x : Refusal) → IsEarly (reply.Refused x) → WantOfRoom p x → ⊥
early_room p (NoRoom q) is late = is
early_room p Memory is late = is
early_room p x is late = late

pub early_room_fault : (p f : ℕ) (x : Refusal) → IsEarly (reply.Refused x) → WantOfRoomOrFault p f x → ⊥
early_room_fault p f (NoRoom q) is late = is
early_room_fault p f (Fault g) is late = is
early_room_fault p f Memory is late = is
early_room_fault p f x is late = late

pub early_fault_in : (s : State) (x : Refusal) → IsEarly (reply.Refused x) → FaultIn s x → ⊥
early_fault_in s (Fault g) is late = is
early_fault_in s x is late = late

pub early_fault : (f : ℕ) (x : Refusal) → IsEarly (reply.Refused x) → x ≡ Fault f → ⊥
early_fault f x is fault = subst (λ (y : Refusal). IsEarly (reply.Refused y)) fault is

-- X holds at an early refusal if it holds at each refusal that is not late
pub early_of : {A : Type 0} (f : A → Reply) (r : Result A Refusal) (X : Type 0) (Late : Refusal → Type 0) → Reports f
    → ((x : Refusal) → IsEarly (reply.Refused x) → Late x → ⊥) → IfErr r (λ x. X ⊎ Late x) → IsEarly (reported f r) → X
early_of f (Ok a) X Late reports apart left is = absurd (unrefused (f a) (reports a) (early_refused (f a) is))
early_of f (Err x) X Late reports apart left is = elim left [ inl here ↦ here | inr late ↦ absurd (apart x is late) ]

-- a property of the refusal

unless_refused : (x : Reply) (P : Refusal → Type 0) → (IsRefused x → ⊥) → IfRefused x P
unless_refused (reply.Refused y) P not' = absurd (not' tt)
unless_refused x P not' = tt

pub late_reported : {A : Type 0} (f : A → Reply) (r : Result A Refusal) (P : Refusal → Type 0) → Reports f → IfErr r P
    → IfRefused (reported f r) P
late_reported f (Ok a) P reports left = unless_refused (f a) P (unrefused (f a) (reports a))
late_reported f (Err x) P reports left = left

pub err_more : {A : Type 0} (r : Result A Refusal) (P Q : Refusal → Type 0) → ((x : Refusal) → P x → Q x) → IfErr r P
    → IfErr r Q
err_more (Ok a) P Q to left = tt
err_more (Err x) P Q to left = to x left

-- the same, with a property of each refusal
pub with_tables : {A : Type 0} (r : Result A Refusal) (X : Type 0) (P : Refusal → Type 0) → OnErr r X → IfErr r P
    → IfErr r (λ x. X × P x)
with_tables (Ok a) X P here left = tt
with_tables (Err x) X P here left = (here, left)

-- if the domains' tables are unchanged, so are all tables
pub tables_kept : {A : Type 0} (r : Result A Refusal) (old new : KernelState)
    → new ≡ record old { store = new.store; cache = new.cache; domains = new.domains }
    → OnErr r (new.domains ≡ old.domains) → OnErr r (SameTables old new)
tables_kept (Ok a) old new same kept = tt
tables_kept (Err x) old new same kept =
    same ∙ ap (λ (ds : List (Domain (List Slice))). let h : KernelState =
    record old { store = new.store; cache = new.cache; domains = ds } in h) kept

-- the refusal of a read, whether or not it came before room was made
pub untimed : {A : Type 0} (r : Result A Refusal) (X Y : Type 0) (Late : Refusal → Type 0)
    → IfErr r (λ x. (IsBeforeRoom x × X × Y) ⊎ Late x) → IfErr r (λ x. (X × Y) ⊎ Late x)
untimed (Ok a) X Y Late left = tt
untimed (Err x) X Y Late (inl here) = inl (here.1, here.2)
untimed (Err x) X Y Late (inr late) = inr late
