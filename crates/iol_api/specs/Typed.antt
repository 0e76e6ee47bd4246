-- The result of a typed call: the reply of its event, as a value of the call's own type or a refusal.
use Rattle.std.specs.Prelude.{◌≡◌, ◌⊎◌, ℕ, List, Result, Err}
use Rattle.iol_back.specs.Prelude.{IfHonest}
use Rattle.iol_api.specs.declared.domain.Domain.{Domain}
use Rattle.iol_api.specs.declared.outside.Outside.{Outside}
use Rattle.iol_core.specs.declared.events.Call.{Call}
use Rattle.iol_core.specs.declared.events.Event.{Event}
use Rattle.iol_core.specs.declared.events.Event.TheVariants as event
use Rattle.iol_core.specs.declared.events.Reply.{Reply}
use Rattle.iol_core.specs.declared.events.Reply.TheVariants as reply
use Rattle.iol_core.specs.declared.refusals.Refusal.{Refusal}
use Rattle.iol_core.specs.declared.refusals.Refusal.TheVariants.{Memory}
use Rattle.iol_proc.specs.Turns.{TransitionRelation}
use Rattle.iol_proc.specs.World.{CopiedStep, OutsideStep, sharing}
use Rattle.iol_system.specs.Promises.{Promises}
use Rattle.iol_system.specs.Replies.{reported}

-- This reply is a value of a type, or a refusal.
abbrev pub IsReply : {A : Type 0} → (A → Reply) → Reply → Type 0
IsReply {A} f r = ((a : A) × (r ≡ f a)) ⊎ ((x : Refusal) × (r ≡ reply.Refused x))

-- The guarantee of a call by a handle: the handle keeps its domain and system, the call has all guarantees of
-- `System::step` for its event, and the reply is this result.
pub record Answers {B : Type 0} {A : Type 0} (f : A → Reply) (old : Domain B) (c : Call) (result : Result A Refusal)
    (new : Domain B) : Type 0 where
  pub same_reference : new.system.ghost_name ≡ old.system.ghost_name
  pub by : new.by ≡ old.by
  pub promises : Promises old.system.now (event.Call old.by c) (reported f result) new.system.now

-- The same, or there is no memory for the bytes or names in the call, and nothing changes.
abbrev pub AnswersIfHeld : {B : Type 0} {A : Type 0} → (A → Reply) → Domain B → Call → Result A Refusal → Domain B
    → Type 0
AnswersIfHeld f old c result new = Answers f old c result new ⊎ ((result ≡ Err Memory) × (new ≡ old))

-- the result of a call without a value
abbrev pub done : Unit {0} → Reply
done u = reply.Done

-- the two descriptors of a pipe, and the two aggregates of a split
abbrev pub fds : ℕ × ℕ → Reply
fds two = reply.Fds two.0 two.1

abbrev pub aggs : ℕ × ℕ → Reply
aggs two = reply.Aggs two.0 two.1

-- the bytes of a transmission, and their checksum
abbrev pub segment : List ℕ × ℕ → Reply
segment two = reply.Segment two.0 two.1

-- The promises of an external event: the world is still the same one, the event is carried out with all promises of
-- `World::step_outside`, and the reply is this result.
pub record Happens {B P : Type 0} {A : Type 0} (turns : TransitionRelation P) (f : A → Reply) (old : Outside B P)
    (e : Event) (result : Result A Refusal) (new : Outside B P) : Type 0 where
  pub same_reference : new.world.ghost_name ≡ old.world.ghost_name
  pub step : OutsideStep sharing turns old.world.now e (reported f result) new.world.now
  pub copied : IfHonest old.world.now.machine.disk (CopiedStep turns old.world.now e (reported f result) new.world.now)

-- The same, or there is no memory for the bytes that the event carries, and nothing is done.
abbrev pub HappensIfHeld : {B P : Type 0} {A : Type 0} → TransitionRelation P → (A → Reply) → Outside B P → Event
    → Result A Refusal → Outside B P → Type 0
HappensIfHeld turns f old e result new = Happens turns f old e result new ⊎ ((result ≡ Err Memory) × (new ≡ old))
