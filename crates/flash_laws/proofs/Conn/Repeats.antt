-- Each call has one kind of reply: if the state is unchanged after the reply, the call was refused.
use Rattle.std.proofs.Common.{◌≡◌, ℕ, List, refl, true, false, Bool, if◌then◌else◌}
use Rattle.iol_core.specs.State.{State}
use Rattle.iol_core.specs.Run.{StepsTo}
use Rattle.iol_core.specs.declared.descriptors.Mode.{Mode}
use Rattle.iol_core.specs.declared.refusals.Refusal.TheVariants as no
use Rattle.iol_core.specs.declared.events.Call.TheVariants as call
use Rattle.iol_core.specs.declared.events.Event.TheVariants as event
use Rattle.iol_core.specs.declared.events.Reply.{Reply}
use Rattle.iol_core.specs.declared.events.Reply.TheVariants as reply
use Rattle.flash_laws.specs.Conn.OfferedBytes.{may_repeat}
use Rattle.flash_laws.specs.Site.{server}
use Rattle.flash_laws.specs.declared.phase.Phase.{Phase}

-- a choice between two phases that both differ from a third
pub either : (b : Bool) (d e f : Phase) → (d ≡ f → ⊥) → (e ≡ f → ⊥) → (if b then d else e) ≡ f → ⊥
either true d e f one two same = one same
either false d e f one two same = two same

module _ (m n : State) {A : Type 0} (x : A) (y : Reply → A) where
  pub drops : (a : ℕ) (r : Reply) → StepsTo m (event.Call server (call.AggDrop a)) r n → (y reply.Done ≡ x → ⊥)
      → y r ≡ x → may_repeat (call.AggDrop a) r ≡ true
  drops a reply.Done step differs same = absurd (differs same)
  drops a (reply.Refused z) step differs same = refl
  drops a r step differs same = let e = step.1 in absurd (cc (e))

  pub closes : (g : ℕ) (r : Reply) → StepsTo m (event.Call server (call.Close g)) r n → (y reply.Done ≡ x → ⊥) → y r ≡ x
      → may_repeat (call.Close g) r ≡ true
  closes g reply.Done step differs same = absurd (differs same)
  closes g (reply.Refused z) step differs same = refl
  closes g r step differs same = let e = step.1 in absurd (cc (e))

  pub makes : (bytes : List ℕ) (r : Reply) → StepsTo m (event.Call server (call.AggMake bytes)) r n
      → ((k : ℕ) → y (reply.Agg k) ≡ x → ⊥) → y r ≡ x
      → may_repeat (call.AggMake bytes) r ≡ true
  makes bytes (reply.Agg k) step differs same = absurd (differs k same)
  makes bytes (reply.Refused z) step differs same = refl
  makes bytes r step differs same = let e = step.1 in absurd (cc (e))

  pub cuts : (a from to : ℕ) (r : Reply) → StepsTo m (event.Call server (call.AggCut a from to)) r n
      → ((k : ℕ) → y (reply.Agg k) ≡ x → ⊥) → y r ≡ x
      → may_repeat (call.AggCut a from to) r ≡ true
  cuts a from to (reply.Agg k) step differs same = absurd (differs k same)
  cuts a from to (reply.Refused z) step differs same = refl
  cuts a from to r step differs same = let e = step.1 in absurd (cc (e))

  pub joins : (a b : ℕ) (r : Reply) → StepsTo m (event.Call server (call.AggJoin a b)) r n
      → ((k : ℕ) → y (reply.Agg k) ≡ x → ⊥) → y r ≡ x
      → may_repeat (call.AggJoin a b) r ≡ true
  joins a b (reply.Agg k) step differs same = absurd (differs k same)
  joins a b (reply.Refused z) step differs same = refl
  joins a b r step differs same = let e = step.1 in absurd (cc (e))

  pub replaces : (a from to b : ℕ) (r : Reply) → StepsTo m (event.Call server (call.AggReplace a from to b)) r n
      → ((k : ℕ) → y (reply.Agg k) ≡ x → ⊥) → y r ≡ x
      → may_repeat (call.AggReplace a from to b) r ≡ true
  replaces a from to b (reply.Agg k) step differs same = absurd (differs k same)
  replaces a from to b (reply.Refused z) step differs same = refl
  replaces a from to b r step differs same = let e = step.1 in absurd (cc (e))

  pub reads : (g count : ℕ) (r : Reply) → StepsTo m (event.Call server (call.IolRead g count)) r n
      → ((k : ℕ) → y (reply.Agg k) ≡ x → ⊥) → y r ≡ x
      → may_repeat (call.IolRead g count) r ≡ true
  reads g count (reply.Agg k) step differs same = absurd (differs k same)
  reads g count (reply.Refused z) step differs same = refl
  reads g count r step differs same = let e = step.1 in absurd (cc (e))

  pub gives : (g to : ℕ) (r : Reply) → StepsTo m (event.Call server (call.GiveFd g to)) r n
      → ((k : ℕ) → y (reply.Fd k) ≡ x → ⊥) → y r ≡ x
      → may_repeat (call.GiveFd g to) r ≡ true
  gives g to (reply.Fd k) step differs same = absurd (differs k same)
  gives g to (reply.Refused z) step differs same = refl
  gives g to r step differs same = let e = step.1 in absurd (cc (e))

  pub writes : (g a : ℕ) (r : Reply) → StepsTo m (event.Call server (call.IolWrite g a)) r n
      → ((k : ℕ) → y (reply.Count k) ≡ x → ⊥)
      → (y (reply.Refused no.BrokenPipe) ≡ x → ⊥) → y r ≡ x → may_repeat (call.IolWrite g a) r ≡ true
  writes g a (reply.Count k) step differs broken same = absurd (differs k same)
  writes g a (reply.Refused no.BrokenPipe) step differs broken same = absurd (broken same)
  writes g a (reply.Refused z) step differs broken same = refl
  writes g a r step differs broken same = let e = step.1 in absurd (cc (e))

  pub pipes : (r : Reply) → StepsTo m (event.Call server call.Pipe) r n → ((k l : ℕ) → y (reply.Fds k l) ≡ x → ⊥)
      → y r ≡ x → may_repeat call.Pipe r ≡ true
  pipes (reply.Fds k l) step differs same = absurd (differs k l same)
  pipes (reply.Refused z) step differs same = refl
  pipes r step differs same = let e = step.1 in absurd (cc (e))

  pub opens : (name : List ℕ) (mode : Mode) (r : Reply) → StepsTo m (event.Call server (call.OpenFile name mode)) r n
      → ((k : ℕ) → y (reply.Fd k) ≡ x → ⊥) → y r ≡ x
      → may_repeat (call.OpenFile name mode) r ≡ true
  opens name mode (reply.Fd k) step differs same = absurd (differs k same)
  opens name mode (reply.Refused z) step differs same = refl
  opens name mode r step differs same = let e = step.1 in absurd (cc (e))

  pub lengths : (f : ℕ) (r : Reply) → StepsTo m (event.Call server (call.Length f)) r n
      → ((k : ℕ) → y (reply.Count k) ≡ x → ⊥) → y r ≡ x
      → may_repeat (call.Length f) r ≡ true
  lengths f (reply.Count k) step differs same = absurd (differs k same)
  lengths f (reply.Refused z) step differs same = refl
  lengths f r step differs same = let e = step.1 in absurd (cc (e))
