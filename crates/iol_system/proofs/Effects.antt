-- The effect of an event, from the kernel's contract for its call.
use Rattle.std.proofs.Common.{◌≡◌, ◌∙◌, ℕ, Bool, List, [], true, false, ap, refl, subst, sym}
use Rattle.std.proofs.lemmas.Bool.{true≢false}
use Rattle.std.specs.Prelude.{Result, Ok, Err, OnErr, OnOk}
use Rattle.iol_back.specs.Disk.{Disk, IfHonest}
use Rattle.iol_cache.specs.ReadResults.{FaultCounts}
use Rattle.iol_core.specs.State.{State}
use Rattle.iol_core.specs.Meaning.{Meaning, Step}
use Rattle.iol_core.specs.Positions.{ArePlaced}
use Rattle.iol_core.specs.Run.{StepsTo, meaning, outcome}
use Rattle.iol_core.specs.Calls.Aggregates as aggs
use Rattle.iol_core.specs.SharingCalls.{is_sharing, LaysOut}
use Rattle.iol_core.specs.declared.refusals.Refusal.{Refusal}
use Rattle.iol_core.specs.declared.refusals.Refusal.TheVariants.{NoRoom}
use Rattle.iol_core.specs.declared.events.Call.{Call}
use Rattle.iol_core.specs.declared.events.Call.TheVariants as call
use Rattle.iol_core.specs.declared.events.Event.{Event}
use Rattle.iol_core.specs.declared.events.Event.TheVariants as event
use Rattle.iol_core.specs.declared.events.Reply.{Reply}
use Rattle.iol_core.specs.declared.events.Reply.TheVariants as reply
use Rattle.iol_hold.specs.Layout.{number_at}
use Rattle.iol_hold.specs.Moves.{Stays}
use Rattle.iol_hold.specs.Pages.{KeepsPages}
use Rattle.iol_hold.proofs.AtPlaces.{keeps_numbers}
use Rattle.iol_kernel.specs.FileCalls.{IsBackedBy, LooksUp, Serves, StepsBeside}
use Rattle.iol_kernel.specs.Calls.{CarriesOut, KeepsPlaces, Names, Steps, with_reader}
use Rattle.iol_kernel.specs.KernelState.{KernelState, IsSound, layout_of, machine_of, read_of}
use Rattle.iol_kernel.specs.Readings.{Reading, KeepsPools}
use Rattle.iol_kernel.proofs.State.Refinement.{carried_layout}
use Rattle.iol_kernel.proofs.State.CacheUntouched.{carried_serves, kept_serves, still_serves}
use Rattle.iol_kernel.proofs.State.Stay.{pages_equal, stays_equal, stays_here}
use Rattle.iol_system.specs.StoreCalls.{asks_store, makes_file, uses_cache, writes_store}
use Rattle.iol_system.specs.Effects.{Does}
use Rattle.iol_system.specs.FileLengths.{ReportsEnd}
use Rattle.iol_system.specs.InPlace.{KeepsInPlace, SharesFile}
use Rattle.iol_system.specs.Late.{LeavesLate}
use Rattle.iol_system.specs.Machine.{SystemState, system_of, tables_of}
use Rattle.iol_system.specs.PagesAndChunks.{Creates, Publishes, SamePages}
use Rattle.iol_system.specs.Sums.{Remembers}
use Rattle.iol_system.specs.Replies.{reported}
use Rattle.iol_system.specs.Room.{BytesFit, HasRoomFor, LacksRoomFor, IsDone, IsEarly, IsFault, IsMemory, IsNoRoom}
use Rattle.iol_system.specs.Room.{IsRefused}
use Rattle.iol_system.specs.Slices.{Divides}
use Rattle.iol_system.specs.Still.{is_still, keeps_store, only_looks, takes_out}
use Rattle.iol_system.specs.WriteBack.{WritesBack}
use Rattle.iol_core.proofs.Values.{KeepsValues, nothing}
use Rattle.iol_system.proofs.HeldPlaces.{Held, after_held, all_held, step_held, tables_hold}
use Rattle.iol_system.proofs.InPlace.{cache_in_place, cover_in_place, shares_file, shares_none}
use Rattle.iol_system.proofs.PagesAndChunks.{carried_pages}
use Rattle.iol_system.proofs.ReplyAnswers.{Means, Reports, done, early_reported, no_room_reported, refused_reported}
use Rattle.iol_system.proofs.ReplyAnswers.{reported_beside}
use Rattle.iol_system.proofs.WriteBack.{none_back, writes_back}

-- a test that is false is not true
pub never : {X : Type 0} {b : Bool} → b ≡ false → b ≡ true → X
never fails is = absurd (true≢false (sym is ∙ fails))

-- The effect of an event has five parts. The first is the machine's step, and the invariants.
pub record Goes (disk : Disk) (old : KernelState) (e : Event) (r : Reply) (after : Disk) (new : KernelState) :
    Type 0 where
  pub step : IsBackedBy disk old → ArePlaced (machine_of disk.slots old)
      → StepsTo (machine_of disk.slots old) e r (machine_of after.slots new)
  pub backed : IsBackedBy disk old → IsBackedBy after new
  pub beside : StepsBeside (λ s. meaning s e) old (outcome r) new
  pub honest : after.honest ≡ disk.honest
  pub sound : IsSound new
  pub stays : Stays old.store new.store

-- The second is the calls to the store, and its faults.
pub record Asks (disk : Disk) (old : KernelState) (e : Event) (r : Reply) (after : Disk) : Type 0 where
  pub unasked : asks_store (tables_of old) e ≡ false → after ≡ disk
  pub faults : asks_store (tables_of old) e ≡ true → FaultCounts disk after (outcome r)
  pub slots : IfHonest disk (writes_store e ≡ false → after.slots ≡ disk.slots)
  pub asked : asks_store (tables_of old) e ≡ true → IsFault r → HasRoomFor (system_of old disk) e

-- The third is when there is room, and the state after a refusal.
pub record Refuses (disk : Disk) (old : KernelState) (e : Event) (r : Reply) (after : Disk) (new : KernelState) :
    Type 0 where
  pub room : IsDone r → HasRoomFor (system_of old disk) e
  pub no_room : IsNoRoom r → LacksRoomFor (system_of old disk) e
  pub memory : IsMemory r → BytesFit (system_of old disk) e
  pub early : IsEarly r → (new ≡ old) × (after ≡ disk)
  pub refused : uses_cache (tables_of old) e ≡ false → IsRefused r → new ≡ old
  pub late : LeavesLate (system_of old disk) e r (system_of new after)

-- The fourth is the changes of files, pages and pools.
pub record Alters (disk : Disk) (old : KernelState) (e : Event) (r : Reply) (after : Disk) (new : KernelState) :
    Type 0 where
  pub uncached : uses_cache (tables_of old) e ≡ false → makes_file e ≡ false → new.cache ≡ old.cache
  pub in_place : KeepsInPlace (system_of old disk) e new
  pub shares_file : IsDone r → SharesFile (system_of old disk) e r new
  pub slices : IsDone r → Divides old e new
  pub publishes : IsDone r → Publishes old e new
  pub creates : Creates old e r new
  pub sums : Remembers old e r new
  pub written_back : WritesBack disk old e r after new

-- The fifth is the bytes that keep their places.
pub record Lies (disk : Disk) (old : KernelState) (e : Event) (r : Reply) (after : Disk) (new : KernelState) :
    Type 0 where
  pub looks : only_looks e ≡ true → (new ≡ old) × (after ≡ disk)
  pub shares : is_sharing (tables_of old) e ≡ true → LaysOut (layout_of old) e r (layout_of new)
  pub pages : is_sharing (tables_of old) e ≡ true → SamePages old.store new.store
  pub still : is_still e ≡ true → LaysOut (layout_of old) e r (layout_of new)
  pub places : takes_out (tables_of old) e ≡ true → IsDone r → layout_of new ≡ (meaning (layout_of old) e).after
  pub held : Held old new e
  pub store : keeps_store e ≡ true → new.store ≡ old.store

pub does_of : {disk after : Disk} {old new : KernelState} {e : Event} {r : Reply} → ReportsEnd (system_of old disk) e r
    → Goes disk old e r after new → Asks disk old e r after → Refuses disk old e r after new
    → Alters disk old e r after new → Lies disk old e r after new
    → Does disk old e r after new
does_of ends goes asks refuses alters lies = record {
  step = goes.step;
  backed = goes.backed;
  beside = goes.beside;
  honest = goes.honest;
  unasked = asks.unasked;
  faults = asks.faults;
  slots = asks.slots;
  asked = asks.asked;
  room = refuses.room;
  no_room = refuses.no_room;
  memory = refuses.memory;
  early = refuses.early;
  refused = refuses.refused;
  uncached = alters.uncached;
  late = refuses.late;
  looks = lies.looks;
  shares = lies.shares;
  pages = lies.pages;
  still = lies.still;
  places = lies.places;
  held = lies.held;
  store = lies.store;
  in_place = alters.in_place;
  shares_file = alters.shares_file;
  slices = alters.slices;
  publishes = alters.publishes;
  creates = alters.creates;
  ends = ends;
  sums = alters.sums;
  written_back = alters.written_back;
  sound = goes.sound;
  stays = goes.stays;
}

-- the first part, from the meaning of the call and the state that the kernel reaches
pub served : {A : Type 0} (f : A → Reply) {m : State → Meaning A} {e : Event} {disk after : Disk}
    {old new : KernelState} {r : Result A Refusal} → Means f m e → Serves m disk old r after new
    → Goes disk old e (reported f r) after new
served f {m} {e} {disk} {after} {old} {new} {r} means serves = record {
  step = λ backed placed. means (machine_of disk.slots old) (machine_of after.slots new) r (serves.step backed placed);
  backed = serves.backed;
  beside = reported_beside f m e old new r means serves.beside;
  honest = serves.honest;
  sound = serves.sound;
  stays = serves.stays;
}

-- the second part, if the store is not asked
pub asks_none : {disk : Disk} {old : KernelState} {e : Event} {r : Reply} → asks_store (tables_of old) e ≡ false
    → Asks disk old e r disk
asks_none none = record { unasked = λ not'. refl; faults = never none; slots = λ honest back. refl; asked = never none }

-- the fifth part, for an event that is neither a sharing call nor one that leaves all bytes in place
pub lies_apart : {disk after : Disk} {old new : KernelState} {e : Event} {r : Reply}
    → is_sharing (tables_of old) e ≡ false → is_still e ≡ false → (only_looks e ≡ true → (new ≡ old) × (after ≡ disk))
    → (takes_out (tables_of old) e ≡ true → IsDone r → layout_of new ≡ (meaning (layout_of old) e).after)
    → (keeps_store e ≡ true → new.store ≡ old.store) → Held old new e → Lies disk old e r after new
lies_apart unshared moving looks places store held =
    record {
      looks = looks;
      shares = never unshared;
      pages = never unshared;
      still = never moving;
      places =
          places;
      held = held;
      store = store;
    }

-- a call that keeps places is a step of the layout, too
pub kept_layout : {A : Type 0} (m : State → Meaning A) (old new : KernelState) (r : Result A Refusal)
    → KeepsPlaces m old r new → Step (m (layout_of old)) (layout_of old) r (layout_of new)
kept_layout m old new r c = c.places (record { at = number_at; stored = [] }) keeps_numbers

-- a call that may change pages does not only look
call_unlooking : (by : ℕ) (k : Call) → keeps_store (event.Call by k) ≡ false → only_looks (event.Call by k) ≡ false
call_unlooking by (call.Show a) changes = changes
call_unlooking by (call.Length fd) changes = changes
call_unlooking by k changes = refl

pub unlooking_of : (e : Event) → keeps_store e ≡ false → only_looks e ≡ false
unlooking_of (event.Call by k) changes = call_unlooking by k changes
unlooking_of e changes = refl

-- a step that succeeds ends in the state after it
done_after : (m : Meaning Reply) (s t : State) (x : Reply) → Step m s (outcome x) t → IsDone x → t ≡ m.after
done_after m s t (reply.Refused y) step is = absurd is
done_after m s t x step is = step.2

-- a call that succeeds changes the layout as the machine says
pub answer_lies : {A : Type 0} (f : A → Reply) (m : State → Meaning A) (e : Event) (old new : KernelState)
    (r : Result A Refusal) → ((s : State) → (meaning s e).after ≡ (m s).after)
    → OnOk r ((g : Reading) → KeepsPools g → read_of g new ≡ (m (read_of g old)).after) → IsDone (reported f r)
    → layout_of new ≡ (meaning (layout_of old) e).after
answer_lies f m e old new (Ok a) same places is = places (record { at = number_at; stored = [] }) keeps_numbers
    ∙ sym (same (layout_of old))
answer_lies f m e old new (Err x) same places is = absurd is

-- An event that needs no room, makes no buffer, writes nothing back and does not ask the store.
pub record IsPlain (e : Event) : Type 0 where
  pub unwritten : writes_back e ≡ false
  pub unlent : shares_file e ≡ false
  pub asks : (s : State) → asks_store s e ≡ false
  pub has : (s : SystemState) → HasRoomFor s e
  pub fits : (s : SystemState) → BytesFit s e
  pub divides : (old new : KernelState) → Divides old e new
  pub publishes : (old new : KernelState) → KeepsPages old.store new.store [] → Publishes old e new
  pub late : (old : SystemState) (x : Reply) (new : SystemState) → LeavesLate old e x new

abbrev pub is_plain : Event → Bool
is_plain (event.Call by (call.PoolCreate chunks list)) = false
is_plain (event.Call by (call.AggMake bytes)) = false
is_plain (event.Call by (call.IolRead fd n)) = false
is_plain (event.Call by (call.IolWrite fd a)) = false
is_plain (event.Call by (call.Fsync fd)) = false
is_plain (event.Call by (call.Read fd n)) = false
is_plain (event.Call by (call.Write fd bytes)) = false
is_plain (event.Arrive c bytes) = false
is_plain event.Flush = false
is_plain event.DropClean = false
is_plain e = true

plain_call : (by : ℕ) (k : Call) → is_plain (event.Call by k) ≡ true → IsPlain (event.Call by k)
plain_call by (call.PoolCreate chunks list) is = never refl is
plain_call by (call.AggMake bytes) is = never refl is
plain_call by (call.IolRead fd n) is = never refl is
plain_call by (call.IolWrite fd a) is = never refl is
plain_call by (call.Fsync fd) is = never refl is
plain_call by (call.Read fd n) is = never refl is
plain_call by (call.Write fd bytes) is = never refl is
plain_call by k is = record {
  unwritten = refl;
  unlent = refl;
  asks = λ s. refl;
  has = λ s. tt;
  fits =
      λ s. tt;
  divides = λ o n. tt;
  publishes = λ o n k. k;
  late = λ o x n. tt;
}

plain_of : (e : Event) → is_plain e ≡ true → IsPlain e
plain_of (event.Call by k) is = plain_call by k is
plain_of (event.Arrive c bytes) is = never refl is
plain_of event.Flush is = never refl is
plain_of event.DropClean is = never refl is
plain_of e is = record {
  unwritten = refl;
  unlent = refl;
  asks = λ s. refl;
  has = λ s. tt;
  fits = λ s. tt;
  divides =
      λ o n. tt;
  publishes = λ o n k. k;
  late = λ o x n. tt;
}

-- A plain event, carried out by a call of this meaning. Its reply reports a file's end and the objects that it creates.
module _ {A : Type 0} (f : A → Reply) (m : State → Meaning A) {e : Event} {disk : Disk} {old new : KernelState}
    {r : Result A Refusal} (reports : Reports f) (is : is_plain e ≡ true) (means : Means f m e)
    (ends : ReportsEnd (system_of old disk) e (reported f r)) (creates : Creates old e (reported f r) new) where
  pub plain_does : Goes disk old e (reported f r) disk new → ((p : ℕ) → r ≡ Err (NoRoom p) → ⊥) → OnErr r (new ≡ old)
      → (makes_file e ≡ false → new.cache ≡ old.cache) → KeepsInPlace (system_of old disk) e new
      → KeepsPages old.store new.store [] → Remembers old e (reported f r) new → Lies disk old e (reported f r) disk new
      → Does disk old e (reported f r) disk new
  plain_does goes roomy kept uncached in_place pages sums lies =
      let plain = plain_of e is in
      let here : SystemState = system_of old disk in
      does_of ends goes (asks_none (plain.asks (tables_of old)))
      (record {
        room = λ done. plain.has here;
        no_room = λ late. absurd (no_room_reported f r reports roomy late);
        memory = λ late. plain.fits here;
        early = λ early. (early_reported f r (new ≡ old) reports kept early, refl);
        refused = λ unused was. refused_reported f r (new ≡ old) reports kept was;
        late = plain.late here (reported f r) (system_of new disk);
      })
      (record {
        uncached = λ unused other. uncached other;
        in_place = in_place;
        shares_file = λ done. shares_none here (reported f r) new e plain.unlent;
        slices = λ done. plain.divides old new;
        publishes = λ done. plain.publishes old new pages;
        creates = creates;
        sums = sums;
        written_back = none_back disk old (reported f r) disk new e plain.unwritten;
      }) lies

  -- a call that carries out its meaning
  pub carried_does : (new.sums ≡ old.sums → Remembers old e (reported f r) new) → keeps_store e ≡ false → IsSound old
      → CarriesOut m old r new → Does disk old e (reported f r) disk new
  carried_does sums changes sound c =
      let step = means (layout_of old) (layout_of new) r (carried_layout m old new r c) in
      plain_does (served f means (carried_serves m old new r sound c disk)) c.roomy c.refused (λ other. c.cache)
      (cache_in_place disk old new e c.cache) (carried_pages m old new r c) (sums c.sums) (record {
        looks = never (unlooking_of e changes);
        shares = λ shared. step;
        pages = λ shared. record { arena = c.arena; pools = c.pools };
        still = λ still. step;
        places = λ out done. done_after (meaning (layout_of old) e) (layout_of old) (layout_of new) (reported f r) step
            done;
        held = step_held old new e (reported f r) step;
        store = never changes;
      })

  -- a call that keeps places
  pub kept_does : (new.sums ≡ old.sums → Remembers old e (reported f r) new) → ((s : State) → is_sharing s e ≡ false)
      → keeps_store e ≡ false → IsSound old → KeepsPlaces m old r new → ((p : ℕ) → r ≡ Err (NoRoom p) → ⊥)
      → Does disk old e (reported f r) disk new
  kept_does sums unshared changes sound c roomy =
      let step = means (layout_of old) (layout_of new) r (kept_layout m old new r c) in
      plain_does (served f means (kept_serves m old new r sound c disk)) roomy c.refused (λ other. c.cache)
      (cache_in_place disk old new e c.cache) c.pages (sums c.sums) (record {
        looks = never (unlooking_of e changes);
        shares = never (unshared (tables_of old));
        pages = never (unshared (tables_of old));
        still = λ still. step;
        places = λ out done. done_after (meaning (layout_of old) e) (layout_of old) (layout_of new) (reported f r) step
            done;
        held = step_held old new e (reported f r) step;
        store = never changes;
      })

  -- a call that asks the store for a length
  pub looks_does : (new.sums ≡ old.sums → Remembers old e (reported f r) new) → ((s : State) → is_sharing s e ≡ false)
      → is_still e ≡ false → ((s : State) → (meaning s e).after ≡ (m s).after)
      → ((s : State) → KeepsValues s (m s).after nothing) → (only_looks e ≡ true → new ≡ old) → LooksUp m disk old r new
      → Does disk old e (reported f r) disk new
  looks_does sums unshared moving same keeps looks c =
      plain_does (served f means c.serves) c.roomy c.refused (λ other. c.cache) (cache_in_place disk old new e c.cache)
      (pages_equal old.store new.store c.store) (sums c.serves.sums)
      (lies_apart (unshared (tables_of old)) moving (λ only. (looks only, refl))
      (λ out done. answer_lies f m e old new r same c.places done) (λ kept. c.store)
      (after_held m old new r e keeps c.places c.refused))

  -- a call that creates a file
  pub names_does : (new.sums ≡ old.sums → Remembers old e (reported f r) new) → ((s : State) → is_sharing s e ≡ false)
      → ((s : State) → takes_out s e ≡ false) → is_still e ≡ false → only_looks e ≡ false → makes_file e ≡ true
      → Names disk m old r new → Does disk old e (reported f r) disk new
  names_does sums unshared inside moving unlooking made c =
      let serves : Serves m disk old r disk new =
      record {
        step = λ backed placed. c.step backed.honest;
        backed = c.backed;
        beside = c.beside;
        honest =
            refl;
        sums = c.sums;
        sound = c.sound;
        stays = stays_equal old.store new.store c.store;
      } in
      plain_does (served f means serves) c.roomy c.refused (λ other. never other made)
      (cover_in_place disk old new e c.keeps) (pages_equal old.store new.store c.store) (sums c.sums)
      (lies_apart (unshared (tables_of old)) moving (never unlooking) (never (inside (tables_of old)))
      (λ keeps. c.store) (all_held old new e (tables_hold old new (ap (λ (h : KernelState). h.domains) c.same))))

-- the call `show`
pub shown : (by a : ℕ) (disk : Disk) (h : KernelState) (r : Result (List ℕ) Refusal) → IsSound h
    → Steps (λ s. aggs.show s by a) h r h → ((p : ℕ) → r ≡ Err (NoRoom p) → ⊥)
    → LooksUp (λ s. aggs.show s by a) disk h r h
shown by a disk h r sound steps roomy =
    record {
      serves = still_serves (λ s. aggs.show s by a) h h r sound sound steps refl refl (stays_here h.store) disk;
      places = ok r;
      store = refl;
      cache = refl;
      roomy = roomy;
      refused = err r;
    }
  where
    ok : (x : Result (List ℕ) Refusal) → OnOk x ((f : Reading) → KeepsPools f → read_of f h ≡ read_of f h)
    ok (Ok bytes) = λ f keeps. refl
    ok (Err y) = tt

    err : (x : Result (List ℕ) Refusal) → OnErr x (h ≡ h)
    err (Ok bytes) = tt
    err (Err y) = refl

-- the same effect, for an equal event and an equal reply
pub as_event : {d e : Event} {disk after : Disk} {old new : KernelState} {x y : Reply} → d ≡ e → y ≡ x
    → Does disk old e x after new → Does disk old d y after new
as_event {d} {e} {disk} {after} {old} {new} {x} {y} is reports does =
    subst (λ (k : Event). Does disk old k y after new) (sym is)
    (subst (λ (z : Reply). Does disk old e z after new) (sym reports) does)

pub as_call : {by : ℕ} {j k : Call} {disk after : Disk} {old new : KernelState} {x y : Reply} → j ≡ k → y ≡ x
    → Does disk old (event.Call by k) x after new → Does disk old (event.Call by j) y after new
as_call {by} is reports does = as_event (ap (λ k. event.Call by k) is) reports does

-- `pool_admit` adds one domain to the pool's list
pub domain_admitted : (by p d : ℕ) (old new : KernelState) (r : Result (Unit {0}) Refusal)
    → OnOk r (new ≡ with_reader old p d) → Creates old (event.Call by (call.PoolAdmit p d)) (reported done r) new
domain_admitted by p d old new (Ok u) same = same
domain_admitted by p d old new (Err x) same = tt

-- `file_new` adds one file
pub file_created : (disk : Disk) (m : State → Meaning ℕ) (by p : ℕ) (name : List ℕ) (old new : KernelState)
    (r : Result ℕ Refusal) → Names disk m old r new
    → Creates old (event.Call by (call.FileNew name p)) (reported reply.File r) new
file_created disk m by p name old new (Ok n) c = record { same = c.same; added = c.added }
file_created disk m by p name old new (Err x) c = tt
