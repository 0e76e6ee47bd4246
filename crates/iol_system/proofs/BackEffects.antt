-- The effect of events that write back, drop clean extents, create a pool, or send.
use Rattle.std.proofs.Common.{◌≡◌, ℕ, ◌<◌, ◌≤◌, Bool, List, [], ◌∷◌, length, true, false, refl, ap, sym, subst, inl}
use Rattle.std.proofs.Common.{inr}
use Rattle.std.proofs.lemmas.Bool.{true≢false}
use Rattle.std.specs.Prelude.{◌⊎◌, Result, Ok, Err, OnOk, MatchOption}
use Rattle.iol_back.specs.Disk.{Disk}
use Rattle.iol_arena.specs.Chunks.{free_chunks}
use Rattle.iol_cache.specs.KeptCover.{KeepsDirty}
use Rattle.iol_cache.specs.ReadResults.{FaultCounts}
use Rattle.iol_cache.specs.WriteBack.{WritesDirty}
use Rattle.iol_core.specs.State.{State}
use Rattle.iol_core.specs.Meaning.{Meaning, Step, ◌when◌, first, FaultOf}
use Rattle.iol_core.specs.SharingCalls.{is_sharing}
use Rattle.iol_core.specs.Calls.Files as files
use Rattle.iol_core.specs.Calls.Outside as outside
use Rattle.iol_core.specs.Calls.Pools as pools
use Rattle.iol_core.specs.declared.events.Call.TheVariants as call
use Rattle.iol_core.specs.declared.events.Event.{Event}
use Rattle.iol_core.specs.declared.events.Event.TheVariants as event
use Rattle.iol_core.specs.declared.events.Reply.{Reply}
use Rattle.iol_core.specs.declared.events.Reply.TheVariants as reply
use Rattle.iol_core.specs.declared.refusals.Refusal.{Refusal}
use Rattle.iol_core.specs.declared.refusals.Refusal.TheVariants.{NoDomain, BadFd, WrongMode, NoRoom, Fault}
use Rattle.iol_hold.specs.Pages.{KeepsPages}
use Rattle.iol_pool.specs.Pools.{AddsPool}
use Rattle.iol_kernel.specs.FileCalls.{Serves, StepsBeside, with_slots}
use Rattle.iol_kernel.specs.Calls.{KeepsPlaces, Transmits}
use Rattle.iol_kernel.specs.KernelState.{KernelState, IsSound, layout_of, machine_of}
use Rattle.iol_kernel.specs.WriteBack.{FlushesOne, SyncsFile}
use Rattle.iol_kernel.proofs.State.CacheUntouched.{backed_stays, kept_serves, steps_beside}
use Rattle.iol_kernel.proofs.State.Stay.{pages_equal}
use Rattle.iol_system.specs.StoreCalls.{asks_store, uses_cache, writes_store}
use Rattle.iol_system.specs.Effects.{Does}
use Rattle.iol_system.specs.FileLengths.{ReportsEnd}
use Rattle.iol_system.specs.Late.{LeavesLate}
use Rattle.iol_system.specs.Machine.{SystemState, system_of, tables_of}
use Rattle.iol_system.specs.InPlace.{KeepsInPlace}
use Rattle.iol_system.specs.PagesAndChunks.{Creates, Publishes}
use Rattle.iol_system.specs.Sums.{Remembers}
use Rattle.iol_system.specs.Replies.{reported}
use Rattle.iol_system.specs.Room.{BytesFit, HasRoomFor, IsEarly}
use Rattle.iol_system.specs.Slices.{Divides}
use Rattle.iol_system.specs.Still.{is_still, keeps_store, only_looks, takes_out}
use Rattle.iol_system.proofs.Effects.{answer_lies, asks_none, does_of, kept_layout, lies_apart, never, plain_does}
use Rattle.iol_system.proofs.Effects.{served}
use Rattle.iol_system.proofs.ReplyAnswers.{Means, done, early_reported, no_room_reported, refused_reported, sent}
use Rattle.iol_system.proofs.ReplyAnswers.{reported_beside, reported_step}
use Rattle.iol_system.specs.WriteBack.{DropsClean, WritesBack}
use Rattle.iol_system.proofs.HeldPlaces.{after_held, all_held, step_held, tables_hold, values_sent}
use Rattle.iol_system.proofs.InPlace.{cache_in_place, drops_in_place, flushes_in_place, shares_file, shares_none}
use Rattle.iol_system.proofs.InPlace.{syncs_in_place}
use Rattle.iol_system.proofs.WriteBack.{drops_back, flushes_back, none_back, syncs_back}
use Rattle.iol_system.proofs.ResultReported.{ok_reported, lacks_reported, counts_reported, early_fault_in, early_fault}

-- An event that writes back or drops clean extents, by its tests: `fsync`, `flush` or `drop_clean`.
pub record IsBack (e : Event) (old : KernelState) : Type 0 where
  pub uses : (s : State) → uses_cache s e ≡ true
  pub unshared : (s : State) → is_sharing s e ≡ false
  pub inside : (s : State) → takes_out s e ≡ false
  pub moving : is_still e ≡ false
  pub looking : only_looks e ≡ false
  pub unlent : shares_file e ≡ false
  pub has : (s : SystemState) → HasRoomFor s e
  pub fits : (s : SystemState) → BytesFit s e
  pub divides : (new : KernelState) → Divides old e new
  pub publishes : (new : KernelState) → KeepsPages old.store new.store [] → Publishes old e new
  pub creates : (x : Reply) (new : KernelState) → Creates old e x new
  pub sums : (x : Reply) (new : KernelState) → new.sums ≡ old.sums → Remembers old e x new
  pub late : (disk after : Disk) (x : Reply) (new : KernelState)
      → LeavesLate (system_of old disk) e x (system_of new after)
  pub ends : (disk : Disk) (x : Reply) → ReportsEnd (system_of old disk) e x

module _ (m : State → Meaning (Unit {0})) (e : Event) (disk after : Disk) (old new : KernelState)
    (r : Result (Unit {0}) Refusal) where
  stores_does : IsBack e old → Means done m e → (keeps_store e ≡ true → new.store ≡ old.store)
      → (asks_store (tables_of old) e ≡ false → after ≡ disk)
      → (asks_store (tables_of old) e ≡ true → FaultCounts disk after r) → ((p : ℕ) → r ≡ Err (NoRoom p) → ⊥)
      → KeepsPages old.store new.store [] → WritesBack disk old e (reported done r) after new
      → KeepsInPlace (system_of old disk) e new → Serves m disk old r after new
      → (writes_store e ≡ false → after.slots ≡ disk.slots)
      → (IsEarly (reported done r) → (new ≡ old) × (after ≡ disk)) → new.domains ≡ old.domains
      → Does disk old e (reported done r) after new
  stores_does back means store unasked faults roomy pages written lies serves slots early domains =
      does_of (back.ends disk (reported done r)) (served done means serves)
      (record {
        unasked = unasked;
        faults = λ asked. counts_reported done r disk after (λ a. refl) (faults asked);
        slots = λ honest none. slots none;
        asked = λ asks fault. back.has (system_of old disk);
      })
      (record {
        room = λ is. back.has (system_of old disk);
        no_room = λ is. absurd (no_room_reported done r (λ a. refl) roomy is);
        memory = λ is. back.fits (system_of old disk);
        early = early;
        refused = λ unused is. never unused (back.uses (tables_of old));
        late = back.late disk after (reported done r) new;
      })
      (record {
        uncached = λ unused other. never unused (back.uses (tables_of old));
        in_place = lies;
        shares_file = λ is. shares_none (system_of old disk) (reported done r) new e back.unlent;
        slices = λ is. back.divides new;
        publishes = λ is. back.publishes new pages;
        creates = back.creates (reported done r) new;
        sums = back.sums (reported done r) new serves.sums;
        written_back = written;
      })
      (lies_apart (back.unshared (tables_of old)) back.moving (never back.looking) (never (back.inside (tables_of old)))
      store (all_held old new e (tables_hold old new domains)))

no_room_of_three : (f p : ℕ) (a b c : Bool)
    → MatchOption (first ((NoDomain when a) ∷ (BadFd when b) ∷ (WrongMode when c) ∷ [])) (FaultOf f (NoRoom p))
    (λ y. NoRoom p ≡ y) → ⊥
no_room_of_three f p true b c is = cc
no_room_of_three f p false true c is = cc
no_room_of_three f p false false true is = cc
no_room_of_three f p false false false is = is

module _ (by fd : ℕ) (disk after : Disk) (old new : KernelState) (r : Result (Unit {0}) Refusal) where
  sync_roomy : Serves (λ s. files.fsync s by fd) disk old r after new → (p : ℕ) → r ≡ Err (NoRoom p) → ⊥
  sync_roomy serves p is =
      let s : State = with_slots serves.beside.before old in
      let step : Step (files.fsync s by fd) s (Err (NoRoom p)) (with_slots serves.beside.after new) =
      subst (λ (x : Result (Unit {0}) Refusal). Step (files.fsync s by fd) s x (with_slots serves.beside.after new))
      is serves.beside.step in
      no_room_of_three (files.file_on s by fd) p _ _ _ step.0

  sync_early : (f : ℕ) (x : Result (Unit {0}) Refusal) → WritesDirty old.store f old.cache new.cache disk after x
      ⊎ (((g : ℕ) → x ≡ Err (Fault g) → ⊥) × (new ≡ old) × (after ≡ disk)) → IsEarly (reported done x)
      → (new ≡ old) × (after ≡ disk)
  sync_early f (Ok u) ends is = absurd is
  sync_early f (Err y) ends is =
      elim ends [ inl wrote ↦ absurd (early_fault f y is wrote.ends.1) | inr same ↦ (same.1, same.2) ]

  pub syncs_does : IsSound old → Serves (λ s. files.fsync s by fd) disk old r after new
      → SyncsFile (files.file_on (tables_of old) by fd) disk old r after new
      → Does disk old (event.Call by (call.Fsync fd)) (reported done r) after new
  syncs_does sound serves syncs =
      stores_does (λ s. files.fsync s by fd) (event.Call by (call.Fsync fd)) disk after old new r
      (record {
        uses = λ s. refl;
        unshared = λ s. refl;
        inside = λ s. refl;
        moving = refl;
        looking = refl;
        unlent =
            refl;
        has = λ s. tt;
        fits = λ s. tt;
        divides = λ n. tt;
        publishes = λ n k. k;
        creates = λ x n. tt;
        sums =
            λ x n k. k;
        late = λ d a x n. tt;
        ends = λ d x. tt;
      })
      (λ s. reported_step done (λ a. refl) (files.fsync s by fd) s)
      (λ keeps. ap (λ (h : KernelState). h.store) syncs.same)
      (λ none. absurd (true≢false none)) (λ asked. syncs.counts) (sync_roomy serves)
      (pages_equal old.store new.store (ap (λ (h : KernelState). h.store) syncs.same))
      (syncs_back by fd disk after old new r sound serves.sound syncs)
      (syncs_in_place by fd (files.file_on (tables_of old) by fd) disk after old new syncs.syncs) serves
      (λ none. absurd (true≢false none)) (sync_early (files.file_on (tables_of old) by fd) r syncs.writes)
      (ap (λ (h : KernelState). h.domains) syncs.same)

module _ (disk after : Disk) (old new : KernelState) (r : Result (Unit {0}) Refusal) where
  flush_roomy : Serves outside.flush disk old r after new → (p : ℕ) → r ≡ Err (NoRoom p) → ⊥
  flush_roomy serves p is =
      let s : State = with_slots serves.beside.before old in
      let step : Step (outside.flush s) s (Err (NoRoom p)) (with_slots serves.beside.after new) =
      subst (λ (x : Result (Unit {0}) Refusal). Step (outside.flush s) s x (with_slots serves.beside.after new)) is
      serves.beside.step in
      step.0

  flush_early : (x : Result (Unit {0}) Refusal) → StepsBeside outside.flush old x new → IsEarly (reported done x)
      → (new ≡ old) × (after ≡ disk)
  flush_early (Ok u) beside is = absurd is
  flush_early (Err y) beside is = absurd (early_fault_in (with_slots beside.before old) y is beside.step.0)

  pub flushes_does : IsSound old → Serves outside.flush disk old r after new → FlushesOne disk old r after new
      → Does disk old event.Flush (reported done r) after new
  flushes_does sound serves flushes =
      stores_does outside.flush event.Flush disk after old new r
      (record {
        uses = λ s. refl;
        unshared = λ s. refl;
        inside = λ s. refl;
        moving = refl;
        looking = refl;
        unlent =
            refl;
        has = λ s. tt;
        fits = λ s. tt;
        divides = λ n. tt;
        publishes = λ n k. k;
        creates = λ x n. tt;
        sums =
            λ x n k. k;
        late = λ d a x n. tt;
        ends = λ d x. tt;
      })
      (λ s. reported_step done (λ a. refl) (outside.flush s) s)
      (λ keeps. ap (λ (h : KernelState). h.store) flushes.same)
      (λ none. absurd (true≢false none)) (λ asked. flushes.counts) (flush_roomy serves)
      (pages_equal old.store new.store (ap (λ (h : KernelState). h.store) flushes.same))
      (flushes_back disk after old new r sound flushes) (flushes_in_place disk after old new r sound flushes) serves
      (λ none. absurd (true≢false none)) (flush_early r serves.beside)
      (ap (λ (h : KernelState). h.domains) flushes.same)

pub drops_does : (disk : Disk) (old new : KernelState) → Serves outside.drop_clean disk old (Ok tt) disk new
    → KeepsPages old.store new.store [] → DropsClean old new → KeepsDirty old.cache new.cache
    → Does disk old event.DropClean reply.Done disk new
drops_does disk old new serves pages drops keeps =
    stores_does outside.drop_clean event.DropClean disk disk old new (Ok tt)
    (record {
      uses = λ s. refl;
      unshared = λ s. refl;
      inside = λ s. refl;
      moving = refl;
      looking = refl;
      unlent =
          refl;
      has = λ s. tt;
      fits = λ s. tt;
      divides = λ n. tt;
      publishes = λ n k. k;
      creates = λ x n. tt;
      sums =
          λ x n k. k;
      late = λ d a x n. tt;
      ends = λ d x. tt;
    })
    (λ s. reported_step done (λ a. refl) (outside.drop_clean s) s) (never refl)
    (λ none. refl) (λ asked. absurd (true≢false (sym asked))) (λ p is. cc) pages (drops_back old new disk drops)
    (drops_in_place disk old new keeps) serves
    (λ none. refl) (λ is. absurd is) (ap (λ (h : KernelState). h.domains) drops.same)

-- A new pool.
module _ (by chunks : ℕ) (list : List ℕ) (disk : Disk) (old new : KernelState) where
  abbrev pool_event : Event
  pool_event = event.Call by (call.PoolCreate chunks list)

  pool_creates : (r : Result ℕ Refusal)
      → OnOk r (AddsPool old.store.arena new.store.arena old.store.pools new.store.pools chunks (pools.distinct list))
      → Creates old pool_event (reported reply.Pool r) new
  pool_creates (Ok p) adds = adds
  pool_creates (Err x) adds = tt

  pub creates_does : (r : Result ℕ Refusal) → IsSound old
      → KeepsPlaces (λ s. pools.pool_create s by chunks list) old r new
      → OnOk r (AddsPool old.store.arena new.store.arena old.store.pools new.store.pools chunks (pools.distinct list))
      → OnOk r (chunks ≤ length (free_chunks old.store.arena))
      → ((p : ℕ) → r ≡ Err (NoRoom p) → length (free_chunks old.store.arena) < chunks)
      → Does disk old pool_event (reported reply.Pool r) disk new
  creates_does r sound c adds room no_room =
      let m = λ (s : State). pools.pool_create s by chunks list in
      let means : Means reply.Pool m pool_event = (λ s. reported_step reply.Pool (λ a. refl) (m s) s) in
      does_of tt (served reply.Pool means (kept_serves m old new r sound c disk)) (asks_none refl)
      (record {
        room = ok_reported reply.Pool r _ room;
        no_room = lacks_reported reply.Pool r _ (λ a. refl) no_room;
        memory = λ is. tt;
        early = λ is. (early_reported reply.Pool r (new ≡ old) (λ a. refl) c.refused is, refl);
        refused = λ unused is. refused_reported reply.Pool r (new ≡ old) (λ a. refl) c.refused is;
        late = tt;
      })
      (record {
        uncached = λ unused other. c.cache;
        in_place = cache_in_place disk old new pool_event c.cache;
        shares_file = λ is. tt;
        slices = λ is. tt;
        publishes = λ is. c.pages;
        creates = pool_creates r adds;
        sums = c.sums;
        written_back = none_back disk old (reported reply.Pool r) disk new pool_event refl;
      })
      (record {
        looks = never refl;
        shares = never refl;
        pages = never refl;
        still = λ still. means (layout_of old) (layout_of new) r (kept_layout m old new r c);
        places = never refl;
        held =
            step_held old new pool_event (reported reply.Pool r)
            (means (layout_of old) (layout_of new) r (kept_layout m old new r c));
        store = never refl;
      })

-- Sending.
module _ (conn max : ℕ) (disk : Disk) (old new : KernelState) where
  abbrev send_event : Event
  send_event = event.Transmit conn max

  send_sums : (r : Result (List ℕ × ℕ) Refusal) → Transmits conn max old r new
      → Remembers old send_event (reported sent r) new
  send_sums (Ok x) c = c.uses
  send_sums (Err x) c = ap (λ (h : KernelState). h.sums) c.refused

  pub sends_does : (r : Result (List ℕ × ℕ) Refusal) → IsSound old → Transmits conn max old r new
      → Does disk old send_event (reported sent r) disk new
  sends_does r sound c =
      let m = λ (s : State). outside.transmit s conn max in
      let means : Means sent m send_event = (λ s. reported_step sent (λ a. refl) (m s) s) in
      plain_does sent m (λ a. refl) refl means tt tt (record {
        step = λ backed placed. means (machine_of disk.slots old) (machine_of disk.slots new) r (c.step disk.slots);
        backed = backed_stays disk old new sound c.sound c.cache c.stays;
        beside = reported_beside sent m send_event old new r means (steps_beside m old new r [] [] (c.step []));
        honest = refl;
        sound = c.sound;
        stays = c.stays;
      }) c.roomy c.refused (λ other. c.cache) (cache_in_place disk old new send_event c.cache) c.pages (send_sums r c)
      (lies_apart refl refl (never refl) (λ out is. answer_lies sent m send_event old new r (λ s. refl) c.places is)
      (never refl)
      (after_held m old new r send_event (values_sent conn max) c.places c.refused))
