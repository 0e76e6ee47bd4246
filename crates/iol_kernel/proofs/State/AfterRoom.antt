-- The meaning of a call that places new bytes after evictions of clean extents.
use Rattle.std.proofs.Common.{◌≡◌, ℕ, ◌+◌, ◌≤◌, ◌∙◌, Bool, true, false, List, [], length, Some, None, refl, sym, ap}
use Rattle.std.proofs.Common.{subst, arith, inl, inr}
use Rattle.std.specs.Prelude.{◌↔◌, IsTrue, nat_le, MatchOption, Result, not, Ok, Err}
use Rattle.std.proofs.lemmas.Bool.{cases_lt}
use Rattle.std.proofs.lemmas.List.Filters.{length-filter_both}
use Rattle.std.proofs.lemmas.Bool.Decides.{nat_tests}
use Rattle.iol_arena.specs.State.{pages_for}
use Rattle.iol_core.specs.Text.{Text}
use Rattle.iol_core.specs.State.{State}
use Rattle.iol_core.specs.Meaning.{Meaning, Step, WantOfRoom, first}
use Rattle.iol_core.specs.declared.refusals.Refusal.{Refusal}
use Rattle.iol_core.specs.declared.refusals.Refusal.TheVariants.{NoRoom, Memory}
use Rattle.iol_core.specs.declared.refusals.Refusal.TheVariants as refusal
use Rattle.iol_back.specs.Disk.{Disk}
use Rattle.iol_hold.specs.Moves.{Stays}
use Rattle.iol_hold.specs.Room.{free_of, has_room, pages_of}
use Rattle.iol_hold.proofs.Moves.{stays_trans}
use Rattle.iol_hold.proofs.Rooms.{no_pages, room_there}
use Rattle.iol_cache.specs.CacheState.{Cached, clean_held}
use Rattle.iol_cache.specs.KeptCover.{KeepsDirty}
use Rattle.iol_cache.specs.PinnedPages.{is_pinned, pinned_beside}
use Rattle.iol_kernel.specs.FileCalls.{Serves, StepsBeside, with_slots}
use Rattle.iol_kernel.specs.Calls.{MakesBytes, Steps}
use Rattle.iol_kernel.specs.KernelState.{KernelState, IsSound, machine_of, read_of}
use Rattle.iol_kernel.specs.Room.{AfterRoom, AsksRoom, AsksToFit, MakesRoom, Places, can_fit}
use Rattle.iol_kernel.specs.WritesByCopy.{Fills}
use Rattle.iol_kernel.specs.Readings.{Reading, bytes_over}
use Rattle.iol_kernel.proofs.State.CacheUntouched.{backed_stays, steps_beside, still_serves, with_slots-same}
use Rattle.iol_kernel.proofs.State.Stay.{stays_here}

-- Whether there is room.

pub fits : (h : KernelState) (p n pages : ℕ) (b : Bool) → pages ≡ pages_for n
    → (IsTrue b ↔ (pinned_beside h.store (clean_held h.cache.files) p + pages ≤ length (pages_of h.store p)))
    → can_fit h p n ≡ b
fits h p n pages true is room = let enough = room.0 refl in grind (arith, nat_tests, is, enough)
fits h p n pages false is room =
    of (pinned_beside h.store (clean_held h.cache.files) p) (length (pages_of h.store p))
    (λ le. absurd (cc (room.1 le)))
  where
    of : (a b : ℕ) → (a + pages ≤ b → ⊥) → nat_le (a + pages_for n) b ≡ false
    of a b not' =
        elim (cases_lt b (a + pages_for n)) [
          | inl k ↦ grind (arith, nat_tests, k)
          | inr k ↦
              absurd (not' (omega (arith, k, is)))
        ]

pub has : (h : KernelState) (p n pages : ℕ) (b : Bool) → pages ≡ pages_for n
    → (IsTrue b → pages ≤ length (free_of h.store p)) → IsTrue b → has_room h.store p n ≡ true
has h p n pages b is free true' = room_there h.store p n (omega (arith, is, free true'))

-- room for the pages of n bytes is room for n bytes
pub fits_asked : (h k : KernelState) (p n pages : ℕ) (b : Bool) → pages ≡ pages_for n → AsksRoom p pages h b k
    → AsksToFit p n h b k
fits_asked h k p n pages b is asked = record {
  made = subst (λ m. MakesRoom p m h k) is asked.made;
  fits = fits h p n pages b is asked.room;
  room = has k p n pages b is asked.free;
  refused = asked.refused;
}

-- Facts that do not depend on the bytes of files are unchanged.

pub kept_machine : {A : Type 0} (g : State → A) (pool pages : ℕ) (h k : KernelState) → MakesRoom pool pages h k
    → ((s : State) (x : List (List ℕ)) → g (record s { slots = x }) ≡ g s) → g (machine_of [] k) ≡ g (machine_of [] h)
unfolding with_slots
kept_machine g pool pages h k room blind = sym (blind (machine_of [] k) []) ∙ ap g (room.same.beside [])
    ∙ blind (machine_of [] h) []

pub kept_reading : {A : Type 0} (g : State → A) (pool pages : ℕ) (h k : KernelState) (f : Reading)
    → MakesRoom pool pages h k → ((s : State) (x : List (List ℕ)) → g (record s { slots = x }) ≡ g s)
    → g (read_of f k) ≡ g (read_of f h)
kept_reading g pool pages h k f room blind = ap g (room.reads f) ∙ blind (read_of f h) (read_of f k).slots

-- A refusal that comes before anything changed.

refused_step : {A : Type 0} (m : Meaning A) (x : Refusal) → first m.refusals ≡ Some x
    → MatchOption (first m.refusals) (m.Late x) (λ y. x ≡ y)
refused_step m x is = rw is refl

pub late_step : {A : Type 0} (m : Meaning A) (x : Refusal) → first m.refusals ≡ None → m.Late x
    → MatchOption (first m.refusals) (m.Late x) (λ y. x ≡ y)
late_step m x passed late = rw passed late

err_is : {A : Type 0} (x y : Refusal) → ◌≡◌ {A = Result A Refusal} (Err x) (Err y) → x ≡ y
err_is x y e = cc

pub places_refused : {A : Type 0} (m : State → Meaning A) (put : State → Text → State) (pool n : ℕ) (h : KernelState)
    (x : Refusal) → IsSound h → ((f : Reading) → first (m (read_of f h)).refusals ≡ Some x)
    → ((p : ℕ) → x ≡ NoRoom p → ⊥) → ((s : State) → first (m s).refusals ≡ Some Memory → ⊥)
    → Places m put pool n h (Err x) h
places_refused m put pool n h x sound is other tested = record {
  serves =
      still_serves m h h (Err x) sound sound
      (λ stored. (refused_step (m (machine_of stored h)) x (is (bytes_over stored h.store)), refl)) refl refl
      (stays_here h.store);
  made = tt;
  refused = inl refl;
  room = tt;
  no_room = λ p e. absurd (other p (err_is x (NoRoom p) e));
  memory =
      λ e. (let f = bytes_over [] h.store in
      absurd (tested (read_of f h) (is f ∙ ap (λ (y : Refusal). Some y) (err_is x Memory e))));
}

-- A late refusal that is not NoRoom is Memory.

pub memory_left : (pool : ℕ) (x : Refusal) → WantOfRoom pool x → ((p : ℕ) → x ≡ NoRoom p → ⊥) → x ≡ Memory
memory_left pool refusal.NoDomain late roomy = absurd late
memory_left pool refusal.BadFd late roomy = absurd late
memory_left pool refusal.BadAgg late roomy = absurd late
memory_left pool refusal.NoPool late roomy = absurd late
memory_left pool refusal.NoFile late roomy = absurd late
memory_left pool refusal.WrongMode late roomy = absurd late
memory_left pool refusal.BadRange late roomy = absurd late
memory_left pool refusal.TooLong late roomy = absurd late
memory_left pool refusal.TooMany late roomy = absurd late
memory_left pool (refusal.Denied p) late roomy = absurd late
memory_left pool (refusal.PoolClosed p) late roomy = absurd late
memory_left pool (refusal.PoolBusy p) late roomy = absurd late
memory_left pool refusal.BrokenPipe late roomy = absurd late
memory_left pool refusal.WouldBlock late roomy = absurd late
memory_left pool (refusal.NoRoom p) late roomy = absurd (roomy p refl)
memory_left pool (refusal.Fault f) late roomy = absurd late
memory_left pool refusal.Memory late roomy = refl

pub memory_wanted : (pool : ℕ) (x : Refusal) → x ≡ Memory → WantOfRoom pool x
memory_wanted pool x is = subst (WantOfRoom pool) (sym is) tt

-- There is no room for the bytes, and nothing changed.

pub places_none : {A : Type 0} (m : State → Meaning A) (put : State → Text → State) (pool n : ℕ) (h k : KernelState)
    → MakesRoom pool (pages_for n) h k → k ≡ h → ((f : Reading) → first (m (read_of f h)).refusals ≡ None)
    → ((f : Reading) → (m (read_of f h)).Late (NoRoom pool)) → can_fit h pool n ≡ false
    → Places m put pool n h (Err (NoRoom pool)) k
places_none {A} m put pool n h k room same passed late lacks = record {
  serves = λ disk. record {
    step = λ backed placed. (none disk.slots, room.same.files disk backed);
    backed = room.same.backed disk;
    beside = record {
      before = slots;
      after = slots;
      step = (
        subst (λ (s : State). MatchOption (first (m s).refusals) ((m s).Late (NoRoom pool)) (λ y. NoRoom pool ≡ y))
            (sym (with_slots-same h [])) (none []),
        room.same.beside slots,
      );
    };
    honest = refl;
    sums = ap (λ (x : KernelState). x.sums) room.rest;
    sound = room.sound;
    stays = room.gives_up.moves.stays;
  };
  made = tt;
  refused = inl same;
  room = tt;
  no_room = λ p e. lacks;
  memory = λ e. absurd (cc e);
}
  where
    slots : List (List ℕ)
    slots = (machine_of [] h).slots

    none : (stored : List (List ℕ))
        → MatchOption (first (m (machine_of stored h)).refusals) ((m (machine_of stored h)).Late (NoRoom pool))
        (λ y. NoRoom pool ≡ y)
    none stored =
        late_step (m (machine_of stored h)) (NoRoom pool) (passed (bytes_over stored h.store))
        (late (bytes_over stored h.store))

-- If room was made, the call is carried out from there.

pub serves_after : {A : Type 0} (m : State → Meaning A) (pool pages : ℕ) (h k l : KernelState) (r : Result A Refusal)
    → MakesRoom pool pages h k → Steps m k r l → IsSound l → l.cache ≡ k.cache → l.sums ≡ k.sums → Stays k.store l.store
    → (disk : Disk) → Serves m disk h r disk l
serves_after m pool pages h k l r room steps sound cache sums stays disk = record {
  step = λ backed placed. subst (λ (s : State). Step (m s) s r (machine_of disk.slots l)) (room.same.files disk backed)
      (steps disk.slots);
  backed = λ backed. backed_stays disk k l room.sound sound cache stays (room.same.backed disk backed);
  beside = (let x : StepsBeside m k r l = steps_beside m k l r [] [] (steps []) in
      record {
        before = x.before;
        after = x.after;
        step =
            subst (λ (s : State). Step (m s) s r (with_slots x.after l)) (room.same.beside x.before) x.step;
      });
  honest = refl;
  sums = sums ∙ ap (λ (x : KernelState). x.sums) room.rest;
  sound = sound;
  stays = stays_trans room.gives_up.moves.stays stays;
}

pub places_filled : {A : Type 0} (m : State → Meaning A) (put : State → Text → State) (pool n : ℕ) (h k l : KernelState)
    (a : A) → MakesRoom pool (pages_for n) h k → can_fit h pool n ≡ true → Steps m k (Ok a) l
    → MakesBytes put pool n k l → IsSound l → l.cache ≡ k.cache → Stays k.store l.store
    → Places m put pool n h (Ok a) l
places_filled m put pool n h k l a room fits' steps made sound cache stays = record {
  serves = serves_after m pool (pages_for n) h k l (Ok a) room steps sound cache made.sums stays;
  made = record { roomy = k; room = room; then = made };
  refused = tt;
  room = fits';
  no_room = λ p e. absurd (cc e);
  memory = λ e. absurd (cc e);
}

-- a refusal for lack of memory
pub places_late : {A : Type 0} (m : State → Meaning A) (put : State → Text → State) (pool n : ℕ) (h k l : KernelState)
    (x : Refusal) → MakesRoom pool (pages_for n) h k → has_room k.store pool n ≡ true → can_fit h pool n ≡ true
    → Steps m k (Err x) l → l ≡ k → WantOfRoom pool x
    → ((p : ℕ) → ◌≡◌ {A = Result A Refusal} (Err x) (Err (NoRoom p)) → has_room k.store pool n ≡ false)
    → Places m put pool n h (Err x) l
places_late {A} m put pool n h k l x room roomy fits' steps same late lacks =
    subst (λ (y : KernelState). Places m put pool n h (Err x) y) (sym same) (record {
      serves =
          serves_after m pool (pages_for n) h k k (Err x) room
          (subst (λ (y : KernelState). Steps m k (Err x) y) same steps)
          room.sound refl refl (stays_here k.store);
      made = tt;
      refused =
          inr (record {
            memory = memory_left pool x late (λ p is. absurd (cc (sym roomy ∙ lacks p (ap (λ y. Err y) is))));
            fits = fits';
            room = room;
          });
      room = tt;
      no_room = λ p e. absurd (cc (sym roomy ∙ lacks p e));
      memory = λ e. fits';
    })

-- Bytes that were placed, and bytes that were not.

pub fills_some : (m : State → Meaning ℕ) (put : State → Text → State) (pool n : ℕ) (h k : KernelState)
    → Steps m h (Ok n) k → MakesBytes put pool n h k → IsSound k → Stays h.store k.store → Fills m put pool h (Ok n) k
fills_some m put pool n h k step made sound stays =
    record {
      step = step;
      made = made;
      refused = tt;
      cache = made.cache;
      sound = sound;
      stays = stays;
      no_room =
          λ p e. absurd (cc e);
    }

pub fills_none : (m : State → Meaning ℕ) (put : State → Text → State) (pool : ℕ) (h k : KernelState) (x : Refusal)
    → IsSound h → k ≡ h
    → ((stored : List (List ℕ)) → Step (m (machine_of stored h)) (machine_of stored h) (Err x) (machine_of stored h))
    → ((p : ℕ) → ◌≡◌ {A = Result ℕ Refusal} (Err x) (Err (NoRoom p))
    → has_room h.store pool (m (machine_of [] h)).answer ≡ false)
    → Fills m put pool h (Err x) k
fills_none m put pool h k x sound same step lacks =
    subst (λ (l : KernelState). Fills m put pool h (Err x) l) (sym same)
    (record {
      step = step;
      made = tt;
      refused = refl;
      cache = refl;
      sound = sound;
      stays = stays_here h.store;
      no_room =
          lacks;
    })

-- New bytes of a queue: the machine determines how many fit, and in which pool they are placed.

module _ (m : State → Meaning ℕ) (put : State → Text → State) (pool_of : State → ℕ) (pool count : ℕ) (h k : KernelState)
    (room : MakesRoom pool (pages_for count) h k)
    (same_first : (s : State) (x : List (List ℕ)) → first (m (record s { slots = x })).refusals ≡ first (m s).refusals)
    (same_answer : (s : State) (x : List (List ℕ)) → (m (record s { slots = x })).answer ≡ (m s).answer)
    (same_pool : (s : State) (x : List (List ℕ)) → pool_of (record s { slots = x }) ≡ pool_of s)
    (late : (s : State) (x : Refusal) → (m s).Late x → WantOfRoom (pool_of s) x) (passed : (f : Reading)
    → first (m (read_of f h)).refusals ≡ None) (in_pool : (f : Reading) → pool_of (read_of f h) ≡ pool)
    (counted : (f : Reading) → (m (read_of f h)).answer ≡ count) where
  abbrev now : State
  now = machine_of [] k

  passed_now : first (m now).refusals ≡ None
  passed_now = kept_machine (λ s. first (m s).refusals) pool (pages_for count) h k room same_first
      ∙ passed (bytes_over [] h.store)

  pool_now : pool_of now ≡ pool
  pool_now = kept_machine pool_of pool (pages_for count) h k room same_pool ∙ in_pool (bytes_over [] h.store)

  count_now : (m now).answer ≡ count
  count_now = kept_machine (λ s. (m s).answer) pool (pages_for count) h k room same_answer
      ∙ counted (bytes_over [] h.store)

  late_now : (x : Refusal) → MatchOption (first (m now).refusals) ((m now).Late x) (λ y. x ≡ y) → WantOfRoom pool x
  late_now x is =
      subst (λ p. WantOfRoom p x) pool_now
      (late now x (subst (λ o. MatchOption o ((m now).Late x) (λ y. x ≡ y)) passed_now is))

  as_asked : (r : Result ℕ Refusal) (l : KernelState) → Places m put pool count h r l
      → Places m put (pool_of (machine_of [] h)) (m (machine_of [] h)).answer h r l
  as_asked r l is =
      subst (λ p. Places m put p (m (machine_of [] h)).answer h r l) (sym (in_pool (bytes_over [] h.store)))
      (subst (λ n. Places m put pool n h r l) (sym (counted (bytes_over [] h.store))) is)

  pub queue_places : (l : KernelState) (r : Result ℕ Refusal) → has_room k.store pool count ≡ true
      → can_fit h pool count ≡ true → Fills m put (pool_of now) k r l
      → Places m put (pool_of (machine_of [] h)) (m (machine_of [] h)).answer h r l
  queue_places l (Ok n) roomy fits' x =
      let here =
      subst (λ p. MakesBytes put p count k l) pool_now
      (subst (λ c. MakesBytes put (pool_of now) c k l) ((x.step []).1 ∙ count_now) x.made) in
      as_asked (Ok n) l (places_filled m put pool count h k l n room fits' x.step here x.sound x.cache x.stays)
  queue_places l (Err y) roomy fits' x =
      as_asked (Err y) l (places_late m put pool count h k l y room roomy fits' x.step x.refused
      (late_now y (x.step []).0) (λ p e. ap (λ q. has_room k.store q count) (sym pool_now)
      ∙ ap (has_room k.store (pool_of now)) (sym count_now) ∙ x.no_room p e))

  pub queue_none : k ≡ h → ((f : Reading) → (m (read_of f h)).Late (NoRoom pool)) → can_fit h pool count ≡ false
      → Places m put (pool_of (machine_of [] h)) (m (machine_of [] h)).answer h (Err (NoRoom pool)) k
  queue_none same wants lacks =
      as_asked (Err (NoRoom pool)) k (places_none m put pool count h k room same passed wants lacks)

-- no bytes always fit
pub none_fit : (h : KernelState) (p n : ℕ) → can_fit h p n ≡ false → n ≡ 0 → ⊥
none_fit h p n lacks none =
    let few =
    length-filter_both (is_pinned h.store (clean_held h.cache.files))
    (λ q. not (is_pinned h.store (clean_held h.cache.files) q)) (λ q. refl) (pages_of h.store p) in
    let pages : pages_for n ≡ 0 = ap pages_for none ∙ no_pages in
    absurd
    (cc
    (sym (le_yes (pinned_beside h.store (clean_held h.cache.files) p + pages_for n) (length (pages_of h.store p))
    (omega (arith, few, pages))) ∙ lacks))
  where
    le_yes : (a b : ℕ) → a ≤ b → nat_le a b ≡ true
    le_yes a b le = grind (arith, nat_tests, le)

-- bytes of files keep their places, except those under clean extents
pub filled_keeps : (put : State → Text → State) (pool n : ℕ) (h l : KernelState)
    → AfterRoom pool n h (λ roomy. MakesBytes put pool n roomy l) → KeepsDirty h.cache l.cache
filled_keeps put pool n h l x = subst (λ (c : Cached). KeepsDirty h.cache c) (sym x.then.cache) x.room.keeps
