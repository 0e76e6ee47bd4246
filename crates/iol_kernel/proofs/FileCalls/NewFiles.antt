-- The call that names a file: its step with an honest store, and over any store.
use Rattle.std.proofs.Common.{◌≡◌, ℕ, ◌+◌, ◌<◌, ◌≤◌, ◌∙◌, Bool, true, false, List, [], ◌∷◌, length, Option, Some, None}
use Rattle.std.proofs.Common.{refl, sym, ap, subst, arith, inl, inr}
use Rattle.std.specs.Prelude.{MatchOption, Result, Ok, Err, nat_lt, nat_le, not, ◌||◌, ◌==◌, is_some}
use Rattle.std.proofs.lemmas.Bool.{cases_eq, cases_lt}
use Rattle.std.proofs.lemmas.Bool.Decides.{nat_tests}
use Rattle.iol_core.specs.Meaning.{Meaning, Step, first, ◌when◌}
use Rattle.iol_core.specs.State as machine
use Rattle.iol_core.specs.State.{State}
use Rattle.iol_core.specs.Calls.Files as calls
use Rattle.iol_core.specs.declared.limits.TheConstants.{MAX_FILES, MAX_FILE_BYTES, MAX_NAME_BYTES}
use Rattle.iol_core.specs.declared.refusals.Refusal.{Refusal}
use Rattle.iol_core.specs.declared.refusals.Refusal.TheVariants.{NoDomain, NoPool, WrongMode, BadRange, TooLong}
use Rattle.iol_core.specs.declared.refusals.Refusal.TheVariants.{TooMany, Denied, PoolClosed, NoRoom, Memory}
use Rattle.iol_back.specs.Disk.{Disk, IfHonest, content}
use Rattle.iol_hold.specs.StoreState.{Stored}
use Rattle.iol_hold.proofs.AtPlaces.{keeps_bytes}
use Rattle.iol_kernel.specs.Calls.{AddsFile, Names, ReportsNext}
use Rattle.iol_kernel.specs.FileLengths.{AsksNext}
use Rattle.iol_kernel.specs.KernelState.{KernelState, AreFiled, IsSound, read_of, machine_of}
use Rattle.iol_kernel.specs.Readings.{Reading, bytes_over}
use Rattle.iol_kernel.proofs.State.Beside.{even, length-even}
use Rattle.iol_kernel.proofs.FileCalls.FileNames.{files-read_of, last-slot, next-slot}
use Rattle.iol_kernel.proofs.State.CacheUntouched.{steps_beside}

-- Whether the next slot has more bytes than a file may have, for some bytes of the store.

next-length : (f : Reading) (h : KernelState) (stored : List (List ℕ)) → AreFiled h.files h.cache.files
    → length h.files < MAX_FILES → f.stored ≡ stored
    → length (machine.content (read_of f h) (length (read_of f h).files + 1))
    ≡ length (content stored (length h.files + 1))
next-length f h stored filed few same =
    ap (λ (fs : List machine.File). length (machine.content (read_of f h) (length fs + 1))) (files-read_of f h)
    ∙ ap length (next-slot f h filed few)
    ∙ ap (λ (slots : List (List ℕ)). length (content slots (length h.files + 1))) same

last-length : (f : Reading) (h : KernelState) → MAX_FILES ≤ length h.files
    → length (machine.content (read_of f h) (length (read_of f h).files + 1)) ≡ 0
last-length f h full =
    ap (λ (fs : List machine.File). length (machine.content (read_of f h) (length fs + 1))) (files-read_of f h)
    ∙ ap length (last-slot f h full)

length-even_content : (m len f : ℕ) → 0 < f → f ≤ m → length (content (even m len) f) ≡ len
unfolding content
length-even_content m len f some within = length-even m len f some within

length-no_content : (f : ℕ) → length (content [] f) ≡ 0
unfolding content
length-no_content f = elim (cases_eq f 0) [ inl k ↦ grind (arith, nat_tests, k) | inr k ↦ grind (arith, nat_tests, k) ]

long_is : (len : ℕ) → MAX_FILE_BYTES < len → nat_lt MAX_FILE_BYTES len ≡ true
long_is len lt = grind (arith, nat_tests, lt)

pub reports_next : (h : KernelState) (long : Bool) → AreFiled h.files h.cache.files
    → (long ≡ true → length h.files < MAX_FILES) → ReportsNext h long
reports_next h true filed few = record {
  stored = even MAX_FILES (MAX_FILE_BYTES + 1);
  is =
      λ f same.
      sym (ap (nat_lt MAX_FILE_BYTES) (next-length f h (even MAX_FILES (MAX_FILE_BYTES + 1)) filed (few refl) same
      ∙ length-even_content MAX_FILES (MAX_FILE_BYTES + 1) (length h.files + 1) (omega arith) (omega (arith, few refl)))
      ∙ long_is (MAX_FILE_BYTES + 1) (omega arith));
}
reports_next h false filed few = record {
  stored = [];
  is = λ f same. sym (ap (nat_lt MAX_FILE_BYTES) (elim (cases_lt (length h.files) MAX_FILES) [
    | inl k ↦ next-length f h [] filed k same ∙ length-no_content (length h.files + 1)
    | inr k ↦ last-length f h k
  ]));
}

-- The tests of a call that is not refused.

tests : (a b c d e f g h : Bool) (p : ℕ)
    → first ((NoDomain when a) ∷ (NoPool when b) ∷ (WrongMode when c) ∷ (BadRange when d) ∷ (TooLong when e)
    ∷ (TooMany when f) ∷ (Denied p when g) ∷ (PoolClosed p when h) ∷ []) ≡ None → (e ≡ false) × (f ≡ false)
tests true b c d e f g h p passed = absurd (cc passed)
tests false true c d e f g h p passed = absurd (cc passed)
tests false false true d e f g h p passed = absurd (cc passed)
tests false false false true e f g h p passed = absurd (cc passed)
tests false false false false true f g h p passed = absurd (cc passed)
tests false false false false false true g h p passed = absurd (cc passed)
tests false false false false false false g h p passed = (refl, refl)

not_long : (len : ℕ) → nat_lt MAX_FILE_BYTES len ≡ false → len ≤ MAX_FILE_BYTES
not_long len no_more = grind (arith, nat_tests, no_more)

not_full : (n : ℕ) → nat_le MAX_FILES n ≡ false → n < MAX_FILES
not_full n no_more = grind (arith, nat_tests, no_more)

next_short : (disk : Disk) (h : KernelState) (d p : ℕ) (name : List ℕ) → AreFiled h.files h.cache.files
    → first (calls.file_new (machine_of disk.slots h) d name p).refusals ≡ None
    → length (content disk.slots (length h.files + 1)) ≤ MAX_FILE_BYTES
next_short disk h d p name filed passed =
    let s : State = machine_of disk.slots h in
    let both = tests (not (machine.is_live s d)) (not (machine.is_pool s p)) (is_some (calls.file_called s name))
    ((length name == 0) || nat_lt MAX_NAME_BYTES (length name))
    (nat_lt MAX_FILE_BYTES (length (machine.content s (length s.files + 1)))) (nat_le MAX_FILES (length s.files))
    (not (machine.may_read s d p)) (machine.pool s p).closed p passed in
    let few : length h.files < MAX_FILES =
    subst (λ (fs : List machine.File). length fs < MAX_FILES) (files-read_of (bytes_over disk.slots h.store) h)
    (not_full (length s.files) both.1) in
    subst (λ n. n ≤ MAX_FILE_BYTES) (next-length (bytes_over disk.slots h.store) h disk.slots filed few refl)
    (not_long (length (machine.content s (length s.files + 1))) both.0)

-- a refusal changes nothing
unnamed : (disk : Disk) (m : State → Meaning ℕ) (h k : KernelState) (x : Refusal) (stored : List (List ℕ))
    → (let s : State = machine_of disk.slots h in IfHonest disk (Step (m s) s (Err x) s))
    → (let s : State = machine_of stored h in Step (m s) s (Err x) s)
    → ((p : ℕ) → x ≡ NoRoom p → ⊥) → k ≡ h → IsSound h → Names disk m h (Err x) k
unnamed disk m h k x stored step aside roomy same sound =
    subst (λ (l : KernelState). Names disk m h (Err x) l) (sym same) (record {
      step = step;
      backed = λ backed. backed;
      beside = steps_beside m h h (Err x) stored stored aside;
      places = tt;
      store = refl;
      roomy = λ p e. roomy p (inside x (NoRoom p) e);
      refused = refl;
      sums = refl;
      keeps = record { each = λ f i c is. is };
      same = refl;
      added = tt;
      sound = sound;
    })
  where
    inside : (y z : Refusal) → ◌≡◌ {A = Result ℕ Refusal} (Err y) (Err z) → y ≡ z
    inside y z e = cc

-- by the first refusal that applies
refused_first : (m : State → Meaning ℕ) (s : State) (x : Refusal) → first (m s).refusals ≡ Some x
    → Step (m s) s (Err x) s
refused_first m s x is = (subst (λ (o : Option Refusal). MatchOption o ((m s).Late x) (λ y. x ≡ y)) (sym is) refl, refl)

-- or late
refused_late : (m : State → Meaning ℕ) (s : State) (x : Refusal) → first (m s).refusals ≡ None → (m s).Late x
    → Step (m s) s (Err x) s
refused_late m s x none late =
    (subst (λ (o : Option Refusal). MatchOption o ((m s).Late x) (λ y. x ≡ y)) (sym none) late, refl)

-- a refusal that does not ask for a length
pub refused_always : (disk : Disk) (m : State → Meaning ℕ) (h : KernelState) (x : Refusal)
    → ((f : Reading) → first (m (read_of f h)).refusals ≡ Some x) → ((p : ℕ) → x ≡ NoRoom p → ⊥) → IsSound h
    → Names disk m h (Err x) h
refused_always disk m h x is roomy sound =
    unnamed disk m h h x [] (λ honest. refused_first m (machine_of disk.slots h) x (is (bytes_over disk.slots h.store)))
    (refused_first m (machine_of [] h) x (is (bytes_over [] h.store))) roomy refl sound

-- By the report about the next slot: with the bytes of an honest store, and with some bytes.

module _ (disk : Disk) (h : KernelState) (d p : ℕ) (name : List ℕ) {long : Bool} (next : AsksNext disk h long)
    (sound : IsSound h) where
  abbrev m : State → Meaning ℕ
  m s = calls.file_new s d name p

  -- the tests give this result, for each reading that agrees with the report
  abbrev Comes : Option Refusal → Type 0
  Comes o = (f : Reading)
      → long ≡ nat_lt MAX_FILE_BYTES (length (machine.content (read_of f h) (length (read_of f h).files + 1)))
      → first (m (read_of f h)).refusals ≡ o

  here : (o : Option Refusal) → Comes o → IfHonest disk (first (m (machine_of disk.slots h)).refusals ≡ o)
  here o is i = is (bytes_over disk.slots h.store) (next.honest i (bytes_over disk.slots h.store) refl)

  aside : (o : Option Refusal) → Comes o → first (m (machine_of next.reported.stored h)).refusals ≡ o
  aside o is =
      is (bytes_over next.reported.stored h.store) (next.reported.is (bytes_over next.reported.stored h.store) refl)

  pub refused_reported : (x : Refusal) → Comes (Some x) → ((q : ℕ) → x ≡ NoRoom q → ⊥) → Names disk m h (Err x) h
  refused_reported x is roomy =
      unnamed disk m h h x next.reported.stored (λ i. refused_first m (machine_of disk.slots h) x (here (Some x) is i))
      (refused_first m (machine_of next.reported.stored h) x (aside (Some x) is)) roomy refl sound

  -- and the late refusal
  pub refused_memory : (k : KernelState) → Comes None → k ≡ h → Names disk m h (Err Memory) k
  refused_memory k is same =
      unnamed disk m h k Memory next.reported.stored
      (λ i. refused_late m (machine_of disk.slots h) Memory (here None is i) tt)
      (refused_late m (machine_of next.reported.stored h) Memory (aside None is) tt) (λ q e. cc e) same sound

  -- the file was added
  pub names : (k : KernelState) (n : ℕ) → Comes None → AddsFile m h n k → Names disk m h (Ok n) k
  names k n is one = record {
    step = λ i. stepped disk.slots (here None is i);
    backed = λ backed. one.backed disk (next_short disk h d p name sound.filed (here None is backed.honest)) backed;
    beside =
        steps_beside m h k (Ok n) next.reported.stored next.reported.stored
        (stepped next.reported.stored (aside None is));
    places = one.after;
    store = one.store;
    roomy = λ q e. cc e;
    refused = tt;
    sums = one.sums;
    keeps = one.keeps;
    same = one.same;
    added = one.added;
    sound = one.sound;
  }
    where
      stepped : (slots : List (List ℕ)) → first (m (machine_of slots h)).refusals ≡ None
          → Step (m (machine_of slots h)) (machine_of slots h) (Ok n) (machine_of slots k)
      stepped slots none = (
        none,
        one.answer (bytes_over slots h.store) (keeps_bytes h.store),
        ap (λ (s : Stored). read_of (bytes_over slots s) k) one.store
            ∙ one.after (bytes_over slots h.store) (keeps_bytes h.store),
      )
