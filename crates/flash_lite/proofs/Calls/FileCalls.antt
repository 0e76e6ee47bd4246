-- The results of the calls that name files.
use Rattle.std.proofs.Common.{◌≡◌, ℕ, zero, suc, ◌+◌, ◌≤◌, ◌<◌, List, [], ◌∷◌, ◌++◌, length, map, refl, sym, subst, ap}
use Rattle.std.proofs.Common.{◌∙◌, arith, append_assoc, rules, length-append, Option, Some, None, true, false, Bool}
use Rattle.std.specs.Prelude.{if◌then◌else◌, bytes_eq, position, option_map, is_some, nat_lt}
use Rattle.std.specs.List.{slice_get}
use Rattle.std.proofs.lemmas.Bool.Decides.{nat_tests}
use Rattle.std.proofs.lemmas.Grind.{common_steps}
use Rattle.std.proofs.lemmas.List.{append-nil}
use Rattle.std.proofs.lemmas.Option.{get_or_from_slice_get}
use Rattle.std.proofs.lemmas.Slice.Eq.{bytes_eq-Decides}
use Rattle.iol_core.specs.NumberedLists.{numbered_or}
use Rattle.iol_core.specs.Calls.Files.{file_called}
use Rattle.iol_core.specs.State.{State, File, content}
use Rattle.iol_core.specs.Run.{meaning}
use Rattle.iol_core.specs.declared.refusals.Refusal.TheVariants.{WrongMode, TooLong}
use Rattle.iol_core.specs.declared.limits.TheConstants.{MAX_FILE_BYTES}
use Rattle.iol_core.specs.declared.events.Call.TheVariants as call
use Rattle.iol_core.specs.declared.events.Event.{Event}
use Rattle.iol_core.proofs.TestedLists.{passed, when-none}
use Rattle.flash_lite.specs.Setup.{call_by, file_named}
use Rattle.flash_lite.specs.SiteState.{file_of}
use Rattle.flash_lite.specs.declared.site.SiteFile.{SiteFile}
use Rattle.flash_lite.proofs.Calls.PassedRuns.{Passes, over}

-- ---- positions

same_bytes : (l : List ℕ) → bytes_eq l l ≡ true
same_bytes l = search (rules, bytes_eq-Decides)

pub position-cons : {A : Type 0} (p : A → Bool) (x : A) (xs : List A)
    → position p (x ∷ xs) ≡ (if p x then Some 0 else option_map (λ i. i + 1) (position p xs))
position-cons p x xs = grind (arith, nat_tests, common_steps)

none-mapped : (o : Option ℕ) → option_map (λ i. i + 1) o ≡ None → o ≡ None
none-mapped None is = refl
none-mapped (Some i) is = absurd (cc)

pub position-past : {A : Type 0} (p : A → Bool) (z : A) (l : List A) → p z ≡ false
    → position p (z ∷ l) ≡ option_map (λ i. i + 1) (position p l)
position-past p z l is = position-cons p z l
    ∙ ap (λ (b : Bool). if b then Some 0 else option_map (λ i. i + 1) (position p l)) is

pub position-here : {A : Type 0} (p : A → Bool) (z : A) (l : List A) → p z ≡ true → position p (z ∷ l) ≡ Some 0
position-here p z l is = position-cons p z l
    ∙ ap (λ (b : Bool). if b then Some 0 else option_map (λ i. i + 1) (position p l)) is

none-before : {A : Type 0} (p : A → Bool) (z : A) (l : List A) → position p (z ∷ l) ≡ None → p z ≡ false
none-before {A = A} p z l none = by (p z) refl
  where
    by : (b : Bool) → p z ≡ b → p z ≡ false
    by true is = let here : position p (z ∷ l) ≡ Some 0 = position-here p z l is in absurd (cc)
    by false is = is

-- the first element that passes is after those that fail
pub position-fresh : {A : Type 0} (p : A → Bool) (xs ys : List A) (x : A) → position p xs ≡ None → p x ≡ true
    → position p (xs ++ x ∷ ys) ≡ Some (length xs)
position-fresh p [] ys x none here = position-here p x ys here
position-fresh p (z ∷ xs) ys x none here =
    let past : p z ≡ false = none-before p z xs none in
    let rest = position-fresh p xs ys x (none-mapped (position p xs) (sym (position-past p z xs past) ∙ none)) here in
    let e : length xs + 1 ≡ suc (length xs) = omega arith in
    position-past p z (xs ++ x ∷ ys) past
    ∙ (ap (λ (o : Option ℕ). option_map (λ i. i + 1) o) rest ∙ ap (λ (k : ℕ). Some k) e)

-- ---- one file

abbrev pub kept_in : (private : Bool) → (name : List ℕ) → File
kept_in private name = record { name = name; pool = if private then 4 else 1 }

few : (n : ℕ) → nat_lt MAX_FILE_BYTES n ≡ false → n ≤ MAX_FILE_BYTES
few n is = grind (arith, nat_tests, is)

not_some : (o : Option ℕ) → is_some (option_map (λ i. i + 1) o) ≡ false → o ≡ None
not_some None is = refl
not_some (Some i) is = absurd (cc)

pub slice_get-later : {A : Type 0} (x : A) (xs : List A) (i : ℕ) → slice_get (x ∷ xs) (suc i) ≡ slice_get xs i
slice_get-later x xs i = refl

pub slice_get-first : {A : Type 0} (x y : A) (xs : List A) → slice_get (x ∷ xs) 0 ≡ Some y → x ≡ y
slice_get-first x y xs is = get_or_from_slice_get (x ∷ xs) 0 y y is

module _ (Of : List (List ℕ) → Type 0) where
  -- for some possible contents of the slots, the file's slot is within the limit
  pub record IsShort (file : ℕ) : Type 0 where
    pub slots : List (List ℕ)
    pub theirs : Of slots
    pub within : length (numbered_or slots file []) ≤ MAX_FILE_BYTES

  pub record Filed (name : List ℕ) (private : Bool) (es : List Event) (s t : State) : Type 0 where
    pub new : position (λ f. bytes_eq f.name name) s.files ≡ None
    pub short : IsShort (length s.files + 1)
    pub on : Passes Of (record s { files = s.files ++ kept_in private name ∷ [] }) es t

  pub filed : (private : Bool) (guest : ℕ) (name : List ℕ) (es : List Event) (s t : State)
      → Passes Of s ((if private then call_by guest (call.FileNew name 4) else call_by 1 (call.FileNew name 1)) ∷ es) t
      → Filed name private es s t
  unfolding content
  filed true guest name es s t all = record {
    new =
        not_some (position (λ f. bytes_eq f.name name) s.files)
        (when-none WrongMode (is_some (file_called (over all.0 s) name))
        (passed (meaning (over all.0 s) (call_by guest (call.FileNew name 4))).refusals 2 all.2));
    short = record {
      slots = all.0;
      theirs = all.1;
      within =
          few (length (content (over all.0 s) (length s.files + 1)))
          (when-none TooLong (nat_lt MAX_FILE_BYTES (length (content (over all.0 s) (length s.files + 1))))
          (passed (meaning (over all.0 s) (call_by guest (call.FileNew name 4))).refusals 4 all.2));
    };
    on = all.3;
  }
  filed false guest name es s t all = record {
    new =
        not_some (position (λ f. bytes_eq f.name name) s.files)
        (when-none WrongMode (is_some (file_called (over all.0 s) name))
        (passed (meaning (over all.0 s) (call_by 1 (call.FileNew name 1))).refusals 2 all.2));
    short = record {
      slots = all.0;
      theirs = all.1;
      within =
          few (length (content (over all.0 s) (length s.files + 1)))
          (when-none TooLong (nat_lt MAX_FILE_BYTES (length (content (over all.0 s) (length s.files + 1))))
          (passed (meaning (over all.0 s) (call_by 1 (call.FileNew name 1))).refusals 4 all.2));
    };
    on = all.3;
  }

  -- ---- all files

  pub record AreFiled (s : State) (xs : List SiteFile) (t : State) : Type 0 where
    pub files : t ≡ record s { files = s.files ++ map file_of xs }
    pub short : (i : ℕ) → i < length xs → IsShort (length s.files + i + 1)
    pub named : (i : ℕ) (x : SiteFile) → slice_get xs i ≡ Some x
        → position (λ f. bytes_eq f.name x.name.items) (s.files ++ map file_of xs) ≡ Some (length s.files + i)

  pub files_named : (xs : List SiteFile) (guest : ℕ) (s t : State) → Passes Of s (map (λ f. file_named guest f) xs) t
      → AreFiled s xs t
  files_named [] guest s t all = record {
    files = all ∙ ap (λ (fs : List File). record s { files = fs }) (sym (append-nil s.files));
    short = λ i lt. absurd (omega (arith, lt));
    named = λ i x is. absurd (cc (is));
  }
  files_named (f ∷ xs) guest s t all =
      let one = filed f.private guest f.name.items (map (λ f. file_named guest f) xs) s t all in
      let rest = files_named xs guest (record s { files = s.files ++ file_of f ∷ [] }) t one.on in
      let joined = append_assoc s.files (file_of f ∷ []) (map file_of xs) in
      record {
        files = rest.files ∙ ap (λ (fs : List File). record s { files = fs }) joined;
        short = shorts one.short rest.short;
        named = names one.new rest.named;
      }
    where
      longer : length (s.files ++ file_of f ∷ []) ≡ length s.files + 1
      longer = length-append s.files (file_of f ∷ [])

      shorts : IsShort (length s.files + 1)
          → ((i : ℕ) → i < length xs → IsShort (length (s.files ++ file_of f ∷ []) + i + 1)) → (i : ℕ)
          → i < length (f ∷ xs) → IsShort (length s.files + i + 1)
      shorts one rest zero lt = let e : length s.files + 1 ≡ length s.files + 0 + 1 = omega arith in
          subst (λ (k : ℕ). IsShort k) e one
      shorts one rest (suc i) lt = let e : length (s.files ++ file_of f ∷ []) + i + 1 ≡ length s.files + suc i + 1 =
          omega (arith, longer) in subst (λ (k : ℕ). IsShort k) e (rest i (omega (arith, lt)))

      names : position (λ g. bytes_eq g.name f.name.items) s.files ≡ None
          → ((i : ℕ) (x : SiteFile) → slice_get xs i ≡ Some x
          → position (λ g. bytes_eq g.name x.name.items) ((s.files ++ file_of f ∷ []) ++ map file_of xs)
          ≡ Some (length (s.files ++ file_of f ∷ []) + i)) → (i : ℕ) (x : SiteFile) → slice_get (f ∷ xs) i ≡ Some x
          → position (λ g. bytes_eq g.name x.name.items) (s.files ++ map file_of (f ∷ xs)) ≡ Some (length s.files + i)
      names one rest zero x is =
          let same : f ≡ x = slice_get-first f x xs is in
          let e : length s.files ≡ length s.files + 0 = omega arith in
          subst (λ (y : SiteFile). position (λ g. bytes_eq g.name y.name.items) (s.files ++ map file_of (f ∷ xs))
          ≡ Some (length s.files + 0)) same
          (position-fresh (λ g. bytes_eq g.name f.name.items) s.files (map file_of xs) (file_of f) one
          (same_bytes f.name.items) ∙ ap (λ (k : ℕ). Some k) e)
      names one rest (suc i) x is =
          let e : length (s.files ++ file_of f ∷ []) + i ≡ length s.files + suc i = omega (arith, longer) in
          ap (λ (l : List File). position (λ g. bytes_eq g.name x.name.items) l)
          (sym (append_assoc s.files (file_of f ∷ []) (map file_of xs)))
          ∙ (rest i x (sym (slice_get-later f xs i) ∙ is) ∙ ap (λ (k : ℕ). Some k) e)
