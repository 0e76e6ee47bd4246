-- The list of entries, in the order of file and place.
use Rattle.std.proofs.Common.{◌≡◌, ◌≢◌, ℕ, ◌<◌, ◌≤◌, Bool, true, false, List, [], ◌∷◌, length, get_or, arith, refl, sym}
use Rattle.std.proofs.Common.{ap, ◌∙◌, Some, None, zero, suc}
use Rattle.std.specs.List.{insert, remove}
use Rattle.std.proofs.lemmas.Bool.Decides.{nat_tests}
use Rattle.iol_evict.specs.declared.entry.Entry.{Entry}
use Rattle.iol_evict.specs.Order.{no_entry, is_at, lies_before, entry_at, put_in, without}

-- the test whether an entry is at a place
pub is_at-file : (e : Entry) (file at : ℕ) → is_at e file at ≡ true → e.file ≡ file
is_at-file e file at here = grind (arith, nat_tests, here)

pub is_at-at : (e : Entry) (file at : ℕ) → is_at e file at ≡ true → e.at ≡ at
is_at-at e file at here = grind (arith, nat_tests, here)

pub is_at-true : (e : Entry) (file at : ℕ) → e.file ≡ file → e.at ≡ at → is_at e file at ≡ true
is_at-true e file at f a = grind (arith, nat_tests, f, a)

pub is_at-false : (e : Entry) (file at : ℕ) → (e.file ≡ file → e.at ≡ at → ⊥) → is_at e file at ≡ false
is_at-false e file at apart = by (is_at e file at) refl
  where
    by : (b : Bool) → is_at e file at ≡ b → is_at e file at ≡ false
    by true here = absurd (apart (is_at-file e file at here) (is_at-at e file at here))
    by false away = away

-- an insertion at n keeps the order, if the entries before n come before e, and the entry at n does not
pub insert-put_in : (es : List Entry) (n : ℕ) (e : Entry) → n ≤ length es
    → ((i : ℕ) → i < n → lies_before (get_or es i no_entry) e.file e.at ≡ true)
    → (n < length es → lies_before (get_or es n no_entry) e.file e.at ≡ false) → insert es n e ≡ put_in es e
insert-put_in [] zero e within before after = refl
insert-put_in [] (suc n) e within before after = absurd (omega (arith, within))
insert-put_in (x ∷ es) zero e within before after = rw (after (omega arith)) refl
insert-put_in (x ∷ es) (suc n) e within before after =
    let here : lies_before x e.file e.at ≡ true = before 0 (omega arith) in
    let more = insert-put_in es n e (omega (arith, within)) (λ i lt. before (suc i) (omega (arith, lt)))
    (λ lt. after (omega (arith, lt))) in
    rw here (ap (λ (ys : List Entry). x ∷ ys) more)

pub remove-without : (es : List Entry) (n file at : ℕ) → n < length es
    → ((i : ℕ) → i < n → is_at (get_or es i no_entry) file at ≡ false) → is_at (get_or es n no_entry) file at ≡ true
    → remove es n ≡ without es file at
remove-without [] n file at within before here = absurd (omega (arith, within))
remove-without (x ∷ es) zero file at within before here = rw here refl
remove-without (x ∷ es) (suc n) file at within before here =
    let away : is_at x file at ≡ false = before 0 (omega arith) in
    let more = remove-without es n file at (omega (arith, within)) (λ i lt. before (suc i) (omega (arith, lt))) here in
    rw away (ap (λ (ys : List Entry). x ∷ ys) more)

pub entry_at-is : (es : List Entry) (n file at : ℕ) → n < length es
    → ((i : ℕ) → i < n → is_at (get_or es i no_entry) file at ≡ false) → is_at (get_or es n no_entry) file at ≡ true
    → entry_at es file at ≡ Some (get_or es n no_entry)
entry_at-is [] n file at within before here = absurd (omega (arith, within))
entry_at-is (x ∷ es) zero file at within before here = rw here refl
entry_at-is (x ∷ es) (suc n) file at within before here =
    let away : is_at x file at ≡ false = before 0 (omega arith) in
    let more = entry_at-is es n file at (omega (arith, within)) (λ i lt. before (suc i) (omega (arith, lt))) here in
    rw away more

-- an entry is at the place, under this index
pub record LiesAt (es : List Entry) (file at : ℕ) : Type 0 where
  pub index : ℕ
  pub within : index < length es
  pub here : is_at (get_or es index no_entry) file at ≡ true

pub entry_at-some : (es : List Entry) (file at : ℕ) → entry_at es file at ≢ None → LiesAt es file at
entry_at-some [] file at some = absurd (some refl)
entry_at-some (x ∷ es) file at some = by (is_at x file at) refl (entry_at-some es file at)
  where
    by : (b : Bool) → is_at x file at ≡ b → (entry_at es file at ≢ None → LiesAt es file at) → LiesAt (x ∷ es) file at
    by true here more = record { index = 0; within = omega arith; here = here }
    by false away more =
        let there = more (λ none. some (rw away none)) in
        record { index = suc there.index; within = omega (arith, there.within); here = there.here }

-- if no entry is found at a place, none is there
pub entry_at-none : (es : List Entry) (i file at : ℕ) → entry_at es file at ≡ None → i < length es
    → is_at (get_or es i no_entry) file at ≡ false
entry_at-none [] i file at none within = absurd (omega (arith, within))
entry_at-none (x ∷ es) i file at none within = by (is_at x file at) refl (λ j. entry_at-none es j file at) i within
  where
    some : (e : Entry) → Some e ≡ None → ⊥
    some e is = cc

    by : (b : Bool) → is_at x file at ≡ b
        → ((j : ℕ) → entry_at es file at ≡ None → j < length es → is_at (get_or es j no_entry) file at ≡ false)
        → (i : ℕ) → i < length (x ∷ es) → is_at (get_or (x ∷ es) i no_entry) file at ≡ false
    by true here more i within =
        absurd (some x (let e : entry_at (x ∷ es) file at ≡ Some x = rw here refl in sym e ∙ none))
    by false away more zero within = away
    by false away more (suc i) within =
        more i (let e : entry_at (x ∷ es) file at ≡ entry_at es file at = rw away refl in
        sym e ∙ none) (omega (arith, within))
