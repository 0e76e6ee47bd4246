-- The number of descriptors of each pipe end and each connection: it is 1 if the object exists, and 0 otherwise.
use Rattle.std.proofs.Common.{zero, suc, ◌≡◌, ℕ, ◌+◌, ◌-◌, ◌<◌, ◌≤◌, ◌==◌, List, [], ◌∷◌, get_or, set, ap, ◌∙◌, refl}
use Rattle.std.proofs.Common.{sym, subst, arith, Option, Some, None, true, false, Bool}
use Rattle.std.specs.Prelude.{sum_by}
use Rattle.std.proofs.lemmas.Bool.Decides.{nat_tests}
use Rattle.std.proofs.lemmas.List.Sums.{sum_by-cons}
use Rattle.iol_core.specs.Text.{Text}
use Rattle.iol_core.specs.NumberedLists.{in_place, lowest, placed}
use Rattle.iol_core.specs.State.{State, Domain, domain, descriptor, no_domain}
use Rattle.iol_core.specs.Calls.Writes.{is_file}
use Rattle.iol_core.specs.declared.descriptors.Descriptor.{Descriptor}
use Rattle.iol_core.specs.declared.descriptors.Descriptor.TheVariants as on
use Rattle.iol_laws.specs.Frame.{is_conn}
use Rattle.iol_laws.specs.Order.{stands, IsOrderly}
use Rattle.iol_laws.proofs.Order.Closes.{is_read_end, is_write_end}
use Rattle.iol_laws.proofs.Places.{placed-cons, placed-none}
use Rattle.iol_laws.proofs.Tests.{same-number, itself}

-- When a sum over a list is positive, and when it is at most 1. An element past the end of the list counts 0.
module _ {A : Type 0} (w : A → ℕ) (z : A) (none : w z ≡ 0) where
  some-there : (xs : List A) → 0 < sum_by w xs → (n : ℕ) × (0 < w (get_or xs n z))
  some-there [] more = absurd (omega (arith, more))
  some-there (x ∷ xs) more = by (w x) refl (some-there xs)
    where
      by : (k : ℕ) → w x ≡ k → (0 < sum_by w xs → (n : ℕ) × (0 < w (get_or xs n z)))
          → (n : ℕ) × (0 < w (get_or (x ∷ xs) n z))
      by zero is rest = (let it = rest (omega (arith, more, sum_by-cons w x xs, is)) in (suc it.0, it.1))
      by (suc k) is rest = (0, omega (arith, is))

  pub at-most : (xs : List A) (n : ℕ) → w (get_or xs n z) ≤ sum_by w xs
  at-most [] n = omega (arith, none)
  at-most (x ∷ xs) zero = omega (arith, sum_by-cons w x xs)
  at-most (x ∷ xs) (suc n) = omega (arith, sum_by-cons w x xs, at-most xs n)

  one-there : (xs : List A) (n m : ℕ) → sum_by w xs ≤ 1 → 0 < w (get_or xs n z) → 0 < w (get_or xs m z) → n ≡ m
  one-there [] n m few here there = absurd (omega (arith, here, none))
  one-there (x ∷ xs) zero zero few here there = refl
  one-there (x ∷ xs) zero (suc m) few here there =
      absurd (omega (arith, few, here, there, sum_by-cons w x xs, at-most xs m))
  one-there (x ∷ xs) (suc n) zero few here there =
      absurd (omega (arith, few, here, there, sum_by-cons w x xs, at-most xs n))
  one-there (x ∷ xs) (suc n) (suc m) few here there =
      ap suc (one-there xs n m (omega (arith, few, sum_by-cons w x xs)) here there)

  few-there : (xs : List A) → ((n : ℕ) → w (get_or xs n z) ≤ 1)
      → ((n m : ℕ) → 0 < w (get_or xs n z) → 0 < w (get_or xs m z) → n ≡ m) → sum_by w xs ≤ 1
  few-there [] each once = omega arith
  few-there (x ∷ xs) each once =
      by (w x) refl (sum_by w xs) refl
      (few-there xs (λ n. each (suc n)) (λ n m here there. (let same = once (suc n) (suc m) here there in
      omega (arith, same))))
    where
      by : (j : ℕ) → w x ≡ j → (k : ℕ) → sum_by w xs ≡ k → sum_by w xs ≤ 1 → sum_by w (x ∷ xs) ≤ 1
      by zero none_here k rest others = omega (arith, sum_by-cons w x xs, none_here, others)
      by (suc j) here zero rest others = (let one : w x ≤ 1 = each 0 in omega (arith, sum_by-cons w x xs, rest, one))
      by (suc j) here (suc k) rest others =
          absurd (let it = some-there xs (omega (arith, rest)) in let same =
          once 0 (suc it.0) (omega (arith, here)) it.1 in omega (arith, same))

-- The descriptors that are open on an object.

abbrev pub bit : Bool → ℕ
bit true = 1
bit false = 0

abbrev pub is_on : Descriptor → Option Descriptor → Bool
is_on (on.ReadEnd p) o = is_read_end p o
is_on (on.WriteEnd p) o = is_write_end p o
is_on (on.Connection c) o = is_conn c o
is_on x o = false

abbrev pub hits : Descriptor → Option Descriptor → ℕ
hits x o = bit (is_on x o)

abbrev pub tally : Descriptor → List (Option Descriptor) → ℕ
tally x list = sum_by (hits x) list

abbrev pub tally_in : Descriptor → Domain Text → ℕ
tally_in x d = tally x d.fds

abbrev pub count : State → Descriptor → ℕ
count s x = sum_by (tally_in x) s.domains

abbrev pub IsEnd : Descriptor → Type 0
IsEnd x = is_file (Some x) ≡ false

bit-true : (b : Bool) → 0 < bit b → b ≡ true
bit-true true more = refl
bit-true false more = absurd (omega (arith, more))

on-it : (x : Descriptor) (o : Option Descriptor) → 0 < hits x o → o ≡ Some x
on-it (on.ReadEnd p) (Some (on.ReadEnd q)) more =
    ap (λ n. Some (on.ReadEnd n)) (same-number q p (bit-true (q == p) more))
on-it (on.WriteEnd p) (Some (on.WriteEnd q)) more =
    ap (λ n. Some (on.WriteEnd n)) (same-number q p (bit-true (q == p) more))
on-it (on.Connection c) (Some (on.Connection e)) more =
    ap (λ n. Some (on.Connection n)) (same-number e c (bit-true (e == c) more))
on-it x o more = absurd (omega (arith, more))

pub it-is-on : (x : Descriptor) → IsEnd x → hits x (Some x) ≡ 1
it-is-on (on.File f at mode) end = absurd (cc)
it-is-on (on.ReadEnd p) end = ap bit (itself p)
it-is-on (on.WriteEnd p) end = ap bit (itself p)
it-is-on (on.Connection c) end = ap bit (itself c)

pub not-on : (x : Descriptor) → hits x None ≡ 0
not-on (on.File f at mode) = refl
not-on (on.ReadEnd p) = refl
not-on (on.WriteEnd p) = refl
not-on (on.Connection c) = refl

pub file-off : (x : Descriptor) (o : Option Descriptor) → is_file o ≡ true → hits x o ≡ 0
file-off (on.ReadEnd p) (Some (on.ReadEnd q)) file = absurd (cc)
file-off (on.WriteEnd p) (Some (on.WriteEnd q)) file = absurd (cc)
file-off (on.Connection c) (Some (on.Connection e)) file = absurd (cc)
file-off x o file = refl

hits-one : (x : Descriptor) (o : Option Descriptor) → hits x o ≤ 1
hits-one x o = by (is_on x o)
  where
    by : (b : Bool) → bit b ≤ 1
    by true = omega arith
    by false = omega arith

-- Lists of descriptors.

pub tally-set : (x : Descriptor) (list : List (Option Descriptor)) (n : ℕ) (o : Option Descriptor) → hits x o ≡ 0
    → tally x (set list n o) + hits x (in_place list n) ≡ tally x list
tally-set x [] n o off = omega (arith, not-on x)
tally-set x (y ∷ list) zero o off = omega (arith, sum_by-cons (hits x) o list, sum_by-cons (hits x) y list, off)
tally-set x (y ∷ list) (suc n) o off =
    omega (arith, sum_by-cons (hits x) y (set list n o), sum_by-cons (hits x) y list, tally-set x list n o off)

pub tally-placed : (x : Descriptor) (list : List (Option Descriptor)) (y : Descriptor)
    → tally x (placed list (lowest list) y) ≡ tally x list + hits x (Some y)
tally-placed x [] y = sum_by-cons (hits x) (Some y) [] ∙ omega arith
tally-placed x (None ∷ list) y = ap (tally x) (placed-none list y)
    ∙ omega (arith, sum_by-cons (hits x) (Some y) list, sum_by-cons (hits x) None list, not-on x)
tally-placed x (Some z ∷ list) y = ap (tally x) (placed-cons z list y)
    ∙ omega (
      arith,
      sum_by-cons (hits x) (Some z) (placed list (lowest list) y),
      sum_by-cons (hits x) (Some z) list,
      tally-placed x list y,
    )

-- a descriptor of a file is set to one of a file
pub tally-file : (x : Descriptor) (list : List (Option Descriptor)) (n : ℕ) (o : Option Descriptor) → is_file o ≡ true
    → is_file (in_place list n) ≡ true → tally x (set list n o) ≡ tally x list
tally-file x list n o file was =
    omega (arith, tally-set x list n o (file-off x o file), file-off x (in_place list n) was)

-- All domains.

domain-suc : (s : State) (n : ℕ) → domain s (suc n) ≡ get_or s.domains n no_domain
unfolding domain
domain-suc s n = (let e : suc n - 1 ≡ n = omega arith in grind (arith, nat_tests, e))

domain-zero : (s : State) → domain s 0 ≡ no_domain
unfolding domain
domain-zero s = grind (arith, nat_tests)

abbrev pub HasOpen : State → Descriptor → Type 0
HasOpen s x = (d : ℕ) × (f : ℕ) × (descriptor s d f ≡ Some x)

open-at : (s : State) (x : Descriptor) (n f : ℕ) → 0 < hits x (in_place (get_or s.domains n no_domain).fds f)
    → descriptor s (suc n) f ≡ Some x
open-at s x n f more = ap (λ (y : Domain Text). in_place y.fds f) (domain-suc s n) ∙ on-it x _ more

hit-at : (s : State) (x : Descriptor) (n f : ℕ) → IsEnd x → descriptor s (suc n) f ≡ Some x
    → 0 < hits x (in_place (get_or s.domains n no_domain).fds f)
hit-at s x n f end is =
    omega (arith, ap (hits x) (sym (ap (λ (y : Domain Text). in_place y.fds f) (domain-suc s n)) ∙ is), it-is-on x end)

none-at : (s : State) (x : Descriptor) (f : ℕ) → descriptor s 0 f ≡ Some x → ⊥
none-at s x f is = (let e = ap (λ (y : Domain Text). in_place y.fds f) (domain-zero s) in cc (e, is))

found : (s : State) (x : Descriptor) → 0 < count s x → HasOpen s x
found s x more =
    let d = some-there (tally_in x) no_domain refl s.domains more in
    let f = some-there (hits x) None (not-on x) (get_or s.domains d.0 no_domain).fds d.1 in
    (suc d.0, f.0, open-at s x d.0 f.0 f.1)

pub tally-most : (s : State) (x : Descriptor) (d : ℕ) → tally_in x (domain s d) ≤ count s x
tally-most s x zero = omega (arith, ap (tally_in x) (domain-zero s))
tally-most s x (suc n) =
    omega (arith, ap (tally_in x) (domain-suc s n), at-most (tally_in x) no_domain refl s.domains n)

counted : (s : State) (x : Descriptor) (d f : ℕ) → IsEnd x → descriptor s d f ≡ Some x → 0 < count s x
counted s x d f end is =
    omega (arith, tally-most s x d, at-most (hits x) None (not-on x) (domain s d).fds f, ap (hits x) is, it-is-on x end)

-- an object on which no two descriptors are open has at most one descriptor
few : (s : State) (x : Descriptor)
    → ((d e f g : ℕ) → descriptor s d f ≡ Some x → descriptor s e g ≡ Some x → (d ≡ e) × (f ≡ g)) → count s x ≤ 1
few s x one = few-there (tally_in x) no_domain refl s.domains each once
  where
    each : (n : ℕ) → tally_in x (get_or s.domains n no_domain) ≤ 1
    each n = few-there (hits x) None (not-on x) (get_or s.domains n no_domain).fds (λ f. hits-one x _)
        (λ f g here there. (one (suc n) (suc n) f g (open-at s x n f here) (open-at s x n g there)).1)

    once : (n m : ℕ) → 0 < tally_in x (get_or s.domains n no_domain) → 0 < tally_in x (get_or s.domains m no_domain)
        → n ≡ m
    once n m here there =
        let f = some-there (hits x) None (not-on x) (get_or s.domains n no_domain).fds here in
        let g = some-there (hits x) None (not-on x) (get_or s.domains m no_domain).fds there in
        let same = (one (suc n) (suc m) f.0 g.0 (open-at s x n f.0 f.1) (open-at s x m g.0 g.1)).0 in
        omega (arith, same)

pub one_of : (s : State) (x : Descriptor) → count s x ≤ 1 → IsEnd x → (d e f g : ℕ) → descriptor s d f ≡ Some x
    → descriptor s e g ≡ Some x → (d ≡ e) × (f ≡ g)
one_of s x most end zero e f g here there = absurd (none-at s x f here)
one_of s x most end (suc n) zero f g here there = absurd (none-at s x g there)
one_of s x most end (suc n) (suc m) f g here there =
    let a = hit-at s x n f end here in
    let b = hit-at s x m g end there in
    let same : n ≡ m =
    one-there (tally_in x) no_domain refl s.domains n m most
    (omega (arith, a, at-most (hits x) None (not-on x) (get_or s.domains n no_domain).fds f))
    (omega (arith, b, at-most (hits x) None (not-on x) (get_or s.domains m no_domain).fds g)) in (
      ap suc same,
      one-there (hits x) None (not-on x) (get_or s.domains n no_domain).fds f g
          (omega (arith, most, at-most (tally_in x) no_domain refl s.domains n)) a
          (subst (λ k. 0 < hits x (in_place (get_or s.domains k no_domain).fds g)) (sym same) b),
    )

-- each pipe end and each connection has one descriptor if it exists, and none otherwise
abbrev pub Balanced : State → Type 0
Balanced s = (x : Descriptor) → IsEnd x → count s x ≡ bit (stands s x)

pub balanced_of : (s : State) → IsOrderly s → Balanced s
balanced_of s order x end = by (stands s x) refl
  where
    none : (n : ℕ) → count s x ≡ n → stands s x ≡ false → count s x ≡ 0
    none zero is off = is
    none (suc n) is off =
        absurd (let it = found s x (omega (arith, is)) in let stood = order.all_stand it.0 it.1 x it.2 in
        cc (stood, off))

    by : (b : Bool) → stands s x ≡ b → count s x ≡ bit b
    by true is =
        (let it = order.held x end is in
        omega (arith, few s x (λ d e f g. order.one d e f g x end), counted s x it.by it.fd end it.there))
    by false off = none (count s x) refl off

at-most-one : (s : State) (x : Descriptor) → IsEnd x → Balanced s → count s x ≤ 1
at-most-one s x end was = by (stands s x) (was x end)
  where
    by : (b : Bool) → count s x ≡ bit b → count s x ≤ 1
    by true is = omega (arith, is)
    by false is = omega (arith, is)

pub one_balanced : (s : State) → Balanced s → (d e f g : ℕ) (x : Descriptor) → is_file (Some x) ≡ false
    → descriptor s d f ≡ Some x → descriptor s e g ≡ Some x → (d ≡ e) × (f ≡ g)
one_balanced s was d e f g x end = one_of s x (at-most-one s x end was) end d e f g

stood : (s : State) (x : Descriptor) → Balanced s → IsEnd x → (d f : ℕ) → descriptor s d f ≡ Some x → stands s x ≡ true
stood s x was end d f is = by (stands s x) refl
  where
    by : (b : Bool) → stands s x ≡ b → b ≡ true
    by true on = refl
    by false off = absurd (omega (arith, counted s x d f end is, was x end, ap bit off))

pub all_stand_balanced : (s : State) → Balanced s → (d f : ℕ) (x : Descriptor) → descriptor s d f ≡ Some x
    → stands s x ≡ true
all_stand_balanced s was d f (on.File g at mode) is = refl
all_stand_balanced s was d f x is = stood s x was refl d f is

pub held_balanced : (s : State) → Balanced s → (x : Descriptor) → is_file (Some x) ≡ false → stands s x ≡ true
    → HasOpen s x
held_balanced s was x end is = found s x (omega (arith, was x end, ap bit is))
