-- Each end of a pipe and each connection is open once, when a domain's descriptors change.
use Rattle.std.proofs.Common.{◌≡◌, ℕ, suc, subst, false, Bool, ◌+◌, ◌<◌, ◌≤◌, ◌==◌, List, [], ◌∷◌, ◌++◌, length, ap}
use Rattle.std.specs.List.{AllByRecursion}
use Rattle.std.proofs.Common.{◌∙◌, refl, sym, arith, Option, Some, None, inl, inr, true}
use Rattle.std.specs.Prelude.{slice_set, cond}
use Rattle.std.proofs.lemmas.Bool.{cases_lt, cases_eq}
use Rattle.std.proofs.lemmas.Bool.Decides.{nat_tests}
use Rattle.std.proofs.lemmas.List.{get_or_past}
use Rattle.std.proofs.lemmas.List.Sums.{sum_by-set, sum_by_push, sum_by-cons}
use Rattle.iol_core.specs.NumberedLists.{in_place, placed, lowest}
use Rattle.iol_core.specs.State.{Domain}
use Rattle.iol_core.specs.declared.descriptors.Mode.{Mode}
use Rattle.iol_core.specs.declared.descriptors.Descriptor.{Descriptor}
use Rattle.iol_core.specs.declared.descriptors.Descriptor.TheVariants as on
use Rattle.iol_hold.specs.declared.slices.Slice.{Slice}
use Rattle.iol_desc.specs.Tables.{domain_in, with_domain_in, with_fds_in}
use Rattle.iol_kernel.specs.EndCounts.{same_end, on_end, ends_on, all_ends_on, IsOpenOnce}
use Rattle.iol_kernel.specs.KernelState.{IsOpenEnd}
use Rattle.iol_kernel.specs.Views.{Objects}
use Rattle.iol_kernel.proofs.State.Uses.{sum-with_domain, Domains}

-- a domain's descriptors change

pub ends-with_domain : (e : Descriptor) (ds : Domains) (d : ℕ) (x : Domain (List Slice)) → (domain_in ds d).live ≡ true
    → all_ends_on e (with_domain_in ds d x) + ends_on e (domain_in ds d).fds ≡ all_ends_on e ds + ends_on e x.fds
ends-with_domain e ds d x live = sum-with_domain (λ (y : Domain (List Slice)). ends_on e y.fds) ds d x live

pub once_fewer : (ds : Domains) (d : ℕ) (x : Domain (List Slice)) → (domain_in ds d).live ≡ true
    → ((e : Descriptor) → ends_on e x.fds ≤ ends_on e (domain_in ds d).fds) → IsOpenOnce ds
    → IsOpenOnce (with_domain_in ds d x)
once_fewer ds d x live fewer once =
    record { each = λ e. omega (arith, once.each e, fewer e, ends-with_domain e ds d x live) }

-- they are unchanged, whatever else changes
pub once_same : (ds : Domains) (d : ℕ) (x : Domain (List Slice)) → (domain_in ds d).live ≡ true
    → x.fds ≡ (domain_in ds d).fds → IsOpenOnce ds → IsOpenOnce (with_domain_in ds d x)
once_same ds d x live same once = once_fewer ds d x live (λ e. omega (arith, ap (ends_on e) same)) once

-- one number is opened, or closed

pub in_place-lowest : {A : Type 0} (xs : List (Option A)) → in_place xs (lowest xs) ≡ None
in_place-lowest [] = refl
in_place-lowest (None ∷ xs) = refl
in_place-lowest (Some x ∷ xs) = rw (one (lowest xs)) (in_place-lowest xs)
  where
    one : (n : ℕ) → 1 + n ≡ suc n
    one n = omega arith

pub ends-placed : (e x : Descriptor) (xs : List (Option Descriptor))
    → ends_on e (placed xs (lowest xs) x) ≡ ends_on e xs + same_end e x
ends-placed e x xs = elim (cases_lt (lowest xs) (length xs)) [
  | inl k ↦ (let none : Option Descriptor = None in
      let c = sum_by-set (on_end e) xs (lowest xs) (Some x) none k in
      let p : placed xs (lowest xs) x ≡ slice_set xs (lowest xs) (Some x) = grind (arith, nat_tests, k) in
      let f = ap (on_end e) (in_place-lowest xs) in
      omega (arith, c, ap (ends_on e) p, f))
  | inr k ↦ (let p : placed xs (lowest xs) x ≡ xs ++ Some x ∷ [] = grind (arith, nat_tests, k) in
      let c = sum_by_push (on_end e) xs (Some x) in
      omega (arith, c, ap (ends_on e) p))
]

taken_within : {A : Type 0} (xs : List (Option A)) (n : ℕ) (x : A) → in_place xs n ≡ Some x → n < length xs
taken_within {A} xs n x is = elim (cases_lt n (length xs)) [
  | inl k ↦ k
  | inr k ↦ (let none : Option A = None in absurd (no (sym (get_or_past xs n none k) ∙ is)))
]
  where
    no : ◌≡◌ {A = Option A} None (Some x) → ⊥
    no e = cc

pub ends-freed : (e x : Descriptor) (xs : List (Option Descriptor)) (n : ℕ) → in_place xs n ≡ Some x
    → ends_on e (slice_set xs n None) + same_end e x ≡ ends_on e xs
ends-freed e x xs n is =
    let none : Option Descriptor = None in
    let c = sum_by-set (on_end e) xs n none none (taken_within xs n x is) in
    omega (arith, c, ap (on_end e) is)

-- it is open on something else
pub ends-set : (e : Descriptor) (y : Option Descriptor) (xs : List (Option Descriptor)) (n : ℕ) (x : Descriptor)
    → in_place xs n ≡ Some x → ends_on e (slice_set xs n y) + same_end e x ≡ ends_on e xs + on_end e y
ends-set e y xs n x is =
    let none : Option Descriptor = None in
    let c = sum_by-set (on_end e) xs n y none (taken_within xs n x is) in
    omega (arith, c, ap (on_end e) is)

pub once_freed : (ds : Domains) (d fd : ℕ) (x : Descriptor) → (domain_in ds d).live ≡ true
    → in_place (domain_in ds d).fds fd ≡ Some x → IsOpenOnce ds
    → IsOpenOnce (with_fds_in ds d (slice_set (domain_in ds d).fds fd None))
once_freed ds d fd x live is once =
    once_fewer ds d (record (domain_in ds d) { fds = slice_set (domain_in ds d).fds fd None }) live
    (λ e. omega (arith, ends-freed e x (domain_in ds d).fds fd is)) once

-- an end that is closed is open nowhere

pub same_end-differs : (x y : Descriptor) → (x ≡ y → ⊥) → same_end x y ≡ 0
same_end-differs (on.ReadEnd p) (on.ReadEnd q) differ =
    elim (cases_eq p q) [ inl k ↦ absurd (differ (ap on.ReadEnd k)) | inr k ↦ grind (arith, nat_tests, k) ]
same_end-differs (on.WriteEnd p) (on.WriteEnd q) differ =
    elim (cases_eq p q) [ inl k ↦ absurd (differ (ap on.WriteEnd k)) | inr k ↦ grind (arith, nat_tests, k) ]
same_end-differs (on.ReadEnd p) (on.WriteEnd q) differ = refl
same_end-differs (on.ReadEnd p) (on.File f at mode) differ = refl
same_end-differs (on.ReadEnd p) (on.Connection c) differ = refl
same_end-differs (on.WriteEnd p) (on.ReadEnd q) differ = refl
same_end-differs (on.WriteEnd p) (on.File f at mode) differ = refl
same_end-differs (on.WriteEnd p) (on.Connection c) differ = refl
same_end-differs (on.File f at mode) y differ = refl
same_end-differs (on.Connection c) (on.Connection d) differ =
    elim (cases_eq c d) [ inl k ↦ absurd (differ (ap on.Connection k)) | inr k ↦ grind (arith, nat_tests, k) ]
same_end-differs (on.Connection c) (on.ReadEnd q) differ = refl
same_end-differs (on.Connection c) (on.WriteEnd q) differ = refl
same_end-differs (on.Connection c) (on.File f at mode) differ = refl

-- of a file no descriptor is counted

ends_on-file : (f at : ℕ) (mode : Mode) (fds : List (Option Descriptor)) → ends_on (on.File f at mode) fds ≡ 0
ends_on-file f at mode [] = refl
ends_on-file f at mode (None ∷ fds) = let none : Option Descriptor = None in
    omega (arith, sum_by-cons (on_end (on.File f at mode)) none fds, ends_on-file f at mode fds)
ends_on-file f at mode (Some y ∷ fds) =
    omega (arith, sum_by-cons (on_end (on.File f at mode)) (Some y) fds, ends_on-file f at mode fds)

all_ends_on-file : (f at : ℕ) (mode : Mode) (ds : Domains) → all_ends_on (on.File f at mode) ds ≡ 0
all_ends_on-file f at mode [] = refl
all_ends_on-file f at mode (d ∷ ds) =
    omega (
      arith,
      sum_by-cons (λ (y : Domain (List Slice)). ends_on (on.File f at mode) y.fds) d ds,
      ends_on-file f at mode d.fds,
      all_ends_on-file f at mode ds,
    )

alone : (x : Descriptor) (rest : List (Option Descriptor)) (ds : Domains) → same_end x x ≡ 1
    → all_ends_on x ds + (same_end x x + ends_on x rest) ≤ 1 → (all_ends_on x ds ≡ 0) × (ends_on x rest ≡ 0)
alone x rest ds itself once = (omega (arith, itself, once), omega (arith, itself, once))

-- an end that is open once at most is open in no other descriptor; a file may be, and is counted in none
pub end_alone : (x : Descriptor) (rest : List (Option Descriptor)) (ds : Domains)
    → all_ends_on x ds + (same_end x x + ends_on x rest) ≤ 1 → (all_ends_on x ds ≡ 0) × (ends_on x rest ≡ 0)
end_alone (on.ReadEnd p) rest ds once = alone (on.ReadEnd p) rest ds (grind (arith, nat_tests)) once
end_alone (on.WriteEnd p) rest ds once = alone (on.WriteEnd p) rest ds (grind (arith, nat_tests)) once
end_alone (on.File f at mode) rest ds once = (all_ends_on-file f at mode ds, ends_on-file f at mode rest)
end_alone (on.Connection c) rest ds once = alone (on.Connection c) rest ds (grind (arith, nat_tests)) once

one_at_most : (b : Bool) → cond b 1 0 ≤ 1
one_at_most true = omega arith
one_at_most false = omega arith

-- an end of one number more, which is not open yet
one_more : (end : ℕ → Descriptor) (p n k : ℕ) → (end p ≡ end n → p ≡ n) → same_end (end p) (end n) ≤ 1 → k ≤ 1
    → (end p ≡ end n → k ≡ 0) → k + same_end (end p) (end n) ≤ 1
one_more end p n k number most le none = elim (cases_eq p n) [
  | inl i ↦ (let z = none (ap end i) in omega (arith, z, most))
  | inr i ↦ (let z = same_end-differs (end p) (end n) (λ same. i (number same)) in omega (arith, le, z))
]

-- a new pipe's ends, of which neither is open yet
pub both_once : (e : Descriptor) (n k : ℕ) → k ≤ 1 → (e ≡ on.ReadEnd n → k ≡ 0) → (e ≡ on.WriteEnd n → k ≡ 0)
    → k + same_end e (on.ReadEnd n) + same_end e (on.WriteEnd n) ≤ 1
both_once (on.ReadEnd p) n k le reading writing =
    omega (arith, one_more on.ReadEnd p n k (λ same. cc) (one_at_most (p == n)) le reading)
both_once (on.WriteEnd p) n k le reading writing =
    omega (arith, one_more on.WriteEnd p n k (λ same. cc) (one_at_most (p == n)) le writing)
both_once (on.File f at mode) n k le reading writing = omega (arith, le)
both_once (on.Connection c) n k le reading writing = omega (arith, le)

-- one connection more
pub one_once : (e : Descriptor) (c k : ℕ) → k ≤ 1 → (e ≡ on.Connection c → k ≡ 0) → k + same_end e (on.Connection c) ≤ 1
one_once (on.ReadEnd p) c k le none = omega (arith, le)
one_once (on.WriteEnd p) c k le none = omega (arith, le)
one_once (on.File f at mode) c k le none = omega (arith, le)
one_once (on.Connection d) c k le none = one_more on.Connection d c k (λ same. cc) (one_at_most (d == c)) le none

ends_closed : (qs : Objects (List Slice)) (x : Descriptor) → (IsOpenEnd qs (Some x) → ⊥)
    → (fds : List (Option Descriptor)) → AllByRecursion (IsOpenEnd qs) fds → ends_on x fds ≡ 0
ends_closed qs x closed [] e = refl
ends_closed qs x closed (None ∷ fds) e = let none : Option Descriptor = None in let c =
    sum_by-cons (on_end x) none fds in omega (arith, c, ends_closed qs x closed fds e.1)
ends_closed qs x closed (Some y ∷ fds) e =
    let c = sum_by-cons (on_end x) (Some y) fds in
    let z = same_end-differs x y (λ is. closed (subst (λ (w : Descriptor). IsOpenEnd qs (Some w)) (sym is) e.0)) in
    omega (arith, c, z, ends_closed qs x closed fds e.1)

pub all_ends_closed : (qs : Objects (List Slice)) (x : Descriptor) → (IsOpenEnd qs (Some x) → ⊥) → (ds : Domains)
    → AllByRecursion (λ d. AllByRecursion (IsOpenEnd qs) d.fds) ds → all_ends_on x ds ≡ 0
all_ends_closed qs x closed [] e = refl
all_ends_closed qs x closed (d ∷ ds) e =
    let c = sum_by-cons (λ (y : Domain (List Slice)). ends_on x y.fds) d ds in
    omega (arith, c, ends_closed qs x closed d.fds e.0, all_ends_closed qs x closed ds e.1)
