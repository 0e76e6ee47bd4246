-- Files by number.
use Rattle.std.proofs.Common.{inl, inr, ◌≡◌, ◌≢◌, ℕ, ◌-◌, ◌<◌, ◌≤◌, ◌⊎◌, ◌^◌, ◌==◌, if◌then◌else◌, min, refl, Bool}
use Rattle.std.proofs.Common.{true, false, Some, slice_get, List, [], ◌∷◌, ◌++◌, length, map, get_or, ap, subst, ◌∙◌}
use Rattle.std.proofs.Common.{sym, arith}
use Rattle.std.proofs.lemmas.List.{get_or-map, get_or-set_same, get_or-set_other, length-map, map-append}
use Rattle.std.proofs.Math.ListN as lists
use Rattle.std.proofs.Math.ListN.{set, length-set}
use Rattle.std.proofs.lemmas.Option.{get_or_from_slice_get}
use Rattle.std.proofs.lemmas.Bool.{cases_eq, cases_lt}
use Rattle.std.proofs.lemmas.Bool.Decides.{nat_tests}
use Rattle.std.proofs.lemmas.Grind.{common_steps}
use Rattle.iol_core.proofs.Lookups.{numbered_or-push}
use Rattle.iol_back.specs.Disk.{content, length_reported, lengths_of}

-- there is no file with this number
pub content-none : (slots : List (List ℕ)) (n : ℕ) → (n ≡ 0) ⊎ (length slots < n) → content slots n ≡ []
unfolding content
content-none slots n out = elim out [
  | inl k ↦ grind (arith, nat_tests, common_steps, k)
  | inr past ↦ grind (arith, nat_tests, common_steps, past)
]

-- the bytes of an element of the list
pub content-map : {A : Type 0} (f : A → List ℕ) (xs : List A) (n : ℕ) (d : A) → 0 < n → n ≤ length xs
    → content (map f xs) n ≡ f (get_or xs (n - 1) d)
unfolding content
content-map f xs n d some within =
    let e = get_or-map f xs (n - 1) d [] (omega arith) in
    grind (arith, nat_tests, e, some)

pub content-push : (slots : List (List ℕ)) (n : ℕ) → content (slots ++ [] ∷ []) n ≡ content slots n
unfolding content
content-push slots n = elim (numbered_or-push slots n [] []) [
  | inl same ↦ same
  | inr both ↦ both.1 ∙ sym both.0
]

pub content-set_same : {A : Type 0} (f : A → List ℕ) (xs : List A) (n : ℕ) (x : A) → 0 < n → n ≤ length xs
    → content (map f (set xs (n - 1) x)) n ≡ f x
content-set_same f xs n x some within =
    content-map f (set xs (n - 1) x) n x some (omega (arith, length-set xs (n - 1) x))
    ∙ ap f (get_or-set_same xs (n - 1) x x (omega arith))

pub content-set_other : {A : Type 0} (f : A → List ℕ) (xs : List A) (n m : ℕ) (x : A) → 0 < n → n ≤ length xs → m ≢ n
    → content (map f (set xs (n - 1) x)) m ≡ content (map f xs) m
content-set_other f xs n m x some within other = elim (cases_eq m 0) [
  | inl z ↦ content-none (map f (set xs (n - 1) x)) m (inl z) ∙ sym (content-none (map f xs) m (inl z))
  | inr nz ↦ elim (cases_lt (length xs) m) [
    | inl past ↦
        content-none (map f (set xs (n - 1) x)) m
        (inr (subst (λ (k : ℕ). k < m) (sym (length-map (set xs (n - 1) x) f ∙ length-set xs (n - 1) x)) past))
        ∙ sym (content-none (map f xs) m (inr (subst (λ (k : ℕ). k < m) (sym (length-map xs f)) past)))
    | inr in_it ↦
        content-map f (set xs (n - 1) x) m x (omega (arith, nz)) (omega (arith, in_it, length-set xs (n - 1) x))
        ∙ ap f (get_or-set_other xs (n - 1) (m - 1) x x (λ e. other (omega (arith, e, nz, some))))
        ∙ sym (content-map f xs m x (omega (arith, nz)) in_it)
  ]
]

-- an empty file is added
pub content-push_none : {A : Type 0} (f : A → List ℕ) (xs : List A) (x : A) (n : ℕ) → f x ≡ []
    → content (map f (xs ++ x ∷ [])) n ≡ content (map f xs) n
content-push_none f xs x n none =
    ap (λ (r : List (List ℕ)). content r n) (map-append f xs (x ∷ []) ∙ ap (λ (w : List ℕ). map f xs ++ w ∷ []) none)
    ∙ content-push (map f xs) n

-- a file that has bytes exists
pub content-some : {A : Type 0} (f : A → List ℕ) (xs : List A) (n : ℕ) → 0 < length (content (map f xs) n)
    → n ≤ length xs
content-some f xs n some = elim (cases_lt (length xs) n) [
  | inl past ↦ absurd (none (subst (λ (k : ℕ). k < n) (sym (length-map xs f)) past))
  | inr there ↦ there
]
  where
    none : length (map f xs) < n → ⊥
    none past = let e = content-none (map f xs) n (inr past) in let zero = ap length e in omega (arith, zero)

-- The lengths that are reported.

-- the lengths of files of these bytes
pub reported-lengths : (slots : List (List ℕ)) (n : ℕ)
    → length_reported (lengths_of slots) n ≡ min (length (content slots n)) (2 ^ 32 - 1)
unfolding content length_reported
reported-lengths slots n = by (n == 0)
  where
    cut : List ℕ → ℕ
    cut bytes = min (length bytes) (2 ^ 32 - 1)

    by : (b : Bool)
        → (if b then 0 else get_or (map cut slots) (n - 1) 0) ≡ cut (if b then [] else get_or slots (n - 1) [])
    by true = refl
    by false = lists.get_or-map cut slots (n - 1) []

-- there is no file with this number
pub reported-none : (reported : List ℕ) (n : ℕ) → (n ≡ 0) ⊎ (length reported < n) → length_reported reported n ≡ 0
unfolding length_reported
reported-none reported n out = elim out [
  | inl k ↦ grind (arith, nat_tests, common_steps, k)
  | inr past ↦ grind (arith, nat_tests, common_steps, past)
]

-- the length in the list
pub reported-some : (reported : List ℕ) (n x : ℕ) → 0 < n → slice_get reported (n - 1) ≡ Some x
    → length_reported reported n ≡ x
unfolding length_reported
reported-some reported n x some is = let e = get_or_from_slice_get reported (n - 1) x 0 is in
    grind (arith, nat_tests, e, some)
