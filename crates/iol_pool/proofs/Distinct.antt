-- The distinct domains of a list, found one after another.
use Rattle.std.proofs.Common.{◌≡◌, ℕ, ◌+◌, ◌<◌, ◌≤◌, ◌==◌, List, [], ◌∷◌, ◌++◌, length, take, drop, refl, sym, ap, ◌∙◌}
use Rattle.std.proofs.Common.{subst, arith, true, false, get_or, set, length-append}
use Rattle.std.specs.Prelude.{fold, if◌then◌else◌, min}
use Rattle.std.specs.List.{list_any}
use Rattle.std.proofs.lemmas.List.{take_more, take-append-drop}
use Rattle.std.proofs.lemmas.Grind.{common_steps}
use Rattle.std.proofs.Math.Seq.{take-suc-set}
use Rattle.iol_core.specs.Calls.Pools.{distinct}

abbrev noted : List ℕ → ℕ → List ℕ
noted found d = if list_any (λ e. e == d) found then found else found ++ d ∷ []

fold-append : (a xs ys : List ℕ) → fold noted a (xs ++ ys) ≡ fold noted (fold noted a xs) ys
fold-append a [] ys = refl
fold-append a (x ∷ xs) ys = fold-append (noted a x) xs ys

noted_longer : (a : List ℕ) (x : ℕ) → length a ≤ length (noted a x)
noted_longer a x = elim (list_any (λ e. e == x) a) as (λ b. length a ≤ length (if b then a else a ++ x ∷ [])) [
  | true ↦
      omega arith
  | false ↦ omega (arith, length-append a (x ∷ []))
]

fold_longer : (a xs : List ℕ) → length a ≤ length (fold noted a xs)
fold_longer a [] = omega arith
fold_longer a (x ∷ xs) = omega (arith, noted_longer a x, fold_longer (noted a x) xs)

pub distinct_more : (xs : List ℕ) (i d : ℕ) → i < length xs → d ≡ get_or xs i d
    → distinct (take (i + 1) xs) ≡ noted (distinct (take i xs)) d
distinct_more xs i d lt is = ap (fold noted []) (take_more xs i d lt)
    ∙ ap (λ x. fold noted [] (take i xs ++ x ∷ [])) (sym is) ∙ fold-append [] (take i xs) (d ∷ [])

pub distinct_longer : (xs : List ℕ) (i : ℕ) → length (distinct (take i xs)) ≤ length (distinct xs)
distinct_longer xs i = subst (λ ys. length (distinct (take i xs)) ≤ length (fold noted [] ys)) (take-append-drop i xs)
    (subst (λ n. length (distinct (take i xs)) ≤ length n) (sym (fold-append [] (take i xs) (drop i xs)))
    (fold_longer (distinct (take i xs)) (drop i xs)))

pub step_named : (xs found : List ℕ) (i d : ℕ) → i < length xs → d ≡ get_or xs i d → found ≡ distinct (take i xs)
    → list_any (λ e. e == d) found ≡ true → distinct (take (i + 1) xs) ≡ found
step_named xs found i d lt is e named = distinct_more xs i d lt is ∙ ap (λ f. noted f d) (sym e) ∙ rw named refl

pub step_new : (xs found : List ℕ) (i d : ℕ) → i < length xs → d ≡ get_or xs i d → found ≡ distinct (take i xs)
    → list_any (λ e. e == d) found ≡ false → distinct (take (i + 1) xs) ≡ found ++ d ∷ []
step_new xs found i d lt is e new = distinct_more xs i d lt is ∙ ap (λ f. noted f d) (sym e) ∙ rw new refl

pub take_set : (xs : List ℕ) (n d : ℕ) → n < length xs → take (n + 1) (set xs n d) ≡ take n xs ++ d ∷ []
take_set xs n d lt = grind (arith, common_steps, take-suc-set, lt)

pub too_many : (xs found : List ℕ) (i d : ℕ) → i < length xs → d ≡ get_or xs i d → found ≡ distinct (take i xs)
    → list_any (λ e. e == d) found ≡ false → length found ≡ 16 → 17 ≡ min 17 (length (distinct xs))
too_many xs found i d lt is e new full =
    let l = distinct_longer xs (i + 1) in
    let s = ap length (step_new xs found i d lt is e new) in
    omega (arith, l, s, full, length-append found (d ∷ []))
