-- Indices of a list, and the remaining elements.
use Rattle.std.proofs.Common.{◌≡◌, ◌≢◌, ℕ, zero, suc, ◌+◌, ◌-◌, List, [], ◌∷◌, ◌++◌, length, replicate, refl, arith}
use Rattle.std.proofs.Common.{Option, Some, None}
use Rattle.std.specs.Prelude.{option_map}
use Rattle.std.proofs.lemmas.Bool.Decides.{nat_tests}
use Rattle.std.proofs.lemmas.Grind.{common_steps}
use Rattle.iol_core.specs.NumberedLists.{in_place}
use Rattle.flash_laws.specs.Site.OtherConns.{with_at, left_by}
use Rattle.flash_laws.specs.declared.phase.Phase.{Phase}
use Rattle.flash_laws.specs.declared.phase.Phase.TheVariants.{Closed}
use Rattle.flash_laws.proofs.Conn.Responses.{some-inj}

-- ---- with one place changed

none-in : {A : Type 0} (k g : ℕ) → in_place {A = A} (replicate k None) g ≡ None
none-in zero g = refl
none-in (suc k) zero = refl
none-in (suc k) (suc g) = none-in k g

place-grown : {A : Type 0} (xs : List (Option A)) (k g : ℕ) → in_place (xs ++ replicate k None) g ≡ in_place xs g
place-grown [] k g = none-in k g
place-grown (x ∷ xs) k zero = refl
place-grown (x ∷ xs) k (suc g) = place-grown xs k g

pub at-same : {A : Type 0} (xs : List (Option A)) (fd : ℕ) (x : Option A) → in_place (with_at xs fd x) fd ≡ x
at-same xs fd x = grind (arith, nat_tests, common_steps)

pub at-other : {A : Type 0} (xs : List (Option A)) (fd gd : ℕ) (x : Option A) → fd ≢ gd
    → in_place (with_at xs fd x) gd ≡ in_place xs gd
at-other xs fd gd x differ = let e = place-grown xs (fd + 1 - length xs) gd in
    grind (arith, nat_tests, common_steps, differ, e)

-- ---- a client that is over is removed

pub left-is : {A : Type 0} (d : Phase) (x y : A) → left_by d x ≡ Some y → x ≡ y
left-is Closed x y is = absurd (cc (is))
left-is d x y is = some-inj x y is

pub left-map : {A B : Type 0} (f : A → B) (d : Phase) (x : A) → option_map f (left_by d x) ≡ left_by d (f x)
left-map f Closed x = refl
left-map f d x = refl
