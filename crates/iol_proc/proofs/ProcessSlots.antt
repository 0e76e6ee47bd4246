-- Processes in ascending order of domains.
use Rattle.std.proofs.Common.{◌≡◌, ℕ, zero, suc, ◌+◌, ◌<◌, ◌≤◌, false, nat_eq, List, [], ◌∷◌, map, sym, subst, ap}
use Rattle.std.proofs.Common.{arith, refl}
use Rattle.std.specs.Prelude.{slice_index}
use Rattle.std.specs.List.{IsDistinct}
use Rattle.std.specs.List.Sorted.{IsPermutation, IsNonDecreasingBy, IsStrictlyIncreasing}
use Rattle.std.proofs.lemmas.List.Sorted.{IsPermutation-map}
use Rattle.std.proofs.lemmas.Map.Keys.{IsDistinct-IsPermutation}
use Rattle.std.proofs.lemmas.Bool.Decides.{nat_tests}
use Rattle.iol_proc.specs.World.{domains_of, process_slot_of}
use Rattle.iol_proc.specs.declared.process_slot.ProcessSlot.{ProcessSlot}

-- the domains of new process slots
domains_of-process_slots : {P : Type 0} (ps : List (ℕ × P)) → domains_of (map process_slot_of ps) ≡ map (λ p. p.0) ps
domains_of-process_slots [] = refl
domains_of-process_slots (p ∷ ps) = ap (λ (l : List ℕ). p.0 ∷ l) (domains_of-process_slots ps)

-- a list that does not fall, and has no element twice, rises
rises : {P : Type 0} (xs : List (ProcessSlot P)) → IsNonDecreasingBy (λ s. s.by) xs → IsDistinct nat_eq (domains_of xs)
    → IsStrictlyIncreasing (domains_of xs)
unfolding IsDistinct
rises [] up apart k less = absurd (omega (arith, less))
rises (x ∷ []) up apart k less = absurd (omega (arith, less))
rises (x ∷ y ∷ ys) up apart zero less =
    let most : x.by ≤ y.by = up 0 1 x (omega arith) (omega arith) in
    let other : nat_eq x.by y.by ≡ false = apart.0.0 in grind (arith, nat_tests, most, other)
rises (x ∷ y ∷ ys) up apart (suc k) less =
    let next : suc (k + 1) ≡ suc k + 1 = omega arith in
    subst (λ n. slice_index (domains_of (y ∷ ys)) k < slice_index (domains_of (x ∷ y ∷ ys)) n) next
    (rises (y ∷ ys) (λ i j d le lt. up (suc i) (suc j) d (omega (arith, le)) (omega (arith, lt))) apart.1
    k (omega (arith, less)))

flips : (x y : ℕ) → nat_eq x y ≡ nat_eq y x
flips x y = grind (arith, nat_tests)

pub in_slots_rise : {P : Type 0} (ps : List (ℕ × P)) (xs : List (ProcessSlot P)) → IsDistinct nat_eq (map (λ p. p.0) ps)
    → IsPermutation (map process_slot_of ps) xs → IsNonDecreasingBy (λ s. s.by) xs
    → IsStrictlyIncreasing (domains_of xs)
in_slots_rise ps xs apart same up =
    rises xs up (IsDistinct-IsPermutation nat_eq flips (domains_of (map process_slot_of ps)) (domains_of xs)
    (IsPermutation-map (λ s. s.by) (map process_slot_of ps) xs same)
    (subst (λ ds. IsDistinct nat_eq ds) (sym (domains_of-process_slots ps)) apart))
