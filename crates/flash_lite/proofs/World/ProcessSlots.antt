-- The process slots of a site's processes: in a world they are in ascending order of domains, which is the given order.
use Rattle.std.proofs.Common.{◌≡◌, ◌∙◌, inl, inr, ℕ, suc, ◌<◌, List, [], ◌∷◌, map, refl, sym, ap, subst, arith}
use Rattle.std.proofs.Common.{IsPermutation}
use Rattle.std.specs.Prelude.{◌+◌, ◌⊎◌, slice_index}
use Rattle.std.specs.List.{AllByRecursion}
use Rattle.std.specs.List.Sorted.{IsStrictlyIncreasing}
use Rattle.std.proofs.lemmas.List.Elements.{All-from_recursion, recursion_from_All}
use Rattle.std.proofs.lemmas.List.Sorted.{All-permutation, IsPermutation-sym}
use Rattle.iol_proc.specs.World.{domains_of, process_slot_of}
use Rattle.iol_proc.specs.declared.process_slot.ProcessSlot.{ProcessSlot}
use Rattle.flash_cgi.specs.declared.worker.Worker.{Worker}
use Rattle.flash_laws.specs.World.Consistency.{Actor}
use Rattle.flash_lite.specs.NewWorld.{AreInSlots}
use Rattle.flash_lite.specs.Setup.{AreActors, workers_used}
use Rattle.flash_lite.specs.declared.site.Site.{Site}
use Rattle.flash_lite.proofs.World.Apart.{domains_are, range_rises}

-- ---- lists with the same elements

module _ {X : Type 0} where
  abbrev IsIn : X → List X → Type 0
  IsIn x [] = ⊥
  IsIn x (y ∷ ys) = (x ≡ y) ⊎ IsIn x ys

  all_in : (xs ys : List X) → ((x : X) → IsIn x xs → IsIn x ys) → AllByRecursion (λ x. IsIn x ys) xs
  all_in [] ys f = tt
  all_in (x ∷ xs) ys f = (f x (inl refl), all_in xs ys (λ y at. f y (inr at)))

  each_in : (P : X → Type 0) (xs : List X) (x : X) → AllByRecursion P xs → IsIn x xs → P x
  each_in P [] x all at = absurd at
  each_in P (y ∷ ys) x all (inl is) = subst P (sym is) all.0
  each_in P (y ∷ ys) x all (inr at) = each_in P ys x all.1 at

  -- an element of a list is in each of its permutations
  kept_in : (xs ys : List X) (y : X) → IsPermutation xs ys → IsIn y ys → IsIn y xs
  kept_in xs ys y moved at =
      let P : X → Type 0 = λ x. IsIn x xs in
      each_in P ys y
      (recursion_from_All P ys
      (All-permutation P xs ys moved (All-from_recursion P xs (all_in xs xs (λ x in_it. in_it))))) at

-- ---- the order is unique: by ascending domains

module _ {P : Type 0} where
  rest_rises : (s : ProcessSlot P) (ss : List (ProcessSlot P)) → IsStrictlyIncreasing (domains_of (s ∷ ss))
      → IsStrictlyIncreasing (domains_of ss)
  rest_rises s ss rises k less =
      let next : suc k + 1 ≡ suc (k + 1) = omega arith in
      subst (λ n. slice_index (domains_of ss) k < slice_index (domains_of (s ∷ ss)) n) next
      (rises (suc k) (omega (arith, less)))

  above : (s t : ProcessSlot P) (ss : List (ProcessSlot P)) → IsStrictlyIncreasing (domains_of (s ∷ ss)) → IsIn t ss
      → s.by < t.by
  above s t [] rises at = absurd at
  above s t (u ∷ us) rises (inl is) = subst (λ (v : ProcessSlot P). s.by < v.by) (sym is) (rises 0 (omega arith))
  above s t (u ∷ us) rises (inr at) =
      let first = rises 0 (omega arith) in
      let rest = above u t us (rest_rises s (u ∷ us) rises) at in omega (arith, first, rest)

  apart : (s t : ProcessSlot P) → s.by < t.by → s ≡ t → ⊥
  apart s t less is =
      let e = ap (λ (v : ProcessSlot P). v.by) is in absurd (omega (arith, less, e))

  same_order : (ss ts : List (ProcessSlot P)) → IsStrictlyIncreasing (domains_of ss)
      → IsStrictlyIncreasing (domains_of ts)
      → ((u : ProcessSlot P) → IsIn u ts → IsIn u ss) → ((u : ProcessSlot P) → IsIn u ss → IsIn u ts) → ts ≡ ss
  same_order [] [] rises rise from to = refl
  same_order [] (t ∷ ts) rises rise from to = absurd (from t (inl refl))
  same_order (s ∷ ss) [] rises rise from to = absurd (to s (inl refl))
  same_order (s ∷ ss) (t ∷ ts) rises rise from to =
      let is : t ≡ s = heads (from t (inl refl)) (to s (inl refl)) in
      let rest = same_order ss ts (rest_rises s ss rises) (rest_rises t ts rise)
      (λ u at. tails_from u is at (from u (inr at))) (λ u at. tails_to u is at (to u (inr at))) in
      ap (λ (v : ProcessSlot P). v ∷ ts) is ∙ ap (λ (l : List (ProcessSlot P)). s ∷ l) rest
    where
      heads : IsIn t (s ∷ ss) → IsIn s (t ∷ ts) → t ≡ s
      heads (inl is) there = is
      heads (inr at) (inl is) = sym is
      heads (inr at) (inr back) =
          let one = above s t ss rises at in
          let two = above t s ts rise back in absurd (omega (arith, one, two))

      tails_from : (u : ProcessSlot P) → t ≡ s → IsIn u ts → IsIn u (s ∷ ss) → IsIn u ss
      tails_from u is at (inl same) = absurd (apart t u (above t u ts rise at) (is ∙ sym same))
      tails_from u is at (inr there) = there

      tails_to : (u : ProcessSlot P) → t ≡ s → IsIn u ss → IsIn u (t ∷ ts) → IsIn u ts
      tails_to u is at (inl same) = absurd (apart s u (above s u ss rises at) (sym is ∙ sym same))
      tails_to u is at (inr there) = there

-- ---- the process slots of a site

domains-process_slots : (ps : List (ℕ × Actor Worker)) → domains_of (map process_slot_of ps) ≡ map (λ p. p.0) ps
domains-process_slots [] = refl
domains-process_slots (p ∷ ps) = ap (λ (l : List ℕ). p.0 ∷ l) (domains-process_slots ps)

pub in_slots_by : (s : Site) (ps : List (ℕ × Actor Worker)) (process_slots : List (ProcessSlot (Actor Worker)))
    → AreActors s ps
    → IsPermutation (map process_slot_of ps) process_slots → IsStrictlyIncreasing (domains_of process_slots)
    → AreInSlots s process_slots
in_slots_by s ps process_slots are moved rises =
    let given : IsStrictlyIncreasing (domains_of (map process_slot_of ps)) =
    subst (λ (l : List ℕ). IsStrictlyIncreasing l) (sym (domains-process_slots ps ∙ domains_are s ps are))
    (range_rises 1 (suc (workers_used s))) in
    record {
      actors = ps;
      are = are;
      process_slots_are =
          same_order (map process_slot_of ps) process_slots given rises
          (λ u at. kept_in (map process_slot_of ps) process_slots u moved at)
          (λ u at. kept_in process_slots (map process_slot_of ps) u
          (IsPermutation-sym (map process_slot_of ps) process_slots moved) at);
    }
