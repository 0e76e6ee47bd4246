-- Deadlines in their order.
use Rattle.std.proofs.Common.{◌≡◌, ◌≤◌, ◌<◌, ◌++◌, ◌∷◌, ℕ, zero, suc, List, [], refl, sym, subst}
use Rattle.std.proofs.Common.{arith, drop, get_or, length, slice_index_or}
use Rattle.std.proofs.lemmas.List.Quantifiers.{all_pairs_push}
use Rattle.std.specs.Prelude.{Result, Ok, Err, if◌then◌else◌, is_ok}
use Rattle.iol_reactor.specs.Deadlines.{IsOrdered, last_of}
use Rattle.iol_reactor.specs.declared.deadlines.Deadline.{Deadline}

module _ {K : Type 0} where
  ordered_tail : (x : Deadline K) (xs : List (Deadline K)) → IsOrdered (x ∷ xs) → IsOrdered xs
  ordered_tail x xs all = λ i j d less within. all (suc i) (suc j) d (omega (arith, less)) (omega (arith, within))

  -- each deadline is at most the last one
  below_last : (xs : List (Deadline K)) (k : ℕ) (d : Deadline K) → IsOrdered xs → k < length xs
      → (get_or xs k d).at ≤ last_of xs
  below_last [] k d all within = absurd (omega (arith, within))
  below_last (x ∷ []) zero d all within = omega arith
  below_last (x ∷ []) (suc k) d all within = absurd (omega (arith, within))
  below_last (x ∷ y ∷ xs) zero d all within =
      let first = all 0 1 d (omega arith) (omega arith) in
      let rest = below_last (y ∷ xs) 0 d (ordered_tail x (y ∷ xs) all) (omega arith) in
      omega (arith, first, rest)
  below_last (x ∷ y ∷ xs) (suc k) d all within = below_last (y ∷ xs) k d (ordered_tail x (y ∷ xs) all)
      (omega (arith, within))

  pub ordered_push : (xs : List (Deadline K)) (y : Deadline K) → IsOrdered xs → last_of xs ≤ y.at
      → IsOrdered (xs ++ y ∷ [])
  ordered_push xs y all later = all_pairs_push (λ a b. a.at ≤ b.at) xs y all (λ k d within.
      let below = below_last xs k d all within in omega (arith, below, later))

  pub ordered_grown : {T E : Type 0} (r : Result T E) (xs next : List (Deadline K)) (y : Deadline K)
      → next ≡ (if is_ok r then xs ++ y ∷ [] else xs) → last_of xs ≤ y.at → IsOrdered xs → IsOrdered next
  ordered_grown (Ok v) xs next y same later all = subst (λ ds. IsOrdered ds) (sym same) (ordered_push xs y all later)
  ordered_grown (Err e) xs next y same later all = subst (λ ds. IsOrdered ds) (sym same) all

  pub ordered_rest : (xs next : List (Deadline K)) → next ≡ drop 1 xs → IsOrdered xs → IsOrdered next
  ordered_rest [] next same all = subst (λ ds. IsOrdered ds) (sym same) all
  ordered_rest (x ∷ xs) next same all = subst (λ ds. IsOrdered ds) (sym same) (ordered_tail x xs all)

  -- the last one of a queue
  pub back_is : (xs : List (Deadline K)) (n : ℕ) (d : Deadline K) → length xs ≡ suc n
      → (get_or xs n d).at ≡ last_of xs
  back_is [] n d long = absurd (omega (arith, long))
  back_is (x ∷ []) zero d long = refl
  back_is (x ∷ []) (suc n) d long = absurd (omega (arith, long))
  back_is (x ∷ y ∷ xs) zero d long = absurd (omega (arith, long))
  back_is (x ∷ y ∷ xs) (suc n) d long = back_is (y ∷ xs) n d (omega (arith, long))

  -- the first one of a queue is at most each of them
  pub front_least : (xs : List (Deadline K)) (k : ℕ) (d first : Deadline K) → IsOrdered xs → k < length xs
      → (get_or xs 0 first).at ≤ (slice_index_or xs k d).at
  front_least [] k d first all within = absurd (omega (arith, within))
  front_least (x ∷ xs) zero d first all within = omega arith
  front_least (x ∷ xs) (suc k) d first all within = all 0 (suc k) d (omega arith) within
