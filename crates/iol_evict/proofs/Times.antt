-- Lists that have the same keys.
use Rattle.std.proofs.Common.{inl, inr, ◌≡◌, ℕ, ◌+◌, ◌<◌, List, [], ◌∷◌, length, get_or, arith, refl, sym, ap, subst}
use Rattle.std.proofs.Common.{◌∙◌}
use Rattle.std.specs.List.{insert, remove}
use Rattle.std.proofs.lemmas.Bool.{cases_eq}
use Rattle.std.proofs.lemmas.Bool.Decides.{nat_tests}
use Rattle.std.proofs.lemmas.Grind.{common_steps}
use Rattle.std.proofs.lemmas.List.Sums.{sum_by-insert, sum_by-remove}
use Rattle.iol_evict.specs.Indexes.{one_if, times, HaveSameKeys}

-- an index of the key
pub record StandsIn (keys : List ℕ) (key : ℕ) : Type 0 where
  pub index : ℕ
  pub within : index < length keys
  pub is : get_or keys index 0 ≡ key

times-same : (key : ℕ) → one_if key key ≡ 1
times-same key = grind (arith, nat_tests)

pub times-some : (keys : List ℕ) (i key : ℕ) → i < length keys → get_or keys i 0 ≡ key → 0 < times key keys
times-some keys i key within is =
    let split = sum_by-remove (one_if key) keys i 0 within in
    let one : one_if key (get_or keys i 0) ≡ 1 = subst (λ (k : ℕ). one_if key k ≡ 1) (sym is) (times-same key) in
    omega (arith, split, one)

pub stands-some : (keys : List ℕ) (key : ℕ) → 0 < times key keys → StandsIn keys key
stands-some [] key some = absurd (omega (arith, some))
stands-some (k ∷ keys) key some = elim (cases_eq k key) [
  | inl same ↦ record { index = 0; within = omega arith; is = same }
  | inr other ↦ more (stands-some keys key (grind (arith, nat_tests, some, other)))
]
  where
    more : StandsIn keys key → StandsIn (k ∷ keys) key
    more there = record {
      index = there.index + 1;
      within = omega (arith, there.within);
      is =
          grind (arith, common_steps, there.is);
    }

-- each key of one list is in the other
pub stands-same : (a b : List ℕ) (i : ℕ) → HaveSameKeys a b → i < length b → StandsIn a (get_or b i 0)
stands-same a b i same within =
    stands-some a (get_or b i 0)
    (subst (λ (n : ℕ). 0 < n) (sym (same.each (get_or b i 0))) (times-some b i (get_or b i 0) within refl))

pub same-sym : (a b : List ℕ) → HaveSameKeys a b → HaveSameKeys b a
same-sym a b same = record { each = λ key. sym (same.each key) }

pub each-same : (P : ℕ → Type 0) (a b : List ℕ) → HaveSameKeys a b → ((i : ℕ) → i < length a → P (get_or a i 0))
    → (i : ℕ) → i < length b → P (get_or b i 0)
each-same P a b same each i within =
    let there = stands-same a b i same within in
    subst P there.is (each there.index there.within)

pub same-insert : (a b : List ℕ) (n m key : ℕ) → HaveSameKeys a b → HaveSameKeys (insert a n key) (insert b m key)
same-insert a b n m key same = record {
  each = λ k. sum_by-insert (one_if k) a n key ∙ ap (λ (t : ℕ). t + one_if k key) (same.each k)
      ∙ sym (sum_by-insert (one_if k) b m key);
}

pub same-remove : (a b : List ℕ) (n m : ℕ) → HaveSameKeys a b → n < length a → m < length b
    → get_or a n 0 ≡ get_or b m 0 → HaveSameKeys (remove a n) (remove b m)
same-remove a b n m same in_a in_b is = record {
  each = λ k.
      let from_a = sum_by-remove (one_if k) a n 0 in_a in
      let from_b = sum_by-remove (one_if k) b m 0 in_b in
      let one : one_if k (get_or a n 0) ≡ one_if k (get_or b m 0) = ap (one_if k) is in
      let all = same.each k in
      omega (arith, from_a, from_b, one, all);
}
