-- Lists with keys, and entries that are found, missed and removed.
use Rattle.std.proofs.Common.{◌≡◌, ℕ, zero, suc, ◌+◌, Bool, true, false, ◌&&◌, List, [], ◌∷◌, length, take, Some, None}
use Rattle.std.proofs.Common.{refl, sym, ap, subst, ◌∙◌, arith}
use Rattle.std.specs.List.{AllByRecursion, IsDistinct}
use Rattle.std.specs.Map.{keys_of, lookup, lookup_entry, remove_entry}
use Rattle.std.proofs.lemmas.Bool.{eqb-true}
use Rattle.std.proofs.lemmas.Map.Keys.{IsDistinct-head, IsDistinct-tail, IsDistinct-cons}
use Rattle.iol_sum.specs.declared.keys.Key.{Key}
use Rattle.iol_sum.specs.Sums.{same}

both-true : (a b : Bool) → (a && b) ≡ true → (a ≡ true) × (b ≡ true)
both-true true b h = (refl, h)
both-true false b h = cc

abbrev made : (page generation from len : ℕ) → Key
made p g f n = record { page = p; generation = g; from = f; len = n }

pub same-true : (j k : Key) → same j k ≡ true → j ≡ k
same-true j k h =
    let a = both-true _ _ h in
    let b = both-true _ _ a.1 in
    let d = both-true _ _ b.1 in
    let page : j.page ≡ k.page = eqb-true _ _ a.0 in
    let generation : j.generation ≡ k.generation = eqb-true _ _ b.0 in
    let from : j.from ≡ k.from = eqb-true _ _ d.0 in
    let len : j.len ≡ k.len = eqb-true _ _ d.1 in
    ap (λ n. made n j.generation j.from j.len) page ∙ ap (λ n. made k.page n j.from j.len) generation
    ∙ ap (λ n. made k.page k.generation n j.len) from ∙ ap (λ n. made k.page k.generation k.from n) len

-- the entry that a look-up found
pub entry-found : (k : Key) (n : ℕ) (es : List (Key × ℕ)) → lookup (same k) es ≡ Some n
    → lookup_entry (same k) es ≡ Some (k, n)
entry-found k n [] h = cc
entry-found k n (f ∷ es) h =
    (elim (same k f.0) as (λ y. same k f.0 ≡ y → lookup_entry (same k) (f ∷ es) ≡ Some (k, n)) [
      | true ↦ λ t. let h' = rw t at h in let key : k ≡ f.0 = same-true k f.0 t in let value : f.1 ≡ n = cc in
          rw t (ap (λ v. Some (f.0, v)) value ∙ ap (λ j. Some (j, n)) (sym key))
      | false ↦ λ t. rw t (entry-found k n es (rw t at h))
    ]) refl

pub entry-missed : (k : Key) (es : List (Key × ℕ)) → lookup (same k) es ≡ None → lookup_entry (same k) es ≡ None
entry-missed k [] h = refl
entry-missed k (f ∷ es) h = (elim (same k f.0) as (λ y. same k f.0 ≡ y → lookup_entry (same k) (f ∷ es) ≡ None) [
  | true ↦ λ t. let h' = rw t at h in cc
  | false ↦ λ t. rw t (entry-missed k es (rw t at h))
]) refl

-- one entry less
pub length-removed : (k : Key) (n : ℕ) (es : List (Key × ℕ)) → lookup (same k) es ≡ Some n
    → length (remove_entry (same k) es) + 1 ≡ length es
length-removed k n [] h = cc
length-removed k n (f ∷ es) h =
    (elim (same k f.0) as (λ y. same k f.0 ≡ y → length (remove_entry (same k) (f ∷ es)) + 1 ≡ length (f ∷ es)) [
      | true ↦ λ t. rw t (omega arith)
      | false ↦ λ t. let r = length-removed k n es (rw t at h) in rw t (omega arith)
    ]) refl

-- no key of the list is k
abbrev pub IsNew : Key → List (Key × ℕ) → Type 0
IsNew k es = AllByRecursion (λ j. same k j ≡ false) (keys_of es)

pub IsNew-missed : (k : Key) (es : List (Key × ℕ)) → lookup (same k) es ≡ None → IsNew k es
IsNew-missed k [] h = tt
IsNew-missed k (f ∷ es) h = (elim (same k f.0) as (λ y. same k f.0 ≡ y → IsNew k (f ∷ es)) [
  | true ↦ λ t. let h' = rw t at h in cc
  | false ↦ λ t. (t, IsNew-missed k es (rw t at h))
]) refl

IsNew-removed : (j k : Key) (es : List (Key × ℕ)) → IsNew j es → IsNew j (remove_entry (same k) es)
IsNew-removed j k [] h = tt
IsNew-removed j k (f ∷ es) h = (elim (same k f.0) as (λ y. same k f.0 ≡ y → IsNew j (remove_entry (same k) (f ∷ es))) [
  | true ↦ λ t. rw t h.1
  | false ↦ λ t. rw t (h.0, IsNew-removed j k es h.1)
]) refl

IsNew-take : (j : Key) (n : ℕ) (es : List (Key × ℕ)) → IsNew j es → IsNew j (take n es)
IsNew-take j zero es h = tt
IsNew-take j (suc n) [] h = tt
IsNew-take j (suc n) (f ∷ es) h = (h.0, IsNew-take j n es h.1)

abbrev pub AreDistinct : List (Key × ℕ) → Type 0
AreDistinct es = IsDistinct same (keys_of es)

-- a removed key is no longer in the list
pub removed-new : (k : Key) (es : List (Key × ℕ)) → AreDistinct es → IsNew k (remove_entry (same k) es)
removed-new k [] d = tt
removed-new k (f ∷ es) d = (elim (same k f.0) as (λ y. same k f.0 ≡ y → IsNew k (remove_entry (same k) (f ∷ es))) [
  | true ↦ λ t. rw t (subst (λ j. IsNew j es) (sym (same-true k f.0 t)) (IsDistinct-head same f.0 (keys_of es) d))
  | false ↦ λ t. rw t (t, removed-new k es (IsDistinct-tail same f.0 (keys_of es) d))
]) refl

pub removed-distinct : (k : Key) (es : List (Key × ℕ)) → AreDistinct es → AreDistinct (remove_entry (same k) es)
removed-distinct k [] d = d
removed-distinct k (f ∷ es) d =
    (elim (same k f.0) as (λ y. same k f.0 ≡ y → AreDistinct (remove_entry (same k) (f ∷ es))) [
      | true ↦ λ t. rw t (IsDistinct-tail same f.0 (keys_of es) d)
      | false ↦
          λ t.
          rw t
          (IsDistinct-cons same f.0 (keys_of (remove_entry (same k) es))
          (IsNew-removed f.0 k es (IsDistinct-head same f.0 (keys_of es) d))
          (removed-distinct k es (IsDistinct-tail same f.0 (keys_of es) d)))
    ]) refl

pub take-distinct : (n : ℕ) (es : List (Key × ℕ)) → AreDistinct es → AreDistinct (take n es)
unfolding IsDistinct
take-distinct zero es d = tt
take-distinct (suc n) [] d = tt
take-distinct (suc n) (f ∷ es) d = (IsNew-take f.0 n es d.0, take-distinct n es d.1)

pub take-new : (k : Key) (n : ℕ) (es : List (Key × ℕ)) → lookup (same k) es ≡ None → IsNew k (take n es)
take-new k n es h = IsNew-take k n es (IsNew-missed k es h)
