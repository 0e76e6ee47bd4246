-- The keys of an edited list, by their indexes before the edit.
use Rattle.std.proofs.Common.{inl, inr, ◌≡◌, ℕ, ◌+◌, ◌-◌, ◌<◌, ◌≤◌, ◌⊎◌, List, length, get_or, arith, refl, sym, subst}
use Rattle.std.specs.List.{insert, remove}
use Rattle.std.proofs.lemmas.Bool.{cases_eq, cases_lt}
use Rattle.std.proofs.lemmas.List.Edits.{length-insert, length-remove, get_or-insert_at, get_or-insert_below}
use Rattle.std.proofs.lemmas.List.Edits.{get_or-insert_above, get_or-remove_below, get_or-remove_above}

-- after an insertion at n, the key at i was at index `from`
pub record WasAt (keys : List ℕ) (n : ℕ) (i : ℕ) (key : ℕ) : Type 0 where
  pub from : ℕ
  pub within : from < length keys
  pub is : key ≡ get_or keys from 0
  pub side : ((i < n) × (from ≡ i)) ⊎ ((n < i) × (from + 1 ≡ i))

pub insert-cases : (keys : List ℕ) (n key i : ℕ) → n ≤ length keys → i < length (insert keys n key)
    → ((i ≡ n) × (get_or (insert keys n key) i 0 ≡ key)) ⊎ WasAt keys n i (get_or (insert keys n key) i 0)
insert-cases keys n key i within upto = elim (cases_lt i n) [
  | inl below ↦
      inr (record {
        from = i;
        within = omega arith;
        is = get_or-insert_below keys n key 0 i below within;
        side =
            inl (below, refl);
      })
  | inr from ↦ elim (cases_eq i n) [
    | inl same ↦
        inl (
          same,
          subst (λ (k : ℕ). get_or (insert keys n key) k 0 ≡ key) (sym same)
              (get_or-insert_at keys n key 0 within),
        )
    | inr other ↦
        (let above : n < i = omega (arith, from, other) in
        above_case above (omega (arith, upto, length-insert keys n key within, above)))
  ]
]
  where
    above_case : n < i → i - 1 < length keys → ((i ≡ n) × (get_or (insert keys n key) i 0 ≡ key))
        ⊎ WasAt keys n i (get_or (insert keys n key) i 0)
    above_case above short =
        let step : i - 1 + 1 ≡ i = omega (arith, above) in
        let read = get_or-insert_above keys n key 0 (i - 1) (omega (arith, above)) within in
        inr
        (record {
          from = i - 1;
          within = short;
          is =
              subst (λ (k : ℕ). get_or (insert keys n key) k 0 ≡ get_or keys (i - 1) 0) step read;
          side =
              inr (above, step);
        })

-- after the removal at n, the key at i was at index `from`
pub record StoodAt (keys : List ℕ) (n : ℕ) (i : ℕ) (key : ℕ) : Type 0 where
  pub from : ℕ
  pub within : from < length keys
  pub is : key ≡ get_or keys from 0
  pub side : ((i < n) × (from ≡ i)) ⊎ ((n ≤ i) × (from ≡ i + 1))

pub remove-cases : (keys : List ℕ) (n i : ℕ) → n < length keys → i < length (remove keys n)
    → StoodAt keys n i (get_or (remove keys n) i 0)
remove-cases keys n i within upto = elim (cases_lt i n) [
  | inl below ↦ record {
    from = i;
    within = omega arith;
    is = get_or-remove_below keys n 0 i below within;
    side =
        inl (below, refl);
  }
  | inr from ↦ record {
    from = i + 1;
    within = omega (arith, upto, length-remove keys n within);
    is =
        get_or-remove_above keys n 0 i from within;
    side = inr (from, refl);
  }
]

-- a property of each key, after an insertion and after a removal
pub each-insert : (P : ℕ → Type 0) (keys : List ℕ) (n key : ℕ) → ((i : ℕ) → i < length keys → P (get_or keys i 0))
    → P key → n ≤ length keys → (i : ℕ) → i < length (insert keys n key) → P (get_or (insert keys n key) i 0)
each-insert P keys n key each here within i upto = elim (insert-cases keys n key i within upto) [
  | inl new ↦ subst P (sym new.1) here
  | inr old ↦ subst P (sym old.is) (each old.from old.within)
]

pub each-remove : (P : ℕ → Type 0) (keys : List ℕ) (n : ℕ) → ((i : ℕ) → i < length keys → P (get_or keys i 0))
    → n < length keys → (i : ℕ) → i < length (remove keys n) → P (get_or (remove keys n) i 0)
each-remove P keys n each within i upto =
    let old = remove-cases keys n i within upto in
    subst P (sym old.is) (each old.from old.within)
