-- Lists that stay in order, and keys that stay live.
use Rattle.std.proofs.Common.{inl, inr, ◌≡◌, ◌≢◌, ℕ, ◌+◌, ◌<◌, ◌≤◌, ◌⊎◌, List, length, get_or, arith, sym, ap, subst}
use Rattle.std.proofs.Common.{◌∙◌, Option, None, IsSome, unwrap_or}
use Rattle.std.specs.List.{insert, remove}
use Rattle.slab.specs.Slab.{Slab, get, Updates}
use Rattle.iol_evict.specs.declared.entry.Entry.{Entry}
use Rattle.iol_evict.specs.declared.entry.Rank.{Rank}
use Rattle.iol_evict.specs.declared.entry.By.{By}
use Rattle.iol_evict.specs.declared.entry.By.TheVariants.{Place, Height}
use Rattle.iol_evict.specs.Ranks.{rank_by, RankLt, RankLe}
use Rattle.iol_evict.specs.Order.{no_entry}
use Rattle.iol_evict.specs.Indexes.{entry_of, rank_at, AreLive, IsIndex, IsRising, IsPlace, IsApart}
use Rattle.iol_evict.proofs.RankOrder.{le_other}
use Rattle.iol_evict.proofs.Edits.{WasAt, insert-cases, remove-cases}

-- the slabs have the same entries at these keys
pub record SameAt (s t : Slab Entry) (keys : List ℕ) : Type 0 where
  pub each : (i : ℕ) → i < length keys → get t (get_or keys i 0) ≡ get s (get_or keys i 0)

pub same-entry : (s t : Slab Entry) (keys : List ℕ) (i : ℕ) → SameAt s t keys → i < length keys
    → entry_of t (get_or keys i 0) ≡ entry_of s (get_or keys i 0)
same-entry s t keys i same within = ap (λ (o : Option Entry). unwrap_or o no_entry) (same.each i within)

-- only another key changed
pub same-others : (s t : Slab Entry) (keys : List ℕ) (key : ℕ) (slot : Option Entry) → Updates s t key slot
    → ((i : ℕ) → i < length keys → get_or keys i 0 ≢ key) → SameAt s t keys
same-others s t keys key slot updates other =
    record { each = λ i within. updates.others (get_or keys i 0) (other i within) }

pub live-same : (s t : Slab Entry) (keys : List ℕ) → SameAt s t keys → AreLive s keys → AreLive t keys
live-same s t keys same live =
    record { each = λ i within. subst (λ (o : Option Entry). IsSome o) (sym (same.each i within)) (live.each i within) }

-- a live key is not a free key
pub live-other : (s : Slab Entry) (keys : List ℕ) (key : ℕ) → AreLive s keys → get s key ≡ None → (i : ℕ)
    → i < length keys → get_or keys i 0 ≢ key
live-other s keys key live free i within is =
    none (subst (λ (o : Option Entry). IsSome o) (ap (λ (k : ℕ). get s k) is ∙ free) (live.each i within))
  where
    none : IsSome {T = Entry} None → ⊥
    none some = cc

pub rising-ranks : (by : By) (s t : Slab Entry) (keys : List ℕ)
    → ((i : ℕ) → i < length keys → rank_at by t keys i ≡ rank_at by s keys i) → IsRising by s keys → IsRising by t keys
rising-ranks by s t keys same rising = record {
  each = λ i j lt within.
      subst (λ (r : Rank). RankLt r (rank_at by t keys j)) (sym (same i (omega arith)))
      (subst (λ (r : Rank). RankLt (rank_at by s keys i) r) (sym (same j within)) (rising.each i j lt within));
}

pub rising-same : (by : By) (s t : Slab Entry) (keys : List ℕ) → SameAt s t keys → IsRising by s keys
    → IsRising by t keys
rising-same by s t keys same rising =
    rising-ranks by s t keys (λ i within. ap (rank_by by) (same-entry s t keys i same within)) rising

pub index-same : (by : By) (s t : Slab Entry) (keys : List ℕ) → SameAt s t keys → IsIndex by s keys → IsIndex by t keys
index-same by s t keys same index =
    record { live = live-same s t keys same index.live; rising = rising-same by s t keys same index.rising }

rank_of_key : By → Slab Entry → ℕ → Rank
rank_of_key by s key = rank_by by (entry_of s key)

-- a key is inserted in its place
pub rising-insert : (by : By) (s : Slab Entry) (keys : List ℕ) (key n : ℕ) → IsRising by s keys
    → IsPlace by s keys (rank_by by (entry_of s key)) n → IsApart s keys key → IsRising by s (insert keys n key)
unfolding rank_of_key
rising-insert by s keys key n rising place apart = record {
  each = λ i j lt within.
      let short : i < length (insert keys n key) = omega arith in
      both i j lt (insert-cases keys n key i place.within short) (insert-cases keys n key j place.within within);
}
  where
    -- the order of two ranks, by equal keys
    swap : (x y x' y' : ℕ) → x ≡ x' → y ≡ y' → RankLt (rank_of_key by s x') (rank_of_key by s y')
        → RankLt (rank_of_key by s x) (rank_of_key by s y)
    swap x y x' y' ex ey lt =
        subst (λ (k : ℕ). RankLt (rank_of_key by s k) (rank_of_key by s y)) (sym ex)
        (subst (λ (k : ℕ). RankLt (rank_of_key by s x') (rank_of_key by s k)) (sym ey) lt)

    above : (m : ℕ) → n ≤ m → m < length keys → RankLt (rank_by by (entry_of s key)) (rank_at by s keys m)
    above m from within = other by (place.after m from within) (apart.each m within)
      where
        other : (b : By) → RankLe (rank_by b (entry_of s key)) (rank_at b s keys m)
            → ((entry_of s (get_or keys m 0)).file ≡ (entry_of s key).file
            → (entry_of s (get_or keys m 0)).at ≡ (entry_of s key).at → ⊥)
            → RankLt (rank_by b (entry_of s key)) (rank_at b s keys m)
        other Place le ne =
            le_other (rank_by Place (entry_of s key)) (rank_at Place s keys m) le (λ f a. ne (sym f) (sym a))
        other Height le ne =
            le_other (rank_by Height (entry_of s key)) (rank_at Height s keys m) le (λ f a. ne (sym f) (sym a))

    both : (i j : ℕ) → i < j
        → (((i ≡ n) × (get_or (insert keys n key) i 0 ≡ key)) ⊎ WasAt keys n i (get_or (insert keys n key) i 0))
        → (((j ≡ n) × (get_or (insert keys n key) j 0 ≡ key)) ⊎ WasAt keys n j (get_or (insert keys n key) j 0))
        → RankLt (rank_at by s (insert keys n key) i) (rank_at by s (insert keys n key) j)
    both i j lt (inl a) (inl b) = absurd (omega (arith, lt, a.0, b.0))
    both i j lt (inl a) (inr b) =
        swap _ _ key (get_or keys b.from 0) a.1 b.is
        (above b.from
        (elim b.side [ inl c ↦ omega (arith, lt, a.0, c.0, c.1) | inr c ↦ omega (arith, lt, a.0, c.0, c.1) ]) b.within)
    both i j lt (inr a) (inl b) =
        swap _ _ (get_or keys a.from 0) key a.is b.1
        (place.before a.from
        (elim a.side [ inl c ↦ omega (arith, lt, b.0, c.0, c.1) | inr c ↦ omega (arith, lt, b.0, c.0, c.1) ]))
    both i j lt (inr a) (inr b) =
        swap _ _ (get_or keys a.from 0) (get_or keys b.from 0) a.is b.is
        (rising.each a.from b.from
        (elim a.side [
          | inl c ↦
              elim b.side [
                | inl d ↦ omega (arith, lt, c.0, c.1, d.0, d.1)
                | inr d ↦
                    omega (arith, lt, c.0, c.1, d.0, d.1)
              ]
          | inr c ↦
              elim b.side [
                | inl d ↦ omega (arith, lt, c.0, c.1, d.0, d.1)
                | inr d ↦
                    omega (arith, lt, c.0, c.1, d.0, d.1)
              ]
        ])
        b.within)

-- one key is removed
pub rising-remove : (by : By) (s : Slab Entry) (keys : List ℕ) (n : ℕ) → IsRising by s keys → n < length keys
    → IsRising by s (remove keys n)
unfolding rank_of_key
rising-remove by s keys n rising in_it = record {
  each = λ i j lt within.
      let short : i < length (remove keys n) = omega arith in
      let a = remove-cases keys n i in_it short in
      let b = remove-cases keys n j in_it within in
      subst (λ (k : ℕ). RankLt (rank_of_key by s k) (rank_at by s (remove keys n) j)) (sym a.is)
      (subst (λ (k : ℕ). RankLt (rank_of_key by s (get_or keys a.from 0)) (rank_of_key by s k)) (sym b.is)
      (rising.each a.from b.from (order i j a.from b.from lt a.side b.side) b.within));
}
  where
    order : (i j f g : ℕ) → i < j → (((i < n) × (f ≡ i)) ⊎ ((n ≤ i) × (f ≡ i + 1)))
        → (((j < n) × (g ≡ j)) ⊎ ((n ≤ j) × (g ≡ j + 1))) → f < g
    order i j f g lt (inl c) (inl d) = omega (arith, lt, c.0, c.1, d.0, d.1)
    order i j f g lt (inl c) (inr d) = omega (arith, lt, c.0, c.1, d.0, d.1)
    order i j f g lt (inr c) (inl d) = omega (arith, lt, c.0, c.1, d.0, d.1)
    order i j f g lt (inr c) (inr d) = omega (arith, lt, c.0, c.1, d.0, d.1)
