-- Ranks in a rising list.
use Rattle.std.proofs.Common.{inl, inr, ◌≡◌, ℕ, ◌+◌, ◌<◌, ◌≤◌, List, length, get_or, arith, sym, subst, ◌∙◌}
use Rattle.std.specs.List.{remove}
use Rattle.std.proofs.lemmas.Bool.{cases_eq, cases_lt}
use Rattle.std.proofs.lemmas.List.{get_or_default}
use Rattle.slab.specs.Slab.{Slab}
use Rattle.iol_evict.specs.declared.entry.Entry.{Entry}
use Rattle.iol_evict.specs.declared.entry.Rank.{Rank}
use Rattle.iol_evict.specs.declared.entry.By.{By}
use Rattle.iol_evict.specs.Ranks.{RankLt, RankLe}
use Rattle.iol_evict.specs.Indexes.{rank_at, IsRising, IsPlace, HasRank, Finds, Takes}
use Rattle.iol_evict.proofs.RankOrder.{lt_trans, le_lt, lt_le, lt_not_le, le_refl}

-- if the key at m is below the rank, so are all before it
pub all_below : (by : By) (s : Slab Entry) (keys : List ℕ) (rank : Rank) (m i : ℕ) → IsRising by s keys
    → m < length keys → RankLt (rank_at by s keys m) rank → i < m + 1 → RankLt (rank_at by s keys i) rank
all_below by s keys rank m i rising within below upto = elim (cases_eq i m) [
  | inl same ↦ subst (λ (k : ℕ). RankLt (rank_at by s keys k) rank) (sym same) below
  | inr other ↦
      lt_trans (rank_at by s keys i) (rank_at by s keys m) rank (rising.each i m (omega (arith, other, upto)) within)
      below
]

-- if the key at m is not below the rank, neither is any after it
pub all_from : (by : By) (s : Slab Entry) (keys : List ℕ) (rank : Rank) (m i : ℕ) → IsRising by s keys
    → RankLe rank (rank_at by s keys m) → m ≤ i → i < length keys → RankLe rank (rank_at by s keys i)
all_from by s keys rank m i rising above from within = elim (cases_eq i m) [
  | inl same ↦ subst (λ (k : ℕ). RankLe rank (rank_at by s keys k)) (sym same) above
  | inr other ↦
      lt_le rank (rank_at by s keys i)
      (le_lt rank (rank_at by s keys m) (rank_at by s keys i) above
      (rising.each m i (omega (arith, other, from)) within))
]

-- the place of a rank that occurs is its index
pub place-has : (by : By) (s : Slab Entry) (keys : List ℕ) (rank : Rank) (n i : ℕ) → IsRising by s keys
    → IsPlace by s keys rank n → i < length keys → rank_at by s keys i ≡ rank → i ≡ n
place-has by s keys rank n i rising place within has = elim (cases_lt i n) [
  | inl below ↦
      absurd
      (lt_not_le (rank_at by s keys i) rank (place.before i below)
      (subst (λ (r : Rank). RankLe rank r) (sym has) (le_refl rank)))
  | inr from ↦ elim (cases_eq i n) [
    | inl same ↦ same
    | inr other ↦
        absurd
        (lt_not_le (rank_at by s keys n) rank
        (subst (λ (r : Rank). RankLt (rank_at by s keys n) r) has (rising.each n i (omega (arith, from, other)) within))
        (place.after n (omega arith) (omega arith)))
  ]
]

-- a key that was read
pub read-key : (keys : List ℕ) (n key : ℕ) → key ≡ get_or keys n key → n < length keys → key ≡ get_or keys n 0
read-key keys n key read within = read ∙ get_or_default keys n key 0 within

-- the place of a rank that occurs is in the list
pub place-within : (by : By) (s : Slab Entry) (keys : List ℕ) (rank : Rank) (n : ℕ) → IsRising by s keys
    → HasRank by s keys rank → IsPlace by s keys rank n → n < length keys
place-within by s keys rank n rising there place =
    subst (λ (k : ℕ). k < length keys) (place-has by s keys rank n there.index rising place there.within there.has)
    there.within

-- the key at the place of a rank that occurs
found : (by : By) (s : Slab Entry) (keys : List ℕ) (rank : Rank) (n key : ℕ) → IsRising by s keys
    → HasRank by s keys rank → IsPlace by s keys rank n → key ≡ get_or keys n key
    → (n < length keys) × (get_or keys n 0 ≡ key) × (rank_at by s keys n ≡ rank)
found by s keys rank n key rising there place read =
    let e = place-has by s keys rank n there.index rising place there.within there.has in
    let within = subst (λ (k : ℕ). k < length keys) e there.within in
    (within, get_or_default keys n 0 key within ∙ sym read, subst (λ (k : ℕ). rank_at by s keys k ≡ rank) e there.has)

-- the key of the rank is found there
pub finds : (by : By) (s : Slab Entry) (keys : List ℕ) (rank : Rank) (n key : ℕ) → IsRising by s keys
    → HasRank by s keys rank → IsPlace by s keys rank n → key ≡ get_or keys n key → Finds by s keys rank key
finds by s keys rank n key rising there place read =
    let f = found by s keys rank n key rising there place read in
    record { index = n; within = f.0; is = f.1; has = f.2 }

-- the key of the rank is removed from there
pub takes : (by : By) (s : Slab Entry) (old new : List ℕ) (rank : Rank) (n key : ℕ) → IsRising by s old
    → HasRank by s old rank → IsPlace by s old rank n → key ≡ get_or old n key → new ≡ remove old n
    → Takes by s rank key old new
takes by s old new rank n key rising there place read keys =
    let f = found by s old rank n key rising there place read in
    record { index = n; within = f.0; is = f.1; has = f.2; keys = keys }
