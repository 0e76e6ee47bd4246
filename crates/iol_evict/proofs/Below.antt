-- Entries below a rank.
use Rattle.std.proofs.Common.{inl, inr, ◌≡◌, ℕ, ◌+◌, ◌<◌, Bool, true, false, List, [], ◌∷◌, cond, length, get_or, arith}
use Rattle.std.proofs.Common.{sym, subst, ◌∙◌, All}
use Rattle.std.proofs.lemmas.Bool.{cases_eq, cases_lt}
use Rattle.std.proofs.lemmas.List.{length-map}
use Rattle.std.proofs.lemmas.List.Elements.{All-cons, All-head, All-tail, All-get_or, All-from_get_or}
use Rattle.slab.specs.Slab.{Slab}
use Rattle.iol_evict.specs.declared.entry.Entry.{Entry}
use Rattle.iol_evict.specs.declared.entry.Rank.{Rank}
use Rattle.iol_evict.specs.declared.entry.By.TheVariants.{Height}
use Rattle.iol_evict.specs.Order.{no_entry, is_at, without}
use Rattle.iol_evict.specs.Ranks.{rank_by, least_rank, RankLt, RankLe}
use Rattle.iol_evict.specs.Indexes.{entry_of, rank_at, IsRising, IsIndexed}
use Rattle.iol_evict.specs.Victims.{AreUsedBelow, is_used, KeysUsedBelow}
use Rattle.iol_evict.proofs.RankOrder.{lt_not_le, le_refl}
use Rattle.iol_evict.proofs.Places.{all_from}
use Rattle.iol_evict.proofs.Times.{each-same, same-sym}
use Rattle.iol_evict.proofs.Indexes.{entries_of, read}

-- if the entry is below the rank, it is in use
abbrev UsedBelow : (used : ℕ → ℕ → Bool) → Rank → Entry → Type 0
UsedBelow used rank e = RankLt (rank_by Height e) rank → used e.file e.at ≡ true

-- no entry is below the least rank
least-below : (rank : Rank) → RankLt rank least_rank → ⊥
least-below rank lt =
    omega (
      arith,
      lt.height,
      lt.file (omega (arith, lt.height)),
      lt.at (omega (arith, lt.height)) (omega (arith, lt.file (omega (arith, lt.height)))),
    )

pub below-least : (used : ℕ → ℕ → Bool) (es : List Entry) → AreUsedBelow used least_rank es
below-least used es =
    record {
      each =
          All-from_get_or (UsedBelow used least_rank) es no_entry
          (λ i within lt. absurd (least-below (rank_by Height (get_or es i no_entry)) lt));
    }

-- likewise for the keys in the order of height
pub keys-below : (used : ℕ → ℕ → Bool) (rank : Rank) (s : Slab Entry) (ks js : List ℕ) → IsIndexed s ks js
    → AreUsedBelow used rank (entries_of s ks) → KeysUsedBelow used rank s js
keys-below used rank s ks js indexed below = record {
  each = each-same (λ k. UsedBelow used rank (entry_of s k)) ks js indexed.same
      (λ i within. subst (UsedBelow used rank) (read s ks i within)
      (All-get_or (UsedBelow used rank) (entries_of s ks) i no_entry
      (subst (λ (n : ℕ). i < n) (sym (length-map ks (entry_of s))) within) below.each));
}

pub below-keys : (used : ℕ → ℕ → Bool) (rank : Rank) (s : Slab Entry) (ks js : List ℕ) → IsIndexed s ks js
    → KeysUsedBelow used rank s js → AreUsedBelow used rank (entries_of s ks)
below-keys used rank s ks js indexed below = record {
  each = All-from_get_or (UsedBelow used rank) (entries_of s ks) no_entry
      (λ i upto. let within : i < length ks = subst (λ (n : ℕ). i < n) (length-map ks (entry_of s)) upto in
      subst (UsedBelow used rank) (sym (read s ks i within))
      (each-same (λ k. UsedBelow used rank (entry_of s k)) js ks (same-sym ks js indexed.same) below.each i within));
}

-- if the next key is in use, all keys up to it are
pub used-next : (used : ℕ → ℕ → Bool) (s : Slab Entry) (keys : List ℕ) (n : ℕ) (e : Entry)
    → ((i : ℕ) → i < n → is_used used s keys i ≡ true) → e ≡ entry_of s (get_or keys n 0) → used e.file e.at ≡ true
    → (i : ℕ) → i < n + 1 → is_used used s keys i ≡ true
used-next used s keys n e before is busy i upto = elim (cases_eq i n) [
  | inl same ↦
      subst (λ (k : ℕ). is_used used s keys k ≡ true) (sym same)
      (subst (λ (x : Entry). used x.file x.at ≡ true) is busy)
  | inr other ↦ before i (omega (arith, other, upto))
]

-- the keys below the rank of the n-th key come before it, and are in use
pub below-next : (used : ℕ → ℕ → Bool) (s : Slab Entry) (keys : List ℕ) (n : ℕ) (rank : Rank) → IsRising Height s keys
    → rank ≡ rank_at Height s keys n → ((i : ℕ) → i < n → is_used used s keys i ≡ true) → KeysUsedBelow used rank s keys
below-next used s keys n rank rising is before = record {
  each = λ i within lt. elim (cases_lt i n) [
    | inl under ↦ before i under
    | inr from ↦
        absurd
        (lt_not_le (rank_at Height s keys i) rank lt
        (subst (λ (r : Rank). RankLe r (rank_at Height s keys i)) (sym is)
        (all_from Height s keys (rank_at Height s keys n) n i rising (le_refl (rank_at Height s keys n)) from within)))
  ];
}

-- a property of all entries holds for all without one
all-without : (P : Entry → Type 0) (es : List Entry) (file at : ℕ) → All P es → All P (without es file at)
all-without P [] file at all = all
all-without P (x ∷ es) file at all = pick (is_at x file at) (all-without P es file at (All-tail P x es all)) where
  pick : (b : Bool) → All P (without es file at) → All P (cond b es (x ∷ without es file at))
  pick true rest = All-tail P x es all
  pick false rest = All-cons P x (without es file at) (All-head P x es all) rest

pub below-without : (used : ℕ → ℕ → Bool) (rank : Rank) (es : List Entry) (file at : ℕ) → AreUsedBelow used rank es
    → AreUsedBelow used rank (without es file at)
below-without used rank es file at below = record { each = all-without (UsedBelow used rank) es file at below.each }

-- two predicates that agree on the entries
pub below-same : (used uses : ℕ → ℕ → Bool) (rank : Rank) (es : List Entry)
    → All (λ e. uses e.file e.at ≡ used e.file e.at) es → AreUsedBelow used rank es → AreUsedBelow uses rank es
below-same used uses rank es same below = record {
  each =
      All-from_get_or (UsedBelow uses rank) es no_entry
      (λ i within lt. All-get_or (λ e. uses e.file e.at ≡ used e.file e.at) es i no_entry within same
      ∙ All-get_or (UsedBelow used rank) es i no_entry within below.each lt);
}
