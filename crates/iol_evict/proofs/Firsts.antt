-- The entry to evict next.
use Rattle.std.proofs.Common.{inl, inr, ◌≡◌, ℕ, ◌<◌, ◌≤◌, Bool, true, false, List, [], ◌∷◌, length, get_or, arith, refl}
use Rattle.std.proofs.Common.{sym, ap, subst, ◌∙◌, Option, Some, None, MatchOption, All, Contains}
use Rattle.std.proofs.lemmas.Bool.{cases_eq, cases_lt}
use Rattle.std.proofs.lemmas.List.{length-map}
use Rattle.std.proofs.lemmas.List.Elements.{All-get_or, All-from_get_or, Contains-get_or}
use Rattle.slab.specs.Slab.{Slab}
use Rattle.iol_evict.specs.declared.entry.Entry.{Entry}
use Rattle.iol_evict.specs.declared.entry.By.TheVariants.{Height}
use Rattle.iol_evict.specs.Order.{no_entry}
use Rattle.iol_evict.specs.Ranks.{rank_by, RankLt}
use Rattle.iol_evict.specs.Indexes.{entry_of, IsRising, IsIndexed}
use Rattle.iol_evict.specs.Victims.{KeyLe, Precedes, IsVictim, CanAskOf, is_used, GoesFirst}
use Rattle.iol_evict.proofs.Times.{stands-same, same-sym, each-same}
use Rattle.iol_evict.proofs.Indexes.{entries_of, read}

key-lt : (a b : Entry) → RankLt (rank_by Height a) (rank_by Height b) → KeyLe a b
key-lt a b lt = record { height = lt.height; file = lt.file; at = λ h f. (let less = lt.at h f in omega (arith, less)) }

key-same : (a b : Entry) → a ≡ b → KeyLe a b
key-same a b same =
    subst (λ (x : Entry). KeyLe a x) same (record {
      height = omega arith;
      file = λ h. omega arith;
      at =
          λ h f. omega arith;
    })

key-rising : (s : Slab Entry) (keys : List ℕ) (i j : ℕ) → IsRising Height s keys → i ≤ j → j < length keys
    → KeyLe (entry_of s (get_or keys i 0)) (entry_of s (get_or keys j 0))
key-rising s keys i j rising le within = elim (cases_eq i j) [
  | inl same ↦
      key-same (entry_of s (get_or keys i 0)) (entry_of s (get_or keys j 0))
      (ap (λ (k : ℕ). entry_of s (get_or keys k 0)) same)
  | inr other ↦
      key-lt (entry_of s (get_or keys i 0)) (entry_of s (get_or keys j 0))
      (rising.each i j (omega (arith, le, other)) within)
]

-- it precedes each entry in the order of height
precedes-each : (used : ℕ → ℕ → Bool) (s : Slab Entry) (keys : List ℕ) (place : ℕ × ℕ)
    (first : GoesFirst used s keys place) → IsRising Height s keys → (j : ℕ) → j < length keys
    → Precedes used (entry_of s (get_or keys first.index 0)) (entry_of s (get_or keys j 0))
precedes-each used s keys place first rising j within = elim first.idle [
  | inl idle ↦ elim (cases_lt j first.index) [
    | inl before ↦ inl (idle, first.before j before)
    | inr after ↦ by (is_used used s keys j) refl idle after
  ]
  | inr all ↦
      inr (
        all.1 first.index first.within ∙ sym (all.1 j within),
        key-rising s keys first.index j rising (omega (arith, all.0)) within,
      )
]
  where
    by : (b : Bool) → is_used used s keys j ≡ b → is_used used s keys first.index ≡ false → first.index ≤ j
        → Precedes used (entry_of s (get_or keys first.index 0)) (entry_of s (get_or keys j 0))
    by true busy idle after = inl (idle, busy)
    by false free idle after = inr (idle ∙ sym free, key-rising s keys first.index j rising after within)

-- so it also precedes each entry in the order of file and place
pub victim-first : (used : ℕ → ℕ → Bool) (s : Slab Entry) (ks js : List ℕ) (place : ℕ × ℕ) → IsIndexed s ks js
    → GoesFirst used s js place → IsVictim used (entries_of s ks) place
victim-first used s ks js place indexed first =
    let stood = stands-same ks js first.index indexed.same first.within in
    let short = subst (λ (n : ℕ). stood.index < n) (sym (length-map ks (entry_of s))) stood.within in
    record {
      victim = entry_of s (get_or js first.index 0);
      there = subst (λ (e : Entry). Contains (entries_of s ks) e) (read s ks stood.index stood.within
          ∙ ap (entry_of s) stood.is) (Contains-get_or (entries_of s ks) stood.index no_entry short);
      first = All-from_get_or (Precedes used (entry_of s (get_or js first.index 0))) (entries_of s ks) no_entry
          (λ i upto. let within : i < length ks = subst (λ (n : ℕ). i < n) (length-map ks (entry_of s)) upto in
          subst (λ (e : Entry). Precedes used (entry_of s (get_or js first.index 0)) e) (sym (read s ks i within))
          (each-same (λ k. Precedes used (entry_of s (get_or js first.index 0)) (entry_of s k)) js ks
          (same-sym ks js indexed.same) (precedes-each used s js place first indexed.heights) i within));
      lies = first.lies;
    }

-- without keys there are no entries
pub entries-none : (s : Slab Entry) (ks js : List ℕ) → IsIndexed s ks js → length js ≡ 0 → entries_of s ks ≡ []
entries-none s [] js indexed none = refl
entries-none s (k ∷ ks) js indexed none =
    let stood = stands-same js (k ∷ ks) 0 (same-sym (k ∷ ks) js indexed.same) (omega arith) in
    absurd (omega (arith, stood.within, none))

-- `is_in_use` may be called for each entry, also in the order of height
pub ask-heights : (ask : ℕ → ℕ → Type 0) (s : Slab Entry) (ks js : List ℕ) → IsIndexed s ks js
    → All (λ e. ask e.file e.at) (entries_of s ks) → CanAskOf ask s js
ask-heights ask s ks js indexed all = record {
  each = each-same (λ k. ask (entry_of s k).file (entry_of s k).at) ks js indexed.same
      (λ i within. subst (λ (e : Entry). ask e.file e.at) (read s ks i within)
      (All-get_or (λ e. ask e.file e.at) (entries_of s ks) i no_entry
      (subst (λ (n : ℕ). i < n) (sym (length-map ks (entry_of s))) within) all));
}

pub match-map : {A P P' : Type 0} {Q Q' : A → Type 0} (r : Option A) → (P → P') → ((x : A) → Q x → Q' x)
    → MatchOption r P Q → MatchOption r P' Q'
match-map None f g h = f h
match-map (Some x) f g h = g x h
