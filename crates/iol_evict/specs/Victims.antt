-- The entry to evict next.
use Rattle.std.specs.Prelude.{◌≡◌, ℕ, ◌<◌, ◌≤◌, ◌⊎◌, Bool, List, [], length, slice_index, All, Contains}
use Rattle.std.specs.Prelude.{Option, MatchOption, IsTrue, IsFalse}
use Rattle.slab.specs.Slab.{Slab}
use Rattle.iol_evict.specs.declared.entry.Entry.{Entry}
use Rattle.iol_evict.specs.declared.entry.Rank.{Rank}
use Rattle.iol_evict.specs.declared.entry.By.TheVariants.{Height}
use Rattle.iol_evict.specs.Ranks.{rank_by, RankLt}
use Rattle.iol_evict.specs.Indexes.{IsIndex, entry_of, rank_at}

-- by height, then file, then place
pub record KeyLe (a b : Entry) : Type 0 where
  pub height : a.height ≤ b.height
  pub file : a.height ≡ b.height → a.file ≤ b.file
  pub at : a.height ≡ b.height → a.file ≡ b.file → a.at ≤ b.at

-- those that are not in use before those that are, and then by height, file and place
abbrev pub Precedes : (in_use : ℕ → ℕ → Bool) → (a b : Entry) → Type 0
Precedes in_use a b =
    (IsFalse (in_use a.file a.at) × IsTrue (in_use b.file b.at))
    ⊎ ((in_use a.file a.at ≡ in_use b.file b.at) × KeyLe a b)

-- the place of the entry to evict next
pub record IsVictim (in_use : ℕ → ℕ → Bool) (es : List Entry) (place : ℕ × ℕ) : Type 0 where
  pub victim : Entry
  pub there : Contains es victim
  pub first : All (Precedes in_use victim) es
  pub lies : place ≡ (victim.file, victim.at)

-- all of these entries below a rank are in use
pub record AreUsedBelow (in_use : ℕ → ℕ → Bool) (rank : Rank) (es : List Entry) : Type 0 where
  pub each : All (λ e. RankLt (rank_by Height e) rank → IsTrue (in_use e.file e.at)) es

-- For any predicate `in use`: if all old entries below one rank are in use, then all new entries below the other rank
-- are in use.
abbrev pub KeepsUsedBelow : (was now : Rank) → (old new : List Entry) → Type 0
KeepsUsedBelow was now old new = (in_use : ℕ → ℕ → Bool) → AreUsedBelow in_use was old → AreUsedBelow in_use now new

-- for each of these entries `is_in_use` may be called
pub record CanAskOf (can_ask : ℕ → ℕ → Type 0) (s : Slab Entry) (keys : List ℕ) : Type 0 where
  pub each : (i : ℕ) → i < length keys
      → can_ask (entry_of s (slice_index keys i)).file (entry_of s (slice_index keys i)).at

abbrev pub is_used : (in_use : ℕ → ℕ → Bool) → Slab Entry → List ℕ → (i : ℕ) → Bool
is_used in_use s keys i = in_use (entry_of s (slice_index keys i)).file (entry_of s (slice_index keys i)).at

-- the first of the entries that is not in use, or the first if all are
pub record GoesFirst (in_use : ℕ → ℕ → Bool) (s : Slab Entry) (keys : List ℕ) (place : ℕ × ℕ) : Type 0 where
  pub index : ℕ
  pub within : index < length keys
  pub lies : place ≡ ((entry_of s (slice_index keys index)).file, (entry_of s (slice_index keys index)).at)
  pub before : (i : ℕ) → i < index → IsTrue (is_used in_use s keys i)
  pub idle : IsFalse (is_used in_use s keys index)
      ⊎ ((index ≡ 0) × ((i : ℕ) → i < length keys → IsTrue (is_used in_use s keys i)))

-- the place of the entry to evict next, if there are any keys
abbrev pub FindsIdle : (in_use : ℕ → ℕ → Bool) → Slab Entry → List ℕ → (found : Option (ℕ × ℕ)) → Type 0
FindsIdle in_use s keys found = MatchOption found (length keys ≡ 0) (GoesFirst in_use s keys)

-- all of these keys with entries below a rank are in use
pub record KeysUsedBelow (in_use : ℕ → ℕ → Bool) (rank : Rank) (s : Slab Entry) (keys : List ℕ) : Type 0 where
  pub each : (i : ℕ) → i < length keys → RankLt (rank_at Height s keys i) rank → IsTrue (is_used in_use s keys i)

-- Keys may be searched from this rank on for the entry to evict next.
pub record MaySearch (can_ask : ℕ → ℕ → Type 0) (in_use : ℕ → ℕ → Bool) (rank : Rank)
    (s : Slab Entry) (keys : List ℕ) : Type 0 where
  pub index : IsIndex Height s keys
  pub ask : CanAskOf can_ask s keys
  pub below : KeysUsedBelow in_use rank s keys

-- The entry to evict next was found, if there are any, and all below this rank are in use.
pub record FindsFirst (in_use : ℕ → ℕ → Bool) (rank : Rank) (es : List Entry)
    (found : Option (ℕ × ℕ)) : Type 0 where
  pub first : MatchOption found (es ≡ []) (IsVictim in_use es)
  pub below : AreUsedBelow in_use rank es
