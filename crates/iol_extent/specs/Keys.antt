-- Extents in a slab, by their keys.
use Rattle.std.specs.Prelude.{◌≡◌, ◌≢◌, ℕ, ◌+◌, ◌-◌, ◌<◌, ◌≤◌, ◌^◌, false, List, [], ◌∷◌, length, slice_index_or}
use Rattle.std.specs.List.{AllByRecursion}
use Rattle.std.specs.Prelude.{insert, remove, All, Some, unwrap_or, ⊤}
use Rattle.slab.specs.Slab.{Slab, get, ContainsKey, Updates, slab_len}
use Rattle.iol_extent.specs.Extents.{Extent, ExtentMap, as_clean, end_of, extent_of}

-- the extent at a key
abbrev pub extent_at : Slab Extent → (key : ℕ) → Extent
extent_at s key = unwrap_or (get s key) (extent_of 0 [] false)

-- a key is nowhere in a list
abbrev pub IsNotIn : (key : ℕ) → List ℕ → Type 0
IsNotIn key keys = AllByRecursion (λ (other : ℕ). other ≢ key) keys

-- each key occurs once
abbrev pub AreDistinct : List ℕ → Type 0
AreDistinct [] = ⊤
AreDistinct (key ∷ keys) = IsNotIn key keys × AreDistinct keys

-- each key has an extent, and occurs once
pub record AreKeys (s : Slab Extent) (keys : List ℕ) : Type 0 where
  pub live : All (ContainsKey s) keys
  pub distinct : AreDistinct keys

-- The extent at a key became clean, and the room is unchanged.
pub record Cleans (old new : Slab Extent) (key : ℕ) : Type 0 where
  pub updates : Updates old new key (Some (as_clean (extent_at old key)))
  pub len : slab_len new ≡ slab_len old
  pub capacity : new.capacity ≡ old.capacity

-- An extent was inserted at an index of the list, in reserved room.
pub record Inserts (place : ℕ) (piece : Extent) (old new : ExtentMap) : Type 0 where
  pub extents : new.extents ≡ insert old.extents place piece
  pub room : new.room ≡ old.room - 1
  pub few : length old.extents + 1 < 2 ^ 64

-- The extent at an index of the list was removed, and left room for one.
pub record Removes (place : ℕ) (taken : Extent) (old new : ExtentMap) : Type 0 where
  pub piece : taken ≡ slice_index_or old.extents place taken
  pub extents : new.extents ≡ remove old.extents place
  pub room : new.room ≡ old.room + 1

-- the first n extents end at a place or before it, and the next one ends after it
pub record EndBefore (at : ℕ) (es : List Extent) (n : ℕ) : Type 0 where
  pub within : n ≤ length es
  pub before : (k : ℕ) (d : Extent) → k < n → end_of (slice_index_or es k d) ≤ at
  pub after : (d : Extent) → n < length es → at < end_of (slice_index_or es n d)
