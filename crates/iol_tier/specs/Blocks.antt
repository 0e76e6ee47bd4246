-- Keys in blocks.
use Rattle.std.specs.Prelude.{◌≡◌, ℕ, ◌+◌, ◌-◌, ◌*◌, ◌<◌, ◌≤◌, ◌^◌, ◌==◌, min, max, Bool, IsTrue, List, []}
use Rattle.std.specs.List.{flat_map}
use Rattle.std.specs.Prelude.{length, slice_index_or, insert, remove, IsFalse, if◌then◌else◌}

-- a block: its keys, and how many it can hold
pub record Block : Type 0 where
  pub keys : List ℕ
  pub capacity : ℕ

-- the keys of blocks, one block after another
abbrev pub joined : List Block → List ℕ
joined bs = flat_map (λ b. b.keys) bs

abbrev pub no_block : Block
no_block = record { keys = []; capacity = 0 }

abbrev pub block_at : List Block → (k : ℕ) → Block
block_at bs k = slice_index_or bs k no_block

-- the number of keys of block k
abbrev pub size_at : List Block → (k : ℕ) → ℕ
size_at bs k = length (block_at bs k).keys

-- the number of keys that block k can hold
abbrev pub width_at : List Block → (k : ℕ) → ℕ
width_at bs k = (block_at bs k).capacity

abbrev pub one_if : (k at : ℕ) → ℕ
one_if k at = if k == at then 1 else 0

-- the number of keys before block k, if `len` keys are placed from the place `skip` on and each block has 128 places
abbrev pub before_block : (skip len k : ℕ) → ℕ
before_block skip len k = min (k * 128 - skip) len

-- the keys fill the blocks without a gap
pub record AreFilled (bs : List Block) (skip len : ℕ) : Type 0 where
  pub each : (k : ℕ) → k < length bs → before_block skip len k + size_at bs k ≡ before_block skip len (k + 1)

-- each block can hold `width` keys
pub record AreWide (bs : List Block) (width : ℕ) : Type 0 where
  pub each : (k : ℕ) → k < length bs → width ≤ width_at bs k

-- `len` keys are in the blocks without a gap, from the place `skip` on.
pub record AreLaid (bs : List Block) (skip len : ℕ) : Type 0 where
  pub keys : len ≡ length (joined bs)
  pub filled : AreFilled bs skip len
  pub places : skip + len ≤ length bs * 128
  pub few : length bs ≤ 2 ^ 48

-- A key may be inserted at this place, once a place is free before the first key or after the last.
pub record MayComeIn (bs : List Block) (skip len place : ℕ) : Type 0 where
  pub laid : AreLaid bs skip len
  pub within : place ≤ len
  pub wide : AreWide bs (min 128 (len + 1))

-- The key at this place may be removed.
pub record MayGoOut (bs : List Block) (skip len place : ℕ) : Type 0 where
  pub laid : AreLaid bs skip len
  pub within : place < len
  pub wide : AreWide bs (min 128 len)

-- One block.

-- a key was inserted at a place of a block, which did not become narrower
pub record PutsKey (place key : ℕ) (old new : Block) : Type 0 where
  pub keys : new.keys ≡ insert old.keys place key
  pub width : old.capacity ≤ new.capacity

-- the key at a place of a block was removed, and the block has the same width
pub record TakesKey (place taken : ℕ) (old new : Block) : Type 0 where
  pub key : taken ≡ slice_index_or old.keys place taken
  pub keys : new.keys ≡ remove old.keys place
  pub width : new.capacity ≡ old.capacity

-- a block has the same width, and a free place
pub record HasPlace (old new : Block) : Type 0 where
  pub width : new.capacity ≡ old.capacity
  pub room : length new.keys < new.capacity

-- All blocks.

-- The same keys, of which one moved across each border between two blocks: block `to` has one more, block `from` one
-- less.
pub record Shifts (to from : ℕ) (old new : List Block) : Type 0 where
  pub keys : joined new ≡ joined old
  pub count : length new ≡ length old
  pub sizes : (k : ℕ) → size_at new k + one_if k from ≡ size_at old k + one_if k to
  pub widths : (k : ℕ) → width_at new k ≡ width_at old k

-- A place is free in block `from`, and block `to` has a key that can take it.
pub record CanCross (from to : ℕ) (bs : List Block) : Type 0 where
  pub some : 0 < size_at bs to
  pub room : size_at bs from < width_at bs from

-- A place is free in block `from`, and each block after it, up to `to`, has a key.
pub record CanShiftLeft (from to : ℕ) (bs : List Block) : Type 0 where
  pub order : from ≤ to
  pub within : to < length bs
  pub some : (k : ℕ) → from < k → k ≤ to → 0 < size_at bs k
  pub room : size_at bs from < width_at bs from

-- A place is free in block `from`, and each block before it, down to `to`, has a key.
pub record CanShiftRight (from to : ℕ) (bs : List Block) : Type 0 where
  pub order : to ≤ from
  pub within : from < length bs
  pub some : (k : ℕ) → to ≤ k → k < from → 0 < size_at bs k
  pub room : size_at bs from < width_at bs from

-- The free place of block `from` moved to block `to`.
pub record MovesPlace (from to : ℕ) (old new : List Block) : Type 0 where
  pub shifts : Shifts from to old new
  pub room : size_at new to < width_at new to

-- These keys, without a gap, in the same number of blocks. Each block is at least as wide as the narrowest was.
pub record Becomes (keys : List ℕ) (skip : ℕ) (old new : List Block) : Type 0 where
  pub is : joined new ≡ keys
  pub filled : AreFilled new skip (length keys)
  pub count : length new ≡ length old
  pub wide : (width : ℕ) → AreWide old width → AreWide new width

-- A key was inserted at a place of the keys, which then begin at the place `skip`, in the same number of blocks.
abbrev pub ComesIn : (skip place key : ℕ) → (old new : List Block) → Type 0
ComesIn skip place key old new = Becomes (insert (joined old) place key) skip old new

-- The key at a place was removed. The others begin at the place `skip`, in the same number of blocks.
abbrev pub GoesOut : (skip place : ℕ) → (old new : List Block) → Type 0
GoesOut skip place old new = Becomes (remove (joined old) place) skip old new

-- The same keys, and perhaps empty blocks after them.
pub record Grows (old new : List Block) : Type 0 where
  pub keys : joined new ≡ joined old
  pub count : length old ≤ length new
  pub sizes : (k : ℕ) → size_at new k ≡ size_at old k

-- The same keys from the place `skip` on, with a free place before the first or after the last.
pub record OpensEnd (len : ℕ) (old new : List Block) (skip : ℕ) (is_left : Bool) : Type 0 where
  pub becomes : Becomes (joined old) skip old new
  pub places : skip + len ≤ length old * 128
  pub left : IsTrue is_left → 0 < skip
  pub right : IsFalse is_left → skip + len < length old * 128

-- Empty blocks were added at the end, up to `most` blocks in all. No block is narrower than both `width` and the
-- narrowest before.
pub record AddsBlocks (most width : ℕ) (old new : List Block) : Type 0 where
  pub grows : Grows old new
  pub wide : (w : ℕ) → w ≤ width → AreWide old w → AreWide new w
  pub few : length new ≤ max most (length old)

-- The same keys in the same number of blocks. No block is narrower than the narrowest was.
pub record Widens (old new : List Block) : Type 0 where
  pub grows : Grows old new
  pub count : length new ≡ length old
  pub wide : (w : ℕ) → AreWide old w → AreWide new w
