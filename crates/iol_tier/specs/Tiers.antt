-- Keys in order.
use Rattle.std.specs.Prelude.{◌≡◌, ℕ, ◌+◌, ◌-◌, ◌*◌, ◌<◌, ◌≤◌, ◌^◌, min, List, length, slice_index_or, insert, remove}
use Rattle.std.specs.Prelude.{Result, OnOk, OnErr}

-- the keys, and the number of keys that can be inserted without allocating
pub record Tiered : Type 0 where
  pub keys : List ℕ
  pub room : ℕ

-- Room was reserved for that many more, and the keys are unchanged. If there was as much room there is
-- no error; an error leaves the room unchanged.
pub record Reserves {A E : Type 0} (count : ℕ) (old new : Tiered) (r : Result A E) : Type 0 where
  pub room : OnOk r (count ≤ new.room)
  pub same : new ≡ record old { room = new.room }
  pub no_less : old.room ≤ new.room
  pub needed : OnErr r (old.room < count)
  pub err : OnErr r (new.room ≡ old.room)

-- A key was inserted, in reserved room.
pub record Inserts (place key : ℕ) (old new : Tiered) : Type 0 where
  pub keys : new.keys ≡ insert old.keys place key
  pub room : new.room ≡ old.room - 1
  pub few : length old.keys + 1 < 2 ^ 64

-- The key at a place was removed, and left room for one.
pub record Removes (place taken : ℕ) (old new : Tiered) : Type 0 where
  pub key : taken ≡ slice_index_or old.keys place taken
  pub keys : new.keys ≡ remove old.keys place
  pub room : new.room ≡ old.room + 1
  pub few : new.room < 2 ^ 64

-- These blocks have places for these keys; if the keys need more than one block, even without the last block.
pub record AreEnough (blocks keys : ℕ) : Type 0 where
  pub enough : keys ≤ blocks * 128
  pub more : 128 < keys → keys ≤ (blocks - 1) * 128
  pub few : blocks ≤ 2 ^ 48

-- The number of keys that these blocks are to hold, if `wanted` are requested: no fewer, and in blocks that are no
-- wider.
pub record IsMost (blocks wanted most : ℕ) : Type 0 where
  pub keys : wanted ≤ most
  pub fits : most ≤ blocks * 128
  pub width : min 128 most ≤ min 128 wanted
