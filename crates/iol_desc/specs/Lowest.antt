-- Values in the lowest free places.
use Rattle.std.specs.Prelude.{◌≡◌, ◌<◌, ◌≤◌, ℕ, ◌+◌, ◌-◌, List, length, Option, None, slice_set, vec_len, vec_capacity}
use Rattle.std.specs.Prelude.{Result, OnOk, OnErr}
use Rattle.std.specs.Global.{Vec}
use Rattle.iol_core.specs.NumberedLists.{lowest, placed, taken}
use Rattle.iol_desc.specs.Tables.{Slots}

-- n is the lowest free place, which may be the first past the end
pub record IsLowest {A : Type 0} (xs : List (Option A)) (n : ℕ) : Type 0 where
  pub within : n ≤ length xs
  pub few : n ≤ taken xs
  pub lowest : n ≡ lowest xs

-- Place n holds `held`, and every other place is unchanged. There is no less room.
pub record SetsPlace {A : Type 0} (old new : Vec (Option A)) (n : ℕ) (held : Option A) : Type 0 where
  pub items : new.items ≡ slice_set old.items n held
  pub room : vec_capacity old - vec_len old ≤ vec_capacity new - vec_len new

-- The value is in place n.
pub record PutsAt {A : Type 0} (old new : Vec (Option A)) (n : ℕ) (x : A) : Type 0 where
  pub items : new.items ≡ placed old.items n x
  pub len : vec_len new ≤ vec_len old + 1
  pub capacity : vec_capacity old ≤ vec_capacity new
  pub taken : n ≡ lowest old.items → taken new.items ≡ taken old.items + 1

-- n is a place of the list, and `from` is at most n and at most the lowest free place
pub record CanLower {A : Type 0} (xs : List (Option A)) (n from : ℕ) : Type 0 where
  pub place : n < length xs
  pub low : from ≤ lowest xs
  pub below : from ≤ n

-- Place n was freed, and then the value put in the lowest free place: m, at most n. There is no less room.
pub record MovesLower {A : Type 0} (old new : Vec (Option A)) (n : ℕ) (x : A) (m : ℕ) : Type 0 where
  pub lower : m ≤ n
  pub items : new.items ≡ placed (slice_set old.items n None) (lowest (slice_set old.items n None)) x
  pub room : vec_capacity old - vec_len old ≤ vec_capacity new - vec_len new
  pub lowest : m ≡ lowest (slice_set old.items n None)

-- The places are unchanged, and there is no less room. On success there is room for that many more. It is refused only
-- if there was room for fewer.
pub record ReservesPlaces {A V E : Type 0} (old new : Slots A) (count : ℕ) (r : Result V E) : Type 0 where
  pub same : new.places ≡ old.places
  pub room : OnOk r (count ≤ new.room)
  pub no_less : old.room ≤ new.room
  pub needed : OnErr r (old.room < count)

-- The value was put in the lowest free place: n.
pub record PutsLowest {A : Type 0} (old new : Slots A) (x : A) (n : ℕ) : Type 0 where
  pub place : n ≡ lowest old.places
  pub few : n ≤ taken old.places
  pub put : new.places ≡ placed old.places (lowest old.places) x
  pub room : old.room ≤ new.room + 1
  pub taken : taken new.places ≡ taken old.places + 1

-- Place n was freed, and then the value put in the lowest free place: m, at most n. There is no less room.
pub record PutsLower {A : Type 0} (old new : Slots A) (n : ℕ) (x : A) (m : ℕ) : Type 0 where
  pub place : m ≡ lowest (slice_set old.places n None)
  pub lower : m ≤ n
  pub put : new.places ≡ placed (slice_set old.places n None) (lowest (slice_set old.places n None)) x
  pub room : old.room ≤ new.room
