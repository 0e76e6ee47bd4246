-- The clients that may take a turn: their indices, in ascending order.
use Rattle.std.specs.Prelude.{◌≡◌, ℕ, ◌+◌, ◌≤◌, Bool, true, false, List, [], ◌∷◌, ◌++◌, Option}
use Rattle.std.specs.Prelude.{filter, length, if◌then◌else◌, nat_lt}
use Rattle.std.specs.List.Sorted.{IsStrictlyIncreasing}
use Rattle.iol_core.specs.NumberedLists.{in_place}
use Rattle.flash_laws.specs.Client.{Client}
use Rattle.flash_laws.specs.Serves.Rounds.{goes_in}

-- the indices of the elements that pass a test; the first element has the index `at`
abbrev pub places_from : {A : Type 0} → (p : A → Bool) → (at : ℕ) → List A → List ℕ
places_from p at [] = []
places_from p at (x ∷ xs) = if p x then at ∷ places_from p (at + 1) xs else places_from p (at + 1) xs

-- these indices with that one among them, or without it
abbrev pub marked : List ℕ → (place : ℕ) → (there : Bool) → List ℕ
marked places place there =
    filter (λ k. nat_lt k place) places ++ ((if there then place ∷ [] else []) ++ filter (λ k. nat_lt place k) places)

-- the indices of the clients that may take a turn; free is whether a worker is free
abbrev pub goers : (free : Bool) → List (Option Client) → List ℕ
goers free clients = places_from (λ o. goes_in free o) 0 clients

-- was is whether the index is among these; there is whether it is inserted or removed. The indices ascend, and there is
-- room.
pub record CanMark (places : List ℕ) (place : ℕ) (was there : Bool) (room : ℕ) : Type 0 where
  pub ascends : IsStrictlyIncreasing places
  pub stands : marked places place was ≡ places
  pub fits : length (marked places place there) ≤ room

-- With the index marked by whether its client may take a turn, they are the indices of all that may.
pub record CanNote (free : Bool) (clients : List (Option Client)) (places : List ℕ) (place : ℕ) (was : Bool)
    (room : ℕ) : Type 0 where
  pub can : CanMark places place was (goes_in free (in_place clients place)) room
  pub noted : marked places place (goes_in free (in_place clients place)) ≡ goers free clients

-- These are the indices of all clients, and of those that may take a turn while no worker is free; there is room for
-- each index.
pub record ReportsWhoGoes (clients : List (Option Client)) (held going : List ℕ) (held_room going_room : ℕ) :
    Type 0 where
  pub held_is : held ≡ goers true clients
  pub going_is : going ≡ goers false clients
  pub holds : length clients ≤ held_room
  pub fits : length clients ≤ going_room
