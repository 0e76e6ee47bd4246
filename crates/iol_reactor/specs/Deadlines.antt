-- The order of deadlines.
use Rattle.std.specs.Prelude.{◌≤◌, ℕ, List, [], ◌∷◌, Option, None, Some, min, option_map, slice_get}
use Rattle.std.specs.List.{AllPairs}
use Rattle.iol_reactor.specs.declared.deadlines.Deadline.{Deadline}

-- the last of some deadlines, or 0
abbrev pub last_of : {K : Type 0} → List (Deadline K) → ℕ
last_of [] = 0
last_of (d ∷ []) = d.at
last_of (d ∷ e ∷ ds) = last_of (e ∷ ds)

-- the first of some deadlines, if there is one
abbrev pub first_of : {K : Type 0} → List (Deadline K) → Option ℕ
first_of ds = option_map (λ d. d.at) (slice_get ds 0)

-- the earlier of two times, or the only one
abbrev pub earlier_of : (one other : Option ℕ) → Option ℕ
earlier_of None other = other
earlier_of (Some a) None = Some a
earlier_of (Some a) (Some b) = Some (min a b)

-- No deadline is before one that was set earlier.
abbrev pub IsOrdered : {K : Type 0} → List (Deadline K) → Type 0
IsOrdered ds = AllPairs (λ a b. a.at ≤ b.at) ds
