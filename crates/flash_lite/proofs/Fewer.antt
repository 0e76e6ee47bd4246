-- The number of used indices is at most the length.
use Rattle.std.proofs.Common.{◌≤◌, List, [], ◌∷◌, length, Option, Some, None, arith}
use Rattle.iol_core.specs.NumberedLists.{taken}

pub taken_few : {A : Type 0} (places : List (Option A)) → taken places ≤ length places
taken_few [] = omega arith
taken_few (None ∷ l) = let h = taken_few l in omega arith
taken_few (Some z ∷ l) = let h = taken_few l in omega arith
