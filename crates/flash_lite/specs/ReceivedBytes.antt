-- The bytes of the aggregate in a reply.
use Rattle.std.specs.Prelude.{ℕ, List, [], Option, Some, None}
use Rattle.std.specs.List.{concat}

-- the bytes in these parts, or none
abbrev pub received : Option (List (List ℕ)) → List ℕ
received None = []
received (Some parts) = concat parts
