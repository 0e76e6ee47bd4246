-- The domains that a pool's list names.
use Rattle.std.specs.Prelude.{◌≡◌, ℕ, ◌<◌, ◌≤◌, List, length, Option, MatchOption}
use Rattle.iol_core.specs.Calls.Pools.{distinct}
use Rattle.iol_core.specs.declared.limits.TheConstants.{MAX_LISTED}

-- The domains of a list, each once, if they are at most sixteen; `None` exactly if they are more.
abbrev pub NotesNames : List ℕ → Option (List ℕ) → Type 0
NotesNames list r =
    MatchOption r (MAX_LISTED < length (distinct list)) (λ n. (n ≡ distinct list)
    × (length (distinct list) ≤ MAX_LISTED))
