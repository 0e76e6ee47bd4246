-- Paths below others.
use Rattle.std.proofs.Common.{◌≡◌, ◌==◌, ◌++◌, ℕ, List, codes, false, length, refl}
use Rattle.iol_tree.specs.Index.{path_below}

-- the path of two that are not empty
pub path_of_both : (above below : List ℕ) → (length above == 0) ≡ false → (length below == 0) ≡ false
    → path_below above below ≡ above ++ codes "/" ++ below
path_of_both above below some others = rw (some, others) refl
