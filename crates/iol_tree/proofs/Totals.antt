-- The sum of the first numbers of a list, one after another, up to a maximum.
use Rattle.std.proofs.Common.{ℕ, ◌+◌, ◌<◌, ◌≡◌, List, arith, get_or, length, min, sum, take}
use Rattle.std.proofs.lemmas.Grind.{common_steps}

pub total_more : (xs : List ℕ) (i t n most : ℕ) → i < length xs → get_or xs i 0 ≡ n → t ≡ min (sum (take i xs)) most
    → min (t + n) most ≡ min (sum (take (i + 1) xs)) most
total_more xs i t n most l e p = grind (arith, common_steps)
