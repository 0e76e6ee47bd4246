-- The first free worker, by its index in the list of free workers.
use Rattle.std.proofs.Common.{◌≡◌, ℕ, ◌≤◌, List, length, take, ◌∙◌, sym, arith, Option, Some, None, true, false, Bool}
use Rattle.std.proofs.Common.{refl}
use Rattle.std.specs.Prelude.{nat_lt, cond, not, position}
use Rattle.std.specs.List.{position_or_len}
use Rattle.std.proofs.lemmas.Bool.Decides.{nat_tests}
use Rattle.std.proofs.lemmas.List.{length-take-le}
use Rattle.std.proofs.lemmas.List.Sums.{prefix_len-le-length}
use Rattle.flash_lite.specs.ServerTurn.{first_in}

place-is : (xs : List Bool) (k : ℕ) → position (λ b. b) xs ≡ Some k → k ≡ position_or_len (λ b. b) xs
place-is xs k is = by (nat_lt (position_or_len (λ b. b) xs) (length xs)) is
  where
    by : (b : Bool) → cond b (Some (position_or_len (λ b. b) xs)) None ≡ Some k → k ≡ position_or_len (λ b. b) xs
    by true e = cc (e)
    by false e = absurd (cc (e))

none-passes : (xs : List Bool) → position (λ b. b) xs ≡ None → length xs ≡ position_or_len (λ b. b) xs
none-passes xs is = by (nat_lt (position_or_len (λ b. b) xs) (length xs)) refl is
  where
    by : (b : Bool) → nat_lt (position_or_len (λ b. b) xs) (length xs) ≡ b
        → cond b (Some (position_or_len (λ b. b) xs)) None ≡ None
        → length xs ≡ position_or_len (λ b. b) xs
    by true past e = absurd (cc (e))
    by false past e = let most = prefix_len-le-length (λ b. not b) xs in grind (arith, nat_tests, past, most)

pub first_some : (free : List Bool) (workers k : ℕ) (o : Option ℕ) → o ≡ position (λ b. b) (take workers free)
    → o ≡ Some k
    → k ≡ first_in workers free
first_some free workers k o is found = place-is (take workers free) k (sym is ∙ found)

pub first_none : (free : List Bool) (workers : ℕ) (o : Option ℕ) → workers ≤ length free
    → o ≡ position (λ b. b) (take workers free)
    → o ≡ None → workers ≡ first_in workers free
first_none free workers o long is none = sym (length-take-le workers free long)
    ∙ none-passes (take workers free) (sym is ∙ none)
