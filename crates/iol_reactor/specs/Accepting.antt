-- The number of clients that are accepted.
use Rattle.std.specs.Prelude.{◌≡◌, ◌≤◌, ◌+◌, ℕ, Bool, false, nat_le, ⊤, Option, None, Some, MatchResult, Result}

-- A listener gives one more client with `Ok`, and none with `Err`, if the number that it gave is known.
abbrev pub Counts : {A E : Type 0} → (given now : Option ℕ) → Result A E → Type 0
Counts None now r = ⊤
Counts (Some n) None r = ⊥
Counts (Some n) (Some m) r = MatchResult r (λ _. m ≡ n + 1) (λ _. m ≡ n)

-- If the number of clients that a listener gave, and the number that it may still give, are known: it gave at most as
-- many as the latter number has fallen, and that number is still known.
abbrev pub StaysWithin : (given left now now_left : Option ℕ) → Type 0
StaysWithin given None now now_left = ⊤
StaysWithin None (Some left) now now_left = ⊤
StaysWithin (Some n) (Some left) None now_left = ⊥
StaysWithin (Some n) (Some left) (Some m) None = ⊥
StaysWithin (Some n) (Some left) (Some m) (Some rest) = m + rest ≤ n + left

-- The number of clients that may still be accepted falls by one, if it is limited.
abbrev pub Falls : (left now : Option ℕ) → Type 0
Falls None now = now ≡ None
Falls (Some n) None = ⊥
Falls (Some n) (Some m) = m + 1 ≡ n

-- the time of the next attempt has come, if there is one
abbrev pub is_due : (open_at : Option ℕ) (now : ℕ) → Bool
is_due None now = false
is_due (Some at) now = nat_le at now
