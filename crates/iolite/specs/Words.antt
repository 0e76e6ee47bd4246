-- The words of a line, and the numbers that they represent.
use Rattle.std.specs.Prelude.{◌<◌, ◌^◌, ◌==◌, ℕ, List}
use Rattle.std.specs.Str.Parse.{IsNumeral, digits_value}
use Rattle.std.specs.List.{before_first, after_first}

-- the first word of a line, and the rest after the space
abbrev pub word : List ℕ → List ℕ
word l = before_first (λ b. b == 32) l

abbrev pub rest_of : List ℕ → List ℕ
rest_of l = after_first (λ b. b == 32) l

-- the number that decimal digits represent
abbrev pub value : List ℕ → ℕ
value w = digits_value 10 w

-- the word is a 32-bit number, in decimal digits only
pub record IsShort (w : List ℕ) : Type 0 where
  pub numeral : IsNumeral 10 w
  pub fits : value w < 2 ^ 32

-- the word is a 64-bit number, as aggregates have
pub record IsLong (w : List ℕ) : Type 0 where
  pub numeral : IsNumeral 10 w
  pub fits : value w < 2 ^ 64
