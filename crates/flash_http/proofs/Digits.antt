-- Texts of decimal digits, and the numbers that they represent.
use Rattle.std.proofs.Common.{◌≡◌, ℕ, ◌<◌, ◌≤◌, ◌^◌, true, List, [], ◌∷◌, length, Some, Result, Ok, Err, refl, ap, ◌∙◌}
use Rattle.std.proofs.Common.{arith, rules}
use Rattle.std.specs.Prelude.{IsUtf8}
use Rattle.std.specs.List.{list_all}
use Rattle.std.specs.Char.{is_ascii_digit}
use Rattle.std.specs.Result.{OkIff, result_ok}
use Rattle.std.specs.Str.{IsAscii}
use Rattle.std.specs.Str.Parse.{ParsesUnsigned, digits_value}
use Rattle.std.proofs.lemmas.Grind.{common_steps}
use Rattle.std.proofs.lemmas.Str.{IsUtf8-from_ascii}
use Rattle.std.proofs.lemmas.Str.Parse.{IsNumeralModel, numerals_by_value, parse_digits, digits_value_short}
use Rattle.std.proofs.lemmas.Str.Ascii.{IsAscii-nil, IsAscii-cons}
use Rattle.std.proofs.lemmas.Bool.Decides.{nat_tests}
use Rattle.flash_http.specs.Range.{number}

abbrev AreDigits : List ℕ → Type 0
AreDigits ds = list_all is_ascii_digit ds ≡ true

own : IsNumeralModel AreDigits (digits_value 10)
own = numerals_by_value AreDigits (search rules)

digits_are_ascii : (ds : List ℕ) → AreDigits ds → IsAscii ds
digits_are_ascii [] h = IsAscii-nil
digits_are_ascii (b ∷ ds) h =
    IsAscii-cons b ds (grind (arith, nat_tests, common_steps, h))
    (digits_are_ascii ds (grind (arith, nat_tests, common_steps, h)))

pub digits_are_text : (ds : List ℕ) → AreDigits ds → IsUtf8 ds
digits_are_text ds h = IsUtf8-from_ascii ds (digits_are_ascii ds h)

number_read : {E : Type 0} (ds : List ℕ) (r : Result ℕ E) → AreDigits ds → length ds ≤ 15
    → OkIff r ((0 < length ds) × (digits_value 10 ds < 2 ^ 64)) (digits_value 10 ds) → result_ok r ≡ number ds
number_read ds (Ok n) digits short h = ap (λ k. Some k) h.1
    ∙ grind (arith, nat_tests, common_steps, digits, short, h.0.0)
number_read [] (Err e) digits short h = refl
number_read (d ∷ ds) (Err e) digits short h =
    absurd (h (omega arith, omega (arith, digits_value_short own (d ∷ ds) 15 digits short)))

-- `parse` of at most 15 digits gives their number
pub number_parsed : {E : Type 0} (ds : List ℕ) (r : Result ℕ E) → AreDigits ds → length ds ≤ 15
    → ParsesUnsigned 64 10 ds r → result_ok r ≡ number ds
number_parsed ds r digits short h = number_read ds r digits short (parse_digits own 64 ds r h digits)
