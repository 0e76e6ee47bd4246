-- Dates of the Common Log Format.
use Rattle.std.specs.Prelude.{◌≡◌, ◌⊎◌, ◌≤◌, ℕ, List, ◌++◌, take, drop, codes}
use Rattle.httpdate.specs.Date.{date_text, unix_secs}
use Rattle.httpdate.specs.declared.date.HttpDate.{HttpDate}

-- the parts of an HTTP date (RFC 9110, section 5.6.7), `Sun, 06 Nov 1994 08:49:37 GMT`, rearranged as
-- `06/Nov/1994:08:49:37 +0000`
abbrev pub rearranged : List ℕ → List ℕ
rearranged date =
    take 2 (drop 5 date) ++ codes "/" ++ take 3 (drop 8 date) ++ codes "/" ++ take 4 (drop 12 date) ++ codes ":"
    ++ take 8 (drop 17 date) ++ codes " +0000"

-- the date of a second since 1970, up to the year 9999
pub record IsDate (seconds : ℕ) (text : List ℕ) : Type 0 where
  pub date : HttpDate
  pub is : unix_secs date ≡ seconds
  pub text-is : text ≡ rearranged (date_text date)

-- the text of a second since 1970; past the year 9999 it is `-`
abbrev pub IsDateOf : (seconds : ℕ) → (text : List ℕ) → Type 0
IsDateOf seconds text = IsDate seconds text ⊎ ((253_402_300_800 ≤ seconds) × (text ≡ codes "-"))
