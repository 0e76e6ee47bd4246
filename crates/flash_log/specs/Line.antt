-- Lines of the Common Log Format.
use Rattle.std.specs.Prelude.{◌≡◌, ℕ, ◌+◌, ◌/◌, ◌%◌, ◌==◌, ◌||◌, ◌&&◌, Bool, if◌then◌else◌, nat_le, nat_lt, List}
use Rattle.std.specs.Prelude.{[], ◌∷◌, ◌++◌, codes, flat_map, IsTrue}
use Rattle.std.specs.Fmt.{decimal}
use Rattle.std.specs.List.{list_all}
use Rattle.flash_log.specs.declared.lines.Entry.{Entry}

-- the digit of a number below 16
abbrev pub hex_digit : ℕ → ℕ
hex_digit n = if nat_lt n 10 then 48 + n else 87 + n

-- A byte in a log: a backslash precedes a quotation mark and a backslash, other printable ASCII is unchanged, and any
-- other byte is `\x` and two digits.
abbrev pub escaped_byte : ℕ → List ℕ
escaped_byte b =
    if (b == 34) || (b == 92) then 92 ∷ b ∷ []
    else if nat_le 32 b && nat_lt b 127 then b ∷ []
    else 92 ∷ 120 ∷ hex_digit (b / 16 % 16) ∷ hex_digit (b % 16) ∷ []

abbrev pub escaped : List ℕ → List ℕ
escaped bytes = flat_map escaped_byte bytes

-- a number of bytes, or `-` for 0
abbrev pub count_of : ℕ → List ℕ
count_of n = if n == 0 then codes "-" else decimal n

-- the line up to the request, and from there on
abbrev pub first_of : Entry → List ℕ
first_of e = escaped e.host.now ++ codes " - - [" ++ escaped e.date.now ++ codes "] \"" ++ escaped e.request_line.now

abbrev pub last_of : Entry → (count : List ℕ) → List ℕ
last_of e count = codes "\" " ++ escaped e.status.now ++ codes " " ++ escaped count

-- `HOST - - [DATE] "REQUEST" STATUS BYTES`, and a line feed
abbrev pub front_of : Entry → List ℕ
front_of e = first_of e ++ last_of e (count_of e.body)

abbrev pub line_of : Entry → List ℕ
line_of e = front_of e ++ codes "\n"

abbrev pub is_printable : ℕ → Bool
is_printable b = nat_le 32 b && nat_lt b 127

-- printable ASCII, and one line feed at the end
pub record IsOneLine (text : List ℕ) : Type 0 where
  pub front : List ℕ
  pub is : text ≡ front ++ 10 ∷ []
  pub printable : IsTrue (list_all is_printable front)
