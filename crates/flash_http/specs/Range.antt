-- Byte ranges: the part that a Range field requests, and the bytes of a file that it selects (RFC 9110, sections 14.1
-- and 14.2).
use Rattle.std.specs.Prelude.{ℕ, ◌+◌, ◌-◌, ◌<◌, ◌≤◌, ◌==◌, ◌&&◌, Bool, List, length, take, drop, codes, bytes_eq}
use Rattle.std.specs.Prelude.{nat_lt, nat_le, min, Option, Some, None, option_map, ⊤, if◌then◌else◌}
use Rattle.std.specs.List.{list_all, position}
use Rattle.std.specs.Char.{is_ascii_digit}
use Rattle.std.specs.Str.Parse.{digits_value}
use Rattle.flash_http.specs.declared.requests.Part.{Part}
use Rattle.flash_http.specs.declared.requests.Part.TheVariants.{From, Final}
use Rattle.flash_http.specs.declared.ranges.Selection.{Selection}
use Rattle.flash_http.specs.declared.ranges.Selection.TheVariants.{Whole, Bytes, Unsatisfiable}
use Rattle.flash_http.specs.declared.ranges.TheConstants.{MAX_DIGITS}

-- ---- the value of the field (section 14.1.1: int-range = first-pos "-" [ last-pos ]; suffix-range = "-" suffix-length)

-- 1 to 15 digits
abbrev pub is_number : List ℕ → Bool
is_number text = nat_lt 0 (length text) && nat_le (length text) MAX_DIGITS && list_all is_ascii_digit text

-- the number that the text represents, if any
abbrev pub number : List ℕ → Option ℕ
number text = if is_number text then Some (digits_value 10 text) else None

abbrev pub int_range : (first last : Option ℕ) → Option Part
int_range (Some first) (Some last) = if nat_le first last then Some (From first (Some last)) else None
int_range first last = None

-- the part given by the texts before and after the hyphen
abbrev pub part_between : (first last : List ℕ) → Option Part
part_between first last =
    if length first == 0 then option_map Final (number last)
    else (if length last == 0 then option_map (λ place. From place None) (number first)
    else int_range (number first) (number last))

abbrev pub is_hyphen : ℕ → Bool
is_hyphen b = b == 45

-- the part of one range, split at its first hyphen
abbrev pub part_cut : List ℕ → (hyphen : Option ℕ) → Option Part
part_cut range None = None
part_cut range (Some at) = part_between (take at range) (drop (at + 1) range)

abbrev pub part_in : List ℕ → Option Part
part_in range = part_cut range (position is_hyphen range)

-- the part that a value requests, if it is a single range of bytes
abbrev pub part_of_value : List ℕ → Option Part
part_of_value value = if bytes_eq (take 6 value) (codes "bytes=") then part_in (drop 6 value) else None

-- ---- the selected bytes of a file of len bytes (section 14.1.2)

-- those of the bytes from first to last, inclusive, that the file has
abbrev pub bytes_between : (first last len : ℕ) → Selection
bytes_between first last len = if nat_le len first then Unsatisfiable else Bytes first (min last (len - 1))

abbrev pub part_selected : Part → (len : ℕ) → Selection
part_selected (From first None) len = bytes_between first (len - 1) len
part_selected (From first (Some last)) len = if nat_lt last first then Whole else bytes_between first last len
part_selected (Final n) len = if n == 0 then Unsatisfiable else Bytes (len - n) (len - 1)

-- The selected bytes: the whole file if it is empty or no part is requested, otherwise those of the part.
abbrev pub selected : Option Part → (len : ℕ) → Selection
selected None len = Whole
selected (Some part) len = if len == 0 then Whole else part_selected part len

-- a selected range is within the file and not empty
abbrev pub LiesWithin : (len : ℕ) → Selection → Type 0
LiesWithin len Whole = ⊤
LiesWithin len (Bytes first last) = (first ≤ last) × (last < len)
LiesWithin len Unsatisfiable = ⊤

-- for every part and every file length
abbrev pub SelectionsLieWithin : Type 0
SelectionsLieWithin = (part : Option Part) (len : ℕ) → LiesWithin len (selected part len)
