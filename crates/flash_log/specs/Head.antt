-- The parts of the heads of requests and responses.
use Rattle.std.specs.Prelude.{ℕ, ◌+◌, ◌^◌, ◌==◌, ◌&&◌, Bool, List, [], ◌++◌, Option, Some, None, length}
use Rattle.std.specs.Prelude.{take, drop, find, not, option_and_then, nat_le, nat_lt, codes, if◌then◌else◌}
use Rattle.std.specs.Char.{is_ascii_digit}
use Rattle.std.specs.List.{ends_with, list_all, list_any, range_with_len, slice_split, starts_with}
use Rattle.std.specs.Option.{option_map_or}
use Rattle.std.specs.Str.{bytes_eq}
use Rattle.std.specs.Str.Lines.{strip_carriage_return}
use Rattle.std.specs.Str.Parse.{digits_value}

-- the lines, each without the line feed that ends it
abbrev pub lines : List ℕ → List (List ℕ)
lines bytes = slice_split (λ b. b == 10) bytes

-- a line is not empty
abbrev pub has_text : List ℕ → Bool
has_text line = not (length (strip_carriage_return line) == 0)

-- The first line of a request that is not empty, without its end (RFC 9112, section 2.2). Without one it is empty.
abbrev pub request_line : List ℕ → List ℕ
request_line request = option_map_or strip_carriage_return (find has_text (lines request)) []

-- the three digits of the status in the first line of a response, or `-`
abbrev pub status_of : List ℕ → List ℕ
status_of head = if nat_le 12 (length head) then take 3 (drop 9 head) else codes "-"

-- the length of the shortest front that ends with an empty line
abbrev pub head_length : List ℕ → Option ℕ
head_length bytes =
    find (λ n. ends_with (λ a b. a == b) (take n bytes) (codes "\r\n\r\n")) (range_with_len 0 (length bytes + 1))

-- one of the lines is this one
abbrev pub has_line : List ℕ → (wanted : List ℕ) → Bool
has_line head wanted = list_any (λ line. bytes_eq line (wanted ++ codes "\r")) (lines head)

-- the number that decimal digits represent, if it is below 2^64
abbrev pub number_in : List ℕ → Option ℕ
number_in digits =
    if list_all is_ascii_digit digits && nat_lt (digits_value 10 digits) (2 ^ 64) then Some (digits_value 10 digits) else None

-- a line of Content-Length, and the number in it
abbrev pub has_length : List ℕ → Bool
has_length line = starts_with (λ a b. a == b) line (codes "Content-Length: ")

abbrev pub length_in : List ℕ → Option ℕ
length_in line = number_in (strip_carriage_return (drop 16 line))

-- the number in the first line of Content-Length, if there is one
abbrev pub content_length : List ℕ → Option ℕ
content_length head = option_and_then length_in (find has_length (lines head))
