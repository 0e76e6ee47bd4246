-- The fields and the method of a head, and their meaning.
use Rattle.std.specs.Prelude.{◌≡◌, ℕ, ◌&&◌, ◌||◌, ◌==◌, not, Bool, false, List, [], ◌∷◌, length, map, filter, codes}
use Rattle.std.specs.Prelude.{bytes_eq, Option, Some, None, if◌then◌else◌}
use Rattle.std.specs.List.{list_all, list_any, slice_split}
use Rattle.std.specs.Int.{is_in_range}
use Rattle.std.specs.Str.{str_eq_ignore_ascii_case}
use Rattle.httparse.specs.Grammar.{trim_ows}
use Rattle.httparse.specs.Spans.{header_bytes}
use Rattle.httparse.specs.declared.spans.HeaderSpan.{HeaderSpan}

-- A field: its name, and its value without the white space around it (RFC 9110, section 5).
abbrev pub Field : Type 0
Field = List ℕ × List ℕ

-- the name, case-insensitive (section 5.1)
abbrev pub is_named : List ℕ → Field → Bool
is_named name field = str_eq_ignore_ascii_case field.0 name

-- the values of the fields of a name, in order
abbrev pub values_of : List ℕ → List Field → List (List ℕ)
values_of name fields = map (λ field. field.1) (filter (is_named name) fields)

-- the same for fields given as ranges of a head
abbrev pub values_at : (name head : List ℕ) → List HeaderSpan → List (List ℕ)
values_at name head spans = values_of name (map (header_bytes head) spans)

-- value is the first value of the name in spans, and the values in rest are the remaining ones
abbrev pub ComesFirst : (name head : List ℕ) → List HeaderSpan → (value : List ℕ) → (rest : List HeaderSpan) → Type 0
ComesFirst name head spans value rest = values_at name head spans ≡ value ∷ values_at name head rest

abbrev pub lacks : List ℕ → List Field → Bool
lacks name fields = length (values_of name fields) == 0

-- ---- Host (RFC 9110, section 7.2; RFC 9112, section 3.2: exactly one)

-- visible ASCII except `/`, `?`, `#` and `@`, which end an authority or its user information (RFC 3986, section 3.2)
abbrev pub is_host_byte : ℕ → Bool
is_host_byte b = is_in_range 33 126 b && not (b == 47 || b == 63 || b == 35 || b == 64)

abbrev pub is_one_host : List (List ℕ) → Bool
is_one_host [] = false
is_one_host (host ∷ []) = list_all is_host_byte host
is_one_host (host ∷ other ∷ others) = false

abbrev pub has_one_host : List Field → Bool
has_one_host fields = is_one_host (values_of (codes "host") fields)

-- ---- content (RFC 9112, section 6.3: a request has it by Transfer-Encoding or Content-Length)

abbrev pub is_not_zero : List ℕ → Bool
is_not_zero value = not (bytes_eq value (codes "0"))

abbrev pub has_content : List Field → Bool
has_content fields =
    not (lacks (codes "transfer-encoding") fields)
    || list_any is_not_zero (values_of (codes "content-length") fields)

-- ---- Connection (RFC 9110, section 7.6.1; RFC 9112, section 9.3)

-- one of its comma-separated options is `close`, case-insensitive
abbrev pub names_close : List ℕ → Bool
names_close value =
    list_any (λ option. str_eq_ignore_ascii_case (trim_ows option) (codes "close")) (slice_split (λ b. b == 44) value)

abbrev pub asks_to_close : List Field → Bool
asks_to_close fields = list_any names_close (values_of (codes "connection") fields)

-- ---- Range and If-Range (RFC 9110, sections 13.1.5 and 14.2)

abbrev pub only : List (List ℕ) → Option (List ℕ)
only [] = None
only (value ∷ []) = Some value
only (value ∷ other ∷ others) = None

-- the value of the only Range field; none if the request has a condition
abbrev pub one_range : List Field → Option (List ℕ)
one_range fields = if lacks (codes "if-range") fields then only (values_of (codes "range") fields) else None

-- ---- methods, which are case-sensitive (RFC 9110, section 9.1)

abbrev pub is_served_method : List ℕ → Bool
is_served_method m = bytes_eq m (codes "GET") || bytes_eq m (codes "HEAD")

-- the other methods of RFC 9110, section 9.3, and PATCH (RFC 5789)
abbrev pub is_known_method : List ℕ → Bool
is_known_method m =
    bytes_eq m (codes "POST") || bytes_eq m (codes "PUT") || bytes_eq m (codes "DELETE")
    || bytes_eq m (codes "CONNECT") || bytes_eq m (codes "OPTIONS") || bytes_eq m (codes "TRACE")
    || bytes_eq m (codes "PATCH")
