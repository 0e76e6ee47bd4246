-- The request target: the file that it names, and the query (RFC 9112, section 3.2; RFC 3986).
use Rattle.std.specs.Prelude.{◌≡◌, ℕ, ◌&&◌, ◌||◌, ◌==◌, not, Bool, true, false, IsUtf8, List, [], ◌∷◌, codes, bytes_eq}
use Rattle.std.specs.Prelude.{Option, Some, None, unwrap_or, if◌then◌else◌, IsTrue, IsFalse}
use Rattle.std.specs.List.{list_any, slice_split}
use Rattle.std.specs.Char.{is_ascii_hexdigit}
use Rattle.http_uri.specs.declared.uri.Uri.{Uri}
use Rattle.http_uri.specs.Uri.{Spells, uri_scheme, uri_authority, uri_path, uri_query}
use Rattle.percent_encoding.specs.Percent.{percent_decode}

-- ---- the form (RFC 9112, section 3.2)

-- the origin form, or the absolute form of `http` or `https`; not the authority form or `*`
abbrev pub is_served_form : (target : List ℕ) → (scheme authority : Option (List ℕ)) → Bool
is_served_form target None None = not (bytes_eq target (codes "*"))
is_served_form target None (Some authority) = false
is_served_form target (Some scheme) authority = bytes_eq scheme (codes "http") || bytes_eq scheme (codes "https")

-- the target has a `#`, which is not permitted in a request target (RFC 9112, section 3.2)
abbrev pub has_fragment : (target : List ℕ) → Bool
has_fragment target = list_any (λ b. b == 35) target

-- the target represents this URI, which has such a form and no fragment
pub record IsServedUri (target : List ℕ) (uri : Uri) : Type 0 where
  pub no_fragment : IsFalse (has_fragment target)
  pub spells : Spells target uri
  pub form : IsTrue (is_served_form target (uri_scheme uri) (uri_authority uri))

-- ---- the path (RFC 3986, sections 2.1 and 3.3)

abbrev pub begins_with_hex_digits : List ℕ → Bool
begins_with_hex_digits [] = false
begins_with_hex_digits (high ∷ []) = false
begins_with_hex_digits (high ∷ low ∷ bytes) = is_ascii_hexdigit high && is_ascii_hexdigit low

-- each `%` precedes two hexadecimal digits
abbrev pub is_escaped : List ℕ → Bool
is_escaped [] = true
is_escaped (b ∷ bytes) = (not (b == 37) || begins_with_hex_digits bytes) && is_escaped bytes

-- the texts between the slashes of a path
abbrev pub segments : List ℕ → List (List ℕ)
segments path = slice_split (λ b. b == 47) path

-- `.` or `..`
abbrev pub is_dot_segment : List ℕ → Bool
is_dot_segment segment = bytes_eq segment (codes ".") || bytes_eq segment (codes "..")

-- valid escapes, decoded once to text without NUL and without dot segments
pub record IsFilePath (path : List ℕ) : Type 0 where
  pub escaped : IsTrue (is_escaped path)
  pub text : IsUtf8 (percent_decode path)
  pub no_nul : IsFalse (list_any (λ b. b == 0) (percent_decode path))
  pub no_dots : IsFalse (list_any is_dot_segment (segments (percent_decode path)))

-- ---- the name and the query

abbrev pub without_slash : List ℕ → List ℕ
without_slash [] = []
without_slash (b ∷ path) = if b == 47 then path else b ∷ path

abbrev pub or_index : List ℕ → List ℕ
or_index [] = codes "index.html"
or_index (b ∷ name) = b ∷ name

-- the name of the file: the decoded path without its first slash, or the index
abbrev pub file_name : List ℕ → List ℕ
file_name path = or_index (without_slash (percent_decode path))

-- the undecoded text after the question mark (RFC 3986, section 3.4)
abbrev pub query_text : Uri → List ℕ
query_text uri = unwrap_or (uri_query uri) []

-- The target names this file, with this query.
pub record Names (target name query : List ℕ) : Type 0 where
  pub uri : Uri
  pub is_uri : IsServedUri target uri
  pub is_path : IsFilePath (uri_path uri)
  pub is_name : name ≡ file_name (uri_path uri)
  pub is_query : query ≡ query_text uri

-- the file and query that the target names, or None
abbrev pub TargetIs : (target : List ℕ) → Option (List ℕ × List ℕ) → Type 0
TargetIs target None = (name query : List ℕ) → ¬ Names target name query
TargetIs target (Some file) = Names target file.0 file.1

-- ---- the same in two steps: the URI of the target, and the file name of its path

abbrev pub UriIs : (target : List ℕ) → Option Uri → Type 0
UriIs target None = (uri : Uri) → ¬ IsServedUri target uri
UriIs target (Some uri) = IsServedUri target uri

abbrev pub NameIs : (path : List ℕ) → Option (List ℕ) → Type 0
NameIs path None = ¬ IsFilePath path
NameIs path (Some name) = IsFilePath path × (name ≡ file_name path)
