-- The meaning of a head, as a relation between its bytes and an answer.
use Rattle.std.specs.Prelude.{◌≡◌, ◌≢◌, ℕ, ◌≤◌, ◌||◌, ◌==◌, not, string_bytes, Bool, true, false, List, [], length, map}
use Rattle.std.specs.Prelude.{codes, bytes_eq, Option, Some, None, MatchOption, option_and_then, if◌then◌else◌, IsTrue}
use Rattle.std.specs.Prelude.{IsFalse}
use Rattle.std.specs.List.{list_any}
use Rattle.httparse.specs.Grammar.{RequestHead, ReadsRequest}
use Rattle.httparse.specs.Spans.{name_and_value}
use Rattle.flash_http.specs.declared.requests.Part.{Part}
use Rattle.flash_http.specs.declared.requests.Request.{Request}
use Rattle.flash_http.specs.declared.requests.Asked.{Asked}
use Rattle.flash_http.specs.declared.requests.Asked.TheVariants as asked
use Rattle.flash_http.specs.declared.heads.TheConstants.{MAX_FIELDS}
use Rattle.flash_http.specs.Fields.{Field, one_range, has_one_host, has_content, asks_to_close, is_served_method}
use Rattle.flash_http.specs.Fields.{is_known_method}
use Rattle.flash_http.specs.Target.{TargetIs, has_fragment, segments, is_dot_segment}
use Rattle.flash_http.specs.Range.{part_of_value}
use Rattle.flash_http.specs.MediaType.{is_script}

-- a request that is served: a `Request`, with its texts as values
pub record Wanted : Type 0 where
  pub head_only : Bool
  pub name : List ℕ
  pub query : List ℕ
  pub keep : Bool
  pub range : Option Part
  pub chunked : Bool

-- the answer to a head: serve a file, or refuse with a status, whether without body, and whether the connection closes
pub data Answer : Type 0 where
  serve : Wanted → Answer
  refuse : (status : ℕ) → (head_only close : Bool) → Answer

abbrev pub wanted : Request → Wanted
wanted r = record {
  head_only = r.head_only;
  name = string_bytes r.name;
  query = string_bytes r.query;
  keep = r.keep;
  range = r.range;
  chunked = r.chunked;
}

abbrev pub answer : Asked → Answer
answer (asked.Serve r) = serve (wanted r)
answer (asked.Refuse status head_only close) = refuse status head_only close

-- ---- the head (RFC 9112, sections 2.1, 3 and 5, as `httparse` writes them)

-- the interpreted parts of a head; minor is the minor version
pub record Reading : Type 0 where
  pub method : List ℕ
  pub target : List ℕ
  pub minor : ℕ
  pub fields : List Field

abbrev pub reading_of : RequestHead → Reading
reading_of h = record { method = h.method; target = h.target; minor = h.minor; fields = map name_and_value h.fields }

-- the bytes are this head, from the first to the last
abbrev pub IsHead : List ℕ → RequestHead → Type 0
IsHead bytes h = ReadsRequest bytes h [] × (length h.fields ≤ MAX_FIELDS)

-- the result of parsing the bytes, if they parse
abbrev pub Reads : List ℕ → Option Reading → Type 0
Reads bytes None = (h : RequestHead) → ¬ IsHead bytes h
Reads bytes (Some reading) = (h : RequestHead) × IsHead bytes h × (reading ≡ reading_of h)

-- ---- its meaning

abbrev pub is_head_only : Reading → Bool
is_head_only r = bytes_eq r.method (codes "HEAD")

-- in HTTP/1.1 a connection stays open unless the request asks to close it (RFC 9112, section 9.3)
abbrev pub closes : Reading → Bool
closes r = r.minor == 0 || asks_to_close r.fields

-- HTTP/1.1 requires exactly one (RFC 9112, section 3.2); for HTTP/1.0 the field is ignored
abbrev pub is_host_fine : Reading → Bool
is_host_fine r = r.minor == 0 || has_one_host r.fields

-- 400 Bad Request, after which the connection closes
abbrev pub bad_request : Reading → Answer
bad_request r = refuse 400 (is_head_only r) true

-- the refusal by the fields and the method: 400, 405 Method Not Allowed or 501 Not Implemented
abbrev pub refusal : Reading → Option Answer
refusal r =
    if not (is_host_fine r) || has_content r.fields then Some (bad_request r)
    else (if is_served_method r.method then None
    else Some (refuse (if is_known_method r.method then 405 else 501) (is_head_only r) (closes r)))

-- the requested part of the file: only with GET, and not for a script
abbrev pub range_of : Reading → (name : List ℕ) → Option Part
range_of r name =
    if is_head_only r || is_script name then None else option_and_then part_of_value (one_range r.fields)

-- ---- the answer

abbrev pub served : Reading → Option (List ℕ × List ℕ) → Answer
served r None = bad_request r
served r (Some file) = serve (record {
  head_only = is_head_only r;
  name = file.0;
  query = file.1;
  keep = not (closes r);
  range = range_of r file.0;
  chunked = r.minor == 1;
})

abbrev pub Asks : Option Reading → Answer → Type 0
Asks None a = a ≡ refuse 400 false true
Asks (Some r) a =
    MatchOption (refusal r)
    ((file : Option (List ℕ × List ℕ)) × TargetIs r.target file × (a ≡ served r file))
    (λ refused. a ≡ refused)

-- The answer to a head: the first check that fails determines the refusal.
abbrev pub IsAnswerTo : List ℕ → Answer → Type 0
IsAnswerTo bytes a = (reading : Option Reading) × Reads bytes reading × Asks reading a

-- the target of a head is interpreted: its fields and method refuse nothing, and the target has no fragment
abbrev pub LooksAtTarget : List ℕ → Type 0
LooksAtTarget bytes =
    (reading : Reading) × Reads bytes (Some reading) × (refusal reading ≡ None) × IsFalse (has_fragment reading.target)

-- a head has exactly one answer
abbrev pub OneAnswer : Type 0
OneAnswer = (head : List ℕ) (a b : Answer) → IsAnswerTo head a → IsAnswerTo head b → a ≡ b

-- a name is not empty, has no NUL, and none of its segments is `.` or `..`
pub record IsPlainName (name : List ℕ) : Type 0 where
  pub some : name ≢ []
  pub no_nul : IsFalse (list_any (λ b. b == 0) name)
  pub no_dots : IsFalse (list_any is_dot_segment (segments name))

-- for every head: a served file has a plain name
abbrev pub NamesArePlain : Type 0
NamesArePlain = (head : List ℕ) (w : Wanted) → IsAnswerTo head (serve w) → IsPlainName w.name

-- for every head: if no chunks may be sent, the connection closes
abbrev pub ClosesWithoutChunks : Type 0
ClosesWithoutChunks = (head : List ℕ) (w : Wanted) → IsAnswerTo head (serve w) → IsFalse w.chunked → IsFalse w.keep

-- for every head: HEAD has no range
abbrev pub HeadsHaveNoRange : Type 0
HeadsHaveNoRange = (head : List ℕ) (w : Wanted) → IsAnswerTo head (serve w) → IsTrue w.head_only → w.range ≡ None

-- for every head: a query is no longer than the head
abbrev pub QueriesFit : Type 0
QueriesFit = (head : List ℕ) (w : Wanted) → IsAnswerTo head (serve w) → length w.query ≤ length head
