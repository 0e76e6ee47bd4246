-- The answer to a stream: the responses to its requests, in order, up to the first after which the connection closes
-- (RFC 9112, sections 9.3.2 and 9.6).
pub mod Scripts
use Rattle.std.specs.Prelude.{◌≡◌, ℕ, ◌+◌, Bool, true, false, not, ◌&&◌, List, [], ◌∷◌, ◌++◌, length, take, drop}
use Rattle.std.specs.Prelude.{slice_range}
use Rattle.flash_http.specs.declared.windows.Window.{Window}
use Rattle.flash_http.specs.declared.windows.Window.TheVariants.{Wait, Head, TooLarge}
use Rattle.flash_http.specs.declared.ranges.Selection.{Selection}
use Rattle.flash_http.specs.declared.ranges.Selection.TheVariants.{Whole, Bytes, Unsatisfiable}
use Rattle.flash_http.specs.Window.{window_in}
use Rattle.flash_http.specs.Request.{Answer, serve, refuse, Wanted, IsAnswerTo}
use Rattle.flash_http.specs.Range.{selected}
use Rattle.flash_http.specs.MediaType.{media_type}
use Rattle.flash_http.specs.Response.{head_text, file_head, refusal_head, script_head, error_body}

-- ---- the response to a request

-- the result of the calls for a request: the bytes of its file, or the status of an error (RFC 9110, section 15)
pub data Outcome : Type 0 where
  Found : (bytes : List ℕ) → Outcome
  Failed : (status : ℕ) → Outcome

-- whether the connection stays open after the response (RFC 9112, section 9.3)
abbrev pub keeps : Answer → Bool
keeps (serve w) = w.keep
keeps (refuse status head_only close) = not close

-- no body in the response to HEAD (RFC 9110, section 9.3.2)
abbrev pub body_unless : (head_only : Bool) → List ℕ → List ℕ
body_unless true body = []
body_unless false body = body

-- the text of the head for a file of len bytes
unfoldable pub file_text : Wanted → (len : ℕ) → List ℕ
file_text w len = head_text (file_head (media_type w.name) (selected w.range len) len (not w.keep))

-- an error's head, and its body (RFC 9110, section 15.5)
unfoldable pub error_text : (status : ℕ) → (head_only close : Bool) → List ℕ
error_text status head_only close = head_text (refusal_head status close) ++ body_unless head_only (error_body status)

-- the body of 416 Range Not Satisfiable (RFC 9110, section 15.5.17)
unfoldable pub unsatisfiable : List ℕ
unsatisfiable = error_body 416

-- the text of the head for the output of a script (RFC 9112, sections 6.3 and 7.1)
unfoldable pub script_text : Wanted → List ℕ
script_text w = head_text (script_head w.chunked (not w.keep))

-- the bytes of a file that are sent: all, or the requested part (RFC 9110, section 14)
abbrev pub chosen : Selection → List ℕ → List ℕ
chosen Whole bytes = bytes
chosen (Bytes first last) bytes = slice_range bytes first (last + 1)
chosen Unsatisfiable bytes = unsatisfiable

-- The response to a request with this outcome.
abbrev pub response : Answer → Outcome → List ℕ
response (serve w) (Found bytes) = file_text w (length bytes)
    ++ body_unless w.head_only (chosen (selected w.range (length bytes)) bytes)
response (serve w) (Failed status) = error_text status w.head_only (not w.keep)
response (refuse status head_only close) outcome = error_text status head_only close

-- the files of a site by name: the outcome of each name, while no file and no pool's list changes
abbrev pub SiteContents : Type 0
SiteContents = List ℕ → Outcome

abbrev pub outcome_of : SiteContents → Answer → Outcome
outcome_of site_contents (serve w) = site_contents w.name
outcome_of site_contents (refuse status head_only close) = Failed status

-- the response that is expected to a request, for these files
abbrev pub expected_to : SiteContents → Answer → List ℕ
expected_to site_contents q = response q (outcome_of site_contents q)

-- ---- the requests of a stream

abbrev pub NextIn : Window → List ℕ → Answer → (rest : List ℕ) → Type 0
NextIn Wait s q rest = ⊥
NextIn (Head skip len) s q rest = IsAnswerTo (take len (drop skip s)) q
    × (rest ≡ drop (skip + len) s)
NextIn TooLarge s q rest = (q ≡ refuse 431 false true) × (rest ≡ s)

-- The stream's next request is q, followed by rest. A head that is too long is also a request, which is refused.
abbrev pub Next : List ℕ → Answer → (rest : List ℕ) → Type 0
Next s q rest = NextIn (window_in s) s q rest

-- its next requests are qs, in order, followed by rest
abbrev pub Reads : List ℕ → List Answer → (rest : List ℕ) → Type 0
Reads s [] rest = rest ≡ s
Reads s (q ∷ qs) rest = (next : List ℕ) × Next s q next × Reads next qs rest

-- the connection closes after none of these except possibly the last
abbrev pub last_may_close : List Answer → Bool
last_may_close [] = true
last_may_close (q ∷ []) = true
last_may_close (q ∷ p ∷ qs) = keeps q && last_may_close (p ∷ qs)

-- the connection closes after the last
abbrev pub last_closes : List Answer → Bool
last_closes [] = false
last_closes (q ∷ []) = not (keeps q)
last_closes (q ∷ p ∷ qs) = last_closes (p ∷ qs)
