-- Heads are short: each is for a file within the limit of one read, or has an error status of this server.
use Rattle.std.proofs.Common.{◌≡◌, ℕ, ◌+◌, ◌^◌, ◌<◌, ◌≤◌, ◌==◌, ◌||◌, List, [], ◌∷◌, ◌++◌, length, ap, refl, subst}
use Rattle.std.proofs.Common.{arith, Option, Some, true, false, Bool, length-append, if◌then◌else◌}
use Rattle.std.specs.Prelude.{codes, decimal, unwrap_or, not}
use Rattle.std.specs.List.{list_any}
use Rattle.std.proofs.lemmas.Bool.Decides.{nat_tests}
use Rattle.std.proofs.lemmas.Fmt.{length-decimal-le}
use Rattle.http.specs.StatusCode.{status_text, reason_phrase}
use Rattle.flash_http.specs.declared.names.MediaType.{MediaType}
use Rattle.flash_http.specs.declared.names.MediaType.TheVariants.{Html, PlainText, Css, JavaScript, Json, Png, Jpeg}
use Rattle.flash_http.specs.declared.names.MediaType.TheVariants.{OctetStream}
use Rattle.flash_http.specs.declared.ranges.Selection.{Selection}
use Rattle.flash_http.specs.declared.ranges.Selection.TheVariants as select
use Rattle.flash_http.specs.declared.responses.ContentRange.TheVariants as of
use Rattle.flash_http.specs.declared.responses.Framing.{Framing}
use Rattle.flash_http.specs.declared.responses.Framing.TheVariants.{Length, Chunked, UntilClose}
use Rattle.flash_http.specs.declared.responses.ResponseHead.{ResponseHead}
use Rattle.flash_http.specs.MediaType.{media_text, media_type}
use Rattle.flash_http.specs.Range.{selected, LiesWithin}
use Rattle.flash_http.specs.Request.{Wanted}
use Rattle.flash_http.specs.Response.{framing_line, range_line, allow_line, connection_line, head_text, error_body}
use Rattle.flash_http.specs.Response.{refusal_head, file_head, script_head}
use Rattle.flash_http.proofs.SelectionLaws.{selected-within}
use Rattle.flash_laws.specs.Answers.{body_unless, file_text, error_text, unsatisfiable, script_text}
use Rattle.flash_laws.specs.Conn.ShortHeads.{is_error_status}

-- ---- statuses

-- a property of each of these numbers
abbrev OfAll : (ℕ → Type 0) → List ℕ → Type 0
OfAll P [] = Unit {0}
OfAll P (x ∷ xs) = P x × OfAll P xs

of-one : (P : ℕ → Type 0) (xs : List ℕ) (s : ℕ) → OfAll P xs → list_any (λ x. x == s) xs ≡ true → P s
of-one P [] s all is = absurd (cc (is))
of-one P (x ∷ xs) s all is = by (x == s) refl is (λ rest. of-one P xs s all.1 rest)
  where
    by : (b : Bool) → (x == s) ≡ b → (b || list_any (λ y. y == s) xs) ≡ true → (list_any (λ y. y == s) xs ≡ true → P s)
        → P s
    by true same is later = (let e : x ≡ s = grind (arith, nat_tests, same) in subst P e all.0)
    by false differ is later = later is

-- the number, a blank and the phrase
phrase-short : (s : ℕ) (phrase : List ℕ) → s < 1000 → reason_phrase s ≡ Some phrase → length phrase ≤ 31
    → length (status_text s) ≤ 35
phrase-short s phrase low is short =
    let thousand : 10 ^ 3 ≡ 1000 = refl in
    let wide : 2 ^ 64 ≡ 18446744073709551616 = refl in
    let digits = length-decimal-le 3 s (omega arith) (omega (arith, low, thousand)) (omega (arith, low, wide)) in
    let all = length-append (decimal s ++ codes " ") (unwrap_or (reason_phrase s) (codes "<unknown status code>")) in
    let rest = length-append (decimal s) (codes " ") in
    let blank : length (codes " ") ≡ 1 = refl in
    let text = ap (λ (o : Option (List ℕ)). length (unwrap_or o (codes "<unknown status code>"))) is in
    omega (arith, digits, all, rest, blank, text, short)

pub status-short : (s : ℕ) → is_error_status s ≡ true → length (status_text s) ≤ 35
status-short s is = of-one (λ s. length (status_text s) ≤ 35) (400 ∷ 403 ∷ 404 ∷ 405 ∷ 416 ∷ 431 ∷ 500 ∷ 501 ∷ 503 ∷ [])
    s (
      phrase-short 400 (codes "Bad Request") (omega arith) refl (let e : length (codes "Bad Request") ≡ 11 = refl in
          omega (arith, e)),
      (
        phrase-short 403 (codes "Forbidden") (omega arith) refl (let e : length (codes "Forbidden") ≡ 9 = refl in
            omega (arith, e)),
        (
          phrase-short 404 (codes "Not Found") (omega arith) refl (let e : length (codes "Not Found") ≡ 9 = refl in
              omega (arith, e)),
          (
            phrase-short 405 (codes "Method Not Allowed") (omega arith) refl
                (let e : length (codes "Method Not Allowed")
                ≡ 18 = refl in omega (arith, e)),
            (
              phrase-short 416 (codes "Range Not Satisfiable") (omega arith) refl
                  (let e : length (codes "Range Not Satisfiable") ≡ 21 = refl in omega (arith, e)),
              (
                phrase-short 431 (codes "Request Header Fields Too Large") (omega arith) refl
                    (let e : length (codes "Request Header Fields Too Large") ≡ 31 = refl in omega (arith, e)),
                (
                  phrase-short 500 (codes "Internal Server Error") (omega arith) refl
                      (let e : length (codes "Internal Server Error") ≡ 21 = refl in omega (arith, e)),
                  (
                    phrase-short 501 (codes "Not Implemented") (omega arith) refl
                        (let e : length (codes "Not Implemented")
                        ≡ 15 = refl in omega (arith, e)),
                    (
                      phrase-short 503 (codes "Service Unavailable") (omega arith) refl
                          (let e : length (codes "Service Unavailable") ≡ 19 = refl in omega (arith, e)),
                      tt,
                    ),
                  ),
                ),
              ),
            ),
          ),
        ),
      ),
    ) is

ok-short : length (status_text 200) ≤ 35
ok-short = phrase-short 200 (codes "OK") (omega arith) refl (let e : length (codes "OK") ≡ 2 = refl in omega (arith, e))

part-short : length (status_text 206) ≤ 35
part-short =
    phrase-short 206 (codes "Partial Content") (omega arith) refl (let e : length (codes "Partial Content") ≡ 15 =
    refl in omega (arith, e))

-- ---- lines

-- a number of at most 2^24 has at most eight digits
eight : (n : ℕ) → n ≤ 16777216 → length (decimal n) ≤ 8
eight n low =
    let most : 10 ^ 8 ≡ 100000000 = refl in
    let wide : 2 ^ 64 ≡ 18446744073709551616 = refl in
    length-decimal-le 8 n (omega arith) (omega (arith, low, most)) (omega (arith, low, wide))

media-short : (m : MediaType) → length (media_text m) ≤ 24
media-short Html = let e : length (codes "text/html") ≡ 9 = refl in omega (arith, e)
media-short PlainText = let e : length (codes "text/plain") ≡ 10 = refl in omega (arith, e)
media-short Css = let e : length (codes "text/css") ≡ 8 = refl in omega (arith, e)
media-short JavaScript = let e : length (codes "text/javascript") ≡ 15 = refl in omega (arith, e)
media-short Json = let e : length (codes "application/json") ≡ 16 = refl in omega (arith, e)
media-short Png = let e : length (codes "image/png") ≡ 9 = refl in omega (arith, e)
media-short Jpeg = let e : length (codes "image/jpeg") ≡ 10 = refl in omega (arith, e)
media-short OctetStream = let e : length (codes "application/octet-stream") ≡ 24 = refl in omega (arith, e)

abbrev LengthFits : Framing → Type 0
LengthFits (Length len) = len ≤ 16777216
LengthFits f = Unit {0}

framing-short : (f : Framing) → LengthFits f → length (framing_line f) ≤ 28
framing-short (Length len) low =
    let digits = eight len low in
    let all = length-append (codes "Content-Length: ") (decimal len ++ codes "\r\n") in
    let rest = length-append (decimal len) (codes "\r\n") in
    let name : length (codes "Content-Length: ") ≡ 16 = refl in
    let end : length (codes "\r\n") ≡ 2 = refl in
    omega (arith, digits, all, rest, name, end)
framing-short Chunked low = let e : length (codes "Transfer-Encoding: chunked\r\n") ≡ 28 = refl in omega (arith, e)
framing-short UntilClose low = omega arith

-- the bytes from `first` to `last` of `len`
part-line : (first last len : ℕ) → first ≤ 16777216 → last ≤ 16777216 → len ≤ 16777216
    → length (range_line (Some (of.Bytes first last len))) ≤ 49
part-line first last len a b c =
    let one = eight first a in
    let two = eight last b in
    let three = eight len c in
    let name : length (codes "Content-Range: bytes ") ≡ 21 = refl in
    let to : length (codes "-") ≡ 1 = refl in
    let slash : length (codes "/") ≡ 1 = refl in
    let end : length (codes "\r\n") ≡ 2 = refl in
    let p =
    length-append (codes "Content-Range: bytes ")
    (decimal first ++ (codes "-" ++ (decimal last ++ (codes "/" ++ (decimal len ++ codes "\r\n"))))) in
    let q =
    length-append (decimal first) (codes "-" ++ (decimal last ++ (codes "/" ++ (decimal len ++ codes "\r\n")))) in
    let r = length-append (codes "-") (decimal last ++ (codes "/" ++ (decimal len ++ codes "\r\n"))) in
    let s = length-append (decimal last) (codes "/" ++ (decimal len ++ codes "\r\n")) in
    let t = length-append (codes "/") (decimal len ++ codes "\r\n") in
    let u = length-append (decimal len) (codes "\r\n") in
    omega (arith, one, two, three, name, to, slash, end, p, q, r, s, t, u)

no-part-line : (len : ℕ) → len ≤ 16777216 → length (range_line (Some (of.Unsatisfied len))) ≤ 49
no-part-line len c =
    let one = eight len c in
    let name : length (codes "Content-Range: bytes */") ≡ 23 = refl in
    let end : length (codes "\r\n") ≡ 2 = refl in
    let p = length-append (codes "Content-Range: bytes */") (decimal len ++ codes "\r\n") in
    let q = length-append (decimal len) (codes "\r\n") in
    omega (arith, one, name, end, p, q)

allow-short : (status : ℕ) → length (allow_line status) ≤ 18
unfolding allow_line
allow-short status = by (status == 405)
  where
    by : (b : Bool) → length (if b then codes "Allow: GET, HEAD\r\n" else []) ≤ 18
    by true = let e : length (codes "Allow: GET, HEAD\r\n") ≡ 18 = refl in omega (arith, e)
    by false = omega arith

connection-short : (close : Bool) → length (connection_line close) ≤ 19
unfolding connection_line
connection-short true = let e : length (codes "Connection: close\r\n") ≡ 19 = refl in omega (arith, e)
connection-short false = omega arith

-- ---- heads

-- the status, the framing and the range
head-length : (h : ResponseHead) → LengthFits h.framing → length (status_text h.status) ≤ 35
    → length (range_line h.range) ≤ 49
    → length (head_text h) ≤ 153 + length (range_line h.range)
head-length h fits status range =
    let media = media-short h.media_type in
    let framing = framing-short h.framing fits in
    let allow = allow-short h.status in
    let close = connection-short h.close in
    let version : length (codes "HTTP/1.1 ") ≡ 9 = refl in
    let kind : length (codes "\r\nContent-Type: ") ≡ 16 = refl in
    let end : length (codes "\r\n") ≡ 2 = refl in
    let t9 : List ℕ = codes "\r\n" in
    let t8 : List ℕ = connection_line h.close ++ t9 in
    let t7 : List ℕ = allow_line h.status ++ t8 in
    let t6 : List ℕ = range_line h.range ++ t7 in
    let t5 : List ℕ = framing_line h.framing ++ t6 in
    let t4 : List ℕ = codes "\r\n" ++ t5 in
    let t3 : List ℕ = media_text h.media_type ++ t4 in
    let t2 : List ℕ = codes "\r\nContent-Type: " ++ t3 in
    let t1 : List ℕ = status_text h.status ++ t2 in
    let e1 = length-append (codes "HTTP/1.1 ") t1 in
    let e2 = length-append (status_text h.status) t2 in
    let e3 = length-append (codes "\r\nContent-Type: ") t3 in
    let e4 = length-append (media_text h.media_type) t4 in
    let e5 = length-append (codes "\r\n") t5 in
    let e6 = length-append (framing_line h.framing) t6 in
    let e7 = length-append (range_line h.range) t7 in
    let e8 = length-append (allow_line h.status) t8 in
    let e9 = length-append (connection_line h.close) t9 in
    omega (arith, media, framing, allow, close, version, kind, end, status, range, e1, e2, e3, e4, e5, e6, e7, e8, e9)

body-short : (status : ℕ) → is_error_status status ≡ true → length (error_body status) ≤ 36
body-short status is =
    let text = status-short status is in
    let all = length-append (status_text status) (codes "\n") in
    let end : length (codes "\n") ≡ 1 = refl in
    omega (arith, text, all, end)

pub unsatisfiable-short : length unsatisfiable ≤ 36
unfolding unsatisfiable
unsatisfiable-short = body-short 416 refl

-- the body, or none for HEAD, is no longer than the body
pub unless-short : (head_only : Bool) (body : List ℕ) → length (body_unless head_only body) ≤ length body
unless-short true body = omega arith
unless-short false body = omega arith

-- the head of a file
pub file-text-short : (w : Wanted) (len : ℕ) → len ≤ 16777216 → length (file_text w len) ≤ 202
unfolding file_text
file-text-short w len low = by (selected w.range len) (selected-within w.range len)
  where
    by : (sel : Selection) → LiesWithin len sel
        → length (head_text (file_head (media_type w.name) sel len (not w.keep))) ≤ 202
    by select.Whole within =
        let all = head-length (file_head (media_type w.name) select.Whole len (not w.keep)) low ok-short
        (omega arith) in omega (arith, all)
    by (select.Bytes first last) within =
        let one = within.0 in
        let two = within.1 in
        let line = part-line first last len (omega (arith, one, two, low)) (omega (arith, two, low)) low in
        let all = head-length (file_head (media_type w.name) (select.Bytes first last) len (not w.keep))
        (omega (arith, one, two, low)) part-short line in
        omega (arith, all, line)
    by select.Unsatisfiable within =
        let line = no-part-line len low in
        let body = body-short 416 refl in
        let all =
        head-length (file_head (media_type w.name) select.Unsatisfiable len (not w.keep)) (omega (arith, body))
        (status-short 416 refl) line in
        omega (arith, all, line)

-- an error, with its body
pub error-text-short : (status : ℕ) (head_only close : Bool) → is_error_status status ≡ true
    → length (error_text status head_only close) ≤ 189
unfolding error_text
error-text-short status head_only close is =
    let body = body-short status is in
    let sent = unless-short head_only (error_body status) in
    let head = head-length (refusal_head status close) (omega (arith, body)) (status-short status is) (omega arith) in
    let all = length-append (head_text (refusal_head status close)) (body_unless head_only (error_body status)) in
    omega (arith, body, sent, head, all)

-- the head of a script's response
pub script-text-short : (w : Wanted) → length (script_text w) ≤ 153
unfolding script_text
script-text-short w = by w.chunked
  where
    by : (b : Bool) → length (head_text (script_head b (not w.keep))) ≤ 153
    by true = let all = head-length (script_head true (not w.keep)) tt ok-short (omega arith) in omega (arith, all)
    by false = let all = head-length (script_head false (not w.keep)) tt ok-short (omega arith) in omega (arith, all)
