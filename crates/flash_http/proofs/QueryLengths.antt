-- A query is no longer than its head.
use Rattle.std.proofs.Common.{inl, inr, ◌≡◌, ◌≤◌, ℕ, ◌+◌, Bool, true, false, List, [], ◌∷◌, ◌++◌, length, take, drop}
use Rattle.std.proofs.Common.{Option, Some, None, refl, ap, arith, length-append, length-drop}
use Rattle.std.specs.Prelude.{unwrap_or, nat_lt, codes, if◌then◌else◌}
use Rattle.std.proofs.lemmas.Bool.Decides.{nat_tests}
use Rattle.std.proofs.lemmas.List.{length-take}
use Rattle.httparse.specs.Ascii.{space}
use Rattle.httparse.specs.Grammar.{RequestHead, print_blank, print_end, print_request, print_section, print_version}
use Rattle.http_uri.specs.ByteClasses.{hash_sign, index_of, question_mark, split_once_back}
use Rattle.http_uri.specs.Grammar.{IsForm, IsTail, IsAbsoluteForm}
use Rattle.http_uri.specs.Uri.{uri_scheme, uri_authority, uri_data}
use Rattle.flash_http.specs.Target.{Names, TargetIs}
use Rattle.flash_http.specs.Request.{Answer, serve, refuse, Wanted, Reading, Reads, IsHead, served, Asks, QueriesFit}
use Rattle.flash_http.proofs.ServedRequests.{from_reading}

taken-less : (n : ℕ) (xs : List ℕ) → length (take n xs) ≤ length xs
taken-less n xs = let e = length-take n xs in grind (arith, nat_tests, e)

-- ---- the query is part of the text that is kept of a target

back-less : (text : List ℕ) → length (unwrap_or (split_once_back question_mark text) []) ≤ length text
back-less text = by (nat_lt (index_of question_mark text) (length text))
  where
    rest : List ℕ
    rest = drop (index_of question_mark text + 1) text

    by : (b : Bool) → length (unwrap_or (if b then Some rest else None) []) ≤ length text
    by true = (let e = length-drop (index_of question_mark text + 1) text in omega (arith, e))
    by false = omega arith

-- ---- this text is part of the target

tail-kept : (tail kept : List ℕ) → IsTail tail kept → length kept ≤ length tail + 1
tail-kept tail kept (inl none) = (let e = ap (λ (l : List ℕ). length l) none.1 in omega (arith, e))
tail-kept tail kept (inr some) =
    (let e = ap (λ (l : List ℕ). length l) some.2 in let l = taken-less (index_of hash_sign tail) tail in
    omega (arith, e, l))

absolute-kept : (text scheme authority kept : List ℕ) → IsAbsoluteForm text scheme authority kept
    → length kept ≤ length text
absolute-kept text scheme authority kept h =
    let e = ap (λ (l : List ℕ). length l) h.spelled in
    let a = length-append (h.name ++ codes "://" ++ authority) h.tail in
    let b = length-append (h.name ++ codes "://") authority in
    let c = length-append h.name (codes "://") in
    let t = tail-kept h.tail kept h.is_tail in
    let three : length (codes "://") ≡ 3 = refl in
    omega (arith, e, a, b, c, t, three)

form-kept : (text : List ℕ) (scheme authority : Option (List ℕ)) (kept : List ℕ) → IsForm text scheme authority kept
    → length kept ≤ length text
form-kept text None None kept h =
    (let e = ap (λ (l : List ℕ). length l) h.1 in let l = taken-less (index_of hash_sign text) text in
    omega (arith, e, l))
form-kept text None (Some authority) kept h = (let e = ap (λ (l : List ℕ). length l) h.3 in omega (arith, e))
form-kept text (Some scheme) None kept h = absurd h
form-kept text (Some scheme) (Some authority) kept h = absolute-kept text scheme authority kept h

query-less : (target name query : List ℕ) → Names target name query → length query ≤ length target
query-less target name query h =
    let e = ap (λ (l : List ℕ). length l) h.is_query in
    let b = back-less (uri_data h.uri) in
    let k = form-kept target (uri_scheme h.uri) (uri_authority h.uri) (uri_data h.uri) h.is_uri.spells.1 in
    omega (arith, e, b, k)

-- ---- the target is part of the head

target-less : (h : RequestHead) → length h.target ≤ length (print_request h)
unfolding print_request
target-less h =
    let method : List ℕ = print_blank h.blank ++ h.method in
    let target : List ℕ = method ++ space ∷ h.target in
    let version : List ℕ = target ++ space ∷ print_version h.minor in
    let line : List ℕ = version ++ print_end h.line_end in
    let a = length-append line (print_section h.fields h.last) in
    let b = length-append version (print_end h.line_end) in
    let c = length-append target (space ∷ print_version h.minor) in
    let d = length-append method (space ∷ h.target) in
    omega (arith, a, b, c, d)

head-target : (bytes : List ℕ) (h : RequestHead) → IsHead bytes h → length h.target ≤ length bytes
head-target bytes h is =
    let e = ap (λ (l : List ℕ). length l) is.0.1 in
    let a = length-append (print_request h) [] in
    let t = target-less h in
    omega (arith, e, a, t)

-- ---- served requests

query_of : Answer → List ℕ
query_of (serve w) = w.query
query_of (refuse status head_only close) = []

served-query : (r : Reading) (w : Wanted) (file : Option (List ℕ × List ℕ)) → TargetIs r.target file
    → serve w ≡ served r file → length w.query ≤ length r.target
unfolding query_of
served-query r w None h e = cc
served-query r w (Some file) h e =
    (let l = query-less r.target file.0 file.1 h in let q = ap (λ (l : List ℕ). length l) (ap query_of e) in
    omega (arith, l, q))

by-reading : (head : List ℕ) (o : Option Reading) (w : Wanted) → Reads head o → Asks o (serve w)
    → length w.query ≤ length head
by-reading head None w reads asks = cc
by-reading head (Some r) w reads asks =
    let f = from_reading r w asks in
    let q = served-query r w f.0 f.1 f.2 in
    let t = head-target head reads.0 reads.1 in
    let same = ap (λ (x : Reading). length x.target) reads.2 in
    omega (arith, q, t, same)

pub queries_fit : QueriesFit
queries_fit head w h = by-reading head h.0 w h.1 h.2
