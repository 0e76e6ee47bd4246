-- The output that was read, and its part of the response.
use Rattle.std.proofs.Common.{◌≡◌, ◌≤◌, ◌<◌, ◌/◌, ◌%◌, ◌==◌, ℕ, zero, suc, ◌+◌, Bool, true, false, cond, List, [], ◌∷◌}
use Rattle.std.proofs.Common.{◌++◌, length, take, ap, ◌∙◌, refl, sym, subst, arith, append_assoc, append-nil}
use Rattle.std.proofs.Common.{length-append}
use Rattle.std.specs.List.{prefix_len}
use Rattle.std.specs.Fmt.{digits, digits_onto, digit_glyph}
use Rattle.iol_core.specs.Text.{Text, bytes_of, admitted}
use Rattle.flash_http.specs.Chunk.{chunk_head, chunk_end, chunk, last_chunk}
use Rattle.flash_http.specs.Request.{Wanted}
use Rattle.flash_laws.specs.declared.script_run.TheConstants.{CHUNK_BYTES}
use Rattle.flash_laws.specs.Run.Fits.{Progress, Ran, Broken, HoldsBack, Continues, IsLeft, Goes, Ends}
use Rattle.flash_laws.specs.Run.OfferedBytes.{receives_on}
use Rattle.flash_laws.specs.Answers.Scripts.{script_body, script_response}
use Rattle.flash_laws.proofs.Run.Pieces.{chunk_more, last_body}

-- ---- lengths

length-bytes : (t : Text) → length (bytes_of t) ≡ length t
length-bytes [] = refl
length-bytes (x ∷ t) = ap suc (length-bytes t)

short-prefix : (j k : ℕ) (t : Text) → length (take j (take k t)) ≤ k
short-prefix zero k t = omega arith
short-prefix (suc j) zero t = omega arith
short-prefix (suc j) (suc k) [] = omega arith
short-prefix (suc j) (suc k) (x ∷ t) = let e = short-prefix j k t in omega (arith, e)

-- a read returns at most k bytes
pub short-output : (may : ℕ → Bool) (k : ℕ) (queue text : Text) (received : List ℕ) → text ≡ admitted may (take k queue)
    → received ≡ bytes_of text → length received ≤ k
short-output may k queue text received is same =
    let e = short-prefix (prefix_len (λ x. may x.1) (take k queue)) k queue in
    let f = ap (λ (t : Text). length t) is in
    let g = ap (λ (l : List ℕ). length l) same ∙ length-bytes text in
    omega (arith, e, f, g)

length-onto : (fuel n : ℕ) (acc : List ℕ) → length (digits_onto fuel 16 false n acc) ≤ fuel + length acc
length-onto zero n acc = omega arith
length-onto (suc fuel) n acc = both (n / 16 == 0) (length-onto fuel (n / 16) (digit_glyph false (n % 16) ∷ acc))
  where
    both : (v : Bool) → length (digits_onto fuel 16 false (n / 16) (digit_glyph false (n % 16) ∷ acc)) ≤ fuel
        + length (digit_glyph false (n % 16) ∷ acc)
        → length
        (cond v (digit_glyph false (n % 16) ∷ acc)
        (digits_onto fuel 16 false (n / 16) (digit_glyph false (n % 16) ∷ acc))) ≤ suc fuel + length acc
    both true rest = omega arith
    both false rest = omega (arith, rest)

pub short-digits : (size : ℕ) → length (digits 16 false size) ≤ 64
unfolding digits
short-digits size = length-onto 64 size []

-- a chunk with an end fits an aggregate
pub short-chunk : (size : ℕ) (bytes end : List ℕ) → length bytes ≤ CHUNK_BYTES → length end ≤ 7
    → length (chunk_head size ++ (bytes ++ end)) ≤ 16777216
short-chunk size bytes end few short =
    let a = length-append (chunk_head size) (bytes ++ end) in
    let b = length-append bytes end in
    let c = length-append (digits 16 false size) chunk_end in
    let d = short-digits size in
    omega (arith, a, b, c, d, few, short)

-- ---- the parts of the response

-- more output was read, and is held back
pub receives-more : (w : Wanted) (o : Progress) (held : List ℕ) (b : ℕ) (new : List ℕ) → HoldsBack w o held
    → HoldsBack w (receives_on o (b ∷ new)) (held ++ (b ∷ new))
receives-more w (Ran received ended past) held b new back = λ more.
    (ap (λ (l : List ℕ). script_response w l) (append_assoc received (b ∷ new) more) ∙ (back ((b ∷ new) ++ more)
    ∙ ap (λ (l : List ℕ). past ++ script_body w.chunked l) (sym (append_assoc held (b ∷ new) more))))
receives-more w x held b new back = absurd back

-- the end of the output was read: only the held output is left
pub receives-end : (b : Bool) (w : Wanted) (o : Progress) (held : List ℕ) → Goes b w o held
    → Ends b w (receives_on o []) held
receives-end true w o held is = (subst (λ (z : Progress). receives_on z [] ≡ Broken) (sym is.0) refl, is.1)
receives-end false w (Ran received ended past) held back = (
  refl,
  (ap (λ (l : List ℕ). script_response w l) (sym (append-nil received))
      ∙ (back [] ∙ ap (λ (l : List ℕ). past ++ script_body w.chunked l) (append-nil held))),
)
receives-end false w x held back = absurd back

-- the held output is a part of the response
part-of : (w : Wanted) (o : Progress) (part held : List ℕ)
    → ((more : List ℕ) → script_body w.chunked (held ++ more) ≡ part ++ script_body w.chunked more)
    → HoldsBack w o held → Continues w o part []
part-of w (Ran received ended past) part held makes back =
    λ more.
    (back more
    ∙ (ap (λ (l : List ℕ). past ++ l) (makes more) ∙ sym (append_assoc past part (script_body w.chunked more))))
part-of w x part held makes back = absurd back

-- without chunks the part is the held output
pub plain-part : (w : Wanted) (o : Progress) (held : List ℕ) → w.chunked ≡ false → HoldsBack w o held
    → Continues w o held []
plain-part w o held is back =
    part-of w o held held (λ more. subst (λ c. script_body c (held ++ more) ≡ held ++ script_body c more) (sym is) refl)
    back

-- with chunks the part is a whole chunk
pub chunk-part : (w : Wanted) (o : Progress) (held : List ℕ) → w.chunked ≡ true → length held ≡ CHUNK_BYTES
    → HoldsBack w o held
    → Continues w o (chunk held) []
chunk-part w o held is count back =
    part-of w o (chunk held) held (λ more. subst (λ c. script_body c (held ++ more) ≡ chunk held ++ script_body c more)
    (sym is) (chunk_more held more count)) back

-- the last bytes are left, in a chunk, and the end of the body
pub last-left : (w : Wanted) (o : Progress) (held : List ℕ) (size : ℕ) → size ≡ length held → 0 < size
    → size < CHUNK_BYTES
    → IsLeft w o (script_body true held) → IsLeft w o (chunk_head size ++ (held ++ (chunk_end ++ last_chunk)))
last-left w o held size is some few left =
    let s : 0 < length held = omega (arith, is, some) in
    let f : length held < CHUNK_BYTES = omega (arith, is, few) in
    subst (λ (l : List ℕ). IsLeft w o l) (last_body held s f
    ∙ ap (λ k. chunk_head k ++ (held ++ (chunk_end ++ last_chunk))) (sym is)) left
