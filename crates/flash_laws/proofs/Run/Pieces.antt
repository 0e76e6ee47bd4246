-- Bodies in chunks, piece by piece.
use Rattle.std.proofs.Common.{◌≡◌, ◌≤◌, ◌<◌, ℕ, zero, suc, ◌+◌, List, [], ◌∷◌, ◌++◌, length, take, drop, refl, subst}
use Rattle.std.proofs.Common.{ap, ◌∙◌, append_assoc, append-nil, arith, true}
use Rattle.std.proofs.lemmas.List.{length-drop, length-append, drop_all, take_all}
use Rattle.std.proofs.Math.Seq.{take-append_seam, drop-append_seam}
use Rattle.std.specs.List.{flat_map}
use Rattle.flash_http.specs.Chunk.{chunk_head, chunk_end, chunk, last_chunk}
use Rattle.flash_laws.specs.declared.script_run.TheConstants.{CHUNK_BYTES}
use Rattle.flash_laws.specs.Answers.Scripts.{pieces_by, pieces, script_body}

fewer : (n : ℕ) (x : ℕ) (xs : List ℕ) → length (x ∷ xs) ≤ suc n → length (drop CHUNK_BYTES (x ∷ xs)) ≤ n
fewer n x xs le = let e = length-drop CHUNK_BYTES (x ∷ xs) in omega (arith, e, le)

enough : (n m : ℕ) (xs : List ℕ) → length xs ≤ n → length xs ≤ m → pieces_by n xs ≡ pieces_by m xs
enough zero zero xs l k = refl
enough zero (suc m) [] l k = refl
enough zero (suc m) (x ∷ xs) l k = absurd (omega (arith, l))
enough (suc n) zero [] l k = refl
enough (suc n) zero (x ∷ xs) l k = absurd (omega (arith, k))
enough (suc n) (suc m) [] l k = refl
enough (suc n) (suc m) (x ∷ xs) l k =
    ap (λ (ps : List (List ℕ)). take CHUNK_BYTES (x ∷ xs) ∷ ps)
    (enough n m (drop CHUNK_BYTES (x ∷ xs)) (fewer n x xs l) (fewer m x xs k))

-- a whole piece at the front is the first piece
pieces_more : (held more : List ℕ) → length held ≡ CHUNK_BYTES → pieces (held ++ more) ≡ held ∷ pieces more
pieces_more [] more e = absurd (omega (arith, e))
pieces_more (h ∷ hs) more e =
    let t : take CHUNK_BYTES ((h ∷ hs) ++ more) ≡ h ∷ hs =
    subst (λ (n : ℕ). take n ((h ∷ hs) ++ more) ≡ h ∷ hs) e (take-append_seam (h ∷ hs) more) in
    let d : drop CHUNK_BYTES ((h ∷ hs) ++ more) ≡ more =
    subst (λ (n : ℕ). drop n ((h ∷ hs) ++ more) ≡ more) e (drop-append_seam (h ∷ hs) more) in
    let n = length (hs ++ more) in
    let sum : length (hs ++ more) ≡ length hs + length more = length-append hs more in
    let le : length more ≤ length (hs ++ more) = omega (arith, sum) in
    let same : length more ≤ length more = omega arith in
    ap (λ (z : List ℕ). z ∷ pieces_by n (drop CHUNK_BYTES ((h ∷ hs) ++ more))) t
    ∙ (ap (λ (z : List ℕ). (h ∷ hs) ∷ pieces_by n z) d
    ∙ ap (λ (z : List (List ℕ)). (h ∷ hs) ∷ z) (enough n (length more) more le same))

-- fewer bytes than a chunk has, and at least one, are one piece
one_piece : (held : List ℕ) → 0 < length held → length held < CHUNK_BYTES → pieces held ≡ held ∷ []
one_piece [] some few = absurd (omega (arith, some))
one_piece (h ∷ hs) some few =
    let le : length (h ∷ hs) ≤ CHUNK_BYTES = omega (arith, few) in
    let t : take CHUNK_BYTES (h ∷ hs) ≡ h ∷ hs = take_all CHUNK_BYTES (h ∷ hs) le in
    let d : drop CHUNK_BYTES (h ∷ hs) ≡ [] = drop_all CHUNK_BYTES (h ∷ hs) le in
    ap (λ (z : List ℕ). z ∷ pieces_by (length hs) (drop CHUNK_BYTES (h ∷ hs))) t
    ∙ (ap (λ (z : List ℕ). (h ∷ hs) ∷ pieces_by (length hs) z) d
    ∙ ap (λ (z : List (List ℕ)). (h ∷ hs) ∷ z) (none (length hs)))
  where
    none : (n : ℕ) → pieces_by n [] ≡ []
    none zero = refl
    none (suc n) = refl

-- the chunk of a whole piece comes first
pub chunk_more : (held more : List ℕ) → length held ≡ CHUNK_BYTES
    → script_body true (held ++ more) ≡ chunk held ++ script_body true more
chunk_more held more count = ap (λ (ps : List (List ℕ)). flat_map chunk ps ++ last_chunk) (pieces_more held more count)
    ∙ append_assoc (chunk held) (flat_map chunk (pieces more)) last_chunk

-- the last bytes are in a chunk, followed by the end of the body
pub last_body : (held : List ℕ) → 0 < length held → length held < CHUNK_BYTES
    → script_body true held ≡ chunk_head (length held) ++ (held ++ (chunk_end ++ last_chunk))
last_body held some few =
    ap (λ (ps : List (List ℕ)). flat_map chunk ps ++ last_chunk) (one_piece held some few)
    ∙ (ap (λ (l : List ℕ). l ++ last_chunk) (append-nil (chunk held))
    ∙ (append_assoc (chunk_head (length held)) (held ++ chunk_end) last_chunk
    ∙ ap (λ (l : List ℕ). chunk_head (length held) ++ l) (append_assoc held chunk_end last_chunk)))

-- bytes inserted between two parts
pub set_between : (front back held : List ℕ) → take (length front) (front ++ back) ++ held
    ++ drop (length front) (front ++ back) ≡ front ++ (held ++ back)
set_between front back held =
    append_assoc (take (length front) (front ++ back)) held (drop (length front) (front ++ back))
    ∙ (ap (λ (l : List ℕ). l ++ (held ++ drop (length front) (front ++ back))) (take-append_seam front back)
    ∙ ap (λ (l : List ℕ). front ++ (held ++ l)) (drop-append_seam front back))
