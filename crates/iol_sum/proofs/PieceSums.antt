-- Sums over pieces: whether an offset is odd, and the sums used so far.
use Rattle.std.proofs.Common.{◌≡◌, ℕ, zero, suc, ◌+◌, ◌-◌, ◌%◌, ◌<◌, not, nat_eq, List, [], ◌∷◌, ◌++◌, length, get_or}
use Rattle.std.proofs.Common.{take, drop, refl, sym, ap, subst, ◌∙◌, arith}
use Rattle.std.proofs.lemmas.List.{length-append, length-drop, length-take-le, take_more, map-append}
use Rattle.iol_core.specs.Checksum.{word_sum, folded}
use Rattle.iol_hold.specs.StoreState.{Stored}
use Rattle.iol_core.specs.Text as text
use Rattle.iol_arena.specs.Buffers.{bytes_of}
use Rattle.iol_hold.specs.Texts.{slice_bytes, text_of, IsReadable, AllReadable}
use Rattle.iol_hold.proofs.ReadSlices.{readable_first, readable_later, text_of-push, bytes_of-labelled}
use Rattle.iol_hold.specs.declared.slices.Slice.{Slice}
use Rattle.iol_sum.specs.Pieces.{is_odd}
use Rattle.iol_sum.specs.Sums.{Sums, key_of, Uses, UsesEach}

flip : (r : ℕ) → r < 2 → not (nat_eq r 1) ≡ nat_eq (1 - r) 1
flip zero h = refl
flip (suc zero) h = refl
flip (suc (suc r)) h = absurd (omega arith)

pub odd-flips : (xs ys : List ℕ) → length ys % 2 ≡ 1 → not (is_odd (length xs)) ≡ is_odd (length (xs ++ ys))
odd-flips xs ys h =
    let e : 1 - length xs % 2 ≡ length (xs ++ ys) % 2 = omega (arith, length-append xs ys) in
    flip (length xs % 2) (omega arith) ∙ ap (λ r. nat_eq r 1) e

pub odd-stays : (xs ys : List ℕ) → (length ys % 2 ≡ 1 → ⊥) → is_odd (length xs) ≡ is_odd (length (xs ++ ys))
odd-stays xs ys h =
    let e : length xs % 2 ≡ length (xs ++ ys) % 2 = omega (arith, length-append xs ys) in
    ap (λ r. nat_eq r 1) e

pub UsesEach-none : (s : Stored) (c : Sums) → UsesEach s c [] c
unfolding UsesEach
UsesEach-none s c = refl

pub UsesEach-push : (s : Stored) (old mid new : Sums) (xs : List Slice) (x : Slice) → UsesEach s old xs mid
    → Uses mid (key_of x) (folded (word_sum (slice_bytes s x))) new → UsesEach s old (xs ++ x ∷ []) new
unfolding UsesEach
UsesEach-push s old mid new [] x h u =
    (new, subst (λ c. Uses c (key_of x) (folded (word_sum (slice_bytes s x))) new) h u, refl)
UsesEach-push s old mid new (y ∷ xs) x h u = (h.0, h.1, UsesEach-push s h.0 mid new xs x h.2 u)

-- a slice of a list

readable-at : {s : Stored} (xs : List Slice) (i : ℕ) (x : Slice) → i < length xs → AllReadable s xs
    → IsReadable s (get_or xs i x)
readable-at [] i x l h = absurd (omega arith)
readable-at (y ∷ xs) zero x l h = readable_first y xs h
readable-at (y ∷ xs) (suc i) x l h = readable-at xs i x (omega arith) (readable_later y xs h)

pub readable-item : {s : Stored} (xs : List Slice) (i : ℕ) (x : Slice) → i < length xs → x ≡ get_or xs i x
    → AllReadable s xs → IsReadable s x
readable-item {s} xs i x l e h = subst (IsReadable s) (sym e) (readable-at xs i x l h)

pub length-slice_bytes : {s : Stored} (x : Slice) → IsReadable s x → length (slice_bytes s x) ≡ x.len
length-slice_bytes {s} x h =
    let size : x.from + x.len - x.from ≡ x.len = omega arith in
    let fits = h.within in
    length-take-le (x.from + x.len - x.from) (drop x.from (bytes_of s.arena x.hold.buf))
    (omega (arith, length-drop x.from (bytes_of s.arena x.hold.buf))) ∙ size

pub take-item : (xs : List Slice) (i : ℕ) (x : Slice) → i < length xs → x ≡ get_or xs i x
    → take (i + 1) xs ≡ take i xs ++ x ∷ []
take-item xs i x l e = take_more xs i x l ∙ ap (λ y. take i xs ++ y ∷ []) (sym e)

pub bytes-item : {s : Stored} (xs : List Slice) (i : ℕ) (x : Slice) → i < length xs → x ≡ get_or xs i x → IsReadable s x
    → text.bytes_of (text_of s (take (i + 1) xs)) ≡ text.bytes_of (text_of s (take i xs)) ++ slice_bytes s x
bytes-item {s} xs i x l e h =
    ap (λ ys. text.bytes_of (text_of s ys)) (take-item xs i x l e)
    ∙ ap text.bytes_of (text_of-push s (take i xs) x h)
    ∙ map-append (λ b. b.0) (text_of s (take i xs)) (text.labelled x.hold.pool (slice_bytes s x))
    ∙ ap (λ w. text.bytes_of (text_of s (take i xs)) ++ w) (bytes_of-labelled x.hold.pool (slice_bytes s x))
