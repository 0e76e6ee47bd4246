-- The first bytes of a queue, offered four slices at a time.
use Rattle.std.proofs.Common.{◌≡◌, ℕ, zero, suc, ◌+◌, ◌-◌, ◌<◌, ◌≤◌, min, List, [], ◌∷◌, ◌++◌, length, get_or, map}
use Rattle.std.proofs.Common.{take, drop, refl, sym, ap, ◌∙◌, arith, append_assoc, append-nil, length-append}
use Rattle.std.proofs.Math.Seq.{take-add}
use Rattle.std.proofs.lemmas.List.{length-take, length-map, take-append-drop, take_all, take_min, take-take, map-append}
use Rattle.std.proofs.lemmas.List.{at_drop_more, at_drop_all, take-append-le}
use Rattle.iol_core.specs.Text.{bytes_of}
use Rattle.iol_hold.specs.StoreState.{Stored}
use Rattle.iol_hold.specs.Places.{places, slice_places, byte_len}
use Rattle.iol_hold.specs.Texts.{byte_at, slice_bytes, text_of, AllReadable, IsReadable}
use Rattle.iol_hold.specs.declared.slices.Slice.{Slice}
use Rattle.iol_hold.proofs.ReadSlices.{text_of-slice, bytes_of-labelled, length-text_of}
use Rattle.iol_hold.proofs.SlicePlaces.{places-append, byte_len-cons, byte_len-take-le}
use Rattle.iol_pipe.proofs.Prefixes.{take-append}
use Rattle.iol_sum.proofs.PieceSums.{length-slice_bytes, readable-item}
use Rattle.iol_sock.specs.Gathers.{part_of}

-- the bytes of slices
abbrev pub all_of : Stored → List Slice → List ℕ
all_of s xs = bytes_of (text_of s xs)

all_of-append : (s : Stored) (xs ys : List Slice) → all_of s (xs ++ ys) ≡ all_of s xs ++ all_of s ys
all_of-append s xs ys =
    ap (λ ps. bytes_of (map (byte_at s) ps)) (places-append xs ys)
    ∙ ap bytes_of (map-append (byte_at s) (places xs) (places ys))
    ∙ map-append (λ (b : ℕ × ℕ). b.0) (map (byte_at s) (places xs)) (map (byte_at s) (places ys))

pub length-all_of : (s : Stored) (xs : List Slice) → length (all_of s xs) ≡ byte_len xs
length-all_of s xs = length-map (text_of s xs) (λ (b : ℕ × ℕ). b.0) ∙ length-text_of s xs

-- One part.

none_taken : (n : ℕ) → take n (let l : List ℕ = [] in l) ≡ []
none_taken zero = refl
none_taken (suc n) = refl

pub part_none : (s : Stored) (xs : List Slice) (i most : ℕ) → length xs ≤ i → [] ≡ part_of s xs i most
part_none s xs i most end = sym (at_drop_all (λ ys. take most (all_of s (take 1 ys))) xs i end ∙ none_taken most)

one_slice : (s : Stored) (x : Slice) → IsReadable s x → all_of s (x ∷ []) ≡ slice_bytes s x
one_slice s x fine =
    ap (λ ps. bytes_of (map (byte_at s) ps)) (append-nil (slice_places x))
    ∙ ap bytes_of (text_of-slice s x fine)
    ∙ bytes_of-labelled x.hold.pool (slice_bytes s x)

-- it has at most `most` bytes
pub part_short : (s : Stored) (xs : List Slice) (i most : ℕ) (w : List ℕ) → w ≡ part_of s xs i most → length w ≤ most
part_short s xs i most w is = omega (arith, ap length is, length-take most (all_of s (take 1 (drop i xs))))

pub part_some : (s : Stored) (xs : List Slice) (i most len : ℕ) (x : Slice) → i < length xs → x ≡ get_or xs i x
    → AllReadable s xs → len ≡ min x.len most → take len (slice_bytes s x) ≡ part_of s xs i most
part_some s xs i most len x there is readable offered =
    let fine : IsReadable s x = readable-item xs i x there is readable in
    let long : len ≡ min most (length (slice_bytes s x)) = omega (arith, offered, length-slice_bytes x fine) in
    ap (λ k. take k (slice_bytes s x)) long
    ∙ take_min most (slice_bytes s x)
    ∙ ap (take most) (sym (one_slice s x fine))
    ∙ ap (λ y. take most (all_of s (y ∷ []))) is
    ∙ sym (at_drop_more (λ ys. take most (all_of s (take 1 ys))) xs i x there)

-- Four parts.

-- the bytes of the first i slices and of the next one
next_prefix : (s : Stored) (xs : List Slice) (i : ℕ) → all_of s (take (i + 1) xs) ≡ all_of s (take i xs)
    ++ all_of s (take 1 (drop i xs))
next_prefix s xs i = ap (all_of s) (take-add i 1 xs) ∙ all_of-append s (take i xs) (take 1 (drop i xs))

-- at most `most` bytes of the first i slices, and then a part of the next one
next_part : (s : Stored) (xs : List Slice) (i j most left : ℕ) (pre part : List ℕ) → j ≡ i + 1
    → pre ≡ take most (all_of s (take i xs)) → part ≡ part_of s xs i left → left + length pre ≡ most
    → pre ++ part ≡ take most (all_of s (take j xs))
next_part s xs i j most left pre part next is offered room =
    let before : List ℕ = all_of s (take i xs) in
    let one : List ℕ = all_of s (take 1 (drop i xs)) in
    let same : left ≡ most - length before =
    room_as most left (length before) (length pre) (ap length is ∙ length-take most before) room
    (omega (arith, ap length is, length-take most before)) in
    ap (λ w. w ++ part) is
    ∙ ap (λ w. take most before ++ w) (offered ∙ ap (λ k. take k one) same)
    ∙ sym (take-append before one most)
    ∙ ap (take most) (sym (next_prefix s xs i))
    ∙ ap (λ k. take most (all_of s (take k xs))) (sym next)
  where
    room_as : (most left long pre : ℕ) → pre ≡ min most long → left + pre ≡ most → pre ≤ most → left ≡ most - long
    room_as most left long pre is room few = omega (arith, is, room, few)

-- the first bytes of all, at most `most` and those of the first i slices
prefix_as : (s : Stored) (xs : List Slice) (i most n : ℕ) → n ≡ min most (byte_len (take i xs))
    → take n (all_of s xs) ≡ take most (all_of s (take i xs))
prefix_as s xs i most n is =
    let front : List ℕ = all_of s (take i xs) in
    let same : n ≡ min most (length front) = omega (arith, is, length-all_of s (take i xs)) in
    ap (λ ys. take n (all_of s ys)) (sym (take-append-drop i xs))
    ∙ ap (take n) (all_of-append s (take i xs) (drop i xs))
    ∙ take-append-le n front (all_of s (drop i xs)) (omega (arith, same))
    ∙ ap (λ k. take k front) same
    ∙ take_min most front

-- n bytes of a list, and then w, of which only the first k are taken
taken_of : (all pre w : List ℕ) (n k m : ℕ) → length pre ≡ n → k ≤ length w → m ≡ n + length w → take m all ≡ pre ++ w
    → pre ++ take k w ≡ take (n + k) all
taken_of all pre w n k m size few long is =
    let rest : n + k - length pre ≡ k = omega (arith, size) in
    ap (λ u. u ++ take k w) (sym (take_all (n + k) pre (omega (arith, size))))
    ∙ ap (λ j. take (n + k) pre ++ take j w) (sym rest)
    ∙ sym (take-append pre w (n + k))
    ∙ ap (take (n + k)) (sym is)
    ∙ take-take (n + k) m all (omega (arith, few, long))

-- After the first n bytes, which are of the first i slices, the bytes w were offered: those of the next four slices.
pub record Offers (s : Stored) (xs : List Slice) (i most n : ℕ) (w : List ℕ) : Type 0 where
  pub long : n + length w ≡ min most (byte_len (take (i + 4) xs))
  pub taken : (k : ℕ) → k ≤ length w → take n (all_of s xs) ++ take k w ≡ take (n + k) (all_of s xs)

pub offers : (s : Stored) (xs : List Slice) (i most n l l1 l2 l3 : ℕ) (a b c d : List ℕ)
    → n ≡ min most (byte_len (take i xs)) → l + n ≡ most
    → a ≡ part_of s xs i l → l1 + length a ≡ l → b ≡ part_of s xs (i + 1) l1 → l2 + length b ≡ l1
    → c ≡ part_of s xs (i + 2) l2 → l3 + length c ≡ l2 → d ≡ part_of s xs (i + 3) l3
    → Offers s xs i most n (a ++ b ++ c ++ d)
offers s xs i most n l l1 l2 l3 a b c d full room first room1 second room2 third room3 fourth =
    let all : List ℕ = all_of s xs in
    let pre : List ℕ = take n all in
    let w : List ℕ = a ++ b ++ c ++ d in
    let size : length pre ≡ n = omega (arith, length-take n all, length-all_of s xs, full, byte_len-take-le xs i) in
    let one : pre ++ a ≡ take most (all_of s (take (i + 1) xs)) =
    next_part s xs i (i + 1) most l pre a refl (prefix_as s xs i most n full) first (omega (arith, room, size)) in
    let size1 : length (pre ++ a) ≡ n + length a = omega (arith, length-append pre a, size) in
    let two : (pre ++ a) ++ b ≡ take most (all_of s (take (i + 2) xs)) =
    next_part s xs (i + 1) (i + 2) most l1 (pre ++ a) b (omega arith) one second
    (omega (arith, room, room1, size1)) in
    let size2 : length ((pre ++ a) ++ b) ≡ n + length a + length b = omega (arith, length-append (pre ++ a) b, size1) in
    let three : ((pre ++ a) ++ b) ++ c ≡ take most (all_of s (take (i + 3) xs)) =
    next_part s xs (i + 2) (i + 3) most l2 ((pre ++ a) ++ b) c (omega arith) two third
    (omega (arith, room, room1, room2, size2)) in
    let size3 : length (((pre ++ a) ++ b) ++ c) ≡ n + length a + length b + length c =
    omega (arith, length-append ((pre ++ a) ++ b) c, size2) in
    let four : (((pre ++ a) ++ b) ++ c) ++ d ≡ take most (all_of s (take (i + 4) xs)) =
    next_part s xs (i + 3) (i + 4) most l3 (((pre ++ a) ++ b) ++ c) d (omega arith) three fourth
    (omega (arith, room, room1, room2, room3, size3)) in
    let whole : pre ++ w ≡ take most (all_of s (take (i + 4) xs)) =
    sym (append_assoc pre (a ++ b ++ c) d)
    ∙ ap (λ u. u ++ d) (sym (append_assoc pre (a ++ b) c) ∙ ap (λ u. u ++ c) (sym (append_assoc pre a b)))
    ∙ four in
    let long : n + length w ≡ min most (byte_len (take (i + 4) xs)) =
    omega (
      arith,
      ap length whole,
      length-append pre w,
      size,
      length-take most (all_of s (take (i + 4) xs)),
      length-all_of s (take (i + 4) xs),
    ) in
    record {
      long = long;
      taken =
          λ k few. taken_of all pre w n k (n + length w) size few refl (prefix_as s xs (i + 4) most (n + length w) long
          ∙ sym whole);
    }

pub four_long : (a b c d : List ℕ) → length (a ++ b ++ c ++ d) ≡ length a + length b + length c + length d
four_long a b c d = omega (arith, length-append a b, length-append (a ++ b) c, length-append (a ++ b ++ c) d)

-- There are more slices.

pub some_left : (xs : List Slice) (i : ℕ) → byte_len (take i xs) < byte_len xs → i < length xs
some_left [] zero h = absurd (omega (arith, h))
some_left [] (suc i) h = absurd (omega (arith, h))
some_left (x ∷ xs) zero h = omega arith
some_left (x ∷ xs) (suc i) h = let rest =
    some_left xs i (omega (arith, h, byte_len-cons x (take i xs), byte_len-cons x xs)) in omega (arith, rest)

-- the slices after the first i have bytes
pub next_some : (xs : List Slice) (i j : ℕ) → i < j → i < length xs → byte_len (take i xs) < byte_len (take j xs)
next_some xs i zero more there = absurd (omega (arith, more))
next_some [] i (suc j) more there = absurd (omega (arith, there))
next_some (x ∷ xs) zero (suc j) more there = omega (arith, byte_len-cons x (take j xs), x.some)
next_some (x ∷ xs) (suc i) (suc j) more there =
    let rest = next_some xs i j (omega (arith, more)) (omega (arith, there)) in
    omega (arith, rest, byte_len-cons x (take i xs), byte_len-cons x (take j xs))

pub slices_few : (xs : List Slice) → length xs ≤ byte_len xs
slices_few [] = omega arith
slices_few (x ∷ xs) = omega (arith, slices_few xs, byte_len-cons x xs, x.some)

-- If bytes are left to be offered, there is another slice, and its index is small.

pub slice_left : (xs : List Slice) (i n most max : ℕ) → most ≡ min (byte_len xs) max
    → n ≡ min most (byte_len (take i xs)) → n < most → i < length xs
slice_left xs i n most max all full more = some_left xs i (omega (arith, all, full, more))

pub slice_near : (xs : List Slice) (i n most max : ℕ) → most ≡ min (byte_len xs) max
    → n ≡ min most (byte_len (take i xs)) → n < most → i < byte_len xs
slice_near xs i n most max all full more = omega (arith, slice_left xs i n most max all full more, slices_few xs)
