-- Slices divided between two lists.
use Rattle.std.proofs.Common.{◌≡◌, ℕ, ◌+◌, ◌-◌, ◌<◌, ◌≤◌, List, [], ◌∷◌, ◌++◌, length, length-append, take, drop}
use Rattle.std.proofs.Common.{get_or, set, slice_range, sym, ap, ◌∙◌, arith, append-nil}
use Rattle.std.proofs.lemmas.List.{take-append-le, drop-append-le, take_rest, take-append-drop, length-take}
use Rattle.std.proofs.lemmas.List.{length-drop}
use Rattle.std.proofs.Math.Seq.{take-append-add, drop-append-add}
use Rattle.iol_hold.specs.StoreState.{Stored, count_of}
use Rattle.iol_hold.specs.Moves.{tally, Shares, Covers}
use Rattle.iol_hold.specs.Places.{slice_places, places, byte_len}
use Rattle.iol_hold.specs.Texts.{bufs_of}
use Rattle.iol_hold.specs.declared.slices.Slice.{Slice}
use Rattle.iol_hold.proofs.Counts.{tally-append, tally_none, tally-at, same_self, bufs-append, bufs-push}
use Rattle.iol_hold.proofs.SlicePlaces.{places-append, places-push, length-slice_places}
use Rattle.iol_agg.specs.Pours.{meeting}
use Rattle.iol_agg.proofs.Pours.{shares_beside}
use Rattle.iol_agg.proofs.RangeSlices.{meeting-drop, meeting-empty, meeting-front, meeting-rest, meeting-start}

-- the rest of a slice, from place n on
pub tail-cut : (x y tail : Slice) (n : ℕ) → slice_places y ≡ slice_places x
    → slice_places tail ≡ slice_range (slice_places y) n x.len → slice_places tail ≡ drop n (slice_places x)
tail-cut x y tail n same is =
    is ∙ ap (λ t. take (x.len - n) (drop n t)) same
    ∙ ap (λ m. take (m - n) (drop n (slice_places x))) (sym (length-slice_places x)) ∙ take_rest (slice_places x) n

pub covers_at : {s : Stored} (xs : List Slice) (i : ℕ) (x : Slice) → i < length xs → x ≡ get_or xs i x
    → Covers s (bufs_of xs) → 0 < count_of s x.hold.buf
covers_at xs i x h e c = omega (arith, c.each x.hold.buf, tally-at xs i x x.hold.buf h e, same_self x.hold.buf)

-- The first slice x of xs gives n of its bytes to another list, and y is what is left of it.

pub places-given : (fs xs : List Slice) (x part : Slice) (n : ℕ) → 0 < length xs → x ≡ get_or xs 0 x → n ≤ x.len
    → slice_places part ≡ take n (slice_places x) → places (fs ++ part ∷ []) ≡ places fs ++ take n (places xs)
places-given fs [] x part n h e k is = absurd (omega arith)
places-given fs (z ∷ zs) x part n h e k is =
    places-push fs part ∙ ap (λ t. places fs ++ t)
    (is ∙ sym (take-append-le n (slice_places x) (places zs) (omega (arith, length-slice_places x, k)))
    ∙ ap (λ w. take n (slice_places w ++ places zs)) e)

pub places-left : (xs : List Slice) (x y : Slice) (n : ℕ) → 0 < length xs → x ≡ get_or xs 0 x → n ≤ x.len
    → slice_places y ≡ drop n (slice_places x) → places (set xs 0 y) ≡ drop n (places xs)
places-left [] x y n h e k is = absurd (omega arith)
places-left (z ∷ zs) x y n h e k is =
    ap (λ t. t ++ places zs) is
    ∙ sym (drop-append-le n (slice_places x) (places zs) (omega (arith, length-slice_places x, k)))
    ∙ ap (λ w. drop n (slice_places w ++ places zs)) e

pub bufs-left : (xs : List Slice) (x y : Slice) → 0 < length xs → x ≡ get_or xs 0 x → y.hold.buf ≡ x.hold.buf
    → bufs_of (set xs 0 y) ≡ bufs_of xs
bufs-left [] x y h e is = absurd (omega arith)
bufs-left (z ∷ zs) x y h e is = ap (λ b. b ∷ bufs_of zs) (is ∙ ap (λ (w : Slice). w.hold.buf) e)

-- if n is 0, no slice meets the range
pub bufs-none : (fs xs : List Slice) (n : ℕ) → n ≡ 0 → bufs_of fs ≡ bufs_of fs ++ bufs_of (meeting 0 n xs)
bufs-none fs xs n e =
    sym (ap (λ m. bufs_of fs ++ bufs_of (meeting 0 m xs)) e ∙ ap (λ l. bufs_of fs ++ bufs_of l) (meeting-empty 0 xs)
    ∙ append-nil (bufs_of fs))

-- otherwise the first slice meets it
pub bufs-given : (fs xs : List Slice) (x part : Slice) (n : ℕ) → 0 < length xs → x ≡ get_or xs 0 x → 0 < n
    → n < (get_or xs 0 x).len → part.hold.buf ≡ x.hold.buf
    → bufs_of (fs ++ part ∷ []) ≡ bufs_of fs ++ bufs_of (meeting 0 n xs)
bufs-given fs [] x part n h e some k is = absurd (omega arith)
bufs-given fs (z ∷ zs) x part n h e some k is =
    let meets : meeting 0 n (z ∷ zs) ≡ z ∷ [] = meeting-start n z zs some (omega (arith, k)) in
    bufs-push fs part ∙ ap (λ b. bufs_of fs ++ b ∷ []) (is ∙ ap (λ (w : Slice). w.hold.buf) e)
    ∙ ap (λ l. bufs_of fs ++ bufs_of l) (sym meets)

pub shares-given : {s t : Stored} (fs xs : List Slice) (x y part : Slice) → 0 < length xs → x ≡ get_or xs 0 x
    → part.hold.buf ≡ x.hold.buf → y.hold.buf ≡ x.hold.buf → Shares s t [] (x.hold.buf ∷ [])
    → Shares s t (bufs_of fs ++ bufs_of xs) (bufs_of (fs ++ part ∷ []) ++ bufs_of (set xs 0 y))
shares-given fs xs x y part h e given left m =
    let one = x.hold.buf ∷ [] in
    let grown : bufs_of (fs ++ part ∷ []) ≡ bufs_of fs ++ one = bufs-push fs part
    ∙ ap (λ b. bufs_of fs ++ b ∷ []) given in
    shares_beside (bufs_of fs ++ bufs_of xs) (bufs_of (fs ++ part ∷ []) ++ bufs_of (set xs 0 y))
    (λ b. omega (
      arith,
      tally_none b,
      tally-append b (bufs_of fs) (bufs_of xs),
      tally-append b (bufs_of (fs ++ part ∷ [])) (bufs_of (set xs 0 y)),
      ap (tally b) grown,
      tally-append b (bufs_of fs) one,
      ap (tally b) (bufs-left xs x y h e left),
    ))
    m

-- Two lists: the first k slices, and the others.

pub bufs-halves : (xs : List Slice) (k : ℕ) → bufs_of (take k xs) ++ bufs_of (drop k xs) ≡ bufs_of xs
bufs-halves xs k = sym (bufs-append (take k xs) (drop k xs)) ∙ ap bufs_of (take-append-drop k xs)

places-halves : (xs : List Slice) (k : ℕ) → places xs ≡ places (take k xs) ++ places (drop k xs)
places-halves xs k = ap places (sym (take-append-drop k xs)) ∙ places-append (take k xs) (drop k xs)

-- and of the others the first r bytes
pub take-halves : (xs : List Slice) (k r at : ℕ) → byte_len (take k xs) + r ≡ at
    → places (take k xs) ++ take r (places (drop k xs)) ≡ take at (places xs)
take-halves xs k r at e =
    sym (take-append-add (places (take k xs)) (places (drop k xs)) r)
    ∙ ap (λ n. take n (places (take k xs) ++ places (drop k xs))) e ∙ ap (take at) (sym (places-halves xs k))

pub drop-halves : (xs : List Slice) (k r at : ℕ) → byte_len (take k xs) + r ≡ at
    → drop r (places (drop k xs)) ≡ drop at (places xs)
drop-halves xs k r at e =
    sym (drop-append-add (places (take k xs)) (places (drop k xs)) r)
    ∙ ap (λ n. drop n (places (take k xs) ++ places (drop k xs))) e ∙ ap (drop at) (sym (places-halves xs k))

-- the slices of these bytes: those that meet the range before the place, and those that meet the range from it on
pub bufs-before : (xs : List Slice) (k r at : ℕ) → byte_len (take k xs) + r ≡ at
    → bufs_of (take k xs) ++ bufs_of (meeting 0 r (drop k xs)) ≡ bufs_of (meeting 0 at xs)
bufs-before xs k r at e = sym (bufs-append (take k xs) (meeting 0 r (drop k xs)))
    ∙ ap bufs_of (meeting-front xs k r at e)

pub bufs-after : (xs : List Slice) (k r at : ℕ) → byte_len (take k xs) + r ≡ at → at ≤ byte_len xs
    → ((d : Slice) → 0 < r → r < (get_or (drop k xs) 0 d).len)
    → bufs_of (drop k xs) ≡ bufs_of (meeting at (byte_len xs) xs)
bufs-after xs k r at e h inside =
    let n : ℕ = byte_len xs - at in
    let all = ap length (places-halves xs k) ∙ length-append (places (take k xs)) (places (drop k xs)) in
    ap bufs_of (sym (meeting-rest (drop k xs) r (r + n) inside (omega (arith, all, e, h)))
    ∙ meeting-drop xs k r n at (byte_len xs) e (omega (arith, h)))

-- the number of bytes before the place
pub byte_len-taken : (xs ys : List Slice) (at : ℕ) → places ys ≡ take at (places xs) → at ≤ byte_len xs
    → at ≡ byte_len ys
byte_len-taken xs ys at e h = omega (arith, ap length e, length-take at (places xs), h)

pub byte_len-left : (xs ys : List Slice) (at : ℕ) → places ys ≡ drop at (places xs) → byte_len xs - at ≡ byte_len ys
byte_len-left xs ys at e = sym (ap length e ∙ length-drop at (places xs))
