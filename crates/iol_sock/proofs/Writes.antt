-- The first bytes of slices, written one slice after another.
use Rattle.std.proofs.Common.{◌≡◌, ℕ, ◌+◌, ◌-◌, ◌<◌, ◌≤◌, min, Option, List, ◌∷◌, ◌++◌, length, get_or, map, take, drop}
use Rattle.std.proofs.Common.{sym, ap, subst, ◌∙◌, arith}
use Rattle.std.proofs.Math.Seq.{take-add}
use Rattle.std.proofs.lemmas.List.{length-take, take-append-drop, drop_at, drop-map, map-append, take-append-le}
use Rattle.std.proofs.lemmas.List.{take-take, at_drop_more}
use Rattle.std.proofs.KnownBytes.{Appends-trans}
use Rattle.std.specs.Io.KnownBytes.{Appends}
use Rattle.iol_core.specs.Text.{bytes_of}
use Rattle.iol_hold.specs.StoreState.{Stored}
use Rattle.iol_hold.specs.Places.{slice_places, places, byte_len}
use Rattle.iol_hold.specs.Texts.{byte_at, slice_bytes, text_of, AllReadable, IsReadable}
use Rattle.iol_hold.specs.declared.slices.Slice.{Slice}
use Rattle.iol_hold.proofs.ReadSlices.{text_of-slice, bytes_of-labelled}
use Rattle.iol_hold.proofs.SlicePlaces.{places-append, byte_len-take_more, byte_len-take-le}
use Rattle.iol_sum.proofs.PieceSums.{length-slice_bytes, readable-item}

-- the bytes from the i-th slice on
rest_of : (s : Stored) (xs : List Slice) (i n : ℕ) → n ≡ byte_len (take i xs)
    → drop n (bytes_of (text_of s xs)) ≡ bytes_of (text_of s (drop i xs))
rest_of s xs i n e =
    let whole : places xs ≡ places (take i xs) ++ places (drop i xs) = ap places (sym (take-append-drop i xs))
    ∙ places-append (take i xs) (drop i xs) in
    drop-map (λ (b : ℕ × ℕ). b.0) n (text_of s xs)
    ∙ ap bytes_of (drop-map (byte_at s) n (places xs))
    ∙ ap (λ ps. bytes_of (map (byte_at s) (drop n ps))) whole
    ∙ ap (λ ps. bytes_of (map (byte_at s) ps)) (drop_at (places (take i xs)) (places (drop i xs)) n (sym e))

-- they begin with those of that slice
begins : (s : Stored) (xs : List Slice) (i : ℕ) (x : Slice) → i < length xs → x ≡ get_or xs i x → IsReadable s x
    → bytes_of (text_of s (drop i xs)) ≡ slice_bytes s x ++ bytes_of (text_of s (drop (i + 1) xs))
begins s xs i x h e readable =
    let rest : List Slice = drop (i + 1) xs in
    at_drop_more (λ ys. bytes_of (text_of s ys)) xs i x h
    ∙ ap (λ y. bytes_of (text_of s (y ∷ rest))) (sym e)
    ∙ ap bytes_of (map-append (byte_at s) (slice_places x) (places rest))
    ∙ map-append (λ (b : ℕ × ℕ). b.0) (map (byte_at s) (slice_places x)) (text_of s rest)
    ∙ ap (λ w. w ++ bytes_of (text_of s rest)) (ap bytes_of (text_of-slice s x readable)
    ∙ bytes_of-labelled x.hold.pool (slice_bytes s x))

-- n bytes were written before the i-th slice, and k of len bytes of it
pub more_written : (s : Stored) (xs : List Slice) (i n len k : ℕ) (x : Slice) → i < length xs → x ≡ get_or xs i x
    → IsReadable s x → n ≡ byte_len (take i xs) → k ≤ len → len ≤ x.len
    → take (n + k) (bytes_of (text_of s xs)) ≡ take n (bytes_of (text_of s xs)) ++ take k (take len (slice_bytes s x))
more_written s xs i n len k x h e readable before few within =
    let all : List ℕ = bytes_of (text_of s xs) in
    let rest : List ℕ = bytes_of (text_of s (drop (i + 1) xs)) in
    take-add n k all
    ∙ ap (λ w. take n all ++ take k w) (rest_of s xs i n before ∙ begins s xs i x h e readable)
    ∙ ap (λ w. take n all ++ w) (take-append-le k (slice_bytes s x) rest (omega (arith, length-slice_bytes x readable))
    ∙ sym (take-take k len (slice_bytes s x) few))

-- k more bytes were written, of bytes in one piece
pub more_of : (bs : List ℕ) (n k : ℕ) → k ≤ length bs - n
    → take (n + k) bs ≡ take n bs ++ take k (take (length bs - n) (drop n bs))
more_of bs n k h = take-add n k bs ∙ ap (λ w. take n bs ++ w) (sym (take-take k (length bs - n) (drop n bs) h))

-- n bytes were written. Of the i-th slice, `len` bytes are offered and k are taken, and the writer's contents change
-- from a to c.
pub record Takes (s : Stored) (xs : List Slice) (i n max len k : ℕ) (a c : Option (List ℕ)) : Type 0 where
  pub few : k ≤ len
  pub within : n + len ≤ min max (byte_len xs)
  pub whole : n + len ≡ min max (byte_len (take (i + 1) xs))
  pub some : 0 < len
  pub written : Appends a c (take (n + k) (bytes_of (text_of s xs)))

pub takes : (s : Stored) (xs : List Slice) (i n max len k : ℕ) (x : Slice) (bs : List ℕ) (a b c : Option (List ℕ))
    → i < length xs → x ≡ get_or xs i x → AllReadable s xs → n ≡ min max (byte_len (take i xs)) → n < max
    → len ≡ min x.len (max - n) → bs ≡ slice_bytes s x → k ≤ length (take len bs)
    → Appends a b (take n (bytes_of (text_of s xs))) → Appends b c (take k (take len bs)) → Takes s xs i n max len k a c
takes s xs i n max len k x bs a b c there is readable full more offered same taken before after =
    let few : k ≤ len = omega (arith, taken, length-take len bs) in
    let upto : byte_len (take (i + 1) xs) ≡ byte_len (take i xs) + x.len = byte_len-take_more xs i x there is in
    let parts =
    more_written s xs i n len k x there is (readable-item xs i x there is readable) (omega (arith, full, more)) few
    (omega (arith, offered)) in
    record {
      few = few;
      within = omega (arith, full, more, offered, upto, byte_len-take-le xs (i + 1));
      whole = omega (arith, full, more, offered, upto);
      some = omega (arith, more, offered, x.some);
      written =
          subst (λ w. Appends a c w) (sym parts)
          (Appends-trans a b c (take n (bytes_of (text_of s xs))) (take k (take len (slice_bytes s x))) before
          (subst (λ w. Appends b c (take k (take len w))) same after));
    }
