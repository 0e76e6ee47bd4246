-- The addresses of the bytes of parts are those of the bytes of slices.
use Rattle.std.proofs.Common.{◌≡◌, ℕ, zero, suc, ◌+◌, ◌-◌, ◌*◌, List, [], ◌∷◌, ◌++◌, map, length, drop, refl, sym, ap}
use Rattle.std.proofs.Common.{◌∙◌, arith}
use Rattle.std.specs.Borrow.{u8}
use Rattle.std.specs.List.{flat_map, range_with_len}
use Rattle.std.specs.Ptr.{Ptr, block_ptr, null_ptr, ptr_add}
use Rattle.std.proofs.lemmas.List.{length-drop, length-take-le, map-append}
use Rattle.iol_arena.specs.Buffers.{bytes_of}
use Rattle.iol_hold.specs.Addresses.{address_at, located_slice, spread}
use Rattle.iol_hold.specs.Places.{place_in, places, slice_places}
use Rattle.iol_hold.specs.StoreState.{Stored}
use Rattle.iol_hold.specs.Texts.{AllReadable, IsReadable, slice_bytes}
use Rattle.iol_hold.specs.declared.slices.Slice.{Slice}
use Rattle.iol_hold.proofs.ReadSlices.{readable_first, readable_later}
use Rattle.iol_agg.specs.Parts.{located_parts}

added : (i n : ℕ) (p : Ptr) → ptr_add u8 i (ptr_add u8 n p) ≡ ptr_add u8 (n + i) p
added i n (block_ptr b o) =
    let same : i * 1 + (n * 1 + o) ≡ (n + i) * 1 + o = omega arith in
    ap (λ k. block_ptr b k) same
added i n null_ptr = refl

-- the addresses of bytes from a place on, by their distances from another place
from_place : (k from a n : ℕ) (base : Ptr) → map (λ i. ptr_add u8 i (ptr_add u8 (k + from) base)) (range_with_len a n)
    ≡ map (λ j. ptr_add u8 (k + j) base) (range_with_len (from + a) n)
from_place k from a zero base = refl
from_place k from a (suc n) base =
    let same : k + from + a ≡ k + (from + a) = omega arith in
    let next : from + (a + 1) ≡ from + a + 1 = omega arith in
    let first = added a (k + from) base ∙ ap (λ m. ptr_add u8 m base) same in
    let rest = from_place k from (a + 1) n base
    ∙ ap (λ m. map (λ j. ptr_add u8 (k + j) base) (range_with_len m n)) next in
    λ i. first i ∷ rest i

placed : (s : Stored) (x : Slice) (a n : ℕ) → map (address_at s) (map (place_in x) (range_with_len a n))
    ≡ map (λ j. ptr_add u8 (x.hold.buf.page * 4096 + j) s.arena.base) (range_with_len a n)
placed s x a zero = refl
placed s x a (suc n) = ap (λ l. ptr_add u8 (x.hold.buf.page * 4096 + a) s.arena.base ∷ l) (placed s x (a + 1) n)

spread_slice : (s : Stored) (x : Slice) → IsReadable s x
    → spread (located_slice s x) ≡ map (address_at s) (slice_places x)
spread_slice s x h =
    let bytes = bytes_of s.arena x.hold.buf in
    let k : ℕ = x.hold.buf.page * 4096 in
    let base = s.arena.base in
    let size : x.from + x.len - x.from ≡ x.len = omega arith in
    let start : x.from + 0 ≡ x.from = omega arith in
    let fits = h.within in
    let long : length (slice_bytes s x) ≡ x.len =
    length-take-le (x.from + x.len - x.from) (drop x.from bytes) (omega (arith, length-drop x.from bytes)) ∙ size in
    ap (λ n. map (λ i. ptr_add u8 i (ptr_add u8 (k + x.from) base)) (range_with_len 0 n)) long
    ∙ from_place k x.from 0 x.len base
    ∙ ap (λ a. map (λ j. ptr_add u8 (k + j) base) (range_with_len a x.len)) start
    ∙ sym (placed s x x.from x.len)

pub spread_parts : (s : Stored) (xs : List Slice) → AllReadable s xs
    → flat_map spread (located_parts s xs) ≡ map (address_at s) (places xs)
spread_parts s [] h = refl
spread_parts s (x ∷ xs) h =
    ap (λ l. l ++ flat_map spread (located_parts s xs)) (spread_slice s x (readable_first x xs h))
    ∙ ap (λ l. map (address_at s) (slice_places x) ++ l) (spread_parts s xs (readable_later x xs h))
    ∙ sym (map-append (address_at s) (slice_places x) (places xs))
