-- The first bytes of a queue, copied one slice after another.
use Rattle.std.proofs.Common.{◌≡◌, ℕ, zero, suc, ◌+◌, ◌-◌, ◌<◌, ◌≤◌, ◌&&◌, Bool, true, false, cond, min, List, [], ◌∷◌}
use Rattle.std.proofs.Common.{◌++◌, length, get_or, map, take, drop, refl, sym, ap, subst, ◌∙◌, arith, length-append}
use Rattle.std.specs.List.{take_while, list_all}
use Rattle.std.proofs.Math.Seq.{take-add}
use Rattle.std.proofs.lemmas.Grind.{common_steps}
use Rattle.std.proofs.lemmas.List.{take-append-drop, take_at, drop_at, drop-drop, drop-map, map-append, take-append-le}
use Rattle.std.proofs.lemmas.List.{at_drop_more, at_drop_all, length-take, length-take-le, length-drop, length-map}
use Rattle.std.proofs.lemmas.List.Sums.{take_while-cons}
use Rattle.iol_core.specs.Text.{bytes_of}
use Rattle.iol_core.proofs.TestedLists.{list_all-take}
use Rattle.iol_arena.specs.Buffers as arena
use Rattle.iol_hold.specs.StoreState.{Stored}
use Rattle.iol_hold.specs.Places.{Place, place_in, slice_places, places, byte_len}
use Rattle.iol_hold.specs.Texts.{byte_at, slice_bytes, text_of, IsReadable, AllReadable}
use Rattle.iol_hold.specs.declared.slices.Slice.{Slice}
use Rattle.iol_hold.proofs.ReadSlices.{readable_first, readable_later, text_of-slice, bytes_of-labelled, length-text_of}
use Rattle.iol_hold.proofs.SlicePlaces.{length-slice_places, places-append, byte_len-take_more, byte_len-take-le}
use Rattle.iol_pool.specs.Pools.{Pool, names_in}
use Rattle.iol_pipe.specs.Queue.{may_see}
use Rattle.iol_pipe.proofs.Prefixes.{take-append, take_while_none}

-- a slice of a queue

readable-at : {s : Stored} (xs : List Slice) (i : ℕ) (x : Slice) → i < length xs → AllReadable s xs
    → IsReadable s (get_or xs i x)
readable-at [] i x l h = absurd (omega arith)
readable-at (y ∷ xs) zero x l h = readable_first y xs h
readable-at (y ∷ xs) (suc i) x l h = readable-at xs i x (omega arith) (readable_later y xs h)

pub readable-item : {s : Stored} (xs : List Slice) (i : ℕ) (x : Slice) → i < length xs → x ≡ get_or xs i x
    → AllReadable s xs → IsReadable s x
readable-item {s} xs i x l e h = subst (IsReadable s) (sym e) (readable-at xs i x l h)

pub length-slice_bytes : {s : Stored} (x : Slice) → IsReadable s x → length (slice_bytes s x) ≡ x.len
length-slice_bytes {s} x h =
    let size : x.from + x.len - x.from ≡ x.len = omega arith in
    let fits = h.within in
    length-take-le (x.from + x.len - x.from) (drop x.from (arena.bytes_of s.arena x.hold.buf))
    (omega (arith, length-drop x.from (arena.bytes_of s.arena x.hold.buf))) ∙ size

-- The number of bytes that the domain may read.

named : (ps : List Pool) (d : ℕ) (x : Slice) (js : List ℕ) → names_in ps x.hold.pool d ≡ true
    → list_all (may_see ps d) (map (place_in x) js) ≡ true
named ps d x [] listed = refl
named ps d x (j ∷ js) listed = ap (λ b. b && list_all (may_see ps d) (map (place_in x) js)) listed
    ∙ named ps d x js listed

all_kept : {A : Type 0} (p : A → Bool) (xs t : List A) → list_all p xs ≡ true
    → take_while p (xs ++ t) ≡ xs ++ take_while p t
all_kept p [] t all = refl
all_kept p (x ∷ xs) t all =
    let here : p x ≡ true = grind (arith, common_steps, all) in
    let later : list_all p xs ≡ true = grind (arith, common_steps, all) in
    take_while-cons p x (xs ++ t) ∙ ap (λ b. cond b (x ∷ take_while p (xs ++ t)) []) here
    ∙ ap (λ u. x ∷ u) (all_kept p xs t later)

-- of the first `left` bytes from the i-th slice on
abbrev pub seen : List Pool → (d : ℕ) → List Slice → (i left : ℕ) → ℕ
seen ps d xs i left = length (take_while (may_see ps d) (take left (places (drop i xs))))

none_left : (ps : List Pool) (d left : ℕ) → length (take_while (may_see ps d) (take left [])) ≡ 0
none_left ps d zero = refl
none_left ps d (suc left) = refl

pub seen_end : (ps : List Pool) (d : ℕ) (xs : List Slice) (i left : ℕ) → length xs ≤ i → seen ps d xs i left ≡ 0
seen_end ps d xs i left end = at_drop_all (λ ys. length (take_while (may_see ps d) (take left (places ys)))) xs i end
    ∙ none_left ps d left

pub seen_full : (ps : List Pool) (d : ℕ) (xs : List Slice) (i left : ℕ) → left ≡ 0 → seen ps d xs i left ≡ 0
seen_full ps d xs i left none = ap (λ n. length (take_while (may_see ps d) (take n (places (drop i xs))))) none

module _ (ps : List Pool) (d : ℕ) (xs : List Slice) (i left : ℕ) (x : Slice) (there : i < length xs)
    (is : x ≡ get_or xs i x) where
  abbrev after : List Place
  after = places (drop (i + 1) xs)

  begun : take left (places (drop i xs)) ≡ take left (slice_places x ++ after)
  begun = at_drop_more (λ ys. take left (places ys)) xs i x there
      ∙ ap (λ y. take left (slice_places y ++ after)) (sym is)

  pub seen_barred : 0 < left → names_in ps x.hold.pool d ≡ false → seen ps d xs i left ≡ 0
  seen_barred some barred = ap (λ t. length (take_while (may_see ps d) t)) begun
      ∙ ap length (take_while_none (λ p. names_in ps p d) (x ∷ drop (i + 1) xs) x left (omega arith) refl some barred)

  pub seen_more : (len : ℕ) → len ≡ min x.len left → names_in ps x.hold.pool d ≡ true
      → seen ps d xs i left ≡ len + seen ps d xs (i + 1) (left - len)
  seen_more len offered listed =
      let first : List Place = take left (slice_places x) in
      let all : list_all (may_see ps d) first ≡ true =
      list_all-take (may_see ps d) left (slice_places x) (named ps d x _ listed) in
      let long : length (slice_places x) ≡ x.len = length-slice_places x in
      let count : length first ≡ len = omega (arith, long, offered, length-take left (slice_places x)) in
      let rest : left - length (slice_places x) ≡ left - len = omega (arith, long, offered) in
      ap (λ t. length (take_while (may_see ps d) t)) (begun ∙ take-append (slice_places x) after left)
      ∙ ap length (all_kept (may_see ps d) first (take (left - length (slice_places x)) after) all)
      ∙ length-append first (take_while (may_see ps d) (take (left - length (slice_places x)) after))
      ∙ ap (λ k. k + length (take_while (may_see ps d) (take (left - length (slice_places x)) after))) count
      ∙ ap (λ k. len + length (take_while (may_see ps d) (take k after))) rest

-- The bytes that were copied.

abbrev pub all_bytes : Stored → List Slice → List ℕ
all_bytes s xs = bytes_of (text_of s xs)

pub length-all_bytes : (s : Stored) (xs : List Slice) → length (all_bytes s xs) ≡ byte_len xs
length-all_bytes s xs = length-map (text_of s xs) (λ (b : ℕ × ℕ). b.0) ∙ length-text_of s xs

rest_of : (s : Stored) (xs : List Slice) (i n : ℕ) → n ≡ byte_len (take i xs)
    → drop n (all_bytes s xs) ≡ all_bytes s (drop i xs)
rest_of s xs i n e =
    let whole : places xs ≡ places (take i xs) ++ places (drop i xs) = ap places (sym (take-append-drop i xs))
    ∙ places-append (take i xs) (drop i xs) in
    drop-map (λ (b : ℕ × ℕ). b.0) n (text_of s xs)
    ∙ ap bytes_of (drop-map (byte_at s) n (places xs))
    ∙ ap (λ ps. bytes_of (map (byte_at s) (drop n ps))) whole
    ∙ ap (λ ps. bytes_of (map (byte_at s) ps)) (drop_at (places (take i xs)) (places (drop i xs)) n (sym e))

begins : (s : Stored) (xs : List Slice) (i : ℕ) (x : Slice) → i < length xs → x ≡ get_or xs i x → IsReadable s x
    → all_bytes s (drop i xs) ≡ slice_bytes s x ++ all_bytes s (drop (i + 1) xs)
begins s xs i x h e readable =
    let rest : List Slice = drop (i + 1) xs in
    at_drop_more (λ ys. all_bytes s ys) xs i x h
    ∙ ap (λ y. all_bytes s (y ∷ rest)) (sym e)
    ∙ ap bytes_of (map-append (byte_at s) (slice_places x) (places rest))
    ∙ map-append (λ (b : ℕ × ℕ). b.0) (map (byte_at s) (slice_places x)) (text_of s rest)
    ∙ ap (λ w. w ++ all_bytes s rest) (ap bytes_of (text_of-slice s x readable)
    ∙ bytes_of-labelled x.hold.pool (slice_bytes s x))

-- n bytes before the i-th slice, and `len` bytes of it
more_bytes : (s : Stored) (xs : List Slice) (i n len : ℕ) (x : Slice) → i < length xs → x ≡ get_or xs i x
    → IsReadable s x → n ≡ byte_len (take i xs) → len ≤ x.len
    → take (n + len) (all_bytes s xs) ≡ take n (all_bytes s xs) ++ take len (slice_bytes s x)
more_bytes s xs i n len x h e readable before within =
    let all : List ℕ = all_bytes s xs in
    take-add n len all
    ∙ ap (λ w. take n all ++ take len w) (rest_of s xs i n before ∙ begins s xs i x h e readable)
    ∙ ap (λ w. take n all ++ w)
    (take-append-le len (slice_bytes s x) (all_bytes s (drop (i + 1) xs))
    (omega (arith, length-slice_bytes x readable)))

-- bytes are written after those that are already there
put_more : (all old into piece : List ℕ) (at : ℕ) → at ≤ length all → into ≡ take at all ++ drop at old
    → take (at + length piece) all ≡ take at all ++ piece
    → take at into ++ piece ++ drop (at + length piece) into ≡ take (at + length piece) all
    ++ drop (at + length piece) old
put_more all old into piece at within is more =
    let front : length (take at all) ≡ at = length-take-le at all within in
    let first : take at into ≡ take at all = ap (take at) is ∙ take_at (take at all) (drop at old) at front in
    let behind : drop at into ≡ drop at old = ap (drop at) is ∙ drop_at (take at all) (drop at old) at front in
    let last : drop (at + length piece) into ≡ drop (at + length piece) old = sym (drop-drop (length piece) at into)
    ∙ ap (drop (length piece)) behind ∙ drop-drop (length piece) at old in
    ap (λ w. w ++ piece ++ drop (at + length piece) into) first
    ∙ ap (λ w. take at all ++ piece ++ w) last
    ∙ ap (λ w. w ++ drop (at + length piece) old) (sym more)

module _ (s : Stored) (xs : List Slice) (i at n len : ℕ) (x : Slice) (there : i < length xs) (is : x ≡ get_or xs i x)
    (readable : IsReadable s x) (full : at ≡ min n (byte_len (take i xs))) (more : at < n)
    (offered : len ≡ min x.len (n - at)) where
  pub copied_full : at + len ≡ min n (byte_len (take (i + 1) xs))
  copied_full = omega (arith, full, more, offered, byte_len-take_more xs i x there is)

  pub copied_more : (old into new : List ℕ) → into ≡ take at (all_bytes s xs) ++ drop at old
      → new ≡ take at into ++ take len (slice_bytes s x) ++ drop (at + length (take len (slice_bytes s x))) into
      → new ≡ take (at + len) (all_bytes s xs) ++ drop (at + len) old
  copied_more old into new before put =
      let piece : List ℕ = take len (slice_bytes s x) in
      let size : length piece ≡ len =
      length-take-le len (slice_bytes s x) (omega (arith, offered, length-slice_bytes x readable)) in
      let bytes = more_bytes s xs i at len x there is readable (omega (arith, full, more)) (omega (arith, offered)) in
      put
      ∙ put_more (all_bytes s xs) old into piece at (omega (arith, full, length-all_bytes s xs, byte_len-take-le xs i))
      before (ap (λ k. take (at + k) (all_bytes s xs)) size ∙ bytes)
      ∙ ap (λ k. take (at + k) (all_bytes s xs) ++ drop (at + k) old) size
