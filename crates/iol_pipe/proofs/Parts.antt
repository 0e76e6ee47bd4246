-- The first parts of a queue, slice by slice.
use Rattle.std.proofs.Common.{◌≡◌, ℕ, zero, suc, ◌+◌, ◌-◌, ◌<◌, ◌≤◌, true, false, Option, None, List, [], ◌∷◌, ◌++◌}
use Rattle.std.proofs.Common.{map, length, take, drop, get_or, refl, sym, ap, ◌∙◌, arith, append_assoc, append-nil}
use Rattle.std.proofs.Common.{length-append}
use Rattle.std.specs.List.{flat_map, take_while}
use Rattle.std.proofs.lemmas.Bool.{false≢true}
use Rattle.std.proofs.lemmas.List.{take_all, take-take, length-take, map-append, take-append-drop, append_cancel_left}
use Rattle.std.proofs.lemmas.List.{at_drop_all, at_drop_more}
use Rattle.std.proofs.lemmas.List.Sums.{take_while-cons}
use Rattle.iol_hold.specs.Moves.{Shares}
use Rattle.iol_hold.specs.StoreState.{Stored}
use Rattle.iol_hold.specs.Texts.{bufs_of}
use Rattle.iol_hold.specs.declared.slices.Slice.{Slice}
use Rattle.iol_hold.specs.Places.{Place, slice_places, places, byte_len}
use Rattle.iol_hold.proofs.SlicePlaces.{length-slice_places, places-push, byte_len-cons, byte_len-push}
use Rattle.iol_pipe.specs.Queue.{TakesFirst, first_parts, names_given}
use Rattle.iol_pipe.proofs.Prefixes.{take-append, take_while_step, take_while_none}
use Rattle.iol_pipe.proofs.SharedHolds.{shares_start, shares_moved}

-- lists, one after another
joined : {A : Type 0} → List (List A) → List A
joined ps = flat_map (λ p. p) ps

take-none : {A : Type 0} (n : ℕ) → take n (let l : List A = [] in l) ≡ []
take-none zero = refl
take-none (suc n) = refl

joined-first_parts : {A : Type 0} (n : ℕ) (ps : List (List A)) → joined (first_parts n ps) ≡ take n (joined ps)
unfolding joined
joined-first_parts n [] = sym (take-none n)
joined-first_parts zero (p ∷ ps) = refl
joined-first_parts (suc n) (p ∷ ps) =
    ap (λ t. take (suc n) p ++ t) (joined-first_parts (suc n - length p) ps)
    ∙ sym (take-append p (joined ps) (suc n))

joined-places : (xs : List Slice) → joined (map slice_places xs) ≡ places xs
unfolding joined
joined-places [] = refl
joined-places (x ∷ xs) = ap (λ t. slice_places x ++ t) (joined-places xs)

-- slices that are the first parts have the first places
pub places-first_parts : (given old : List Slice) (n : ℕ)
    → map slice_places given ≡ first_parts n (map slice_places old) → places given ≡ take n (places old)
places-first_parts given old n e =
    sym (joined-places given) ∙ ap joined e ∙ joined-first_parts n (map slice_places old)
    ∙ ap (take n) (joined-places old)

-- Zero elements have no parts, whatever the lists.

pub first_parts-zero : {A : Type 0} (n : ℕ) (ps : List (List A)) → n ≡ 0 → first_parts n ps ≡ []
first_parts-zero n [] e = refl
first_parts-zero zero (p ∷ ps) e = refl
first_parts-zero (suc n) (p ∷ ps) e = absurd (omega arith)

-- there are no parts after the last slice
pub no_parts : (n i : ℕ) (xs : List Slice) → length xs ≤ i → first_parts n (map slice_places (drop i xs)) ≡ []
no_parts n i xs end = at_drop_all (λ ys. first_parts n (map slice_places ys)) xs i end

-- one whole slice

pub first_parts-whole : (x : Slice) (xs : List Slice) (n : ℕ) → x.len ≤ n
    → first_parts n (map slice_places (x ∷ xs)) ≡ slice_places x ∷ first_parts (n - x.len) (map slice_places xs)
first_parts-whole x xs zero h = absurd (omega (arith, x.some))
first_parts-whole x xs (suc n) h =
    let long = length-slice_places x in
    ap (λ p. p ∷ first_parts (suc n - length (slice_places x)) (map slice_places xs))
    (take_all (suc n) (slice_places x) (omega (arith, long)))
    ∙ ap (λ k. slice_places x ∷ first_parts (suc n - k) (map slice_places xs)) long

-- a part of the i-th slice, and the first parts of those after it
pub first_parts-step : (xs : List Slice) (i n : ℕ) (x a : Slice) → i < length xs → x ≡ get_or xs i x → 0 < n
    → slice_places a ≡ take n (slice_places x) → first_parts n (map slice_places (drop i xs)) ≡ slice_places a
    ∷ first_parts (n - a.len) (map slice_places (drop (i + 1) xs))
first_parts-step xs i zero x a h e some part = absurd (omega (arith, some))
first_parts-step xs i (suc n) x a h e some part =
    let after : List (List Place) = map slice_places (drop (i + 1) xs) in
    let rest : suc n - length (slice_places x) ≡ suc n - a.len =
    omega (
      arith,
      length-slice_places x,
      length-slice_places a,
      ap length part,
      length-take (suc n) (slice_places x),
    ) in
    at_drop_more (λ ys. first_parts (suc n) (map slice_places ys)) xs i x h
    ∙ ap (λ y. first_parts (suc n) (slice_places y ∷ after)) (sym e)
    ∙ ap (λ p. p ∷ first_parts (suc n - length (slice_places x)) after) (sym part)
    ∙ ap (λ k. slice_places a ∷ first_parts k after) rest

-- A part of the first slice, x.

pub first_parts-cut : (x a : Slice) (xs ys : List Slice) (n : ℕ) → n < x.len → 0 < n
    → slice_places a ≡ take n (slice_places x) → a.len ≡ n → first_parts n (map slice_places (x ∷ xs)) ≡ slice_places a
    ∷ first_parts (n - a.len) (map slice_places ys)
first_parts-cut x a xs ys zero h some part size = absurd (omega (arith, some))
first_parts-cut x a xs ys (suc n) h some part size =
    let over : suc n - length (slice_places x) ≡ 0 = omega (arith, length-slice_places x) in
    let none : suc n - a.len ≡ 0 = omega (arith, size) in
    ap (λ p. p ∷ first_parts (suc n - length (slice_places x)) (map slice_places xs)) (sym part)
    ∙ ap (λ t. slice_places a ∷ t) (first_parts-zero (suc n - length (slice_places x)) (map slice_places xs) over
    ∙ sym (first_parts-zero (suc n - a.len) (map slice_places ys) none))

-- The first n bytes, in parts.

first_parts-over : {A : Type 0} (p : List A) (ps : List (List A)) (n : ℕ) → 0 < length p → length p ≤ n
    → first_parts n (p ∷ ps) ≡ p ∷ first_parts (n - length p) ps
first_parts-over p ps zero some h = absurd (omega (arith, some, h))
first_parts-over p ps (suc n) some h = ap (λ q. q ∷ first_parts (suc n - length p) ps) (take_all (suc n) p h)

-- the first m of the first n elements, in parts
first_parts-first : {A : Type 0} (m n : ℕ) (ps : List (List A)) → m ≤ n
    → first_parts m (first_parts n ps) ≡ first_parts m ps
first_parts-first m n [] h = refl
first_parts-first zero zero (p ∷ ps) h = refl
first_parts-first zero (suc n) (p ∷ ps) h = refl
first_parts-first (suc m) zero (p ∷ ps) h = absurd (omega (arith, h))
first_parts-first (suc m) (suc n) (p ∷ ps) h =
    let left : suc m - length (take (suc n) p) ≡ suc m - length p = omega (arith, h, length-take (suc n) p) in
    ap (λ q. q ∷ first_parts (suc m - length (take (suc n) p)) (first_parts (suc n - length p) ps))
    (take-take (suc m) (suc n) p h)
    ∙ ap (λ k. take (suc m) p ∷ first_parts k (first_parts (suc n - length p) ps)) left
    ∙ ap (λ t. take (suc m) p ∷ t) (first_parts-first (suc m - length p) (suc n - length p) ps (omega (arith, h)))

-- whole slices are the first parts of themselves and others
first_parts-all : (xs : List Slice) (qs : List (List Place))
    → first_parts (byte_len xs) (map slice_places xs ++ qs) ≡ map slice_places xs
first_parts-all [] qs = first_parts-zero 0 qs refl
first_parts-all (x ∷ xs) qs =
    let long = length-slice_places x in
    let all = byte_len-cons x xs in
    first_parts-over (slice_places x) (map slice_places xs ++ qs) (byte_len (x ∷ xs)) (omega (arith, long, x.some))
    (omega (arith, long, all))
    ∙ ap (λ k. slice_places x ∷ first_parts k (map slice_places xs ++ qs))
    (let rest : byte_len (x ∷ xs) - length (slice_places x) ≡ byte_len xs = omega (arith, long, all) in rest)
    ∙ ap (λ t. slice_places x ∷ t) (first_parts-all xs qs)

-- slices that begin the first n bytes of a queue, in parts, begin the queue
parts_first : (n : ℕ) (old out : List Slice) (qs : List (List Place)) → byte_len out ≤ n
    → map slice_places out ++ qs ≡ first_parts n (map slice_places old)
    → map slice_places out ≡ first_parts (byte_len out) (map slice_places old)
parts_first n old out qs h e =
    sym (first_parts-all out qs)
    ∙ ap (first_parts (byte_len out)) e
    ∙ first_parts-first (byte_len out) n (map slice_places old) h

-- The slices taken so far, and the first parts of the rest.

pub record IsCutSoFar (n left : ℕ) (old out queue : List Slice) : Type 0 where
  pub parts : map slice_places out ++ first_parts left (map slice_places queue) ≡ first_parts n (map slice_places old)

pub cut_more : (n left : ℕ) (old out moved queue after : List Slice) (x : Slice) → IsCutSoFar n left old out queue
    → moved ≡ out ++ x ∷ [] → first_parts left (map slice_places queue) ≡ slice_places x
    ∷ first_parts (left - x.len) (map slice_places after) → IsCutSoFar n (left - x.len) old moved after
cut_more n left old out moved queue after x c pushed first =
    let rest : List (List Place) = first_parts (left - x.len) (map slice_places after) in
    record {
      parts = ap (λ ys. map slice_places ys ++ rest) pushed
          ∙ ap (λ t. t ++ rest) (map-append slice_places out (x ∷ []))
          ∙ append_assoc (map slice_places out) (slice_places x ∷ []) rest
          ∙ ap (λ t. map slice_places out ++ t) (sym first)
          ∙ c.parts;
    }

-- no more bytes are requested, or none is left
pub cut_end : (n left : ℕ) (old out queue : List Slice) → IsCutSoFar n left old out queue
    → first_parts left (map slice_places queue) ≡ [] → map slice_places out ≡ first_parts n (map slice_places old)
cut_end n left old out queue c none = sym (append-nil (map slice_places out))
    ∙ ap (λ t. map slice_places out ++ t) (sym none) ∙ c.parts

pub length-push : (out moved : List Slice) (x : Slice) → moved ≡ out ++ x ∷ [] → length moved ≡ length out + 1
length-push out moved x pushed = omega (arith, ap length pushed, length-append out (x ∷ []))

-- The slices that were taken from a queue so far: at most n bytes, of which `left` are still requested.
pub record IsTakenSoFar (s t : Stored) (old out queue : List Slice) (n left : ℕ) (d : Option ℕ) : Type 0 where
  pub taken : places out ++ take_while (λ (p : Place). names_given s.pools d p.pool) (take left (places queue))
      ≡ take_while (λ (p : Place). names_given s.pools d p.pool) (take n (places old))
  pub cut : IsCutSoFar n left old out queue
  pub count : byte_len out + left ≡ n
  pub fewer : length queue ≤ length old
  pub whole : places out ++ places queue ≡ places old
  pub shares : Shares s t (bufs_of old) (bufs_of out ++ bufs_of queue)

pub taken_none : (s : Stored) (old out : List Slice) (n : ℕ) (d : Option ℕ) → out ≡ []
    → IsTakenSoFar s s old out old n n d
taken_none s old out n d none = record {
  taken = ap (λ xs. places xs ++ take_while (λ (p : Place). names_given s.pools d p.pool) (take n (places old))) none;
  cut = record { parts = ap (λ xs. map slice_places xs ++ first_parts n (map slice_places old)) none };
  count = omega (arith, ap byte_len none);
  fewer = omega arith;
  whole = ap (λ xs. places xs ++ places old) none;
  shares = shares_start s old out none;
}

-- no further bytes are taken
pub taken_end : (s t : Stored) (old out queue : List Slice) (n left : ℕ) (d : Option ℕ)
    → IsTakenSoFar s t old out queue n left d → length out + length queue ≤ length old + 1
    → take_while (λ (p : Place). names_given s.pools d p.pool) (take left (places queue)) ≡ []
    → (d ≡ None → first_parts left (map slice_places queue) ≡ []) → TakesFirst s t old out queue n d
taken_end s t old out queue n left d so_far few none no_parts = record {
  taken = sym (append-nil (places out)) ∙ ap (λ t. places out ++ t) (sym none) ∙ so_far.taken;
  cut = λ all. cut_end n left old out queue so_far.cut (no_parts all);
  parts = parts_first n old out (first_parts left (map slice_places queue)) (omega (arith, so_far.count))
      so_far.cut.parts;
  few = few;
  left = so_far.fewer;
  whole = so_far.whole;
  shares = so_far.shares;
}

-- because no more are requested
pub taken_all : (s t : Stored) (old out queue : List Slice) (n left : ℕ) (d : Option ℕ)
    → IsTakenSoFar s t old out queue n left d → length out + length queue ≤ length old + 1 → left ≡ 0
    → TakesFirst s t old out queue n d
taken_all s t old out queue n left d so_far few none =
    taken_end s t old out queue n left d so_far few
    (ap (λ k. take_while (λ (p : Place). names_given s.pools d p.pool) (take k (places queue))) none)
    (λ all. first_parts-zero left (map slice_places queue) none)

-- because none are left
pub taken_empty : (s t : Stored) (old out queue : List Slice) (n left : ℕ) (d : Option ℕ)
    → IsTakenSoFar s t old out queue n left d → length out + length queue ≤ length old + 1 → (0 < length queue → ⊥)
    → TakesFirst s t old out queue n d
taken_empty s t old out [] n left d so_far few none =
    taken_end s t old out [] n left d so_far few
    (ap (take_while (λ (p : Place). names_given s.pools d p.pool)) (take-none left))
    (λ all. refl)
taken_empty s t old out (x ∷ xs) n left d so_far few none = absurd (none (omega arith))

-- since the next may not be seen
pub taken_barred : (s t : Stored) (old out queue : List Slice) (n left : ℕ) (d : Option ℕ) (x : Slice)
    → IsTakenSoFar s t old out queue n left d → length out + length queue ≤ length old + 1 → 0 < length queue
    → x ≡ get_or queue 0 x → 0 < left → names_given s.pools d x.hold.pool ≡ false → TakesFirst s t old out queue n d
taken_barred s t old out queue n left d x so_far few some is wanted barred =
    taken_end s t old out queue n left d so_far few
    (take_while_none (names_given s.pools d) queue x left some is wanted barred)
    (λ all. absurd (false≢true (sym barred ∙ ap (λ e. names_given s.pools e x.hold.pool) all)))

-- one slice more, or a part of one
pub taken_more : (s t u : Stored) (old out moved queue after : List Slice) (n left : ℕ) (d : Option ℕ) (x : Slice)
    → IsTakenSoFar s t old out queue n left d → moved ≡ out ++ x ∷ []
    → slice_places x ++ places after ≡ places queue → first_parts left (map slice_places queue) ≡ slice_places x
    ∷ first_parts (left - x.len) (map slice_places after) → x.len ≤ left
    → length after ≤ length queue → names_given s.pools d x.hold.pool ≡ true
    → Shares t u (bufs_of queue) (x.hold.buf ∷ bufs_of after) → IsTakenSoFar s u old moved after n (left - x.len) d
taken_more s t u old out moved queue after n left d x so_far pushed first parts fits fewer seen shares =
    let rest = take_while (λ (p : Place). names_given s.pools d p.pool) (take (left - x.len) (places after)) in
    let step = take_while_step (names_given s.pools d) x left (places queue) after first fits seen in
    record {
      taken = ap (λ xs. places xs ++ rest) pushed ∙ ap (λ t. t ++ rest) (places-push out x)
          ∙ append_assoc (places out) (slice_places x) rest ∙ ap (λ t. places out ++ t) (sym step) ∙ so_far.taken;
      cut = cut_more n left old out moved queue after x so_far.cut pushed parts;
      count = omega (arith, so_far.count, fits, ap byte_len pushed, byte_len-push out x);
      fewer = omega (arith, fewer, so_far.fewer);
      whole = ap (λ xs. places xs ++ places after) pushed ∙ ap (λ t. t ++ places after) (places-push out x)
          ∙ append_assoc (places out) (slice_places x) (places after) ∙ ap (λ t. places out ++ t) first ∙ so_far.whole;
      shares = shares_moved old out queue moved after x pushed so_far.shares shares;
    }

-- whoever reads, if no domain is given
pub take_while-any : (s : Stored) (qs : List Place) → take_while (λ (p : Place). names_given s.pools None p.pool) qs
    ≡ qs
take_while-any s [] = refl
take_while-any s (q ∷ qs) = take_while-cons (λ (p : Place). names_given s.pools None p.pool) q qs
    ∙ ap (λ t. q ∷ t) (take_while-any s qs)

-- the places after the first n
pub left_behind : (n : ℕ) (given new old : List Place) → given ++ new ≡ old → given ≡ take n old → new ≡ drop n old
left_behind n given new old whole first =
    append_cancel_left given new (drop n old) (whole ∙ sym (take-append-drop n old)
    ∙ ap (λ t. t ++ drop n old) (sym first))
