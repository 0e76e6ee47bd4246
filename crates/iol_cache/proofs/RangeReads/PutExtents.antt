-- Extents put in one after another.
use Rattle.std.proofs.Common.{inl, inr, ◌≡◌, ℕ, ◌+◌, ◌-◌, ◌<◌, ◌≤◌, Bool, true, false, cond, eqb, List, [], ◌∷◌, ◌++◌}
use Rattle.std.proofs.Common.{length, get_or, max, Option, Some, None, IsSome, refl, sym, ap, ◌∙◌, arith, subst}
use Rattle.std.specs.Prelude.{sum_by, nat_lt, not, ◌&&◌, slice_index, slice_range, drop}
use Rattle.std.specs.List.{All, AllZip, AllByRecursion}
use Rattle.std.proofs.lemmas.Bool.Decides.{nat_tests}
use Rattle.std.proofs.lemmas.List.{get_or-map, get_or-take, get_or-drop, length-take-le, length-drop}
use Rattle.std.proofs.lemmas.List.Elements.{All-head, All-tail}
use Rattle.std.proofs.lemmas.List.Sums.{sum_by-cons}
use Rattle.iol_hold.specs.Places.{places, byte_len}
use Rattle.iol_hold.specs.StoreState.{Stored}
use Rattle.iol_hold.specs.Texts.{byte_at}
use Rattle.iol_hold.specs.declared.slices.Slice.{Slice}
use Rattle.iol_extent.specs.Extents.{Extent, Cell, no_place, cover, cell_at, is_over, end_of, IsGap, Adds, last_end}
use Rattle.iol_extent.specs.Extents.{begins_at, put_in}
use Rattle.iol_extent.specs.Spans.{AreInOrder, IsGapSpan, LiesIn}
use Rattle.iol_extent.specs.declared.spans.Span.{Span}
use Rattle.iol_evict.specs.Order.{Ranking, entered}
use Rattle.iol_cache.specs.CacheState.{clean_at, begins_clean, entries_at, parts_in, all_parts}
use Rattle.iol_cache.specs.Contents.{file_byte, file_len, byte_in, read_or, IsStored, AreStored}
use Rattle.iol_cache.specs.Gaps as gaps
use Rattle.iol_cache.specs.Gaps.{all_put, IsMade}
use Rattle.iol_cache.specs.RangeReads.{parts_from, parts_of_spans, all_entered, AllBeginAt, AreAbsent}
use Rattle.iol_cache.proofs.Extents.FileEntries.{sum-put_in, each-put_in}
use Rattle.iol_cache.proofs.Extents.FewerExtents.{over_of, over_yes}
use Rattle.iol_cache.proofs.Evictions.Entries.{entered_entries}
use Rattle.iol_cache.proofs.RangeReads.FilledGaps.{gaps_left, order_wide}
use Rattle.iol_cache.proofs.RangeReads.TakenBack.{NoneBegins, Begin, none_beside, begins_at-beside, begins_at-put_in}

-- each of these extents has a byte, and its range is a gap when those before it were put in
unfoldable pub Fits : List Extent → List Extent → Type 0
Fits es [] = Unit {0}
Fits es (e ∷ made) = IsGap es e.at (end_of e) × (0 < byte_len e.parts) × Fits (put_in es e) made

pub cover-put_in : (es : List Extent) (e : Extent) (i : ℕ) → (is_over e i ≡ true → cover es i ≡ None)
    → cover (put_in es e) i ≡ cond (is_over e i) (Some (cell_at e i)) (cover es i)
cover-put_in [] e i none = refl
cover-put_in (x ∷ xs) e i none = here (nat_lt e.at x.at) (cover-put_in xs e i (λ o. later (is_over x i) (none o)))
  where
    later : (b : Bool) → cond b (Some (cell_at x i)) (cover xs i) ≡ None → cover xs i ≡ None
    later true h = cc
    later false h = h

    rest : (b c : Bool) → (c ≡ true → cond b (Some (cell_at x i)) (cover xs i) ≡ None)
        → cond b (Some (cell_at x i)) (cond c (Some (cell_at e i)) (cover xs i)) ≡ cond c (Some (cell_at e i))
        (cond b (Some (cell_at x i)) (cover xs i))
    rest true true h = absurd (some_none (h refl))
      where
        some_none : {c : Cell} → Some c ≡ None → ⊥
        some_none p = cc
    rest true false h = refl
    rest false c h = refl

    here : (b : Bool) → cover (put_in xs e) i ≡ cond (is_over e i) (Some (cell_at e i)) (cover xs i)
        → cover (cond b (e ∷ x ∷ xs) (x ∷ put_in xs e)) i ≡ cond (is_over e i) (Some (cell_at e i)) (cover (x ∷ xs) i)
    here true ih = refl
    here false ih = ap (cond (is_over x i) (Some (cell_at x i))) ih ∙ rest (is_over x i) (is_over e i) none

gap_over : (es : List Extent) (e : Extent) (i : ℕ) → IsGap es e.at (end_of e) → is_over e i ≡ true → cover es i ≡ None
gap_over es e i g o = (let b = over_of e i o in g.each i b.0 b.1)

pub cover-put : (es : List Extent) (e : Extent) (i : ℕ) → IsGap es e.at (end_of e)
    → cover (put_in es e) i ≡ cond (is_over e i) (Some (cell_at e i)) (cover es i)
cover-put es e i g = cover-put_in es e i (gap_over es e i g)

pub adds-put : (es : List Extent) (e : Extent) → IsGap es e.at (end_of e) → Adds es e (put_in es e)
adds-put es e g = record { each = λ i. cover-put es e i g }

-- the extents made for gaps fit
pub made_fits : (s t : Stored) (p low high : ℕ) (es : List Extent) (gs : List Span) (made : List Extent)
    → AreInOrder low high gs → All (IsGapSpan es) gs → AllZip (IsMade s t p) gs made → Fits es made
unfolding Fits
made_fits s t p low high es [] [] order all zip = tt
made_fits s t p low high es [] (e ∷ made) order all zip = absurd zip
made_fits s t p low high es (g ∷ gs) [] order all zip = absurd zip
made_fits s t p low high es (g ∷ gs) (e ∷ made) order all zip =
    let m = zip.0 in
    let first = All-head (IsGapSpan es) g gs all in
    let gap : IsGap es e.at (end_of e) =
    record { each = λ i l u. first.each i (omega (arith, l, m.begins)) (omega (arith, u, m.ends)) } in
    let next = subst (λ n. AreInOrder n high gs) (sym m.ends) order.2 in (
      gap,
      omega (arith, m.begins, m.ends, order.1),
      made_fits s t p (end_of e) high (put_in es e) gs made next
          (gaps_left es (put_in es e) e high gs next (All-tail (IsGapSpan es) g gs all) (adds-put es e gap)) zip.1,
    )

-- The extent over a byte.

some_over : (b : Bool) (c d : Cell) (o : Option Cell) → (b ≡ true → o ≡ None) → o ≡ Some d → cond b (Some c) o ≡ Some d
some_over true c d o none h = absurd (no_both (none refl) h)
  where
    no_both : {o : Option Cell} {d : Cell} → o ≡ None → o ≡ Some d → ⊥
    no_both p q = cc
some_over false c d o none h = h

pub cover-stays : (es made : List Extent) (i : ℕ) (c : Cell) → Fits es made → cover es i ≡ Some c
    → cover (all_put es made) i ≡ Some c
unfolding Fits all_put
cover-stays es [] i c fits h = h
cover-stays es (e ∷ made) i c fits h =
    cover-stays (put_in es e) made i c fits.2 (cover-put es e i fits.0
    ∙ some_over (is_over e i) (cell_at e i) c (cover es i) (gap_over es e i fits.0) h)

some_is : {o : Option Cell} {c : Cell} → o ≡ Some c → IsSome o
some_is {o} {c} h = subst IsSome (sym h) refl

is_some : (o : Option Cell) → IsSome o → (c : Cell) × (o ≡ Some c)
is_some None h = cc
is_some (Some c) h = (c, refl)

pub covered-stays : (es made : List Extent) (i : ℕ) → Fits es made → IsSome (cover es i)
    → IsSome (cover (all_put es made) i)
covered-stays es made i fits h = (let c = is_some (cover es i) h in some_is (cover-stays es made i c.0 fits c.1))

pub covered-made : (s t : Stored) (p : ℕ) (es : List Extent) (gs : List Span) (made : List Extent) (i : ℕ)
    → Fits es made → AllZip (IsMade s t p) gs made → LiesIn i gs → IsSome (cover (all_put es made) i)
unfolding Fits all_put
covered-made s t p es [] made i fits zip lies = absurd lies
covered-made s t p es (g ∷ gs) [] i fits zip lies = absurd zip
covered-made s t p es (g ∷ gs) (e ∷ made) i fits zip (inl here) =
    let over = over_yes e i (omega (arith, here.0, zip.0.begins)) (omega (arith, here.1, zip.0.ends)) in
    covered-stays (put_in es e) made i fits.2
    (some_is (cover-put es e i fits.0 ∙ ap (λ b. cond b (Some (cell_at e i)) (cover es i)) over))
covered-made s t p es (g ∷ gs) (e ∷ made) i fits zip (inr later) =
    covered-made s t p (put_in es e) gs made i fits.2 zip.1 later

-- Bytes.

-- the store has the bytes of the extent
pub record IsMirrored (s : Stored) (stored : List ℕ) (e : Extent) : Type 0 where
  pub within : end_of e ≤ length stored
  pub each : (i : ℕ) → is_over e i ≡ true → byte_in s (cell_at e i).place ≡ slice_index stored i

pub mirrored_is : (s : Stored) (p : ℕ) (stored : List ℕ) (e : Extent) → gaps.Mirrors s p stored e
    → IsMirrored s stored e
mirrored_is s p stored e m = record { within = m.within; each = λ i over. one i over }
  where
    long : length (slice_range stored e.at (end_of e)) ≡ byte_len e.parts
    long =
        omega
        (arith, length-take-le (end_of e - e.at) (drop e.at stored) (omega (arith, length-drop e.at stored, m.within)))

    one : (i : ℕ) → is_over e i ≡ true → byte_in s (cell_at e i).place ≡ slice_index stored i
    one i over =
        let b = over_of e i over in
        let k = i - e.at in
        let small : k < length (places e.parts) = omega (arith, b.0, b.1) in
        let q : ℕ × ℕ = (0, 0) in
        let read = get_or-map (byte_at s) (places e.parts) k no_place q small in
        let part = slice_range stored e.at (end_of e) in
        let lab = get_or-map (λ (x : ℕ). (x, p)) part k 0 q (omega (arith, long, small)) in
        let at : k + e.at ≡ i = omega (arith, b.0) in
        let size : k < end_of e - e.at = omega (arith, b.0, b.1) in
        let bytes : get_or part k 0 ≡ slice_index stored i = get_or-take (end_of e - e.at) (drop e.at stored) k 0 size
        ∙ get_or-drop e.at stored k 0 ∙ ap (λ n. get_or stored n 0) (let sum : e.at + k ≡ i = omega (arith, at) in
        sum) in
        ap (λ (y : ℕ × ℕ). y.0) (sym read ∙ ap (λ (l : List (ℕ × ℕ)). get_or l k q) m.is ∙ lab) ∙ bytes

put_byte : {s : Stored} (stored : List ℕ) (es : List Extent) (e : Extent) (i : ℕ) → IsGap es e.at (end_of e)
    → IsMirrored s stored e → file_byte (byte_in s) stored (put_in es e) i ≡ file_byte (byte_in s) stored es i
put_byte {s = s} stored es e i g m = ap (read_or (byte_in s) (slice_index stored i)) (cover-put es e i g)
    ∙ pick (is_over e i) refl
  where
    pick : (b : Bool) → is_over e i ≡ b
        → read_or (byte_in s) (slice_index stored i) (cond b (Some (cell_at e i)) (cover es i))
        ≡ read_or (byte_in s) (slice_index stored i) (cover es i)
    pick true over = m.each i over ∙ sym (ap (read_or (byte_in s) (slice_index stored i)) (gap_over es e i g over))
    pick false beside = refl

put_stored : (s : Stored) (stored : List ℕ) (es : List Extent) (e : Extent) (i : ℕ) → IsGap es e.at (end_of e)
    → IsMirrored s stored e → IsStored s stored i (cover es i) → IsStored s stored i (cover (put_in es e) i)
put_stored s stored es e i g m h = subst (IsStored s stored i) (sym (cover-put es e i g)) (pick (is_over e i) refl)
  where
    pick : (b : Bool) → is_over e i ≡ b → IsStored s stored i (cond b (Some (cell_at e i)) (cover es i))
    pick true over = λ clean. (omega (arith, m.within, (over_of e i over).1), m.each i over)
    pick false beside = h

pub last_end-put_in : (es : List Extent) (e : Extent) → last_end (put_in es e) ≡ max (end_of e) (last_end es)
last_end-put_in [] e = refl
last_end-put_in (x ∷ xs) e = here (nat_lt e.at x.at) (last_end-put_in xs e) where
  here : (b : Bool) → last_end (put_in xs e) ≡ max (end_of e) (last_end xs)
      → last_end (cond b (e ∷ x ∷ xs) (x ∷ put_in xs e)) ≡ max (end_of e) (max (end_of x) (last_end xs))
  here true ih = refl
  here false ih = omega (arith, ih)

pub all_byte : {s : Stored} (stored : List ℕ) (es made : List Extent) (i : ℕ) → Fits es made
    → All (IsMirrored s stored) made
    → file_byte (byte_in s) stored (all_put es made) i ≡ file_byte (byte_in s) stored es i
unfolding Fits all_put
all_byte stored es [] i fits all = refl
all_byte {s = s} stored es (e ∷ made) i fits all =
    all_byte stored (put_in es e) made i fits.2 (All-tail (IsMirrored s stored) e made all)
    ∙ put_byte stored es e i fits.0 (All-head (IsMirrored s stored) e made all)

pub all_stored : {s : Stored} (stored : List ℕ) (es made : List Extent) → Fits es made → All (IsMirrored s stored) made
    → AreStored s stored es → AreStored s stored (all_put es made)
unfolding Fits all_put
all_stored stored es [] fits all h = h
all_stored {s = s} stored es (e ∷ made) fits all h =
    all_stored stored (put_in es e) made fits.2 (All-tail (IsMirrored s stored) e made all)
    (record {
      each = λ i. put_stored s stored es e i fits.0 (All-head (IsMirrored s stored) e made all) (h.each i);
    })

pub all_len : {s : Stored} (stored : List ℕ) (es made : List Extent) → All (IsMirrored s stored) made
    → file_len stored (all_put es made) ≡ file_len stored es
unfolding all_put
all_len stored es [] all = refl
all_len {s = s} stored es (e ∷ made) all =
    let m = All-head (IsMirrored s stored) e made all in
    all_len stored (put_in es e) made (All-tail (IsMirrored s stored) e made all)
    ∙ omega (arith, last_end-put_in es e, m.within)

pub last_end-all_put : (es made : List Extent) (n : ℕ) → last_end es ≤ n → All (λ (e : Extent). end_of e ≤ n) made
    → last_end (all_put es made) ≤ n
unfolding all_put
last_end-all_put es [] n le all = le
last_end-all_put es (e ∷ made) n le all =
    last_end-all_put (put_in es e) made n
    (omega (arith, last_end-put_in es e, le, All-head (λ (x : Extent). end_of x ≤ n) e made all))
    (All-tail (λ (x : Extent). end_of x ≤ n) e made all)

-- Sums and parts.

pub sum-all_put : (w : Extent → ℕ) (es made : List Extent) → sum_by w (all_put es made) ≡ sum_by w es + sum_by w made
unfolding all_put
sum-all_put w es [] = omega arith
sum-all_put w es (e ∷ made) = omega (arith, sum-all_put w (put_in es e) made, sum-put_in w es e, sum_by-cons w e made)

pub each-all_put : (P : Extent → Type 0) (es made : List Extent) → AllByRecursion P es → AllByRecursion P made
    → AllByRecursion P (all_put es made)
unfolding all_put
each-all_put P es [] all more = all
each-all_put P es (e ∷ made) all more = each-all_put P (put_in es e) made (each-put_in P es e all more.0) more.1

-- The extent that begins at a place.

pub kept_begins : (es : List Extent) (low high at : ℕ) (gs : List Span) (made : List Extent) → at < low
    → AreInOrder low high gs → AllZip Begin gs made → begins_at (all_put es made) at ≡ begins_at es at
unfolding all_put
kept_begins es low high at [] [] h order zip = refl
kept_begins es low high at [] (e ∷ made) h order zip = absurd zip
kept_begins es low high at (g ∷ gs) [] h order zip = absurd zip
kept_begins es low high at (g ∷ gs) (e ∷ made) h order zip =
    kept_begins (put_in es e) g.to high at gs made (omega (arith, h, order.0, order.1)) order.2 zip.1
    ∙ begins_at-beside es e at (λ same. absurd (omega (arith, same, zip.0, h, order.0)))

-- the extents that were put in begin where their spans do
pub begins_made : (es : List Extent) (low high : ℕ) (gs : List Span) (made : List Extent) → AreInOrder low high gs
    → NoneBegins es low gs → AllZip Begin gs made → (parts_of_spans (all_put es made) gs ≡ all_parts made)
    × AllBeginAt (all_put es made) gs
unfolding all_put
begins_made es low high [] [] order none zip = (refl, tt)
begins_made es low high [] (e ∷ made) order none zip = absurd zip
begins_made es low high (g ∷ gs) [] order none zip = absurd zip
begins_made es low high (g ∷ gs) (e ∷ made) order none zip =
    let beside = none_beside es e (g.from + 1) gs (omega (arith, zip.0)) none.2 in
    let lower = order_wide g.to high (g.from + 1) high gs (omega (arith, order.1)) (omega arith) order.2 in
    let rest = begins_made (put_in es e) (g.from + 1) high gs made lower beside zip.1 in
    let at : begins_at es e.at ≡ None = ap (begins_at es) zip.0 ∙ none.1 in
    let here : begins_at (all_put (put_in es e) made) g.from ≡ Some e =
    kept_begins (put_in es e) (g.from + 1) high g.from gs made (omega arith) lower zip.1
    ∙ ap (begins_at (put_in es e)) (sym zip.0) ∙ begins_at-put_in es e at in (
      ap (λ (l : List Slice). l ++ parts_of_spans (all_put (put_in es e) made) gs) (ap parts_in here)
          ∙ ap (λ (l : List Slice). e.parts ++ l) rest.0,
      (subst IsSome (sym here) refl, rest.1),
    )

pub zip_begins : (s t : Stored) (p : ℕ) (gs : List Span) (made : List Extent) → AllZip (IsMade s t p) gs made
    → AllZip Begin gs made
zip_begins s t p [] [] all = tt
zip_begins s t p [] (e ∷ made) all = absurd all
zip_begins s t p (g ∷ gs) [] all = absurd all
zip_begins s t p (g ∷ gs) (e ∷ made) all = (all.0.begins, zip_begins s t p gs made all.1)

-- The entries of the new extents.

abbrev pub one_from : (at : ℕ) → Span → ℕ
one_from at s = cond {A = ℕ} (eqb s.from at) 1 0

-- how many of the spans begin at a place
abbrev pub spans_at : (at : ℕ) → List Span → ℕ
spans_at at gs = sum_by (one_from at) gs

pub made_clean : (s t : Stored) (p : ℕ) (gs : List Span) (made : List Extent) (at : ℕ) → AllZip (IsMade s t p) gs made
    → clean_at at made ≡ spans_at at gs
made_clean s t p [] [] at zip = refl
made_clean s t p [] (e ∷ made) at zip = absurd zip
made_clean s t p (g ∷ gs) [] at zip = absurd zip
made_clean s t p (g ∷ gs) (e ∷ made) at zip =
    omega (
      arith,
      sum_by-cons (begins_clean at) e made,
      sum_by-cons (one_from at) g gs,
      made_clean s t p gs made at zip.1,
      ap (λ d. cond {A = ℕ} (eqb e.at at && not d) 1 0) zip.0.clean,
      both (eqb e.at at),
      ap (λ n. cond {A = ℕ} (eqb n at) 1 0) zip.0.begins,
    )
  where
    both : (b : Bool) → cond {A = ℕ} (b && not false) 1 0 ≡ cond {A = ℕ} b 1 0
    both true = refl
    both false = refl

pub all_entries : (r : Ranking) (f : ℕ) (es : List Extent) (gs : List Span) (b : ℕ)
    → entries_at f b (all_entered r f es gs).entries ≡ spans_at b gs + entries_at f b r.entries
all_entries r f es [] b = omega arith
all_entries r f es (g ∷ gs) b =
    let next = entered r f g.from (byte_len (parts_from es g)) 1 in
    omega (
      arith,
      all_entries next f es gs b,
      entered_entries r f g.from (byte_len (parts_from es g)) 1 f b,
      self f (eqb g.from b),
      sum_by-cons (one_from b) g gs,
    )
  where
    self : (n : ℕ) (c : Bool) → cond {A = ℕ} (eqb n n && c) 1 0 ≡ cond {A = ℕ} c 1 0
    self n c = grind (arith, nat_tests)

pub all_entries-other : (r : Ranking) (f g : ℕ) (es : List Extent) (gs : List Span) (b : ℕ) → (f ≡ g → ⊥)
    → entries_at g b (all_entered r f es gs).entries ≡ entries_at g b r.entries
all_entries-other r f g es [] b ne = refl
all_entries-other r f g es (x ∷ gs) b ne =
    all_entries-other (entered r f x.from (byte_len (parts_from es x)) 1) f g es gs b ne
    ∙ entered_entries r f x.from (byte_len (parts_from es x)) 1 g b ∙ none (eqb x.from b)
  where
    none : (c : Bool) → cond {A = ℕ} (eqb f g && c) 1 0 + entries_at g b r.entries ≡ entries_at g b r.entries
    none c = grind (arith, nat_tests, ne)

-- the order has no entry where a gap begins
pub absent_gaps : (r : Ranking) (f : ℕ) (es : List Extent) (low high : ℕ) (gs : List Span)
    → ((at : ℕ) → entries_at f at r.entries ≡ clean_at at es) → NoneBegins es low gs → AreAbsent r f gs
absent_gaps r f es low high [] ranked none = tt
absent_gaps r f es low high (g ∷ gs) ranked none =
    (ranked g.from ∙ none_clean es g.from none.1, absent_gaps r f es (g.from + 1) high gs ranked none.2)
  where
    none_clean : (xs : List Extent) (at : ℕ) → begins_at xs at ≡ None → clean_at at xs ≡ 0
    none_clean [] at h = refl
    none_clean (x ∷ xs) at h = pick (eqb x.at at) refl h (none_clean xs at) where
      no_some : {x : Extent} → Some x ≡ None → ⊥
      no_some p = cc

      pick : (b : Bool) → eqb x.at at ≡ b → cond b (Some x) (begins_at xs at) ≡ None
          → (begins_at xs at ≡ None → clean_at at xs ≡ 0) → clean_at at (x ∷ xs) ≡ 0
      pick true is h ih = absurd (no_some h)
      pick false is h ih =
          omega (arith, sum_by-cons (begins_clean at) x xs, ap (λ c. cond {A = ℕ} (c && not x.dirty) 1 0) is, ih h)
