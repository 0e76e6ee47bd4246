-- Extents that are put in and removed again.
use Rattle.std.proofs.Common.{◌≡◌, ℕ, zero, suc, ◌+◌, ◌-◌, ◌<◌, ◌≤◌, ◌==◌, nat_lt, Bool, true, false, cond, All, List}
use Rattle.std.proofs.Common.{[], ◌∷◌, ◌++◌, length, take, drop, get_or, Option, Some, None, IsSome, refl, sym, ap, ◌∙◌}
use Rattle.std.proofs.Common.{arith, subst}
use Rattle.std.specs.List.{AllZip}
use Rattle.std.proofs.lemmas.Bool.Decides.{nat_tests}
use Rattle.std.proofs.lemmas.List.{take_at, drop_at}
use Rattle.std.proofs.Math.Seq.{drop-cons}
use Rattle.iol_core.specs.declared.numbers.BufId.{BufId}
use Rattle.iol_extent.specs.Extents.{Adds, Cell, Extent, IsApart, IsGap, begins_at, cell_at, cover, end_of, is_over}
use Rattle.iol_extent.specs.Extents.{put_in, without_at}
use Rattle.iol_extent.specs.Spans.{AreInOrder, IsGapSpan}
use Rattle.iol_extent.specs.declared.spans.Span.{Span}
use Rattle.iol_extent.proofs.Cover.{cover_yes, some_begins}
use Rattle.iol_extent.proofs.Words.{without_at-put_in}
use Rattle.iol_hold.specs.Moves.{tally}
use Rattle.iol_hold.specs.StoreState.{Stored}
use Rattle.iol_hold.specs.Texts.{AllReadable, bufs_of}
use Rattle.iol_hold.specs.declared.slices.Slice.{Slice}
use Rattle.iol_hold.proofs.Counts.{bufs-append, tally-append}
use Rattle.iol_hold.proofs.ReadSlices.{readable_none, readable_joined, readable_taken, readable_rest}
use Rattle.iol_hold.proofs.SlicePlaces.{places-append}
use Rattle.iol_hold.specs.Places.{places}
use Rattle.iol_cache.specs.Gaps.{AllBegin, all_put, parts_back, without_spans}
use Rattle.iol_cache.specs.CacheState.{all_parts, parts_in}

same_at : (n : ℕ) → (n == n) ≡ true
same_at n = grind (arith, nat_tests)

eq_of : (m n : ℕ) → (m == n) ≡ true → m ≡ n
eq_of m n h = grind (arith, nat_tests)

ne_at : (m n : ℕ) → (m ≡ n → ⊥) → (m == n) ≡ false
ne_at m n h = grind (arith, nat_tests)

-- the extent that was put in begins at its place
pub begins_at-put_in : (es : List Extent) (e : Extent) → begins_at es e.at ≡ None
    → begins_at (put_in es e) e.at ≡ Some e
begins_at-put_in [] e none = ap (λ t. cond t (Some e) None) (same_at e.at)
begins_at-put_in (x ∷ xs) e none = here (nat_lt e.at x.at) (x.at == e.at) refl none (λ n. begins_at-put_in xs e n)
  where
    here : (b c : Bool) → (x.at == e.at) ≡ c → cond c (Some x) (begins_at xs e.at) ≡ None
        → (begins_at xs e.at ≡ None → begins_at (put_in xs e) e.at ≡ Some e)
        → begins_at (cond b (e ∷ x ∷ xs) (x ∷ put_in xs e)) e.at ≡ Some e
    here b true is none ih = cc
    here true false is none ih = ap (λ t. cond t (Some e) (begins_at (x ∷ xs) e.at)) (same_at e.at)
    here false false is none ih = ap (λ t. cond t (Some x) (begins_at (put_in xs e) e.at)) is ∙ ih none

-- and at each other place the same extent begins as before
pub begins_at-beside : (es : List Extent) (e : Extent) (at : ℕ) → (e.at ≡ at → ⊥)
    → begins_at (put_in es e) at ≡ begins_at es at
begins_at-beside [] e at ne = ap (λ t. cond t (Some e) None) (ne_at e.at at ne)
begins_at-beside (x ∷ xs) e at ne = here (nat_lt e.at x.at) (begins_at-beside xs e at ne)
  where
    here : (b : Bool) → begins_at (put_in xs e) at ≡ begins_at xs at
        → begins_at (cond b (e ∷ x ∷ xs) (x ∷ put_in xs e)) at ≡ begins_at (x ∷ xs) at
    here true ih = ap (λ t. cond t (Some e) (begins_at (x ∷ xs) at)) (ne_at e.at at ne)
    here false ih = ap (λ o. cond (x.at == at) (Some x) o) ih

some_none : {o : Option Cell} {c : Cell} → o ≡ Some c → o ≡ None → ⊥
some_none p q = cc

none_after : (x : Extent) (xs : List Extent) (i : ℕ) → cover (x ∷ xs) i ≡ None → cover xs i ≡ None
none_after x xs i n = rest (is_over x i) n
  where
    rest : (b : Bool) → cond b (Some (cell_at x i)) (cover xs i) ≡ None → cover xs i ≡ None
    rest true n = cc
    rest false n = n

-- none begins in a gap
pub begins_gap : (low : ℕ) (es : List Extent) (from to : ℕ) → IsApart low es → IsGap es from to → from < to
    → begins_at es from ≡ None
begins_gap low [] from to a g h = refl
begins_gap low (x ∷ xs) from to a g h =
    here (x.at == from) refl
    (begins_gap (end_of x) xs from to a.2 (record { each = λ i l m. none_after x xs i (g.each i l m) }) h)
  where
    here : (c : Bool) → (x.at == from) ≡ c → begins_at xs from ≡ None → cond c (Some x) (begins_at xs from) ≡ None
    here true is ih =
        absurd
        (some_none (cover_yes x xs from (omega (arith, eq_of x.at from is)) (omega (arith, eq_of x.at from is, a.1)))
        (g.each from (omega arith) h))
    here false is ih = ih

-- a gap after the extent that was added is still a gap
pub gap_left : (es es' : List Extent) (e : Extent) (from to : ℕ) → IsGap es from to → Adds es e es' → end_of e ≤ from
    → IsGap es' from to
gap_left es es' e from to g adds past =
    record {
      each = λ i l m. adds.each i ∙ ap (λ b. cond b (Some (cell_at e i)) (cover es i)) (above e i (omega arith))
          ∙ g.each i l m;
    }
  where
    above : (e : Extent) (i : ℕ) → end_of e ≤ i → is_over e i ≡ false
    above e i h = grind (arith, nat_tests)

-- Extents put in one after another.

pub all_put-push : (es made : List Extent) (e : Extent) → all_put es (made ++ e ∷ []) ≡ put_in (all_put es made) e
unfolding all_put
all_put-push es [] e = refl
all_put-push es (x ∷ made) e = all_put-push (put_in es x) made e

-- No extent begins where these spans begin, which are in order from `low` on.
abbrev pub NoneBegins : List Extent → (low : ℕ) → List Span → Type 0
NoneBegins es low [] = Unit {0}
NoneBegins es low (g ∷ gs) = (low ≤ g.from) × (begins_at es g.from ≡ None) × NoneBegins es (g.from + 1) gs

pub none_beside : (es : List Extent) (e : Extent) (low : ℕ) (gs : List Span) → e.at < low → NoneBegins es low gs
    → NoneBegins (put_in es e) low gs
none_beside es e low [] past h = tt
none_beside es e low (g ∷ gs) past h = (
  h.0,
  begins_at-beside es e g.from (λ same. absurd (omega (arith, same, past, h.0)))
      ∙ h.1,
  none_beside es e (g.from + 1) gs (omega (arith, past, h.0)) h.2,
)

pub none_gaps : (es : List Extent) (low high : ℕ) (gs : List Span) → IsApart 0 es → AreInOrder low high gs
    → All (IsGapSpan es) gs → NoneBegins es low gs
none_gaps es low high [] apart order gaps = tt
none_gaps es low high (g ∷ gs) apart order gaps = (
  order.0,
  begins_gap 0 es g.from g.to apart (gaps 0 g (omega arith)) order.1,
  lower (g.from + 1) g.to gs (omega (arith, order.1))
      (none_gaps es g.to high gs apart order.2 (λ k d h. gaps (suc k) d (omega arith))),
)
  where
    lower : (a b : ℕ) (gs : List Span) → a ≤ b → NoneBegins es b gs → NoneBegins es a gs
    lower a b [] le h = tt
    lower a b (g ∷ gs) le h = (omega (arith, le, h.0), h.1, h.2)

abbrev pub Begin : Span → Extent → Type 0
Begin g e = e.at ≡ g.from

-- the extents that were put in, removed again
pub without_put : (es : List Extent) (low : ℕ) (gs : List Span) (made : List Extent) → NoneBegins es low gs
    → AllZip Begin gs made → without_spans (all_put es made) gs ≡ es
unfolding all_put
without_put es low [] [] none zip = refl
without_put es low [] (e ∷ made) none zip = absurd zip
without_put es low (g ∷ gs) [] none zip = absurd zip
without_put es low (g ∷ gs) (e ∷ made) none zip =
    let at : begins_at es e.at ≡ None = ap (begins_at es) zip.0 ∙ none.1 in
    let rest =
    without_put (put_in es e) (g.from + 1) gs made (none_beside es e (g.from + 1) gs (omega (arith, zip.0)) none.2)
    zip.1 in
    ap (λ (xs : List Extent). without_at xs g.from) rest ∙ ap (without_at (put_in es e)) (sym zip.0)
    ∙ without_at-put_in es e at

pub begin_put : (es : List Extent) (low : ℕ) (gs : List Span) (made : List Extent) → NoneBegins es low gs
    → AllZip Begin gs made → AllBegin (all_put es made) gs
unfolding all_put
begin_put es low [] [] none zip = tt
begin_put es low [] (e ∷ made) none zip = absurd zip
begin_put es low (g ∷ gs) [] none zip = absurd zip
begin_put es low (g ∷ gs) (e ∷ made) none zip =
    let beside = none_beside es e (g.from + 1) gs (omega (arith, zip.0)) none.2 in
    let at : begins_at es e.at ≡ None = ap (begins_at es) zip.0 ∙ none.1 in
    let rest = without_put (put_in es e) (g.from + 1) gs made beside zip.1 in
    let is : begins_at (without_spans (all_put (put_in es e) made) gs) g.from ≡ Some e =
    ap (λ (xs : List Extent). begins_at xs g.from) rest ∙ ap (begins_at (put_in es e)) (sym zip.0)
    ∙ begins_at-put_in es e at in
    (begin_put (put_in es e) (g.from + 1) gs made beside zip.1, subst IsSome (sym is) refl)

-- the slices that were taken back have the references of the extents that were put in
pub back_put : (es : List Extent) (low : ℕ) (gs : List Span) (made : List Extent) → NoneBegins es low gs
    → AllZip Begin gs made → (b : BufId)
    → tally b (bufs_of (parts_back (all_put es made) gs)) ≡ tally b (bufs_of (all_parts made))
unfolding all_put
back_put es low [] [] none zip b = refl
back_put es low [] (e ∷ made) none zip b = absurd zip
back_put es low (g ∷ gs) [] none zip b = absurd zip
back_put es low (g ∷ gs) (e ∷ made) none zip b =
    let beside = none_beside es e (g.from + 1) gs (omega (arith, zip.0)) none.2 in
    let at : begins_at es e.at ≡ None = ap (begins_at es) zip.0 ∙ none.1 in
    let rest = without_put (put_in es e) (g.from + 1) gs made beside zip.1 in
    let is : begins_at (without_spans (all_put (put_in es e) made) gs) g.from ≡ Some e =
    ap (λ (xs : List Extent). begins_at xs g.from) rest ∙ ap (begins_at (put_in es e)) (sym zip.0)
    ∙ begins_at-put_in es e at in
    let back = parts_back (all_put (put_in es e) made) gs in
    ap (tally b) (ap (λ o. bufs_of (back ++ parts_in o)) is ∙ bufs-append back e.parts)
    ∙ tally-append b (bufs_of back) (bufs_of e.parts)
    ∙ omega (
      arith,
      back_put (put_in es e) (g.from + 1) gs made beside zip.1 b,
      ap (tally b) (bufs-append e.parts (all_parts made)),
      tally-append b (bufs_of e.parts) (bufs_of (all_parts made)),
    )

abbrev pub CanRead : Stored → Extent → Type 0
CanRead s e = AllReadable s e.parts

pub back_readable : (s : Stored) (es : List Extent) (low : ℕ) (gs : List Span) (made : List Extent)
    → NoneBegins es low gs → AllZip Begin gs made → All (CanRead s) made
    → AllReadable s (parts_back (all_put es made) gs)
unfolding all_put
back_readable s es low [] [] none zip all = readable_none s
back_readable s es low [] (e ∷ made) none zip all = absurd zip
back_readable s es low (g ∷ gs) [] none zip all = absurd zip
back_readable s es low (g ∷ gs) (e ∷ made) none zip all =
    let beside = none_beside es e (g.from + 1) gs (omega (arith, zip.0)) none.2 in
    let at : begins_at es e.at ≡ None = ap (begins_at es) zip.0 ∙ none.1 in
    let rest = without_put (put_in es e) (g.from + 1) gs made beside zip.1 in
    let is : begins_at (without_spans (all_put (put_in es e) made) gs) g.from ≡ Some e =
    ap (λ (xs : List Extent). begins_at xs g.from) rest ∙ ap (begins_at (put_in es e)) (sym zip.0)
    ∙ begins_at-put_in es e at in
    readable_joined
    (back_readable s (put_in es e) (g.from + 1) gs made beside zip.1 (λ k d h. all (suc k) d (omega arith)))
    (subst (λ (o : Option Extent). AllReadable s (parts_in o)) (sym is) (all 0 e (omega arith)))

-- Extents are removed one after another, from the last.

pub begin_drop : (es : List Extent) (gs : List Span) (k : ℕ) → AllBegin es gs → AllBegin es (drop k gs)
begin_drop es gs zero h = h
begin_drop es [] (suc k) h = tt
begin_drop es (g ∷ gs) (suc k) h = begin_drop es gs k h.0

pub back_fewer : (es : List Extent) (gs : List Span) (k : ℕ) (b : BufId)
    → tally b (bufs_of (parts_back es (drop k gs))) ≤ tally b (bufs_of (parts_back es gs))
back_fewer es gs zero b = omega arith
back_fewer es [] (suc k) b = omega arith
back_fewer es (g ∷ gs) (suc k) b =
    let rest = parts_back es gs in
    let here = parts_in (begins_at (without_spans es gs) g.from) in
    omega (
      arith,
      back_fewer es gs k b,
      ap (tally b) (bufs-append rest here),
      tally-append b (bufs_of rest) (bufs_of here),
    )

readable_parts : {s : Stored} (xs ys : List Slice) → AllReadable s (xs ++ ys) → AllReadable s xs × AllReadable s ys
readable_parts xs ys h =
    let e = places-append xs ys in
    let n = length (places xs) in (
      readable_taken xs (xs ++ ys) n (sym (ap (take n) e ∙ take_at (places xs) (places ys) n refl)) h,
      readable_rest ys (xs ++ ys) n (sym (ap (drop n) e ∙ drop_at (places xs) (places ys) n refl)) h,
    )

pub readable_back : {s : Stored} (es : List Extent) (gs : List Span) (k : ℕ) → AllReadable s (parts_back es gs)
    → AllReadable s (parts_back es (drop k gs))
readable_back es gs zero h = h
readable_back es [] (suc k) h = h
readable_back es (g ∷ gs) (suc k) h =
    readable_back es gs k (readable_parts (parts_back es gs) (parts_in (begins_at (without_spans es gs) g.from)) h).0

pub readable_here : {s : Stored} (es : List Extent) (g : Span) (gs : List Span) → AllReadable s (parts_back es (g ∷ gs))
    → AllReadable s (parts_in (begins_at (without_spans es gs) g.from))
readable_here es g gs h = (readable_parts (parts_back es gs) (parts_in (begins_at (without_spans es gs) g.from)) h).1

-- the extent that is removed next
pub record IsNext (es xs : List Extent) (gs : List Span) (left : ℕ) (g : Span) : Type 0 where
  pub extent : Extent
  pub begins : begins_at xs g.from ≡ Some extent
  pub left_is : drop (left - 1) gs ≡ g ∷ drop left gs
  pub extents : without_at xs g.from ≡ without_spans es (drop (left - 1) gs)
  pub parts : bufs_of (parts_back es (drop (left - 1) gs)) ≡ bufs_of (parts_back es (drop left gs))
      ++ bufs_of extent.parts

pub next_back : (es xs : List Extent) (gs : List Span) (left : ℕ) (g d : Span) → 0 < left → left ≤ length gs
    → g ≡ get_or gs (left - 1) d → AllBegin es gs → xs ≡ without_spans es (drop left gs) → IsNext es xs gs left g
next_back es xs gs left g d some few at begin is =
    let n : suc (left - 1) ≡ left = omega arith in
    let front : drop (left - 1) gs ≡ g ∷ drop left gs = drop-cons gs (left - 1) d (omega arith)
    ∙ ap (λ x. x ∷ drop (suc (left - 1)) gs) (sym at) ∙ ap (λ k. g ∷ drop k gs) n in
    let there = subst (AllBegin es) front (begin_drop es gs (left - 1) begin) in
    let e =
    some_begins (begins_at xs g.from)
    (subst (λ (ys : List Extent). IsSome (begins_at ys g.from)) (sym is) there.1) in
    let back = parts_back es (drop left gs) in
    record {
      extent = e.0;
      begins = e.1;
      left_is = front;
      extents = ap (λ (ys : List Extent). without_at ys g.from) is ∙ ap (without_spans es) (sym front);
      parts = ap (λ ys. bufs_of (parts_back es ys)) front
          ∙ bufs-append back (parts_in (begins_at (without_spans es (drop left gs)) g.from))
          ∙ ap (λ o. bufs_of back ++ bufs_of (parts_in o)) (ap (λ (ys : List Extent). begins_at ys g.from) (sym is)
          ∙ e.1);
    }
