-- A range has exactly one list of gaps.
use Rattle.std.proofs.Common.{inl, inr, ◌≡◌, ℕ, zero, suc, ◌<◌, ◌≤◌, Bool, true, false, cond, List, [], ◌∷◌, length}
use Rattle.std.proofs.Common.{get_or, Option, Some, None, IsSome, refl, sym, ap, ◌∙◌, arith, subst}
use Rattle.std.specs.List.{All}
use Rattle.std.proofs.lemmas.Bool.{cases_lt}
use Rattle.std.proofs.lemmas.List.Elements.{All-head, All-tail}
use Rattle.iol_extent.specs.Extents.{Cell, Extent, cell_at, cover, end_of, is_over}
use Rattle.iol_extent.specs.Spans.{AreInOrder, IsGapSpan, IsHit, IsWhole, LiesIn, Tile}
use Rattle.iol_extent.specs.declared.spans.Span.{Span}
use Rattle.iol_extent.proofs.Cover.{cover_yes}

some_over : (es : List Extent) (k i : ℕ) (e : Extent) → k < length es → get_or es k e ≡ e → e.at ≤ i → i < end_of e
    → IsSome (cover es i)
some_over [] k i e h is low high = absurd (omega (arith, h))
some_over (x ∷ es) zero i e h is low high =
    subst (λ (o : Option Cell). IsSome o)
    (sym (cover_yes x es i (omega (arith, low, ap (λ (y : Extent). y.at) is)) (omega (arith, high, ap end_of is)))) refl
some_over (x ∷ es) (suc k) i e h is low high = pick (is_over x i) (some_over es k i e (omega (arith, h)) is low high)
  where
    pick : (b : Bool) → IsSome (cover es i) → IsSome (cond b (Some (cell_at x i)) (cover es i))
    pick true s = refl
    pick false s = s

pub hit_over : (es : List Extent) (to i : ℕ) (ss : List Span) → All (IsHit es to) ss → LiesIn i ss → IsSome (cover es i)
hit_over es to i [] all lies = absurd lies
hit_over es to i (s ∷ ss) all lies = elim lies [
  | inl here ↦
      (let hit = All-head (IsHit es to) s ss all in
      some_over es hit.index i hit.extent hit.within hit.is (omega (arith, hit.begins, here.0))
      (omega (arith, hit.ends, here.1)))
  | inr later ↦ hit_over es to i ss (All-tail (IsHit es to) s ss all) later
]

none_some : (o : Option Cell) → o ≡ None → IsSome o → ⊥
none_some None e h = cc
none_some (Some c) e h = cc

pub lies_above : (low high i : ℕ) (gs : List Span) → AreInOrder low high gs → LiesIn i gs → low ≤ i
lies_above low high i [] order lies = absurd lies
lies_above low high i (g ∷ gs) order lies = elim lies [
  | inl here ↦ omega (arith, here.0, order.0)
  | inr later ↦ omega (arith, lies_above g.to high i gs order.2 later, order.0, order.1)
]

pub ends_high : (low high : ℕ) (gs : List Span) → AreInOrder low high gs → low ≤ high
ends_high low high [] order = order
ends_high low high (g ∷ gs) order = omega (arith, ends_high g.to high gs order.2, order.0, order.1)

-- the gaps from low on
record AreGaps (es : List Extent) (low to : ℕ) (gs : List Span) : Type 0 where
  order : AreInOrder low to gs
  empty : All (IsGapSpan es) gs
  whole : All (IsWhole es to) gs
  each : (i : ℕ) → low ≤ i → i < to → cover es i ≡ None → LiesIn i gs

later_gaps : (es : List Extent) (low to : ℕ) (g : Span) (gs : List Span) → AreGaps es low to (g ∷ gs)
    → AreGaps es g.to to gs
later_gaps es low to g gs a = record {
  order = a.order.2;
  empty = All-tail (IsGapSpan es) g gs a.empty;
  whole = All-tail (IsWhole es to) g gs a.whole;
  each = λ i lo hi none. elim (a.each i (omega (arith, lo, a.order.0, a.order.1)) hi none) [
    | inl here ↦ absurd (omega (arith, here.1, lo))
    | inr later ↦ later
  ];
}

-- no extent covers the first byte of a gap
first_none : (es : List Extent) (low to : ℕ) (g : Span) (gs : List Span) → AreGaps es low to (g ∷ gs)
    → cover es g.from ≡ None
first_none es low to g gs a = (All-head (IsGapSpan es) g gs a.empty).each g.from (omega arith) a.order.1

first_in : (es : List Extent) (low to : ℕ) (g : Span) (gs hs : List Span) → AreGaps es low to (g ∷ gs)
    → AreGaps es low to hs → LiesIn g.from hs
first_in es low to g gs hs a b =
    b.each g.from a.order.0 (omega (arith, a.order.1, ends_high g.to to gs a.order.2)) (first_none es low to g gs a)

begins_most : (es : List Extent) (low to : ℕ) (g h : Span) (gs hs : List Span) → AreGaps es low to (g ∷ gs)
    → AreGaps es low to (h ∷ hs) → h.from ≤ g.from
begins_most es low to g h gs hs a b = elim (first_in es low to g gs (h ∷ hs) a b) [
  | inl here ↦ here.0
  | inr later ↦ omega (arith, lies_above h.to to g.from hs b.order.2 later, b.order.1)
]

ends_most : (es : List Extent) (low to : ℕ) (g h : Span) (gs hs : List Span) → g.from ≡ h.from
    → AreGaps es low to (g ∷ gs) → AreGaps es low to (h ∷ hs) → g.to ≤ h.to
ends_most es low to g h gs hs same a b = elim (cases_lt h.to g.to) [
  | inl less ↦ (
      let some = (All-head (IsWhole es to) h hs b.whole).ends (omega (arith, less, ends_high g.to to gs a.order.2)) in
      let none = (All-head (IsGapSpan es) g gs a.empty).each h.to (omega (arith, same, b.order.1)) less in
      absurd (none_some (cover es h.to) none some))
  | inr more ↦ more
]

span_is : (g h : Span) → g.from ≡ h.from → g.to ≡ h.to → g ≡ h
span_is g h e f = λ i. (let x : Span = record { from = e i; to = f i } in x)

one_way : (es : List Extent) (low to : ℕ) (gs hs : List Span) → AreGaps es low to gs → AreGaps es low to hs → gs ≡ hs
one_way es low to [] [] a b = refl
one_way es low to [] (h ∷ hs) a b = absurd (first_in es low to h hs [] b a)
one_way es low to (g ∷ gs) [] a b = absurd (first_in es low to g gs [] a b)
one_way es low to (g ∷ gs) (h ∷ hs) a b =
    let from : g.from ≡ h.from =
    omega (arith, begins_most es low to g h gs hs a b, begins_most es low to h g hs gs b a) in
    let ends : g.to ≡ h.to =
    omega (arith, ends_most es low to g h gs hs from a b, ends_most es low to h g hs gs (sym from) b a) in
    let rest = subst (λ n. AreGaps es n to hs) (sym ends) (later_gaps es low to h hs b) in
    ap (λ x. x ∷ gs) (span_is g h from ends)
    ∙ ap (λ l. h ∷ l) (one_way es g.to to gs hs (later_gaps es low to g gs a) rest)

gaps_of : (es : List Extent) (from to : ℕ) (hits gaps : List Span) → Tile es from to hits gaps → AreGaps es from to gaps
gaps_of es from to hits gaps t = record {
  order = t.gaps;
  empty = t.empty;
  whole = t.whole;
  each = λ i lo hi none. elim (t.each i lo hi) [
    | inl hit ↦ absurd (none_some (cover es i) none (hit_over es to i hits t.covered hit))
    | inr gap ↦ gap
  ];
}

pub gaps_alone : (es : List Extent) (from to : ℕ) (hits gaps more others : List Span) → Tile es from to hits gaps
    → Tile es from to more others → gaps ≡ others
gaps_alone es from to hits gaps more others t u =
    one_way es from to gaps others (gaps_of es from to hits gaps t) (gaps_of es from to more others u)
