-- Spans that are added to a list.
use Rattle.std.proofs.Common.{inl, inr, ℕ, ◌<◌, ◌≤◌, List, [], ◌∷◌, ◌++◌, arith}
use Rattle.iol_extent.specs.declared.spans.Span.{Span}
use Rattle.iol_extent.specs.Spans.{AreInOrder, LiesIn}

pub order_more : (from at to : ℕ) (ss : List Span) → AreInOrder from at ss → at ≤ to → AreInOrder from to ss
order_more from at to [] o le = omega (arith, o, le)
order_more from at to (s ∷ ss) o le = (o.0, o.1, order_more s.to at to ss o.2 le)

pub order_push : (from at : ℕ) (ss : List Span) (s : Span) → AreInOrder from at ss → at ≤ s.from → s.from < s.to
    → AreInOrder from s.to (ss ++ s ∷ [])
order_push from at [] s o le lt = (omega (arith, o, le), lt, omega arith)
order_push from at (x ∷ ss) s o le lt = (o.0, o.1, order_push x.to at ss s o.2 le lt)

pub lies_old : (i : ℕ) (ss : List Span) (s : Span) → LiesIn i ss → LiesIn i (ss ++ s ∷ [])
lies_old i [] s h = absurd h
lies_old i (x ∷ ss) s (inl h) = inl h
lies_old i (x ∷ ss) s (inr h) = inr (lies_old i ss s h)

pub lies_new : (i : ℕ) (ss : List Span) (s : Span) → s.from ≤ i → i < s.to → LiesIn i (ss ++ s ∷ [])
lies_new i [] s f t = inl (f, t)
lies_new i (x ∷ ss) s f t = inr (lies_new i ss s f t)
