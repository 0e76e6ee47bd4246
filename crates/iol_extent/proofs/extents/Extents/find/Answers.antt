use Rattle.std.proofs.Common.{inl, inr, ◌≡◌, ◌⊎◌, ◌<◌, ℕ, List, subst, sym, arith, All}
use Rattle.std.proofs.lemmas.Bool.{cases_lt}
use Rattle.std.proofs.lemmas.List.Elements.{All-push}
use Rattle.iol_extent.specs.declared.spans.Span.{Span}
use Rattle.iol_extent.specs.Extents.{IsGap}
use Rattle.iol_extent.specs.Spans.{AreInOrder, LiesIn, IsHit, IsGapSpan, IsWhole}
use Rattle.iol_extent.proofs.AddedSpans.{order_more, order_push, lies_old, lies_new}
use Rattle.iol_extent.proofs.extents.Extents.find.Goals as goal

pub loop-at-preserved-then-hit : goal.loop-at-preserved-then-hit
loop-at-preserved-then-hit c =
    let s = c.span_at-hit.result.0 in
    let items = sym c.in_ok-push.ensures.items in
    let from : s.from ≡ c.loop-at.at = c.span_at-hit.ensures.from in
    let further : c.loop-at.at < s.to = c.span_at-hit.ensures.further in
    record {
      begun = omega (arith, further, c.loop-at.invariant.begun);
      within = λ h. c.span_at-hit.ensures.within;
      none = λ h. absurd (omega (arith, h, c.loop-at-test.true, c.loop-at.invariant.begun));
      hits =
          subst (λ (ss : List Span). AreInOrder c.args.from s.to ss) items
          (order_push c.args.from c.loop-at.at c.loop-at.hits.items s c.loop-at.invariant.hits (omega (arith, from))
          (omega (arith, from, further)));
      gaps = order_more c.args.from c.loop-at.at s.to c.loop-at.gaps.items c.loop-at.invariant.gaps
          (omega (arith, further));
      covered =
          subst (λ (ss : List Span). All (IsHit c.args.self.now.extents c.args.to) ss) items
          (All-push (IsHit c.args.self.now.extents c.args.to) c.loop-at.hits.items s c.loop-at.invariant.covered
          (c.span_at-hit.ensures.hit c.if-hit.true));
      empty = c.loop-at.invariant.empty;
      whole = c.loop-at.invariant.whole;
      each = λ i begun upto. subst (λ (ss : List Span). LiesIn i ss ⊎ LiesIn i c.loop-at.gaps.items) items
          (elim (cases_lt i c.loop-at.at) [
            | inl old ↦
                elim (c.loop-at.invariant.each i begun old) [
                  | inl h ↦ inl (lies_old i c.loop-at.hits.items s h)
                  | inr g ↦
                      inr g
                ]
            | inr new ↦ inl (lies_new i c.loop-at.hits.items s (omega (arith, from, new)) upto)
          ]);
    }

pub loop-at-preserved : goal.loop-at-preserved
loop-at-preserved c =
    let s = c.span_at-hit.result.0 in
    let items = sym c.in_ok-push-2.ensures.items in
    let from : s.from ≡ c.loop-at.at = c.span_at-hit.ensures.from in
    let further : c.loop-at.at < s.to = c.span_at-hit.ensures.further in
    let gap =
    subst (λ (n : ℕ). IsGap c.args.self.now.extents n s.to) (sym from) (c.span_at-hit.ensures.gap c.if-hit.false) in
    record {
      begun = omega (arith, further, c.loop-at.invariant.begun);
      within = λ h. c.span_at-hit.ensures.within;
      none = λ h. absurd (omega (arith, h, c.loop-at-test.true, c.loop-at.invariant.begun));
      hits = order_more c.args.from c.loop-at.at s.to c.loop-at.hits.items c.loop-at.invariant.hits
          (omega (arith, further));
      gaps =
          subst (λ (ss : List Span). AreInOrder c.args.from s.to ss) items
          (order_push c.args.from c.loop-at.at c.loop-at.gaps.items s c.loop-at.invariant.gaps (omega (arith, from))
          (omega (arith, from, further)));
      covered = c.loop-at.invariant.covered;
      empty =
          subst (λ (ss : List Span). All (IsGapSpan c.args.self.now.extents) ss) items
          (All-push (IsGapSpan c.args.self.now.extents) c.loop-at.gaps.items s c.loop-at.invariant.empty gap);
      whole =
          subst (λ (ss : List Span). All (IsWhole c.args.self.now.extents c.args.to) ss) items
          (All-push (IsWhole c.args.self.now.extents c.args.to) c.loop-at.gaps.items s c.loop-at.invariant.whole
          (c.span_at-hit.ensures.whole c.if-hit.false));
      each = λ i begun upto. subst (λ (ss : List Span). LiesIn i c.loop-at.hits.items ⊎ LiesIn i ss) items
          (elim (cases_lt i c.loop-at.at) [
            | inl old ↦
                elim (c.loop-at.invariant.each i begun old) [
                  | inl h ↦ inl h
                  | inr g ↦
                      inr (lies_old i c.loop-at.gaps.items s g)
                ]
            | inr new ↦ inr (lies_new i c.loop-at.gaps.items s (omega (arith, from, new)) upto)
          ]);
    }

pub returns : goal.returns
returns c =
    let v = c.loop-at.invariant in
    record {
      tile = λ ordered. record {
        hits = order_more c.args.from c.loop-at.at c.args.to c.loop-at.hits.items v.hits (v.within ordered);
        gaps = order_more c.args.from c.loop-at.at c.args.to c.loop-at.gaps.items v.gaps (v.within ordered);
        covered = v.covered;
        empty = v.empty;
        whole = v.whole;
        each = λ i begun upto. v.each i begun (omega (arith, upto, c.loop-at-test.false));
      };
      none = v.none;
    }
