use Rattle.std.proofs.Common.{◌≡◌, ◌<◌, List, IsSome, get_or, refl, ap, sym, subst, arith}
use Rattle.iol_extent.specs.declared.spans.Span.{Span}
use Rattle.iol_extent.specs.Extents.{ExtentMap, Extent, cover, end_of}
use Rattle.iol_extent.specs.Spans.{IsHit, IsWhole}
use Rattle.iol_extent.proofs.Cover.{gap_past, gap_before, gap_ends}
use Rattle.iol_extent.proofs.extents.Extents.span_at.Goals as goal

pub returns-then-found-len : goal.returns-then-found-len
returns-then-found-len c = record {
  from = refl;
  further = c.requires;
  within = omega arith;
  hit = λ wrong. cc;
  gap =
      λ _. rw (← (ap (λ (m : ExtentMap). m.extents) c.self.view_is))
      (gap_past c.self.inside.pieces.extents c.count_before-found.result c.args.at c.args.to c.self.invariant.apart
      (omega arith) c.count_before-found.ensures.before);
  whole = λ _. record { ends = λ short. absurd (omega (arith, short)) };
}

pub returns-then-piece-at : goal.returns-then-piece-at
returns-then-piece-at c =
    let es = c.self.inside.pieces.extents in
    let d = c.index-piece.result.now in
    let at : d ≡ get_or es c.count_before-found.result d = c.index-piece.ensures in
    let s : Span = record { from = c.args.at; to = c.min.result } in
    let begins : d.at ≡ (get_or es c.count_before-found.result d).at = ap (λ (x : Extent). x.at) at in
    let piece = ap (λ (x : Extent). x.at) c.piece.view_is in
    let after : c.args.at < d.at = omega (arith, piece) in
    let there = gap_ends es c.count_before-found.result c.args.at d c.self.invariant.apart (omega arith)
    (λ j l. c.count_before-found.ensures.before j d l) (omega (arith, after, begins)) in
    let whole : IsWhole es c.args.to s =
    record {
      ends =
          λ short. subst (λ n. IsSome (cover es n)) (let is : (get_or es c.count_before-found.result d).at
          ≡ c.min.result = omega (arith, short, begins, c.min.ensures, piece) in is) there;
    } in
    record {
      from = refl;
      further = omega (arith, c.requires, c.min.ensures, piece);
      within = omega (arith, c.min.ensures);
      hit = λ wrong. cc;
      gap =
          λ _. rw (← (ap (λ (m : ExtentMap). m.extents) c.self.view_is))
          (gap_before es c.count_before-found.result c.args.at _ d c.self.invariant.apart (omega arith)
          c.count_before-found.ensures.before at (omega (arith, piece)));
      whole = λ _. subst (λ (l : List Extent). IsWhole l c.args.to s) (ap (λ (m : ExtentMap). m.extents) c.self.view_is)
          whole;
    }

pub returns : goal.returns
returns c =
    let d = c.index-piece.result.now in
    let at : d ≡ get_or c.self.inside.pieces.extents c.count_before-found.result d = c.index-piece.ensures in
    let s : Span = record { from = c.args.at; to = c.min-2.result } in
    let hit : IsHit c.self.inside.pieces.extents c.args.to s = record {
      index = c.count_before-found.result;
      extent = d;
      within = omega arith;
      is = sym at;
      begins = omega (arith, ap (λ (x : Extent). x.at) c.piece.view_is);
      ends = omega (arith, c.min-2.ensures, c.end.ensures);
    } in
    record {
      from = refl;
      further =
          omega (
            arith,
            c.requires,
            c.min-2.ensures,
            c.end.ensures,
            c.count_before-found.ensures.after d (omega arith),
            ap end_of at,
          );
      within = omega (arith, c.min-2.ensures);
      hit = λ _. subst (λ (es : List Extent). IsHit es c.args.to s) (ap (λ (m : ExtentMap). m.extents) c.self.view_is)
          hit;
      gap = λ wrong. cc;
      whole = λ wrong. cc;
    }
