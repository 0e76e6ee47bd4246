use Rattle.std.proofs.Common.{◌≡◌, ℕ, ◌<◌, ◌≤◌, List, length, get_or, remove, refl, max, Option, Some, IfSome, ap, sym}
use Rattle.std.proofs.Common.{◌∙◌, arith, subst}
use Rattle.std.proofs.lemmas.List.{get_or_read}
use Rattle.iol_extent.specs.Extents.{AreCleanBefore, dirty_count, one_dirty, ExtentMap, Extent, end_of, IsApart, Lacks}
use Rattle.iol_extent.specs.Extents.{last_end, begins_at, without_at}
use Rattle.iol_extent.proofs.Cover.{begins_is, lacks_remove, last_end_remove, remove_apart, some_begins}
use Rattle.iol_extent.proofs.CleanExtents.{clean_remove, dirty_remove}
use Rattle.iol_extent.proofs.Words.{remove-without_at}
use Rattle.iol_extent.proofs.extents.Extents.remove.Goals as goal

-- the index of the extent
found : (es : List Extent) (k at : ℕ) (e : Extent) (ds fs : List Extent) → ds ≡ es → es ≡ fs → IsApart 0 es
    → k ≤ length ds → ((j : ℕ) (d : Extent) → j < k → end_of (get_or ds j d) ≤ at)
    → ((d : Extent) → k < length ds → at < end_of (get_or ds k d)) → begins_at fs at ≡ Some e
    → (k < length es) × (get_or es k e ≡ e) × (e.at ≡ at)
found es k at e ds fs p q a w b t f = begins_is 0 es k at e a (rw (← p) w) (rw (← p) b) (rw (← p) t) (rw q f)

pub remove-requires : goal.remove-requires
remove-requires c = let s = some_begins (begins_at c.args.self.now.extents c.args.at) c.requires in let f =
    found c.self.inside.pieces.extents c.count_before-found.result c.args.at s.0 c.self.inside.pieces.extents
    c.args.self.now.extents refl (ap (λ (m : ExtentMap). m.extents) c.self.view_is) c.self.invariant.apart
    c.count_before-found.ensures.within c.count_before-found.ensures.before c.count_before-found.ensures.after s.1 in
    omega (arith, f.0)

pub overflow_sub-self : goal.overflow_sub-self
overflow_sub-self c =
    let s = some_begins (begins_at c.args.self.now.extents c.args.at) c.requires in
    let f = found c.self.inside.pieces.extents c.count_before-found.result c.args.at s.0 c.self.inside.pieces.extents
    c.args.self.now.extents refl (ap (λ (m : ExtentMap). m.extents) c.self.view_is) c.self.invariant.apart
    c.count_before-found.ensures.within c.count_before-found.ensures.before c.count_before-found.ensures.after
    s.1 in
    omega (
      arith,
      c.self.invariant.dirty,
      c.count_dirty.ensures,
      ap one_dirty (c.agg.view_is ∙ get_or_read c.self.inside.pieces.extents c.count_before-found.result
          c.remove.result f.0 c.remove.ensures.piece s.0),
      dirty_remove c.self.inside.pieces.extents c.count_before-found.result s.0 f.0,
    )

pub invariant_of-self : goal.invariant_of-self
invariant_of-self c =
    let s = some_begins (begins_at c.args.self.now.extents c.args.at) c.requires in
    let f = found c.self.inside.pieces.extents c.count_before-found.result c.args.at s.0 c.self.inside.pieces.extents
    c.args.self.now.extents refl (ap (λ (m : ExtentMap). m.extents) c.self.view_is) c.self.invariant.apart
    c.count_before-found.ensures.within c.count_before-found.ensures.before c.count_before-found.ensures.after
    s.1 in
    record {
      apart =
          subst (IsApart 0) (sym c.remove.ensures.extents)
          (remove_apart 0 c.self.inside.pieces.extents c.count_before-found.result c.self.invariant.apart f.0);
      dirty =
          omega (
            arith,
            c.self.invariant.dirty,
            c.count_dirty.ensures,
            ap one_dirty (c.agg.view_is ∙ get_or_read c.self.inside.pieces.extents c.count_before-found.result
                c.remove.result f.0 c.remove.ensures.piece s.0),
            dirty_remove c.self.inside.pieces.extents c.count_before-found.result s.0 f.0,
            ap dirty_count c.remove.ensures.extents,
          );
      clean =
          subst (AreCleanBefore c.self.inside.clean_to) (sym c.remove.ensures.extents)
          (clean_remove c.self.inside.clean_to c.self.inside.pieces.extents c.count_before-found.result
          c.self.invariant.clean);
    }

pub returns-clause-apart : goal.returns-clause-apart
returns-clause-apart c =
    let s = some_begins (begins_at c.args.self.now.extents c.args.at) c.requires in
    let f = found c.self.inside.pieces.extents c.count_before-found.result c.args.at s.0 c.self.inside.pieces.extents
    c.args.self.now.extents refl (ap (λ (m : ExtentMap). m.extents) c.self.view_is) c.self.invariant.apart
    c.count_before-found.ensures.within c.count_before-found.ensures.before c.count_before-found.ensures.after
    s.1 in
    subst (IsApart 0) (sym c.remove.ensures.extents)
    (remove_apart 0 c.self.inside.pieces.extents c.count_before-found.result c.self.invariant.apart f.0)

pub returns-clause-given : goal.returns-clause-given
returns-clause-given c =
    let s = some_begins (begins_at c.args.self.now.extents c.args.at) c.requires in
    let f = found c.self.inside.pieces.extents c.count_before-found.result c.args.at s.0 c.self.inside.pieces.extents
    c.args.self.now.extents refl (ap (λ (m : ExtentMap). m.extents) c.self.view_is) c.self.invariant.apart
    c.count_before-found.ensures.within c.count_before-found.ensures.before c.count_before-found.ensures.after
    s.1 in
    subst (λ (o : Option Extent). IfSome o (λ e. c.agg.inside.agg ≡ e.parts)) (sym s.1)
    (ap (λ (x : Extent). x.parts) (c.agg.view_is
    ∙ get_or_read c.self.inside.pieces.extents c.count_before-found.result c.remove.result f.0
    c.remove.ensures.piece s.0 ∙ f.1))

pub returns-clause-lacks : goal.returns-clause-lacks
returns-clause-lacks c =
    let s = some_begins (begins_at c.args.self.now.extents c.args.at) c.requires in
    let f = found c.self.inside.pieces.extents c.count_before-found.result c.args.at s.0 c.self.inside.pieces.extents
    c.args.self.now.extents refl (ap (λ (m : ExtentMap). m.extents) c.self.view_is) c.self.invariant.apart
    c.count_before-found.ensures.within c.count_before-found.ensures.before c.count_before-found.ensures.after
    s.1 in
    let lacks : Lacks c.args.self.now.extents s.0 c.remove.new.self.extents =
    subst (λ (xs : List Extent). Lacks xs s.0 c.remove.new.self.extents)
    (ap (λ (m : ExtentMap). m.extents) c.self.view_is)
    (subst (λ (ys : List Extent). Lacks c.self.inside.pieces.extents s.0 ys) (sym c.remove.ensures.extents)
    (lacks_remove c.self.inside.pieces.extents c.count_before-found.result s.0 c.self.invariant.apart f.0 f.1)) in
    subst (λ (o : Option Extent). IfSome o (λ e. Lacks c.args.self.now.extents e c.remove.new.self.extents)) (sym s.1)
    lacks

pub returns-clause-ends : goal.returns-clause-ends
returns-clause-ends c =
    let s = some_begins (begins_at c.args.self.now.extents c.args.at) c.requires in
    let f = found c.self.inside.pieces.extents c.count_before-found.result c.args.at s.0 c.self.inside.pieces.extents
    c.args.self.now.extents refl (ap (λ (m : ExtentMap). m.extents) c.self.view_is) c.self.invariant.apart
    c.count_before-found.ensures.within c.count_before-found.ensures.before c.count_before-found.ensures.after
    s.1 in
    let ends : last_end c.args.self.now.extents ≡ max (end_of s.0) (last_end c.remove.new.self.extents) =
    subst (λ (xs : List Extent). last_end xs ≡ max (end_of s.0) (last_end c.remove.new.self.extents))
    (ap (λ (m : ExtentMap). m.extents) c.self.view_is)
    (subst (λ (ys : List Extent). last_end c.self.inside.pieces.extents ≡ max (end_of s.0) (last_end ys))
    (sym c.remove.ensures.extents) (last_end_remove c.self.inside.pieces.extents c.count_before-found.result s.0 f.0
    ∙ ap
    (λ (x : Extent). max (end_of x) (last_end (remove c.self.inside.pieces.extents c.count_before-found.result)))
    f.1)) in
    subst
    (λ (o : Option Extent).
    IfSome o (λ e. last_end c.args.self.now.extents ≡ max (end_of e) (last_end c.remove.new.self.extents)))
    (sym s.1) ends

pub returns-clause-extents : goal.returns-clause-extents
returns-clause-extents c =
    let s = some_begins (begins_at c.args.self.now.extents c.args.at) c.requires in
    let f = found c.self.inside.pieces.extents c.count_before-found.result c.args.at s.0 c.self.inside.pieces.extents
    c.args.self.now.extents refl (ap (λ (m : ExtentMap). m.extents) c.self.view_is) c.self.invariant.apart
    c.count_before-found.ensures.within c.count_before-found.ensures.before c.count_before-found.ensures.after
    s.1 in
    let before =
    subst (λ (ds : List Extent). (j : ℕ) → j < c.count_before-found.result → end_of (get_or ds j s.0) ≤ c.args.at)
    refl (λ j m. c.count_before-found.ensures.before j s.0 m) in
    c.remove.ensures.extents ∙ remove-without_at 0 c.self.inside.pieces.extents c.count_before-found.result c.args.at
    s.0 c.self.invariant.apart f.0 before (ap (λ (x : Extent). x.at) f.1 ∙ f.2)
    ∙ ap (λ (xs : List Extent). without_at xs c.args.at) (ap (λ (m : ExtentMap). m.extents) c.self.view_is)
