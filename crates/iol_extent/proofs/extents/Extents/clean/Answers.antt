use Rattle.std.proofs.Common.{◌≡◌, ◌<◌, ◌+◌, Some, length, get_or, ap, sym, ◌∙◌, subst, arith}
use Rattle.iol_extent.specs.Extents.{AreCleanBefore, ExtentMap, Extent, IsApart, cleaned_at, dirty_count, dirty_in}
use Rattle.iol_extent.proofs.CleanExtents.{clean_lower, cleaned_apart, cleaned_before, cleaned_count, first_found}
use Rattle.iol_extent.proofs.CleanExtents.{set_cleaned}
use Rattle.iol_extent.proofs.extents.Extents.clean.Goals.{After-count_before-found, After-clean}
use Rattle.iol_extent.proofs.extents.Extents.clean.Goals as goal

first : (c : After-count_before-found) → dirty_in c.self.inside.pieces.extents ≡ Some c.requires.extent
first c = ap (λ (m : ExtentMap). dirty_in m.extents) c.self.view_is ∙ c.requires.is

-- the extent at the index found is the first dirty one
found : (c : After-count_before-found) → (c.count_before-found.result < length c.self.inside.pieces.extents)
    × (get_or c.self.inside.pieces.extents c.count_before-found.result c.requires.extent ≡ c.requires.extent)
    × (c.requires.extent.at ≡ c.args.at)
found c =
    let place = c.count_before-found in
    first_found c.self.inside.pieces.extents place.result c.args.at c.requires.extent c.self.invariant.apart
    place.ensures.within place.ensures.before place.ensures.after (first c) c.requires.begins

count : (c : After-count_before-found) → dirty_count (cleaned_at c.self.inside.pieces.extents c.requires.extent.at) + 1
    ≡ dirty_count c.self.inside.pieces.extents
count c = cleaned_count 0 c.self.inside.pieces.extents c.requires.extent c.self.invariant.apart (first c)

items : (c : After-clean) → c.clean.new.self.extents ≡ cleaned_at c.self.inside.pieces.extents c.args.at
items c =
    let e = c.requires.extent in
    let f = found (goal.at.After-clean c).After-count_before-found in
    c.clean.ensures.extents e ∙ set_cleaned 0 c.self.inside.pieces.extents c.count_before-found.result c.args.at e
    c.self.invariant.apart f.0 (λ j l. c.count_before-found.ensures.before j e l) (ap (λ (x : Extent). x.at) f.1
    ∙ f.2)

apart : (c : After-clean) → IsApart 0 c.clean.new.self.extents
apart c =
    subst (IsApart 0) (sym (items c)) (cleaned_apart 0 c.self.inside.pieces.extents c.args.at c.self.invariant.apart)

pub clean-requires : goal.clean-requires
clean-requires c = (found (goal.at.clean-requires c).After-count_before-found).0

pub overflow_sub-self : goal.overflow_sub-self
overflow_sub-self c =
    omega (arith, count (goal.at.overflow_sub-self c).After-count_before-found, c.self.invariant.dirty)

pub invariant_of-self : goal.invariant_of-self
invariant_of-self c =
    let e = c.requires.extent in
    let es = c.self.inside.pieces.extents in
    let at = goal.at.invariant_of-self c in
    let is = items at.After-clean in
    record {
      apart = apart at.After-clean;
      dirty =
          omega (
            arith,
            count at.After-count_before-found,
            c.self.invariant.dirty,
            ap dirty_count is,
            ap (λ n. dirty_count (cleaned_at es n)) c.requires.begins,
          );
      clean =
          subst (AreCleanBefore c.args.at) (sym is)
          (subst (λ n. AreCleanBefore n (cleaned_at es n)) c.requires.begins
          (clean_lower (e.at + 1) e.at (cleaned_at es e.at) (omega arith)
          (cleaned_before 0 es e c.self.invariant.apart (first at.After-count_before-found))));
    }

pub returns-clause-extents : goal.returns-clause-extents
returns-clause-extents c = items (goal.at.returns-clause-extents c).After-clean
    ∙ ap (λ (m : ExtentMap). cleaned_at m.extents c.args.at) c.self.view_is

pub returns-clause-apart : goal.returns-clause-apart
returns-clause-apart c = apart (goal.at.returns-clause-apart c).After-clean
