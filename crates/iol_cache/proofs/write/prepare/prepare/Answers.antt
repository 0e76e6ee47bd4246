use Rattle.std.proofs.Common.{List, ◌∙◌, ◌+◌, [], refl, sym, ap, arith, subst, rules}
use Rattle.iol_cache.specs.Composition.{copied_pages}
use Rattle.iol_hold.specs.Moves.{Covers, Moves, Shares}
use Rattle.iol_hold.specs.StoreState.{Stored}
use Rattle.iol_hold.specs.Texts.{AllReadable, bufs_of}
use Rattle.iol_hold.specs.declared.slices.Slice.{Slice}
use Rattle.iol_hold.proofs.Moves.{covers_given, shares_move, shares_trans}
use Rattle.iol_hold.proofs.PageChanges.{keeps_pages_same, keeps_pages_shares}
use Rattle.iol_hold.proofs.ReadSlices.{readable_stays}
use Rattle.iol_hold.proofs.Releases.{frees_trans}
use Rattle.iol_extent.specs.Extents.{Extent}
use Rattle.iol_cache.specs.Cuts.{CutsRight}
use Rattle.iol_cache.specs.CacheState.{all_parts}
use Rattle.iol_cache.proofs.RangeWrites.Composition.{composed_long, covers_source}
use Rattle.iol_cache.proofs.RangeReads.FilledGaps.{moved_back, placed_some}
use Rattle.iol_cache.proofs.RangeWrites.Preparation.{composed_few, cut_few, few_more, held_after, left_readable}
use Rattle.iol_cache.proofs.RangeWrites.Preparation.{still_held}
use Rattle.iol_cache.proofs.RangeWrites.Replacement.{moves_on}
use Rattle.iol_cache.proofs.RangeReads.SharedBytes.{reclaims_shares}
use Rattle.iol_cache.proofs.RangeReads.Weave.{still_covers}
use Rattle.iol_cache.proofs.RangeWrites.ReplacedRange.{left_len}
use Rattle.iol_cache.proofs.write.prepare.prepare.Goals.{In_default-cut_right}
use Rattle.iol_cache.proofs.write.prepare.prepare.Goals as goal

pub cut_left-requires : goal.cut_left-requires
cut_left-requires c = record {
  held = covers_source c.requires.extents.held c.in-Ok.ensures.composes.moves;
  few =
      few_more
      (composed_few c.in-Ok.agg c.in-Ok.ensures.composes.moves
      (omega (arith, composed_long c.in-Ok.ensures.composes, c.requires.bytes.small)) c.requires.bytes.few);
}

pub release-requires : goal.release-requires
release-requires c =
    let m = c.in-Ok.ensures.composes.moves in
    subst (λ (t : Stored). Covers t (bufs_of c.in-Ok.agg)) (sym c.in_default.ensures.err) (covers_given m.counts)

pub returns-in_default : goal.returns-in_default
returns-in_default c =
    let t = c.compose.new.store in
    let err = c.in_default.ensures.err in
    let pools = ap (λ (x : Stored). x.pools) err in
    let m = c.in-Ok.ensures.composes in
    record {
      prepares = tt;
      leaves = record {
        none =
            moves_on m.moves (subst (λ (t : Stored). Moves t c.release.new.store (bufs_of c.in-Ok.agg) []) err
            c.release.ensures.moves);
        given_back =
            placed_some (copied_pages c.args.pool c.args.source.now) (omega arith) m.pages
            (keeps_pages_same t c.cut_left.new.store (ap (λ (x : Stored). x.arena) err) pools) c.release.ensures.frees
            pools;
        lists = search (rules);
        reclaims = search (rules);
        no_room = search (rules);
      };
      late = tt;
    }

pub cut_right-requires-clause-may : goal.cut_right-requires-clause-may
cut_right-requires-clause-may c =
    let few =
    composed_few c.in-Ok.agg c.in-Ok.ensures.composes.moves
    (omega (arith, composed_long c.in-Ok.ensures.composes, c.requires.bytes.small)) c.requires.bytes.few in
    record {
      held =
          still_covers (covers_source c.requires.extents.held c.in-Ok.ensures.composes.moves)
          c.in-Ok-cut_left.ensures.shares;
      few =
          cut_few c.in-Ok-cut_left.left.parts c.in-Ok-cut_left.ensures.shares
          (omega (
            arith,
            left_len c.args.extents.now.extents c.args.at c.in-Ok-cut_left.left
                c.in-Ok-cut_left.ensures.cut,
            c.requires.fits,
          )) few;
    }

-- the part on the left is released, if there is no memory for the part on the right
shared : (c : In_default-cut_right) → Shares c.compose.new.store c.cut_right.new.store [] (bufs_of c.left.inside.agg)
shared c =
    let is = ap (λ (x : Extent). x.parts) c.left.view_is in
    subst (λ (xs : List Slice). Shares c.compose.new.store c.cut_right.new.store [] (bufs_of xs)) (sym is)
    (subst (λ (u : Stored). Shares c.compose.new.store u [] (bufs_of c.in-Ok-cut_left.left.parts))
    (sym c.in_default-cut_right.ensures.err) c.in-Ok-cut_left.ensures.shares)

pub release-requires-in_default-cut_right : goal.release-requires-in_default-cut_right
release-requires-in_default-cut_right c =
    covers_given (shares_move (shared (goal.at.release-requires-in_default-cut_right c).In_default-cut_right)).counts

pub release-requires-in_default-cut_right-2 : goal.release-requires-in_default-cut_right-2
release-requires-in_default-cut_right-2 c =
    held_after c.in-Ok.ensures.composes.moves
    (shares_move (shared (goal.at.release-requires-in_default-cut_right-2 c).In_default-cut_right))
    c.release-in_default-cut_right.ensures.moves

pub returns-in_default-cut_right : goal.returns-in_default-cut_right
returns-in_default-cut_right c =
    let es = c.args.extents.now.extents in
    let left = c.in-Ok-cut_left.left in
    let is = ap (λ (x : Extent). x.parts) c.left.view_is in
    let first = c.in-Ok.ensures.composes in
    let shares = shared (goal.at.returns-in_default-cut_right c).In_default-cut_right in
    let moves = shares_move shares in
    let one = c.release-in_default-cut_right.ensures in
    let two = c.release-in_default-cut_right-2.ensures in
    let t = c.compose.new.store in
    let u = c.cut_right.new.store in
    let v = c.release-in_default-cut_right.new.store in
    let held_t = covers_source c.requires.extents.held first.moves in
    let all_t = readable_stays {old = c.args.store.now} {new = t} (all_parts es) first.moves.stays held_t
    c.requires.extents.readable in
    let all_u = readable_stays {old = t} {new = u} (all_parts es) moves.stays (still_covers held_t shares) all_t in
    let left_u = left_readable {s = u} es c.args.at left all_u c.in-Ok-cut_left.ensures.cut in
    let agg_u = readable_stays {old = t} {new = u} c.in-Ok.agg moves.stays (still_held first.moves moves)
    first.readable in
    let agg_v = readable_stays {old = u} {new = v} c.in-Ok.agg one.moves.stays (held_after first.moves moves one.moves)
    agg_u in
    record {
      prepares = tt;
      leaves = record {
        none = moved_back first.moves (moves_on moves one.moves) two.moves (λ b. refl);
        given_back =
            placed_some (copied_pages c.args.pool c.args.source.now) (omega arith) first.pages
            (keeps_pages_shares shares) (frees_trans one.frees two.frees two.moves.counts) shares.pools;
        lists = search (rules);
        reclaims =
            λ h. two.reclaims agg_v
            (one.reclaims (subst (AllReadable u) (sym is) left_u) (reclaims_shares shares (first.reclaims h)));
        no_room = search (rules);
      };
      late = tt;
    }

pub returns : goal.returns
returns c =
    let es = c.args.extents.now.extents in
    let right = c.in-Ok-cut_right.right in
    record {
      prepares = record {
        before = c.in-Ok-cut_left.ensures.cut;
        after = subst (λ n. CutsRight es (c.args.at + n) right) c.len.ensures c.in-Ok-cut_right.ensures.cut;
        ends = c.in-Ok-cut_right.ensures.cut.begins ∙ ap (λ n. c.args.at + n) c.len.ensures;
        begins = refl;
        dirty = refl;
        mid = c.compose.new.store;
        composes = c.in-Ok.ensures.composes;
        shares = shares_trans c.in-Ok-cut_left.ensures.shares c.in-Ok-cut_right.ensures.shares;
      };
      leaves = search (rules);
      late = tt;
    }
