use Rattle.std.proofs.Common.{[], sym, ap, subst, arith, length, List}
use Rattle.iol_extent.specs.Extents.{Extent, begins_at}
use Rattle.iol_extent.proofs.Cover.{some_begins}
use Rattle.iol_hold.specs.Moves.{Covers, Moves}
use Rattle.iol_hold.specs.Texts.{AllReadable, bufs_of}
use Rattle.iol_hold.specs.declared.slices.Slice.{Slice}
use Rattle.iol_cache.specs.CacheState.{parts_in, all_parts}
use Rattle.iol_cache.specs.Marks.{AreWithin}
use Rattle.iol_cache.specs.Replacement.{Reindexes}
use Rattle.iol_cache.proofs.Evictions.AfterEviction.{given_is}
use Rattle.iol_cache.proofs.RangeWrites.InPlace.{may_advance}
use Rattle.iol_cache.proofs.RangeWrites.Replacement.{covers_part, moves_part, readable_less, readable_part}
use Rattle.iol_cache.proofs.Extents.HeldSlices.{are_within}
use Rattle.iol_cache.proofs.write.replace.take_out.Goals as goal

pub forget-requires : goal.forget-requires
forget-requires c =
    let es = c.args.extents.now.extents in
    let e = some_begins (begins_at es c.args.at) c.requires.begins in
    record {
      begins = c.requires.begins;
      indexed = c.requires.may.indexed;
      within = subst (λ (xs : List Slice). AreWithin (length c.args.marks.now) xs) (sym (ap parts_in e.1))
          (are_within e.0.parts _ c.requires.may.pages (covers_part es c.args.at e.0 e.1 c.requires.may.held));
    }

pub release-requires : goal.release-requires
release-requires c =
    let es = c.args.extents.now.extents in
    let e = some_begins (begins_at es c.args.at) c.requires.begins in
    subst (λ (xs : List Slice). Covers c.args.store.now (bufs_of xs))
    (sym (given_is es c.args.at e.0 c.remove-agg.result e.1 c.remove-agg.ensures.given))
    (covers_part es c.args.at e.0 e.1 c.requires.may.held)

pub returns : goal.returns
returns c =
    let es = c.args.extents.now.extents in
    let may = c.requires.may in
    let is = c.remove-agg.ensures.extents in
    let released = c.release.ensures in
    let e = some_begins (begins_at es c.args.at) c.requires.begins in
    let given = given_is es c.args.at e.0 c.remove-agg.result e.1 c.remove-agg.ensures.given in
    let follows =
    subst (λ (xs : List Extent). Reindexes c.args.file es xs c.args.order.now c.forget.new.order c.args.marks.now
    c.forget.new.marks) (sym is) c.forget.ensures.follows in
    let moves =
    subst (λ (xs : List Extent). Moves c.args.store.now c.release.new.store (bufs_of (all_parts es))
    (bufs_of (all_parts xs))) (sym is)
    (moves_part es c.args.at e.0 e.1
    (subst (λ (xs : List Slice). Moves c.args.store.now c.release.new.store (bufs_of xs) []) given
    released.moves)) in
    record {
      extents = is;
      order = c.forget.ensures.order;
      gone = record {
        room = omega (arith, c.remove-agg.ensures.room);
        order_room = c.forget.ensures.room;
        follows = follows;
        moves = moves;
        frees = released.frees;
        lists = released.lists;
        reclaims =
            released.reclaims
            (subst (AllReadable c.args.store.now) (sym given)
            (readable_part es c.args.at e.0 may.indexed.apart e.1 may.readable));
        left =
            may_advance may follows moves released.frees c.remove-agg.ensures.apart
            (subst (λ (xs : List Extent). AllReadable c.args.store.now (all_parts xs)) (sym is)
            (readable_less es c.args.at may.readable));
      };
    }
