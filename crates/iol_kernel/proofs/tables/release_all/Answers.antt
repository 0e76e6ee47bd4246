use Rattle.std.proofs.Common.{◌∙◌}
use Rattle.iol_hold.proofs.Releases.{frees_trans}
use Rattle.iol_kernel.specs.HoldCounts.{bufs_in}
use Rattle.iol_kernel.proofs.AggregateCalls.DomainEnd.{front_readable, last_covered, last_readable, last_released}
use Rattle.iol_kernel.proofs.tables.release_all.Goals as goal

pub release-requires : goal.release-requires
release-requires c = last_covered c.args.store.now c.loop-agg.store (bufs_in c.args.aggs) c.loop-agg.left c.pop.new.self
    c.in-Some.field-0-0 c.in-Some.agg c.in-Some.ensures.given c.requires c.loop-agg.invariant.released.moves

pub loop-agg-preserved : goal.loop-agg-preserved
loop-agg-preserved c =
    let s = c.args.store.now in
    let t = c.loop-agg.store in
    let es = c.loop-agg.left in
    let rest = c.pop.new.self in
    let n = c.in-Some.field-0-0 in
    let x = c.in-Some.agg in
    let is = c.in-Some.ensures.given in
    let readable = c.loop-agg.invariant.readable in
    let so_far = c.loop-agg.invariant.released in
    let released = c.release.ensures in
    let covers = last_covered s t (bufs_in c.args.aggs) es rest n x is c.requires so_far.moves in
    record {
      released = record {
        moves = last_released s t c.release.new.store (bufs_in c.args.aggs) es rest n x is so_far.moves released.moves;
        lists = released.lists ∙ so_far.lists;
        frees = frees_trans so_far.frees released.frees released.moves.counts;
        reclaims =
            λ all reclaimed. released.reclaims
            (last_readable s t es rest n x is so_far.moves.stays covers (readable all)) (so_far.reclaims all reclaimed);
      };
      readable = λ all. front_readable s es rest n x is (readable all);
    }
