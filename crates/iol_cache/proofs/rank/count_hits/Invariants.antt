use Rattle.std.proofs.Common.{◌≡◌, drop}
use Rattle.iol_cache.specs.RangeReads.{RanksFile, hits_counted}
use Rattle.iol_cache.proofs.rank.count_hits.Given as goal

abbrev pub invariant-loop-hit : goal.invariant-loop-hit
invariant-loop-hit l = record {
  ranked : RanksFile l.order l.file l.extents.extents;
  rest : hits_counted l.order l.file l.extents.extents (drop l.hit-index l.hits) ≡ hits_counted l.fn.order l.file
      l.extents.extents l.hits;
}
