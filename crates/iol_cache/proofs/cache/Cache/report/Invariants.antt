use Rattle.std.proofs.Common.{◌≡◌, ◌≤◌, ◌*◌, take}
use Rattle.iol_cache.specs.CacheState.{dirty_in_all, extents_in_all}
use Rattle.iol_cache.proofs.cache.Cache.report.Given as goal

abbrev pub invariant-loop-file : goal.invariant-loop-file
invariant-loop-file l = record {
  extents : l.extents ≡ extents_in_all (take l.file-index l.file-items);
  dirty : l.dirty ≡ dirty_in_all (take l.file-index l.file-items);
  few : l.extents ≤ l.file-index * 16777216;
  fewer : l.dirty ≤ l.extents;
}
