use Rattle.std.proofs.Common.{◌≡◌, ◌+◌, ◌≤◌, take, drop}
use Rattle.iol_hold.specs.Places.{byte_len}
use Rattle.iol_cache.specs.Composition.{copied_pages, pages_after}
use Rattle.iol_cache.proofs.write.copies.foreign_pages.Given as goal

abbrev pub invariant-loop-slice : goal.invariant-loop-slice
invariant-loop-slice l = record {
  total : l.pages + pages_after l.run l.pool (drop l.slice-index l.slice-items) ≡ copied_pages l.pool l.source;
  few : l.pages + l.run ≤ byte_len (take l.slice-index l.slice-items);
}
