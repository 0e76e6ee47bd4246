use Rattle.std.proofs.Common.{◌≡◌, ◌==◌, All, take}
use Rattle.iol_hold.specs.Places.{byte_len}
use Rattle.iol_cache.proofs.write.copies.run_of.Given as goal

abbrev pub invariant-loop-slice : goal.invariant-loop-slice
invariant-loop-slice l = record {
  count : l.count ≡ l.slice-index;
  bytes : l.bytes ≡ byte_len (take l.slice-index l.slices);
  all : All (λ x. (x.hold.pool == l.pool) ≡ l.own) (take l.slice-index l.slices);
}
