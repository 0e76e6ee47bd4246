use Rattle.std.proofs.Common.{◌≡◌, ◌<◌, take}
use Rattle.std.specs.List.{All, filter, range_with_len}
use Rattle.iol_arena.specs.Chunks.{is_untaken}
use Rattle.iol_arena.proofs.arena.chunks.lowest_free.Given as goal

abbrev pub invariant-loop-i : goal.invariant-loop-i
invariant-loop-i l = record {
  found : l.set ≡ take l.count (filter (is_untaken l.taken) (range_with_len 0 l.i));
  below : All (λ c. c < l.i) l.set;
}
