use Rattle.std.proofs.Common.{◌≡◌, ◌+◌, ◌≤◌, length, min}
use Rattle.std.specs.List.{concat}
use Rattle.flash_laws.specs.Conn.{count_of}
use Rattle.flash_lite.proofs.received.count_in.Given as goal

-- the count so far and the bytes of the remaining parts give the count of all
abbrev pub invariant-loop-part : goal.invariant-loop-part
invariant-loop-part l = record {
  can : (goal.iterator-loop-part).can_next l.part-iterator;
  finite : (goal.iterator-loop-part).is_finite l.part-iterator;
  fits : l.count ≤ 4294967295;
  same : min (l.count + length (concat l.part-iterator)) 4294967295 ≡ count_of (concat l.fn.parts);
}
