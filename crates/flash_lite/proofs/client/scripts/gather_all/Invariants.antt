use Rattle.std.proofs.Common.{◌≡◌, ◌++◌, ◌≤◌, length}
use Rattle.std.specs.List.{concat}
use Rattle.flash_lite.proofs.client.scripts.gather_all.Given as goal

-- the bytes gathered so far, followed by the remaining parts, are all of the bytes
abbrev pub invariant-loop-part : goal.invariant-loop-part
invariant-loop-part l = record {
  can : (goal.iterator-loop-part).can_next l.part-iterator;
  finite : (goal.iterator-loop-part).is_finite l.part-iterator;
  same : l.bytes.items ++ concat l.part-iterator ≡ concat l.fn.parts;
  within : length l.bytes.items ≤ l.fn.most;
}
