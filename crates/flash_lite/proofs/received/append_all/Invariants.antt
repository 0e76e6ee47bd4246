use Rattle.std.proofs.Common.{◌≡◌, ◌++◌, ◌≤◌, length, take}
use Rattle.std.specs.List.{concat}
use Rattle.flash_lite.proofs.received.append_all.Given as goal

-- the list followed by the remaining parts is the old list followed by all parts; the old list is its front
abbrev pub invariant-loop-part : goal.invariant-loop-part
invariant-loop-part l = record {
  can : (goal.iterator-loop-part).can_next l.part-iterator;
  finite : (goal.iterator-loop-part).is_finite l.part-iterator;
  same : l.list.items ++ concat l.part-iterator ≡ l.fn.list.items ++ concat l.fn.parts;
  front : take l.len l.list.items ≡ l.fn.list.items;
  within : l.len ≤ length l.list.items;
}
