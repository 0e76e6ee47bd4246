use Rattle.std.proofs.Common.{◌≡◌, ◌-◌, ◌^◌, map, min, sum, take}
use Rattle.iol_tree.proofs.index.Index.total.Given as goal

abbrev pub invariant-loop-stamp : goal.invariant-loop-stamp
invariant-loop-stamp l = l.total ≡ min (sum (take l.stamp-index (map (λ s. s.length) l.stamp-items))) (2 ^ 64 - 1)
