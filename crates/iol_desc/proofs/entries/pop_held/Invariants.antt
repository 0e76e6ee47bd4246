use Rattle.std.proofs.Common.{◌≡◌, vec_len}
use Rattle.iol_desc.specs.EntryLists.{there}
use Rattle.iol_desc.proofs.entries.pop_held.Given as goal

-- only holes were removed
abbrev pub invariant-loop-number : goal.invariant-loop-number
invariant-loop-number g l = there l.list.items ≡ there l.initial.list.items

abbrev pub decreases-loop-number : goal.decreases-loop-number
decreases-loop-number g l = vec_len l.list
