use Rattle.std.proofs.Common.{◌≡◌, ℕ, ◌<◌, true}
use Rattle.iol_evict.specs.Victims.{is_used, KeysUsedBelow}
use Rattle.iol_evict.proofs.victim.first_idle.Given as goal

abbrev pub invariant-loop-i : goal.invariant-loop-i
invariant-loop-i g l = record {
  used : (i : ℕ) → i < l.i → is_used (g.U.InUse.in_use l.users) l.slab l.keys.items i ≡ true;
  below : KeysUsedBelow (g.U.InUse.in_use l.users) l.passed l.slab l.keys.items;
}
