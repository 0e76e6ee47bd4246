use Rattle.std.proofs.Common.{◌≡◌, ◌<◌, []}
use Rattle.test_iol_store.proofs.tests.order.evict_rounds.Given as goal

abbrev pub invariant-loop : goal.invariant-loop
invariant-loop l = record {
  entries : l.order.entries ≡ [];
  room : 0 < l.order.room;
}
