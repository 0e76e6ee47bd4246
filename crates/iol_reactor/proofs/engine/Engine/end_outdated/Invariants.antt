use Rattle.std.proofs.Common.{◌≡◌}
use Rattle.iol_reactor.specs.Connections.{AreCurrent}
use Rattle.iol_reactor.proofs.engine.Engine.end_outdated.Given as goal

abbrev pub invariant-loop-slot : goal.invariant-loop-slot
invariant-loop-slot g l = record {
  generation : l.self.places.worlds.links.generation ≡ l.fn.self.places.worlds.links.generation;
  current : AreCurrent l.fn.self.places.worlds.links.generation l.slot l.self.places.worlds.links.table.items;
}
