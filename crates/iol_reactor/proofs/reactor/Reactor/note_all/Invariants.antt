use Rattle.std.proofs.Common.{◌≡◌}
use Rattle.iol_reactor.proofs.reactor.Reactor.note_all.Given as goal

abbrev pub invariant-loop-event : goal.invariant-loop-event
invariant-loop-event g l = record {
  listener : l.self.acceptor.listener ≡ l.fn.self.acceptor.listener;
  left : l.self.acceptor.left ≡ l.fn.self.acceptor.left;
}
