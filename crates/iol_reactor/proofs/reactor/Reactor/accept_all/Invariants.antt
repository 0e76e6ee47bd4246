use Rattle.iol_reactor.specs.Accepting.{StaysWithin}
use Rattle.iol_reactor.proofs.reactor.Reactor.accept_all.Given as goal

abbrev pub invariant-loop : goal.invariant-loop
invariant-loop g l =
    StaysWithin (g.L.Listener.given l.fn.self.acceptor.listener) l.fn.self.acceptor.left
    (g.L.Listener.given l.self.acceptor.listener) l.self.acceptor.left
