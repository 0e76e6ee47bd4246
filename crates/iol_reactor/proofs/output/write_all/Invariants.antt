use Rattle.std.specs.Io.KnownBytes.{Keeps}
use Rattle.iol_reactor.specs.Bytes.{Passes}
use Rattle.iol_reactor.proofs.output.write_all.Given as goal

abbrev pub invariant-loop : goal.invariant-loop
invariant-loop g l = Passes (g.S.Socket.accepted l.fn.socket) (g.S.Socket.accepted l.socket) l.fn.bytes l.rest
    × Keeps (g.S.Socket.supplied l.fn.socket) (g.S.Socket.supplied l.socket)
