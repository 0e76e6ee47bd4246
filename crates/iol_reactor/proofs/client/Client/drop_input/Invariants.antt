use Rattle.std.proofs.Common.{◌≡◌}
use Rattle.std.specs.Io.KnownBytes.{Keeps}
use Rattle.iol_reactor.specs.Bytes.{Grows, IsSameInput}
use Rattle.iol_reactor.proofs.client.Client.drop_input.Given as goal

abbrev pub invariant-loop : goal.invariant-loop
invariant-loop g l = record {
  same : IsSameInput l.fn.self.input l.self.input;
  came : Grows (g.S.Socket.supplied l.fn.self.socket) (g.S.Socket.supplied l.self.socket);
  sent : Keeps (g.S.Socket.accepted l.fn.self.socket) (g.S.Socket.accepted l.self.socket);
  whole : l.self.is_whole ≡ l.fn.self.is_whole;
  phase : l.self.phase ≡ l.fn.self.phase;
  output : l.self.output ≡ l.fn.self.output;
  ended : l.self.input.ended ≡ l.fn.self.input.ended;
  last : l.self.is_last ≡ l.fn.self.is_last;
  time : l.self.last ≡ l.fn.self.last;
}
