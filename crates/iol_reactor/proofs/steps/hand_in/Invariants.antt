use Rattle.iol_proc.specs.Laws.{KeepsHonesty}
use Rattle.iol_reactor.specs.Bytes.{IsRestOf}
use Rattle.iol_reactor.specs.Serving.{ArrivesIn}
use Rattle.iol_reactor.proofs.steps.hand_in.Given as goal

abbrev pub invariant-loop : goal.invariant-loop
invariant-loop g l = record {
  honest : KeepsHonesty l.fn.world.machine l.world.machine;
  rest : IsRestOf l.fn.bytes l.rest;
  alone : ArrivesIn g.P.Process.turns l.fn.conn l.fn.bytes l.rest l.fn.world l.world;
}
