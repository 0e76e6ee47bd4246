use Rattle.iol_proc.specs.Laws.{KeepsHonesty}
use Rattle.iol_proc.specs.World.{copied}
use Rattle.iol_serve.specs.Service.{Sends}
use Rattle.iol_serve.proofs.serve.send.Given as goal

abbrev pub invariant-loop : goal.invariant-loop
invariant-loop g l = record {
  honest : KeepsHonesty l.fn.world.machine l.world.machine;
  sends : Sends g.P.Process.turns l.fn.conn (g.W.Write.contents l.fn.writer) (g.W.Write.contents l.writer)
      (copied l.fn.world) (copied l.world);
}
