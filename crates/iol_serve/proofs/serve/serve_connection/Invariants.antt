use Rattle.iol_back.specs.Disk.{IfHonest}
use Rattle.iol_proc.specs.Laws.{KeepsHonesty}
use Rattle.iol_proc.specs.World.{copied}
use Rattle.iol_serve.specs.Service.{Serves, hung_up}
use Rattle.iol_serve.proofs.serve.serve_connection.Given as goal

abbrev pub invariant-loop : goal.invariant-loop
invariant-loop g l = record {
  honest : KeepsHonesty l.fn.world.machine l.world.machine;
  serves : IfHonest l.fn.world.machine.disk
      (Serves g.P.Process.turns l.fn.conn (hung_up l.ending) (g.R.Read.remaining l.fn.reader)
      (g.R.Read.remaining l.reader) (g.W.Write.contents l.fn.writer) (g.W.Write.contents l.writer) (copied l.fn.world)
      (copied l.world));
}
