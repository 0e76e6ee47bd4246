use Rattle.iol_proc.specs.World.{copying, sharing}
use Rattle.iol_proc.proofs.FailureFree.{resource_failure_as_it_runs}
use Rattle.iol_proc.proofs.laws.failure_free_runs.Goals as goal

pub returns : goal.returns
returns g c = record {
  machine = resource_failure_as_it_runs copying g.P.Process.turns;
  system = resource_failure_as_it_runs sharing g.P.Process.turns;
}
