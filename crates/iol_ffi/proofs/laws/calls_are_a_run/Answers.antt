use Rattle.iol_ffi.proofs.Runs.{calls_run}
use Rattle.iol_ffi.proofs.laws.calls_are_a_run.Goals as goal

pub returns : goal.returns
returns c = calls_run
