use Rattle.flash_laws.proofs.Run.ReplyUse.{runs_keep}
use Rattle.flash_laws.proofs.run_laws.run_keeping_law.Goals as goal

pub returns : goal.returns
returns c = runs_keep c.aggregates_come_and_go.ensures c.calls_serve_their_domain.ensures
