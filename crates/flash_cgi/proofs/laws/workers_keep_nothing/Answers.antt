use Rattle.flash_cgi.proofs.UsesByTurn.{workers_keep_nothing}
use Rattle.flash_cgi.proofs.laws.workers_keep_nothing.Goals as goal

pub returns : goal.returns
returns c =
    workers_keep_nothing c.calls_serve_their_domain.ensures c.refusals_tell_why.ensures c.aggregates_come_and_go.ensures
