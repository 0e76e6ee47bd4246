use Rattle.flash_laws.proofs.Client.Holdings.{clients_leave}
use Rattle.flash_laws.proofs.run_laws.client_keeping_law.Goals as goal

pub returns : goal.returns
returns c =
    clients_leave c.aggregates_come_and_go.ensures c.calls_serve_their_domain.ensures
    c.file_calls_serve_their_domain.ensures
