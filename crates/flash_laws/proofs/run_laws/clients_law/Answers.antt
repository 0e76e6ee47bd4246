use Rattle.flash_laws.proofs.Client.OfferedBytes.{clients_offered}
use Rattle.flash_laws.proofs.run_laws.clients_law.Goals as goal

pub returns : goal.returns
returns c =
    clients_offered c.each_step_leaves_the_rest.ensures c.calls_serve_their_domain.ensures
    c.file_calls_serve_their_domain.ensures
    c.refusals_that_are_left.ensures
