use Rattle.flash_cgi.proofs.OutputPools.{outputs_are_shown}
use Rattle.flash_cgi.proofs.laws.outputs_are_shown.Goals as goal

pub returns : goal.returns
returns c =
    outputs_are_shown c.labels_follow.ensures c.each_step_leaves_the_rest.ensures
    c.file_calls_serve_their_domain.ensures c.domains_and_pools_come_and_go.ensures
