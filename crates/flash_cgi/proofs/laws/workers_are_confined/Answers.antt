use Rattle.flash_cgi.proofs.Frame.{workers_are_confined}
use Rattle.flash_cgi.proofs.laws.workers_are_confined.Goals as goal

pub returns : goal.returns
returns c =
    workers_are_confined c.each_step_leaves_the_rest.ensures c.aggregates_come_and_go.ensures
    c.descriptors_come_by_replies.ensures
