use Rattle.flash_progress.proofs.Served.{arrivals_can_be_read}
use Rattle.flash_progress.proofs.laws.arrivals_can_be_read.Goals as goal

pub returns : goal.returns
returns c = arrivals_can_be_read c.arrivals_lie_in_their_pool.ensures c.each_step_leaves_the_rest.ensures
    c.each_step_keeps_order.ensures
