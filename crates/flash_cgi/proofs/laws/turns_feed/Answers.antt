use Rattle.flash_cgi.proofs.OutputByTurn.{turn_feeds}
use Rattle.flash_cgi.proofs.laws.turns_feed.Goals as goal

pub returns : goal.returns
returns c = turn_feeds c.workers_feed_pipes.ensures c.jobs_are_taken.ensures c.outcomes_are_true.ensures
    c.calls_serve_their_domain.ensures c.each_step_leaves_the_rest.ensures
