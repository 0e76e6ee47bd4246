use Rattle.flash_laws.proofs.Run.OfferedBytes.{runs_offer}
use Rattle.flash_laws.proofs.run_laws.runs_law.Goals as goal

pub returns : goal.returns
returns c =
    runs_offer c.each_step_leaves_the_rest.ensures c.calls_serve_their_domain.ensures c.refusals_tell_why.ensures
    c.refusals_that_are_left.ensures
