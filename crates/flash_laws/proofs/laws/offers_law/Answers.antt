use Rattle.flash_laws.proofs.Conn.OfferedBytes.{offers_the_response}
use Rattle.flash_laws.proofs.laws.offers_law.Goals as goal

pub returns : goal.returns
returns c = offers_the_response c.each_step_leaves_the_rest.ensures c.calls_serve_their_domain.ensures
    c.file_calls_serve_their_domain.ensures
    c.refusals_tell_why.ensures c.refusals_that_are_left.ensures
