use Rattle.flash_cgi.proofs.Full.{running_is_full}
use Rattle.flash_cgi.proofs.laws.running_is_full.Goals as goal

pub returns : goal.returns
returns c =
    running_is_full c.refusals_tell_why.ensures c.refusals_that_are_left.ensures c.file_calls_serve_their_domain.ensures
