use Rattle.flash_cgi.proofs.Expected.{scripts_have_one_output}
use Rattle.flash_cgi.proofs.laws.scripts_have_one_output.Goals as goal

pub returns : goal.returns
returns c = scripts_have_one_output c.turns_feed.ensures c.others_receive.ensures c.calls_serve_their_domain.ensures
    c.workers_are_confined.ensures
