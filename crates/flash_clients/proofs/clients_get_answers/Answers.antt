use Rattle.flash_clients.proofs.Turns.{get_answers}
use Rattle.flash_clients.proofs.clients_get_answers.Goals as goal

pub returns : goal.returns
returns c = get_answers (record { stay = c.window_stays.ensures; fit = c.window_fits.ensures }) c.one_answer.ensures
    c.streams_follow.ensures
