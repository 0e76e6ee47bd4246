use Rattle.flash_answers.proofs.Answered.{found_answered}
use Rattle.flash_answers.proofs.client.Goals as goal

pub returns-clause-answers : goal.returns-clause-answers
returns-clause-answers g c =
    found_answered c.sites_answer.ensures c.requests_are_kept.ensures c.clients_get_answers.ensures
    g.S.Socket.supplied g.S.Socket.accepted g.V.Service.starts g.V.Service.frames g.met.V.HonestSites.serves _
    g.met.V.HonestSites.net _ c.client.result c.client.ensures.history
