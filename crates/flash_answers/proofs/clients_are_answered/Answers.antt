use Rattle.flash_site.specs.World.{BeginsSite}
use Rattle.flash_answers.proofs.Clients.{clients_answered}
use Rattle.flash_answers.proofs.clients_are_answered.Goals as goal

pub returns : goal.returns
returns c = clients_answered BeginsSite (λ world begun. begun) c.sites_answer.ensures c.requests_are_kept.ensures
    c.clients_get_answers.ensures
