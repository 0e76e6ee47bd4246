use Rattle.flash_clients.proofs.Visited.{visits_answered}
use Rattle.flash_clients.proofs.visits_are_answered.Goals as goal

pub returns : goal.returns
returns g c = λ count job_queue pools jobs apart.
    visits_answered _ (c.world_law.ensures.run count job_queue pools jobs apart)
    (c.world_law.ensures.answered count job_queue pools jobs apart)
    (c.world_law.ensures.whole count job_queue pools jobs apart) c.connection_numbers_rise.ensures
