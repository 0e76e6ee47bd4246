use Rattle.iol_serve.proofs.Whole.{over_whole}
use Rattle.iol_serve.proofs.laws.over_is_whole.Goals as goal

pub returns : goal.returns
returns g c = over_whole g.P.Process.turns c.histories_of_choices.ensures
