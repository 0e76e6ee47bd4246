use Rattle.flash_laws.proofs.Site.Rounds.{turns_are_round_robin}
use Rattle.flash_laws.proofs.laws.rounds_law.Goals as goal

pub returns : goal.returns
returns c = turns_are_round_robin
