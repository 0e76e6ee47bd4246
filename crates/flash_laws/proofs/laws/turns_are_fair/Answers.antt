use Rattle.flash_laws.proofs.Site.FairTurns.{turns_fair}
use Rattle.flash_laws.proofs.laws.turns_are_fair.Goals as goal

pub returns : goal.returns
returns c = turns_fair
