use Rattle.iol_extent.proofs.Alone.{gaps_alone}
use Rattle.iol_extent.proofs.laws.gaps_are_one.Goals as goal

pub returns : goal.returns
returns c = gaps_alone
