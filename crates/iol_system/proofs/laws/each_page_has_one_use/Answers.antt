use Rattle.iol_system.proofs.Uses.{page_use}
use Rattle.iol_system.proofs.laws.each_page_has_one_use.Goals as goal

pub returns : goal.returns
returns c = page_use
