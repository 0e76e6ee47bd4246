use Rattle.flash_laws.proofs.Site.Expected.{expected_may_come}
use Rattle.flash_laws.proofs.worker_laws.expected_may_come.Goals as goal

pub returns : goal.returns
returns c = expected_may_come
