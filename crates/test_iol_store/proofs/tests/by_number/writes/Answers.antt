use Rattle.test_iol_store.proofs.Sharing.{is_there}
use Rattle.test_iol_store.proofs.tests.by_number.writes.Goals as goal

pub write-requires-clause-there : goal.write-requires-clause-there
write-requires-clause-there g c = is_there _ _ c.requires
