use Rattle.test_worlds.proofs.Apart.{one_apart}
use Rattle.test_iol_reactor.proofs.exchanging.world_over.Goals as goal

pub new-requires : goal.new-requires
new-requires c = one_apart 1 _ c.in_ok-processes.ensures
