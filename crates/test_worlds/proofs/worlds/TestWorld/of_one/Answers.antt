use Rattle.test_worlds.proofs.Apart.{one_apart}
use Rattle.test_worlds.proofs.worlds.TestWorld.of_one.Goals as goal

pub new-requires : goal.new-requires
new-requires g c = one_apart c.args.by _ c.in_ok-processes.ensures
