use Rattle.bench_paper_server.proofs.Apart.{one_apart}
use Rattle.bench_paper_server.proofs.site.world.Goals as goal

pub new-requires-2 : goal.new-requires-2
new-requires-2 c = one_apart 1 _ c.in_ok-processes.ensures
