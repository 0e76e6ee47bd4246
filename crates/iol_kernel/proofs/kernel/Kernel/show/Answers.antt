use Rattle.iol_kernel.specs.Kernel.{state_of}
use Rattle.iol_kernel.proofs.State.Sound.{agg_readable}
use Rattle.iol_kernel.proofs.kernel.Kernel.show.Goals as goal

pub to_vec-requires : goal.to_vec-requires
to_vec-requires c = agg_readable (state_of c.args.self.now) c.args.by c.args.agg c.in_ok-found.found.now c.requires
    c.in_ok-found.ensures.ok.found
