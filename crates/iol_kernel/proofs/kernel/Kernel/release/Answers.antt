use Rattle.iol_desc.specs.Tables.{domains_of}
use Rattle.iol_kernel.specs.Kernel.{state_of}
use Rattle.iol_kernel.specs.KernelState.{objects_of}
use Rattle.iol_kernel.proofs.State.Effects.{dropped}
use Rattle.iol_kernel.proofs.State.Uses.{agg_covered}
use Rattle.iol_kernel.proofs.AggregateCalls.Slices.{agg_live}
use Rattle.iol_kernel.proofs.kernel.Kernel.release.Goals as goal

pub release-requires : goal.release-requires
release-requires c =
    agg_covered c.args.self.now.store (domains_of c.args.self.now.domains) (objects_of (state_of c.args.self.now))
    c.args.by c.args.agg c.take_agg-given.result c.requires.lives.sound.counted (agg_live c.requires)
    c.take_agg-given.ensures.given

pub returns : goal.returns
returns c = dropped (state_of c.args.self.now) c.release.new.store (domains_of c.take_agg-given.new.self) c.args.by
    c.args.agg c.take_agg-given.result c.requires.lives.sound (agg_live c.requires)
    c.take_agg-given.ensures.given c.take_agg-given.ensures.rest c.release.ensures.moves c.release.ensures.lists
    c.release.ensures.frees c.release.ensures.reclaims
