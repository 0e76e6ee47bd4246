use Rattle.iol_desc.specs.Tables.{domains_of}
use Rattle.iol_kernel.specs.Kernel.{state_of}
use Rattle.iol_kernel.proofs.State.Effects.{default_set}
use Rattle.iol_kernel.proofs.State.ReadOf.{live_held}
use Rattle.iol_kernel.proofs.kernel.Kernel.set_default.Goals as goal

pub returns : goal.returns
returns c = default_set (state_of c.args.self.now) (domains_of c.set_default.new.self) c.args.by c.args.pool
    c.requires.sound (live_held _ (state_of c.args.self.now) c.args.by c.requires.live) c.set_default.ensures
