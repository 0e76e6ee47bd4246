use Rattle.std.proofs.Common.{◌∙◌, ap}
use Rattle.iol_proc.proofs.ReadableBytes.{readable-look}
use Rattle.iol_proc.proofs.world.World.look.Goals as goal

pub returns : goal.returns
returns g c = readable-look c.new.result c.args.self.now.machine c.args.by (c.new.ensures.aggregates
    ∙ (c.aggregates.ensures ∙ ap (λ w. w.machine.kernel) c.self.view_is)) c.new.ensures.by
