use Rattle.std.proofs.Common.{◌∙◌}
use Rattle.iol_system.specs.Prelude.{slots_of}
use Rattle.iol_proc.specs.World.{copied}
use Rattle.flash_lite.proofs.World.HostedWorld.{hosted}
use Rattle.flash_lite.proofs.World.SiteStart.{hosted_over}
use Rattle.flash_lite.proofs.host.host.Goals as goal

pub returns-clause-shared : goal.returns-clause-shared
returns-clause-shared g c =
    hosted_over c.args.config (g.B.Backing.disk c.args.backing) c.args.site.now c.args.choices.now c.in-Ok.replies.items
    c.args.turns
    c.until_idle-idle.result c.in_ok-world.world c.run.new.self c.until_idle-idle.new.self
    c.in_ok-world.ensures.starts c.in-Ok.ensures.shared c.in-Ok.ensures.events
    c.until_idle-idle.ensures.shared c.until_idle-idle.ensures.events

pub returns-clause-hosts : goal.returns-clause-hosts
returns-clause-hosts g c = λ honest.
    let after_reply = c.in_ok-world.ensures.honest ∙ honest in
    hosted c.args.site.now (slots_of (g.B.Backing.disk c.args.backing).slots) c.args.choices.now c.in-Ok.replies.items
    c.args.turns
    c.until_idle-idle.result (copied c.in_ok-world.world) (copied c.run.new.self) (copied c.until_idle-idle.new.self)
    (c.in_ok-world.ensures.new honest) (c.in-Ok.ensures.run after_reply)
    (c.until_idle-idle.ensures.run (c.in-Ok.ensures.honest.same ∙ after_reply))
