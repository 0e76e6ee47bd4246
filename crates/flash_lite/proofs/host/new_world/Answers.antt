use Rattle.std.proofs.Common.{rules, ◌≡◌, ap, ◌∙◌, true}
use Rattle.iol_back.specs.Disk.{Disk}
use Rattle.iol_core.specs.State.{new_state}
use Rattle.iol_system.specs.Prelude.{slots_of}
use Rattle.flash_lite.specs.Setup.{is_in_range}
use Rattle.flash_lite.proofs.World.HostedWorld.{world_new}
use Rattle.flash_lite.proofs.World.SiteStart.{begun_by, none_of_setup, starts_by}
use Rattle.flash_lite.proofs.host.new_world.Goals as goal

pub returns-in-Err-clause-refused : goal.returns-in-Err-clause-refused
returns-in-Err-clause-refused g c =
    let fits : is_in_range c.args.site.now ≡ true = search rules in
    let e = c.in_ok-system.ensures in
    none_of_setup c.args.config (g.B.Backing.disk c.args.backing) c.args.site.now c.in-Err.refusal c.in_ok-system.system
    c.setup.new.system
    (begun_by c.args.config (g.B.Backing.disk c.args.backing) c.in_ok-system.system e.new e.disk e.entries e.taken
    e.limit e.sums e.sum_limit e.orders e.safe)
    (c.in-Err.ensures.refused fits)

pub returns-clause-starts : goal.returns-clause-starts
returns-clause-starts g c =
    let e = c.in_ok-system.ensures in
    starts_by c.args.config (g.B.Backing.disk c.args.backing) c.args.site.now c.in_ok-system.system c.setup.new.system
    c.in_ok-new.field-0
    c.in-Ok.actors.items
    (begun_by c.args.config (g.B.Backing.disk c.args.backing) c.in_ok-system.system e.new e.disk e.entries e.taken
    e.limit e.sums e.sum_limit e.orders e.safe)
    c.in-Ok.ensures.made c.in-Ok.ensures.leaves c.in-Ok.ensures.actors c.in_ok-new.ensures.system
    c.in_ok-new.ensures.process_slots c.in_ok-new.ensures.rising c.in_ok-new.ensures.failure_free

pub returns-clause-new : goal.returns-clause-new
returns-clause-new g c = λ honest.
    let disk = c.in_ok-system.ensures.disk in
    let after_reply = ap (λ (d : Disk). d.honest) disk ∙ honest in
    let set_up = c.in-Ok.ensures.over_honest after_reply in
    world_new c.args.site.now (slots_of (g.B.Backing.disk c.args.backing).slots) c.in_ok-system.system
    c.setup.new.system c.in_ok-new.field-0
    c.in-Ok.actors.items (c.in_ok-system.ensures.new ∙ ap (λ (d : Disk). new_state (slots_of d.slots)) disk)
    (c.in_ok-system.ensures.safe.placed after_reply)
    c.in-Ok.ensures.leaves set_up.slots set_up.new c.in-Ok.ensures.actors
    c.in_ok-new.ensures.system c.in_ok-new.ensures.process_slots c.in_ok-new.ensures.rising
    c.in_ok-new.ensures.failure_free
