use Rattle.flash_lite.proofs.World.SiteWorld.{set_up_a_new_world}
use Rattle.flash_lite.proofs.laws.set_up_is_a_new_world.Goals as goal

pub returns : goal.returns
returns c =
    set_up_a_new_world c.each_step_keeps_order.ensures c.descriptors_come_by_replies.ensures c.workers_stay_free.ensures
