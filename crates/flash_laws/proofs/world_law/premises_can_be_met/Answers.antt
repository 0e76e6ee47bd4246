use Rattle.flash_laws.proofs.Witness.{some_run_is_undisturbed}
use Rattle.flash_laws.proofs.world_law.premises_can_be_met.Goals as goal

pub returns : goal.returns
returns g c = some_run_is_undisturbed c.each_step_keeps_order.ensures c.descriptors_come_by_replies.ensures
    g.W.RunsScripts.turns g.W.RunsScripts.quiescent g.W.RunsScripts.free g.W.RunsScripts.expected
