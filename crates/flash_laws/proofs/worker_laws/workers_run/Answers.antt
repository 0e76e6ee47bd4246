use Rattle.flash_laws.proofs.Site.WorkersRun.{workers_run}
use Rattle.flash_laws.proofs.worker_laws.workers_run.Goals as goal

pub returns : goal.returns
returns c = workers_run c.workers_stay_free.ensures c.scripts_have_one_output.ensures c.others_receive.ensures
    c.workers_are_confined.ensures
    c.outputs_are_shown.ensures c.running_is_full.ensures c.each_step_leaves_the_rest.ensures
