use Rattle.flash_laws.specs.World.Fair.{any_refusal, no_refusal}
use Rattle.flash_lite.specs.WorkerSet.{worker_set_of}
use Rattle.flash_lite.specs.Library.{library_of}
use Rattle.flash_served.proofs.Served.{served_right}
use Rattle.flash_served.proofs.served_is_right.Goals as goal

pub returns : goal.returns
returns c = λ s slots past ps n ending left rest held now w after fresh served over.
    let law =
    served_right (worker_set_of s) (c.connections_do_not_meet.ensures.run s)
    (c.connections_do_not_meet.ensures.answered s) (c.connections_do_not_meet.ensures.whole s) in
    let on = served.proceeds in record {
      fair = λ refuses consistent fair. law (library_of s slots refuses) past ps n ending served.came served.sent w
          after consistent fresh on over fair;
      failure_free = λ consistent failure_free. law (library_of s slots no_refusal) past ps n ending served.came
          served.sent w after consistent fresh on over
          (c.runs_are_fair.ensures.failure_free on.choices on.replies
          (c.failure_free_runs.ensures.machine.never_was w after on.choices on.replies on.run failure_free).1);
      any = λ consistent. law (library_of s slots any_refusal) past ps n ending served.came served.sent w after
          consistent fresh on over
          (c.runs_are_fair.ensures.any on.choices on.replies);
    }
