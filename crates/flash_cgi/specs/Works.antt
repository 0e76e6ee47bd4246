-- The account of a worker: the turns that it takes, and when it may need memory.
use Rattle.std.specs.Prelude.{◌≡◌, ℕ, List, [], ◌∷◌, Option, Some, None}
use Rattle.iol_core.specs.declared.events.Call.TheVariants as call
use Rattle.iol_core.specs.declared.events.Reply.{Reply}
use Rattle.iol_core.specs.declared.events.Reply.TheVariants as reply
use Rattle.iol_proc.specs.Turns.{TransitionRelation}
use Rattle.iol_proc.specs.declared.process.Turn.{Turn}
use Rattle.iol_proc.specs.declared.process.Turn.TheVariants as turn
use Rattle.flash_cgi.specs.Collecting.{nothing}
use Rattle.flash_cgi.specs.Job.{Task, no_task, job_of}
use Rattle.flash_cgi.specs.Wants.{Wants}
use Rattle.flash_cgi.specs.WorkerSteps.{call_at, after_reply, bytes_at}
use Rattle.flash_cgi.specs.declared.phase.Phase.{Phase}
use Rattle.flash_cgi.specs.declared.phase.Phase.TheVariants as phase
use Rattle.flash_cgi.specs.declared.phase.Standing.{Standing}
use Rattle.flash_cgi.specs.declared.phase.Standing.TheVariants as standing
use Rattle.flash_cgi.specs.declared.phase.Step.{Step}
use Rattle.flash_cgi.specs.declared.worker.Worker.{Worker}

-- it waits for a job, and has not yet made the call
pub record IsNew (w : Worker) : Type 0 where
  pub job : w.job ≡ no_task
  pub step : w.step ≡ record { phase = phase.Waiting; begun = 0; piece = nothing }
  pub standing : w.standing ≡ standing.Asks

-- it makes the call of its step
abbrev pub asks : Worker → Turn → Worker → Type 0
asks w t v = (t ≡ turn.Make (call_at w.job w.step)) × (v ≡ record w { standing = standing.Asked })

-- it makes the call of the next step, or yields, to make its call again
abbrev pub proceeds : Worker → Option Step → Turn → Worker → Type 0
proceeds w (Some step) t v = (t ≡ turn.Make (call_at w.job step)) × (v ≡ record w { step = step })
proceeds w None t v = (t ≡ turn.Yield) × (v ≡ record w { standing = standing.Asks })

-- the worker with this job, if any, read as the aggregate of this number
abbrev pub with_job : Worker → Option Task → (agg : ℕ) → Worker
with_job w (Some job) agg =
    record w { job = job; step = record { phase = phase.DroppingWritten agg; begun = 0; piece = nothing } }
with_job w None agg =
    record w { step = record { phase = phase.DroppingOther agg; begun = w.step.begun; piece = w.step.piece } }

-- the worker that has read this text from its job pipe; an empty text is the pipe's end
abbrev pub with_text : Worker → (text : List ℕ) → (agg : ℕ) → Worker
with_text w [] agg = record w { standing = standing.Over }
with_text w (b ∷ bs) agg = with_job w (job_of (b ∷ bs)) agg

abbrev pub takes : Worker → (text : List ℕ) → (agg : ℕ) → Turn → Worker → Type 0
takes w text agg t v = (t ≡ turn.Make (call.AggDrop agg)) × (v ≡ with_text w text agg)

-- it processes the reply to its call
abbrev pub files : Worker → Phase → Reply → (ℕ → Option (List ℕ)) → Turn → Worker → Type 0
files w phase.Waiting (reply.Agg agg) readable t v = takes w (bytes_at readable agg) agg t v
files w d last readable t v = proceeds w (after_reply w.job w.step readable last) t v

abbrev pub works_as : Standing → Worker → Reply → (ℕ → Option (List ℕ)) → Turn → Worker → Type 0
works_as standing.Asks w last readable t v = asks w t v
works_as standing.Asked w last readable t v = files w w.step.phase last readable t v
works_as standing.Over w last readable t v = (t ≡ turn.Yield) × (v ≡ w)

-- The turn that it takes, by its last reply: the call of its step, if it was not made yet, otherwise the result of the
-- reply. After the end of its job pipe it yields.
abbrev pub works : Worker → Reply → (ℕ → Option (List ℕ)) → Turn → Worker → Type 0
works w last readable t v = works_as w.standing w last readable t v

abbrev pub worker_turns : TransitionRelation Worker
worker_turns = record { goes = works; may_want = Wants }
