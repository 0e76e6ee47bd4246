-- Results of the parts of a worker's turn: a turn, or out of memory.
use Rattle.std.specs.Prelude.{◌≡◌, ◌<◌, ℕ, List, length, Option, IfOk, OnErr, Result, IsTrue}
use Rattle.iol_core.specs.declared.events.Reply.{Reply}
use Rattle.iol_proc.specs.CopyFree.{IsCopyFree}
use Rattle.iol_proc.specs.declared.process.Turn.{Turn}
use Rattle.flash_cgi.specs.Wants.{WantsByReply, WantsOn, WantsToFile, has_bytes}
use Rattle.flash_cgi.specs.WorkerSteps.{after_reply}
use Rattle.flash_cgi.specs.Works.{asks, files, proceeds, takes}
use Rattle.flash_cgi.specs.declared.phase.Step.{Step}
use Rattle.flash_cgi.specs.declared.worker.Worker.{Worker}

-- The worker takes such a turn, with no call that returns a copy of bytes. Or it runs out of memory, which `may_want`
-- permits, and is unchanged.
pub record TakesTurn {E : Type 0} (goes : Turn → Worker → Type 0) (may_want : Type 0) (old : Worker)
    (result : Result Turn E)
    (new : Worker) : Type 0 where
  pub turn : IfOk result (λ made. goes made new)
  pub copy_free : IfOk result IsCopyFree
  pub err : OnErr result (new ≡ old)
  pub wants : OnErr result may_want

-- it makes the call of its step
abbrev pub MakesItsCall : {E : Type 0} → (old : Worker) → Result Turn E → (new : Worker) → Type 0
MakesItsCall old result new = TakesTurn (asks old) (IsTrue (has_bytes old.job old.step)) old result new

-- it advances to a step, or makes its call again
abbrev pub StepsOn : {E : Type 0} → (old : Worker) → Option Step → Result Turn E → (new : Worker) → Type 0
StepsOn old next result new = TakesTurn (proceeds old next) (WantsOn old.job next) old result new

-- the step after the reply to its call; none if the call is retried
abbrev pub next_step : Worker → Reply → (ℕ → Option (List ℕ)) → Option Step
next_step w last readable = after_reply w.job w.step readable last

-- it continues by the reply
abbrev pub ProceedsBy : {E : Type 0} → (old : Worker) → Reply → (ℕ → Option (List ℕ)) → Result Turn E → (new : Worker)
    → Type 0
ProceedsBy old last readable result new =
    TakesTurn (proceeds old (next_step old last readable)) (WantsByReply old last readable) old result new

-- it takes this text, read from its job pipe under this number
abbrev pub TakesText : {E : Type 0} → (old : Worker) → (text : List ℕ) → (agg : ℕ) → Result Turn E → (new : Worker)
    → Type 0
TakesText old text agg result new = TakesTurn (takes old text agg) (0 < length text) old result new

-- it processes the reply to its call
abbrev pub FilesReply : {E : Type 0} → (old : Worker) → Reply → (ℕ → Option (List ℕ)) → Result Turn E → (new : Worker)
    → Type 0
FilesReply old last readable result new =
    TakesTurn (files old old.step.phase last readable) (WantsToFile old old.step.phase last readable) old result new
