-- Laws of scripts and workers: this file has those of texts, other files those of their subjects.
use Rattle.std.specs.Prelude.{◌≡◌, ℕ, ◌<◌, ◌^◌, List, length}
use Rattle.flash_cgi.specs.Script.{script_of}
use Rattle.flash_cgi.specs.Job.{job_text, job_of, task_of}
use Rattle.flash_cgi.specs.Output.{Outcome}
pub use Rattle.flash_cgi.specs.Beside.{OthersReceive}
pub use Rattle.flash_cgi.specs.Expected.{ScriptsHaveOneOutput}
pub use Rattle.flash_cgi.specs.PipeEnd.{WorkersStop}
pub use Rattle.flash_cgi.specs.Feeds.{FeedsOn}
pub use Rattle.flash_cgi.specs.Free.{WorkersStayFree}
pub use Rattle.flash_cgi.specs.Full.{RunningIsFull}
pub use Rattle.flash_cgi.specs.Uses.{WorkersKeepNothing}
pub use Rattle.flash_cgi.specs.Frame.{WorkersAreConfined}
pub use Rattle.flash_cgi.specs.LongPieces.{PiecesAreLong}
pub use Rattle.flash_cgi.specs.Outcomes.{OutcomesAreTrue, outcomes_in}
pub use Rattle.flash_cgi.specs.OutputPools.{OutputsAreShown}
pub use Rattle.flash_cgi.specs.JobStart.{JobsAreTaken}
pub use Rattle.flash_cgi.specs.Turns.{TurnsFeed}
pub use Rattle.flash_cgi.specs.Standstill.{WaitingIsEmpty}

-- parsing the text of a job gives that job
abbrev pub JobsAreRead : Type 0
JobsAreRead = (fd : ℕ) (query script : List ℕ) → fd < 10 ^ 9 → length query < 10 ^ 9 → length script < 10 ^ 9
    → job_of (job_text fd query script) ≡ task_of fd query (script_of script)
