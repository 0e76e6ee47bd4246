-- A worker takes its job, from the time when the job waits in its pipe.
use Rattle.std.specs.Prelude.{◌≡◌, ◌≢◌, ℕ, ◌<◌, ◌≤◌, ◌^◌, List, ◌++◌, length, Some, IsTrue}
use Rattle.std.specs.List.{AllByRecursion}
use Rattle.iol_core.specs.Text.{bytes_of}
use Rattle.iol_core.specs.State.{State, descriptor, pipe_at, may_read, is_live}
use Rattle.iol_core.specs.Run.{StepsTo}
use Rattle.iol_core.specs.declared.descriptors.Descriptor.TheVariants as on
use Rattle.iol_core.specs.declared.events.Call.TheVariants as call
use Rattle.iol_core.specs.declared.events.Event.TheVariants as event
use Rattle.iol_core.specs.declared.events.Reply.TheVariants as reply
use Rattle.iol_laws.specs.Caller.{readable_at, TakesFromPipe}
use Rattle.flash_cgi.specs.Collecting.{nothing}
use Rattle.flash_cgi.specs.Job.{Task, job_of, job_text}
use Rattle.flash_cgi.specs.Script.{script_of}
use Rattle.flash_cgi.specs.Output.{Outcome, output}
use Rattle.flash_cgi.specs.Feeds.{Feeds}
use Rattle.flash_cgi.specs.declared.line.Line.{Line}
use Rattle.flash_cgi.specs.declared.phase.Phase.TheVariants as phase

-- A job waits in pipe j for the worker in domain d: the text of this script with this query, with its output to pipe p.
pub record HasJob (m : State) (d j p fd : ℕ) (query script : List ℕ) (lines : List Line) : Type 0 where
  pub live : IsTrue (is_live m d)
  pub jobs : descriptor m d 0 ≡ Some (on.ReadEnd j)
  pub text : bytes_of (pipe_at m j).queue ≡ job_text fd query script
  pub readable : AllByRecursion (λ b. IsTrue (may_read m d b.1)) (pipe_at m j).queue
  pub short : length (pipe_at m j).queue ≤ 65536
  pub open_on : descriptor m d fd ≡ Some (on.WriteEnd p)
  pub apart : j ≢ p
  pub is_script : script_of script ≡ Some lines
  pub fds : fd < 10 ^ 9

-- The worker has read the job as this aggregate: it will run this job, and none of its output is written yet.
pub record Begins (m : State) (d p : ℕ) (job : Task) (agg : ℕ) (unseen : List Outcome → List ℕ) : Type 0 where
  pub bytes : List ℕ
  pub is_readable : readable_at m d agg ≡ Some bytes
  pub is_job : job_of bytes ≡ Some job
  pub feeds : Feeds m d p job (record { phase = phase.DroppingWritten agg; begun = 0; piece = nothing }) unseen

-- Reading a waiting job gives exactly this job, and all of the output of its lines is pending.
abbrev pub JobsAreTaken : Type 0
JobsAreTaken = (m n : State) (d j p fd agg : ℕ) (query script : List ℕ) (lines : List Line)
    → HasJob m d j p fd query script lines
    → StepsTo m (event.Call d (call.IolRead 0 65536)) (reply.Agg agg) n → TakesFromPipe m d j 65536 agg n
    → Begins n d p (record { fd = fd; query = query; lines = lines }) agg
    (λ os. bytes_of (pipe_at m p).queue ++ output query lines os)
