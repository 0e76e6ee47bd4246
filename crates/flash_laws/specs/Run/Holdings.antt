-- A run keeps only what it uses: the results of its calls belong to it, and are given up when it no longer uses them.
-- Its calls touch only its own objects.
--
-- As in `Run/OfferedBytes`, the laws are about each call of the server, undisturbed or not.
use Rattle.std.specs.Prelude.{◌≡◌, ℕ, ◌==◌, ◌||◌, Bool, true, false, List, Some, None, IsTrue, IsFalse}
use Rattle.iol_core.specs.NumberedLists.{lowest}
use Rattle.iol_core.specs.State.{State, descriptor}
use Rattle.iol_core.specs.Run.{StepsTo}
use Rattle.iol_core.specs.Values.{gives_up}
use Rattle.iol_core.specs.declared.descriptors.Descriptor.TheVariants as on
use Rattle.iol_core.specs.declared.events.Call.{Call}
use Rattle.iol_core.specs.declared.events.Call.TheVariants as call
use Rattle.iol_core.specs.declared.events.Event.TheVariants as event
use Rattle.iol_core.specs.declared.events.Reply.{Reply}
use Rattle.iol_core.specs.declared.events.Reply.TheVariants as reply
use Rattle.iol_laws.specs.Caller.{readable_at}
use Rattle.iol_laws.specs.Frame.{touches_conn, touches_pipe, touches_fd, changes_files}
use Rattle.iol_laws.specs.Order.{IsOrderly}
use Rattle.flash_http.specs.Request.{Wanted}
use Rattle.flash_laws.specs.Run.Fits.{Progress, HasRun}
use Rattle.flash_laws.specs.Run.{job_pipe, uses_agg, ends_of, next_call, after_reply, is_over}
use Rattle.flash_laws.specs.Site.{server}
use Rattle.flash_laws.specs.declared.script_run.Step.TheVariants.{WritingJob, ClosingPipe}
use Rattle.flash_laws.specs.declared.script_run.Running.{Running}
use Rattle.flash_laws.specs.declared.script_run.Running.TheVariants.{AwaitingWorker, InProgress}

-- whether it has this end of its pipe
abbrev pub has_end : Running → (g : ℕ) → Bool
has_end (InProgress run step) g = ends_of run step g
has_end x g = false

-- the calls that a run makes
abbrev pub may_make : Call → Bool
may_make call.Pipe = true
may_make (call.GiveFd fd to) = true
may_make (call.AggMake bytes) = true
may_make (call.AggCut a from to) = true
may_make (call.AggJoin a b) = true
may_make (call.AggReplace a from to b) = true
may_make (call.AggDrop a) = true
may_make (call.IolRead fd n) = true
may_make (call.IolWrite fd a) = true
may_make (call.Close fd) = true
may_make k = false

-- the pipe that its call may touch: a new one, that of its worker's jobs, or that of its output
abbrev pub MayTouch : State → Running → (p : ℕ) → Type 0
MayTouch m AwaitingWorker p = lowest m.pipes ≡ p
MayTouch m (InProgress run (WritingJob j f)) p = descriptor m server (job_pipe run.worker) ≡ Some (on.WriteEnd p)
MayTouch m (InProgress run (ClosingPipe write)) p = descriptor m server write ≡ Some (on.WriteEnd p)
MayTouch m (InProgress run step) p = descriptor m server run.from ≡ Some (on.ReadEnd p)
MayTouch m x p = ⊥

-- a call that touches only the objects of a run
pub record KeepsToItself (m : State) (fd c : ℕ) (x : Running) (k : Call) : Type 0 where
  pub kind : IsTrue (may_make k)
  -- it consumes only an aggregate that it uses
  pub aggs : (a : ℕ) → IsTrue (gives_up (event.Call server k) server a) → IsTrue (uses_agg x a)
  -- it closes or gives away only an end of its pipe
  pub fds : (g : ℕ) → IsTrue (touches_fd m (event.Call server k) server g) → IsTrue (has_end x g)
  -- it writes to its connection, and touches no other
  pub conns : (d : ℕ) → IsTrue (touches_conn m (event.Call server k) d) → (c ≡ d) × ((a : ℕ) × (k ≡ call.IolWrite fd a))
  pub pipes : (p : ℕ) → IsTrue (touches_pipe m (event.Call server k) p) → MayTouch m x p
  pub files : IsFalse (changes_files m (event.Call server k))

pub record RunKeepsNothing (job : ℕ → List ℕ) : Type 0 where
  -- an aggregate returned by a call for it is used by it
  pub brought : (m n : State) (fd c worker : ℕ) (w : Wanted) (x : Running) (o : Progress) (r : Reply)
      (received bytes : List ℕ) (a : ℕ)
      → IsOrderly m → descriptor m server fd ≡ Some (on.Connection c) → IsFalse (is_over x) → HasRun job m w o x
      → StepsTo m (event.Call server (next_call job fd w x)) r n
      → readable_at m server a ≡ None → readable_at n server a ≡ Some bytes
      → IsTrue (uses_agg (after_reply worker w x r received) a)
  -- both ends of a pipe returned by a call for it belong to it
  pub opened : (m n : State) (fd worker : ℕ) (w : Wanted) (x : Running) (o : Progress) (from write : ℕ)
      (received : List ℕ) (g : ℕ)
      → IsFalse (is_over x) → HasRun job m w o x
      → StepsTo m (event.Call server (next_call job fd w x)) (reply.Fds from write) n
      → IsTrue ((from == g) || (write == g))
      → IsTrue (has_end (after_reply worker w x (reply.Fds from write) received) g)
  -- the server no longer has an aggregate that the run no longer uses
  pub left : (m n : State) (fd worker : ℕ) (w : Wanted) (x : Running) (o : Progress) (r : Reply) (received : List ℕ)
      (a : ℕ)
      → IsOrderly m → HasRun job m w o x → StepsTo m (event.Call server (next_call job fd w x)) r n
      → IsTrue (uses_agg x a) → IsFalse (uses_agg (after_reply worker w x r received) a) → readable_at n server a ≡ None
  -- the same for an end of its pipe, which is closed, or given to the worker
  pub shut : (m n : State) (fd worker : ℕ) (w : Wanted) (x : Running) (o : Progress) (r : Reply) (received : List ℕ)
      (g : ℕ)
      → HasRun job m w o x → StepsTo m (event.Call server (next_call job fd w x)) r n
      → IsTrue (has_end x g) → IsFalse (has_end (after_reply worker w x r received) g) → descriptor n server g ≡ None
  -- its calls touch only its own objects
  pub alone : (m : State) (fd c : ℕ) (w : Wanted) (x : Running) (o : Progress)
      → descriptor m server fd ≡ Some (on.Connection c)
      → IsFalse (is_over x) → HasRun job m w o x → KeepsToItself m fd c x (next_call job fd w x)

abbrev pub RunsKeepNothing : Type 0
RunsKeepNothing = (job : ℕ → List ℕ) → RunKeepsNothing job
