-- The bytes that the server offers for a script are the next bytes of the response, for every further output; once the
-- end of the output was read, of the response to that output.
--
-- The laws are about single steps, undisturbed or not: the data of a run remains, unless a call consumes or moves an
-- object that it uses. That this holds over a whole run is not stated here, and neither is the output of a worker.
use Rattle.std.specs.Prelude.{◌≡◌, ◌<◌, ℕ, ◌+◌, ◌-◌, ◌⊎◌, Bool, true, false, List, [], ◌∷◌, ◌++◌, length, drop, Option}
use Rattle.std.specs.Prelude.{Some, None, IsTrue, IsFalse, ◌≢◌, ⊤}
use Rattle.iol_core.specs.State.{State, descriptor, is_live, pipe_at, conn_at, new_pipe, is_gone}
use Rattle.iol_core.specs.Run.{StepsTo}
use Rattle.iol_core.specs.Values.{gives_up}
use Rattle.iol_core.specs.declared.descriptors.Descriptor.TheVariants as on
use Rattle.iol_core.specs.declared.refusals.Refusal.TheVariants as no
use Rattle.iol_core.specs.declared.events.Call.TheVariants as call
use Rattle.iol_core.specs.declared.events.Event.{Event}
use Rattle.iol_core.specs.declared.events.Event.TheVariants as event
use Rattle.iol_core.specs.declared.events.Reply.{Reply}
use Rattle.iol_core.specs.declared.events.Reply.TheVariants as reply
use Rattle.iol_laws.specs.Caller.{readable_at, ReadsPipe, WritesPipe}
use Rattle.iol_laws.specs.Frame.{touches_fd}
use Rattle.iol_laws.specs.Order.{IsOrderly}
use Rattle.iol_laws.specs.Reasons.{IsHidden}
use Rattle.flash_http.specs.Request.{Wanted}
use Rattle.flash_laws.specs.Conn.Fits.{Names}
use Rattle.flash_laws.specs.Conn.Progress.{Rank, Nears, CanMake}
use Rattle.flash_laws.specs.Conn.OfferedBytes.{taken_of, newly_taken, is_dropping, may_repeat}
use Rattle.flash_laws.specs.Run.Fits.{Progress, Ran, Broken, NotRun, nothing_yet, MayAnswer, HasRun, HasJobPipe}
use Rattle.flash_laws.specs.Run.{uses_agg, uses_fd, worker_domain, job_pipe, held_size, next_call, after_reply, is_over}
use Rattle.flash_laws.specs.Site.{server}
use Rattle.flash_laws.specs.declared.phase.Phase.{Phase}
use Rattle.flash_laws.specs.declared.phase.Phase.TheVariants as phase
use Rattle.flash_laws.specs.declared.script_run.TheConstants.{CHUNK_BYTES}
use Rattle.flash_laws.specs.declared.script_run.Run.{Run}
use Rattle.flash_laws.specs.declared.script_run.Step.{Step}
use Rattle.flash_laws.specs.declared.script_run.Step.TheVariants.{GivingPipe, MakingJob, WritingJob, DroppingJob}
use Rattle.flash_laws.specs.declared.script_run.Step.TheVariants.{MakingHead, SendingPart, ReadingOutput}
use Rattle.flash_laws.specs.declared.script_run.Step.TheVariants.{DroppingEnd, DiscardingHeld, ClosingOutput}
use Rattle.flash_laws.specs.declared.script_run.Step.TheVariants.{DroppingFrame, MakingEnd, FillingEnd}
use Rattle.flash_laws.specs.declared.script_run.Step.TheVariants.{DroppingLast, DroppingLastFrame, ClosingPipe}
use Rattle.flash_laws.specs.declared.script_run.Step.TheVariants.{DiscardingJob, Failing}
use Rattle.flash_laws.specs.declared.script_run.Running.{Running}
use Rattle.flash_laws.specs.declared.script_run.Running.TheVariants.{AwaitingWorker, InProgress, Finishing}

-- more output was read, or its end: no bytes
abbrev pub receives_on : Progress → (received : List ℕ) → Progress
receives_on (Ran was ended past) [] = Ran was true past
receives_on (Ran was ended past) (b ∷ received) = Ran (was ++ (b ∷ received)) ended past
receives_on o received = o

-- the bytes of an aggregate were taken whole
abbrev pub takes_on : Progress → (part : List ℕ) → Progress
takes_on (Ran received ended past) part = Ran received ended (past ++ part)
takes_on Broken part = Broken
takes_on (NotRun status past) part = NotRun status (past ++ part)

-- The results of the calls that send a part: all its bytes are taken after it is sent, or it is aborted.
abbrev pub PartUpdates : State → Phase → Reply → (before after : Progress) → Type 0
PartUpdates m (phase.DroppingSent a taken None) reply.Done before after = (part : List ℕ)
    × (readable_at m server a ≡ Some part) × (after ≡ takes_on before part)
PartUpdates m (phase.Aborting a None) reply.Done before after = after ≡ Broken
PartUpdates m d r before after = after ≡ before

-- The results of the calls, after the reply to one.
abbrev pub StepUpdates : State → Step → Reply → (received : List ℕ) → (before after : Progress) → Type 0
StepUpdates m (SendingPart d frame) r received before after = PartUpdates m d r before after
StepUpdates m (ReadingOutput held frame) (reply.Agg n) received before after = after ≡ receives_on before received
StepUpdates m (ReadingOutput held frame) (reply.Refused (no.Denied p)) received before after = after ≡ Broken
StepUpdates m Failing reply.Done received before after = after ≡ NotRun 503 []
StepUpdates m s r received before after = after ≡ before

abbrev pub Updates : State → Running → Reply → (received : List ℕ) → (before after : Progress) → Type 0
Updates m (InProgress run step) r received before after = StepUpdates m step r received before after
Updates m (Finishing d) r received before after = PartUpdates m d r before after
Updates m x r received before after = after ≡ before

-- the number of bytes taken of the part that is being sent
abbrev pub taken_by : Running → ℕ
taken_by (InProgress run (SendingPart d frame)) = taken_of d
taken_by (Finishing d) = taken_of d
taken_by x = 0

-- the number of bytes of the response that were taken before that part
abbrev pub past_of : Progress → ℕ
past_of (Ran received ended past) = length past
past_of Broken = 0
past_of (NotRun status past) = length past

-- the bytes of an aggregate are the next of each possible response
pub record IsNextOf (m : State) (w : Wanted) (o : Progress) (a taken : ℕ) : Type 0 where
  pub bytes : List ℕ
  pub is_readable : readable_at m server a ≡ Some bytes
  pub next : (r : List ℕ) → MayAnswer w o r → (after : List ℕ) × (bytes ++ after ≡ drop (past_of o + taken) r)

-- a run that continues has this worker
abbrev pub HasWorker : (worker : ℕ) → Running → Type 0
HasWorker worker AwaitingWorker = ⊥
HasWorker worker (InProgress run step) = run.worker ≡ worker
HasWorker worker x = ⊤

-- ---- the reasons for which a response is aborted, or a script not run

-- whether the rest of the response is dropped
abbrev pub breaks_off : Running → Bool
breaks_off (InProgress run (SendingPart d frame)) = is_dropping d
breaks_off (InProgress run step) = run.broken
breaks_off (Finishing d) = is_dropping d
breaks_off x = false

-- the peer is gone, or the server may not read the output
abbrev pub IsCutOff : State → (c : ℕ) → Running → Type 0
IsCutOff m c (InProgress run step) = IsTrue (is_gone (conn_at m c).peer)
    ⊎ ((p : ℕ) × (q : ℕ) × (descriptor m server run.from ≡ Some (on.ReadEnd p))
    × IsHidden m server q (pipe_at m p).queue)
IsCutOff m c x = IsTrue (is_gone (conn_at m c).peer)

-- whether the script is given up before it runs
abbrev pub is_failing : Running → Bool
is_failing (InProgress run (ClosingPipe write)) = true
is_failing (InProgress run (DiscardingJob job)) = true
is_failing (InProgress run Failing) = true
is_failing x = false

-- the domain of its worker has ended, or its job pipe has no reader
abbrev pub IsLost : State → Running → Type 0
IsLost m (InProgress run step) = IsFalse (is_live m (worker_domain run.worker))
    ⊎ ((p : ℕ) × (descriptor m server (job_pipe run.worker) ≡ Some (on.WriteEnd p)) × IsFalse (pipe_at m p).reading)
IsLost m x = ⊥

-- ---- the end of reading

-- whether no more output is read
abbrev pub is_stopping : Running → Bool
is_stopping (InProgress run (DroppingEnd a held frame)) = true
is_stopping (InProgress run (DiscardingHeld held frame)) = true
is_stopping (InProgress run (ClosingOutput held frame)) = true
is_stopping (InProgress run (DroppingFrame frame held)) = true
is_stopping (InProgress run (MakingEnd held)) = true
is_stopping (InProgress run (FillingEnd held size frame)) = true
is_stopping (InProgress run (DroppingLast held chunk len frame)) = true
is_stopping (InProgress run (DroppingLastFrame frame chunk len)) = true
is_stopping x = false

-- the end of the output was read, or the server may not read it
abbrev pub StopsBy : Running → Reply → (received : List ℕ) → Type 0
StopsBy (InProgress run (ReadingOutput held frame)) (reply.Agg n) received = received ≡ []
StopsBy (InProgress run (ReadingOutput held frame)) (reply.Refused (no.Denied p)) received = ⊤
StopsBy x r received = ⊥

-- ---- its rank

-- more of the output was read
abbrev pub ReceivesMore : Running → Reply → (received : List ℕ) → Type 0
ReceivesMore (InProgress run (ReadingOutput held frame)) (reply.Agg n) (b ∷ received) = ⊤
ReceivesMore x r received = ⊥

-- ---- the order of handing over the job

-- whether its job is not yet handed over
abbrev pub is_handing : Running → Bool
is_handing AwaitingWorker = true
is_handing (InProgress run (GivingPipe write)) = true
is_handing (InProgress run (MakingJob f)) = true
is_handing (InProgress run (WritingJob j f)) = true
is_handing (InProgress run (DroppingJob j)) = true
is_handing x = false

-- the pipe is given, the job made, written and dropped, and the head made: each only after the call before it
-- succeeded; and nothing of the response is sent before
abbrev pub ComesAfter : Running → Reply → Running → Type 0
ComesAfter x r (InProgress run (MakingJob f)) = (write : ℕ) × (x ≡ InProgress run (GivingPipe write)) × (r ≡ reply.Fd f)
ComesAfter x r (InProgress run (WritingJob j f)) = (x ≡ InProgress run (MakingJob f)) × (r ≡ reply.Agg j)
ComesAfter x r (InProgress run (DroppingJob j)) = (f : ℕ) × (k : ℕ) × (x ≡ InProgress run (WritingJob j f))
    × (r ≡ reply.Count k)
ComesAfter x r (InProgress run MakingHead) = (j : ℕ) × (x ≡ InProgress run (DroppingJob j)) × (r ≡ reply.Done)
ComesAfter x r (InProgress run (SendingPart d frame)) = IsFalse (is_handing x)
ComesAfter x r y = ⊤

-- `job` is the text of the job, by the descriptor that it names.
pub record RunOffersTheResponse (job : ℕ → List ℕ) : Type 0 where
  -- the beginning of a run
  pub starts : (m : State) (w : Wanted) → HasRun job m w nothing_yet AwaitingWorker
  -- after the reply to its call the machine has the data for the next step; the free worker is one with a job pipe
  pub replied : (m n : State) (fd c worker : ℕ) (w : Wanted) (x : Running) (r : Reply) (received : List ℕ)
      (before : Progress)
      → IsOrderly m → descriptor m server fd ≡ Some (on.Connection c) → (x ≡ AwaitingWorker → HasJobPipe m worker)
      → IsFalse (is_over x) → HasRun job m w before x
      → StepsTo m (event.Call server (next_call job fd w x)) r n → Names n r received
      → (after : Progress) × Updates m x r received before after
      × HasRun job n w after (after_reply worker w x r received)
  -- the same for any other event that consumes and moves no object that the run uses
  pub stays : (m n : State) (w : Wanted) (x : Running) (e : Event) (r : Reply) (o : Progress) → StepsTo m e r n
      → ((a : ℕ) → IsTrue (uses_agg x a) → IsFalse (gives_up e server a))
      → ((g : ℕ) → IsTrue (uses_fd x g) → IsFalse (touches_fd m e server g)) → HasRun job m w o x
      → HasRun job n w o x
  -- the bytes offered to the connection are the next ones
  pub offers : (m : State) (fd c a : ℕ) (w : Wanted) (x : Running) (o : Progress)
      → descriptor m server fd ≡ Some (on.Connection c) → HasRun job m w o x
      → next_call job fd w x ≡ call.IolWrite fd a → IsNextOf m w o a (taken_by x)
  -- after it is aborted no bytes are offered
  pub silent : (m : State) (fd a : ℕ) (w : Wanted) (x : Running) → HasRun job m w Broken x
      → next_call job fd w x ≢ call.IolWrite fd a
  -- the bytes that the connection took count as taken, while the response is not aborted
  pub takes : (m n : State) (fd c worker : ℕ) (w : Wanted) (x : Running) (r : Reply) (received : List ℕ)
      (before after : Progress)
      → IsOrderly m → descriptor m server fd ≡ Some (on.Connection c) → IsFalse (is_over x) → HasRun job m w before x
      → StepsTo m (event.Call server (next_call job fd w x)) r n → Updates m x r received before after
      → IsFalse (breaks_off x) → IsFalse (breaks_off (after_reply worker w x r received))
      → past_of after + taken_by (after_reply worker w x r received) ≡ past_of before + taken_by x + newly_taken fd
      (next_call job fd w x) r
  -- it is aborted only if the peer is gone, or the server may not read the output
  pub breaks : (m n : State) (fd c worker : ℕ) (w : Wanted) (x : Running) (r : Reply) (received : List ℕ) (o : Progress)
      → descriptor m server fd ≡ Some (on.Connection c) → IsFalse (is_over x) → HasRun job m w o x
      → StepsTo m (event.Call server (next_call job fd w x)) r n
      → IsFalse (breaks_off x) → IsTrue (breaks_off (after_reply worker w x r received)) → IsCutOff m c x
  -- a script is given up only if its worker's domain has ended, or its job pipe has no reader
  pub fails : (m n : State) (fd worker : ℕ) (w : Wanted) (x : Running) (r : Reply) (received : List ℕ) (o : Progress)
      → IsTrue (is_live m server) → HasRun job m w o x → StepsTo m (event.Call server (next_call job fd w x)) r n
      → IsFalse (is_failing x) → IsTrue (is_failing (after_reply worker w x r received)) → IsLost m x
  -- each reply reduces the rank, unless more of the output was read, or the call is retried later
  pub rank : Wanted → Running → Rank
  pub nears : (m n : State) (fd c worker : ℕ) (w : Wanted) (x : Running) (r : Reply) (received : List ℕ) (o : Progress)
      → IsOrderly m → IsTrue (is_live m server) → descriptor m server fd ≡ Some (on.Connection c) → IsFalse (is_over x)
      → HasRun job m w o x → CanMake m (next_call job fd w x) → StepsTo m (event.Call server (next_call job fd w x)) r n
      → Names n r received → Nears (rank w) x r (after_reply worker w x r received) ⊎ ReceivesMore x r received
  -- a successful call is not repeated
  pub moves : (m n : State) (fd worker : ℕ) (w : Wanted) (x : Running) (r : Reply) (received : List ℕ) (o : Progress)
      → IsFalse (is_over x) → HasRun job m w o x → StepsTo m (event.Call server (next_call job fd w x)) r n
      → after_reply worker w x r received ≡ x → IsTrue (may_repeat (next_call job fd w x) r)
  -- no output is read while the bytes of a whole chunk are buffered
  pub reads : (m : State) (w : Wanted) (o : Progress) (run : Run) (held : Option (ℕ × ℕ)) (frame : Option ℕ)
      → HasRun job m w o (InProgress run (ReadingOutput held frame)) → held_size held < CHUNK_BYTES
  -- a read gives the first bytes of the pipe, at most as many as are missing from a chunk, and no bytes only if the
  -- pipe has no writer any more
  pub receives : (m n : State) (fd : ℕ) (w : Wanted) (o : Progress) (run : Run) (held : Option (ℕ × ℕ))
      (frame : Option ℕ) (r : Reply)
      → IsOrderly m → HasRun job m w o (InProgress run (ReadingOutput held frame))
      → StepsTo m (event.Call server (next_call job fd w (InProgress run (ReadingOutput held frame)))) r n
      → (p : ℕ) × (descriptor m server run.from ≡ Some (on.ReadEnd p))
      × ReadsPipe m server p (CHUNK_BYTES - held_size held) r n
  -- it reads until the end of the output, or until the server may not read it, also after the response is aborted
  pub reads_on : (worker : ℕ) (w : Wanted) (x : Running) (r : Reply) (received : List ℕ) → IsFalse (is_stopping x)
      → IsTrue (is_stopping (after_reply worker w x r received)) → StopsBy x r received
  -- a run begins with a new pipe, which is empty, and with its worker
  pub opens : (m n : State) (fd worker : ℕ) (w : Wanted) (from write : ℕ) (received : List ℕ)
      → StepsTo m (event.Call server (next_call job fd w AwaitingWorker)) (reply.Fds from write) n
      → (after_reply worker w AwaitingWorker (reply.Fds from write) received
      ≡ InProgress (record { worker = worker; from = from; broken = false }) (GivingPipe write))
      × ((p : ℕ) × (pipe_at n p ≡ new_pipe) × (descriptor n server from ≡ Some (on.ReadEnd p))
      × (descriptor n server write ≡ Some (on.WriteEnd p)))
  -- the worker gets the write end of the pipe that the server reads, and the job names its descriptor of it
  pub gives : (m n : State) (fd worker : ℕ) (w : Wanted) (o : Progress) (run : Run) (write f : ℕ) (received : List ℕ)
      → HasRun job m w o (InProgress run (GivingPipe write))
      → StepsTo m (event.Call server (next_call job fd w (InProgress run (GivingPipe write)))) (reply.Fd f) n
      → (after_reply worker w (InProgress run (GivingPipe write)) (reply.Fd f) received ≡ InProgress run (MakingJob f))
      × ((p : ℕ) × (descriptor n server run.from ≡ Some (on.ReadEnd p))
      × (descriptor n (worker_domain run.worker) f ≡ Some (on.WriteEnd p)))
  -- the job is appended to that worker's job pipe, as much of it as fits
  pub hands : (m n : State) (fd : ℕ) (w : Wanted) (o : Progress) (run : Run) (j f : ℕ) (r : Reply) → IsOrderly m
      → HasRun job m w o (InProgress run (WritingJob j f))
      → StepsTo m (event.Call server (next_call job fd w (InProgress run (WritingJob j f)))) r n
      → (p : ℕ) × (descriptor m server (job_pipe run.worker) ≡ Some (on.WriteEnd p)) × WritesPipe m p (job f) r n
  -- nothing of the response is made or sent before that
  pub in_turn : (worker : ℕ) (w : Wanted) (x : Running) (r : Reply) (received : List ℕ)
      → (after_reply worker w x r received ≡ x) ⊎ ComesAfter x r (after_reply worker w x r received)
  -- a run keeps its worker
  pub keeps : (worker : ℕ) (w : Wanted) (run : Run) (step : Step) (r : Reply) (received : List ℕ)
      → HasWorker run.worker (after_reply worker w (InProgress run step) r received)

abbrev pub RunsOfferTheResponse : Type 0
RunsOfferTheResponse = (job : ℕ → List ℕ) → RunOffersTheResponse job
