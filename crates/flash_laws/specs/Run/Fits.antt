-- The invariant of the run of a script: the machine's data of the response, by the output that was read.
use Rattle.std.specs.Prelude.{◌≡◌, ◌≤◌, ◌<◌, ℕ, ◌+◌, ◌==◌, ◌⊎◌, not, Bool, true, false, List, [], ◌++◌, length, Option}
use Rattle.std.specs.Prelude.{Some, None, IsTrue, IsFalse, ⊤}
use Rattle.iol_core.specs.State.{State, descriptor}
use Rattle.iol_core.specs.declared.descriptors.Descriptor.TheVariants as on
use Rattle.iol_laws.specs.Caller.{readable_at}
use Rattle.flash_http.specs.Chunk.{chunk}
use Rattle.flash_http.specs.Request.{serve, Wanted}
use Rattle.flash_laws.specs.Answers.{error_text}
use Rattle.flash_laws.specs.Conn as conn
use Rattle.flash_laws.specs.Conn.{Following}
use Rattle.flash_laws.specs.Conn.Fits.{IsReadable, Has}
use Rattle.flash_laws.specs.Conn.OfferedBytes.{taken_of}
use Rattle.flash_laws.specs.Run.{has_frame, job_pipe, step_agg, sends_part}
use Rattle.flash_laws.specs.Answers.Scripts.{script_body, script_response, frame_of, end_around}
use Rattle.flash_laws.specs.Site.{server}
use Rattle.flash_laws.specs.declared.phase.Payload.TheVariants.{Error}
use Rattle.flash_laws.specs.declared.phase.Phase.{Phase}
use Rattle.flash_laws.specs.declared.phase.Phase.TheVariants as phase
use Rattle.flash_laws.specs.declared.script_run.TheConstants.{CHUNK_BYTES}
use Rattle.flash_laws.specs.declared.script_run.Run.{Run}
use Rattle.flash_laws.specs.declared.script_run.Step.{Step}
use Rattle.flash_laws.specs.declared.script_run.Step.TheVariants.{GivingPipe, MakingJob, WritingJob, DroppingJob}
use Rattle.flash_laws.specs.declared.script_run.Step.TheVariants.{MakingHead, SendingPart, ReadingOutput}
use Rattle.flash_laws.specs.declared.script_run.Step.TheVariants.{DroppingOutput, JoiningOutput, MakingFrame}
use Rattle.flash_laws.specs.declared.script_run.Step.TheVariants.{FillingFrame, DroppingHeld, DroppingEnd}
use Rattle.flash_laws.specs.declared.script_run.Step.TheVariants.{DiscardingHeld}
use Rattle.flash_laws.specs.declared.script_run.Step.TheVariants.{ClosingOutput, DroppingFrame, MakingEnd, FillingEnd}
use Rattle.flash_laws.specs.declared.script_run.Step.TheVariants.{DroppingLast, DroppingLastFrame}
use Rattle.flash_laws.specs.declared.script_run.Step.TheVariants.{ClosingPipe, DiscardingJob, Failing}
use Rattle.flash_laws.specs.declared.script_run.Running.{Running}
use Rattle.flash_laws.specs.declared.script_run.Running.TheVariants.{AwaitingWorker, InProgress, Finishing}
use Rattle.flash_laws.specs.declared.script_run.Running.TheVariants.{Disconnecting}

-- ---- the results of the calls of a run so far

pub data Progress : Type 0 where
  -- the output that was read, whether its end was read, and the bytes of the response in aggregates that were taken
  -- whole
  Ran : (received : List ℕ) → (ended : Bool) → (past : List ℕ) → Progress
  -- the response is aborted, or the server may not read the output: no more of the response is sent
  Broken : Progress
  -- the script could not be run; these bytes of the error response were taken
  NotRun : (status : ℕ) → (past : List ℕ) → Progress

abbrev pub nothing_yet : Progress
nothing_yet = Ran [] false []

-- the possible rest of an output
abbrev pub Follows : (ended : Bool) → List ℕ → Type 0
Follows true more = more ≡ []
Follows false more = ⊤

-- The possible responses, for every further output; once its end was read, the response to the output.
abbrev pub MayAnswer : Wanted → Progress → List ℕ → Type 0
MayAnswer w (Ran received ended past) r = (more : List ℕ) × Follows ended more
    × (r ≡ script_response w (received ++ more))
MayAnswer w Broken r = ⊥
MayAnswer w (NotRun status past) r = r ≡ error_text status w.head_only (not w.keep)

-- All output that was read is taken, except for the buffered part: for every further output, the response is the taken
-- bytes, followed by the body of the buffered part and the further output.
abbrev pub HoldsBack : Wanted → Progress → (held : List ℕ) → Type 0
HoldsBack w (Ran received ended past) held =
    (more : List ℕ) → script_response w (received ++ more) ≡ past ++ script_body w.chunked (held ++ more)
HoldsBack w o held = ⊥

-- the same with these bytes of the response before the buffered part
abbrev pub Continues : Wanted → Progress → (part held : List ℕ) → Type 0
Continues w (Ran received ended past) part held = HoldsBack w (Ran received ended (past ++ part)) held
Continues w o part held = ⊥

-- all of the response is known, since the end of the output was read, or it is an error; and these bytes of it are not
-- yet taken
abbrev pub IsLeft : Wanted → Progress → (rest : List ℕ) → Type 0
IsLeft w (Ran received ended past) rest = IsTrue ended × (script_response w received ≡ past ++ rest)
IsLeft w Broken rest = ⊥
IsLeft w (NotRun status past) rest = error_text status w.head_only (not w.keep) ≡ past ++ rest

abbrev pub Goes : (broken : Bool) → Wanted → Progress → (held : List ℕ) → Type 0
Goes true w o held = (o ≡ Broken) × (held ≡ [])
Goes false w o held = HoldsBack w o held

abbrev pub Ends : (broken : Bool) → Wanted → Progress → (held : List ℕ) → Type 0
Ends true w o held = (o ≡ Broken) × (held ≡ [])
Ends false w o held = IsLeft w o (script_body w.chunked held)

-- ---- the machine's data

-- the write end of a worker's job pipe
abbrev pub HasJobPipe : State → (worker : ℕ) → Type 0
HasJobPipe m worker = (p : ℕ) × (descriptor m server (job_pipe worker) ≡ Some (on.WriteEnd p))

abbrev pub IsReading : State → Run → Type 0
IsReading m run = (p : ℕ) × (descriptor m server run.from ≡ Some (on.ReadEnd p))

-- both ends of the pipe
pub record HasPipe (m : State) (run : Run) (write : ℕ) : Type 0 where
  pub pipe : ℕ
  pub read_end : descriptor m server run.from ≡ Some (on.ReadEnd pipe)
  pub write_end : descriptor m server write ≡ Some (on.WriteEnd pipe)
  pub apart : IsFalse (write == job_pipe run.worker)

-- nothing was read yet
abbrev pub IsFresh : Run → Progress → Type 0
IsFresh run o = IsFalse run.broken × (o ≡ nothing_yet)

-- An aggregate of these bytes, at least one and fewer than a chunk has; a body that is not in chunks buffers none.
pub record HoldsOutput (m : State) (w : Wanted) (a size : ℕ) (bytes : List ℕ) : Type 0 where
  pub is_readable : readable_at m server a ≡ Some bytes
  pub count : size ≡ length bytes
  pub some : 0 < size
  pub few : size < CHUNK_BYTES
  pub chunked : IsTrue w.chunked

abbrev pub IsHeld : State → Wanted → Following → (bytes : List ℕ) → Type 0
IsHeld m w None bytes = bytes ≡ []
IsHeld m w (Some x) bytes = HoldsOutput m w x.0 x.1 bytes

abbrev pub HasFrame : State → Option ℕ → Type 0
HasFrame m None = ⊤
HasFrame m (Some f) = readable_at m server f ≡ Some (frame_of CHUNK_BYTES)

-- the buffered output is not the frame
abbrev pub meets : Following → (frame : Option ℕ) → Bool
meets None frame = false
meets (Some x) frame = has_frame frame x.0

pub record HasOutput (m : State) (w : Wanted) (held : Following) (frame : Option ℕ) (bytes : List ℕ) : Type 0 where
  pub holds : IsHeld m w held bytes
  pub frames : HasFrame m frame
  pub apart : IsFalse (meets held frame)

-- output is read
pub record HasReceived (m : State) (w : Wanted) (o : Progress) (run : Run) (held : Following) (frame : Option ℕ) :
    Type 0 where
  pub reads : IsReading m run
  pub bytes : List ℕ
  pub has : HasOutput m w held frame bytes
  pub goes : Goes run.broken w o bytes

-- the end of the output was read
pub record HasAll (m : State) (w : Wanted) (o : Progress) (run : Run) (held : Following) (frame : Option ℕ) :
    Type 0 where
  pub bytes : List ℕ
  pub has : HasOutput m w held frame bytes
  pub ends : Ends run.broken w o bytes

-- an aggregate, if none follows it
abbrev pub last_agg : (agg : ℕ) → Following → Option ℕ
last_agg a None = Some a
last_agg a (Some x) = None

-- the aggregate that is being sent, with none to follow it
abbrev pub sent_agg : Phase → Option ℕ
sent_agg (phase.SendingWhole s) = last_agg s.agg s.more
sent_agg (phase.CuttingPiece s) = last_agg s.agg s.more
sent_agg (phase.SendingPiece s piece) = last_agg s.agg s.more
sent_agg (phase.DroppingPiece s piece) = last_agg s.agg s.more
sent_agg (phase.DroppingSent a taken more) = last_agg a more
sent_agg (phase.AbortingPiece piece a more) = last_agg a more
sent_agg (phase.Aborting a more) = last_agg a more
sent_agg d = None

-- it has these bytes
abbrev pub IsPart : State → Option ℕ → List ℕ → Type 0
IsPart m None part = ⊥
IsPart m (Some a) part = readable_at m server a ≡ Some part

abbrev pub sends_frame : Phase → (frame : Option ℕ) → Bool
sends_frame d None = false
sends_frame d (Some f) = conn.uses_agg d f

-- A part of the response is being sent: for the phases of any response it is the whole expected response.
pub record HasPart (m : State) (w : Wanted) (o : Progress) (run : Run) (d : Phase) (frame : Option ℕ) : Type 0 where
  pub reads : IsReading m run
  pub frames : HasFrame m frame
  pub part : List ℕ
  pub is_part : IsPart m (sent_agg d) part
  pub has : Has m (serve w) part d
  pub within : taken_of d ≤ length part
  pub apart : IsFalse (sends_frame d frame)
  pub whole : IsFalse run.broken
  pub continues : Continues w o part []

-- the buffered output, and a piece that follows it
pub record HasPiece (m : State) (w : Wanted) (o : Progress) (run : Run) (held size piece len : ℕ)
    (frame : Option ℕ) : Type 0 where
  pub reads : IsReading m run
  pub bytes : List ℕ
  pub more : List ℕ
  pub has : HasOutput m w (Some (held, size)) frame bytes
  pub is_readable : readable_at m server piece ≡ Some more
  pub count : len ≡ length more
  pub within : size + len ≤ CHUNK_BYTES
  pub other : IsFalse (held == piece)
  pub apart : IsFalse (has_frame frame piece)
  pub whole : IsFalse run.broken
  pub goes : HoldsBack w o (bytes ++ more)

-- the bytes of a whole chunk
pub record HasChunk (m : State) (w : Wanted) (o : Progress) (run : Run) (held : ℕ) : Type 0 where
  pub reads : IsReading m run
  pub bytes : List ℕ
  pub is_readable : readable_at m server held ≡ Some bytes
  pub count : length bytes ≡ CHUNK_BYTES
  pub chunked : IsTrue w.chunked
  pub whole : IsFalse run.broken
  pub goes : HoldsBack w o bytes

-- the last bytes of a body in chunks, with the end of the body around them
pub record HasLast (m : State) (w : Wanted) (o : Progress) (held size frame : ℕ) : Type 0 where
  pub bytes : List ℕ
  pub holds : HoldsOutput m w held size bytes
  pub frames : readable_at m server frame ≡ Some (end_around (Some (held, size)))
  pub apart : IsFalse (frame == held)
  pub left : IsLeft w o (script_body true bytes)

-- these bytes of the response are in an aggregate, and no more follow
pub record HasEnd (m : State) (w : Wanted) (o : Progress) (a len : ℕ) : Type 0 where
  pub bytes : List ℕ
  pub is_readable : readable_at m server a ≡ Some bytes
  pub count : len ≡ length bytes
  pub left : IsLeft w o bytes

-- an aggregate is to be dropped, and is not used afterwards
abbrev pub IsSpare : State → (a : ℕ) → (next : Step) → Type 0
IsSpare m a next = IsReadable m a × IsFalse (step_agg next a)

-- an error is to be made, or the whole expected response is being sent, with nothing after it
abbrev pub IsSending : State → (expected : List ℕ) → Phase → Type 0
IsSending m expected (phase.MakingHead (Error status)) = ⊤
IsSending m expected d = IsPart m (sent_agg d) expected × (taken_of d ≤ length expected)

-- The rest of the response is sent: for the phases of any response it is the whole expected response.
pub record HasRest (m : State) (w : Wanted) (o : Progress) (d : Phase) : Type 0 where
  pub expected : List ℕ
  pub left : IsLeft w o expected
  pub has : Has m (serve w) expected d
  pub sends : IsSending m expected d

-- nothing of it is left, and it ends with the connection; or it is aborted
abbrev pub HasNone : Wanted → Progress → Type 0
HasNone w Broken = ⊤
HasNone w o = IsLeft w o [] × (IsFalse w.keep ⊎ IsFalse w.chunked)

-- the rest is sent; or nothing is left, and the connection continues if the response permits it, and is closed
-- otherwise
abbrev pub HasLeft : State → Wanted → Progress → Phase → Type 0
HasLeft m w o phase.Receiving = IsLeft w o [] × IsTrue w.keep
HasLeft m w o phase.Disconnecting = HasNone w o
HasLeft m w o d = HasRest m w o d

-- `job` is the text of the job, by the descriptor that it names.
module _ (job : (fd : ℕ) → List ℕ) where
  abbrev pub HasStep : State → Wanted → Progress → Run → Step → Type 0
  HasStep m w o run (GivingPipe write) = HasPipe m run write × IsFresh run o
  HasStep m w o run (MakingJob f) = IsReading m run × IsFresh run o
  HasStep m w o run (WritingJob j f) = IsReading m run × (readable_at m server j ≡ Some (job f)) × IsFresh run o
  HasStep m w o run (DroppingJob j) = IsReading m run × IsReadable m j × IsFresh run o
  HasStep m w o run MakingHead = IsReading m run × IsFresh run o
  HasStep m w o run (SendingPart d frame) = HasPart m w o run d frame
  HasStep m w o run (ReadingOutput held frame) = HasReceived m w o run held frame
  HasStep m w o run (DroppingOutput a frame) = IsSpare m a (ReadingOutput None frame) × HasReceived m w o run None frame
  HasStep m w o run (JoiningOutput held size piece len frame) = HasPiece m w o run held size piece len frame
  HasStep m w o run (MakingFrame held) = HasChunk m w o run held
  HasStep m w o run (FillingFrame held frame) = HasChunk m w o run held × HasFrame m (Some frame)
      × IsFalse (frame == held)
  HasStep m w o run (DroppingHeld held chunk len frame) =
      IsSpare m held (SendingPart (sends_part chunk len) (Some frame))
      × HasPart m w o run (sends_part chunk len) (Some frame)
  HasStep m w o run (DroppingEnd a held frame) = IsSpare m a (ClosingOutput held frame) × IsReading m run
      × HasAll m w o run held frame
  HasStep m w o run (DiscardingHeld held frame) = IsSpare m held (ClosingOutput None frame) × IsReading m run
      × HasAll m w o run None frame
  HasStep m w o run (ClosingOutput held frame) = IsReading m run × HasAll m w o run held frame
  HasStep m w o run (DroppingFrame f held) = HasAll m w o run held (Some f)
  HasStep m w o run (MakingEnd held) = IsTrue w.chunked × IsFalse run.broken × HasAll m w o run held None
  HasStep m w o run (FillingEnd held size frame) = HasLast m w o held size frame
  HasStep m w o run (DroppingLast held chunk len frame) = IsSpare m held (DroppingLastFrame frame chunk len)
      × IsSpare m frame (DiscardingJob chunk)
      × HasEnd m w o chunk len
  HasStep m w o run (DroppingLastFrame frame chunk len) = IsSpare m frame (DiscardingJob chunk) × HasEnd m w o chunk len
  HasStep m w o run (ClosingPipe write) = HasPipe m run write × IsFresh run o
  HasStep m w o run (DiscardingJob j) = IsReading m run × IsReadable m j × IsFresh run o
  HasStep m w o run Failing = IsReading m run × IsFresh run o

  -- The machine has the data that a run needs, with these results of its calls.
  abbrev pub HasRun : State → Wanted → Progress → Running → Type 0
  HasRun m w o AwaitingWorker = o ≡ nothing_yet
  HasRun m w o (InProgress run step) = HasJobPipe m run.worker × HasStep m w o run step
  HasRun m w o (Finishing d) = HasLeft m w o d
  HasRun m w o Disconnecting = HasNone w o
