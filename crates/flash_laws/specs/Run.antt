-- The run of a script by itself: the objects that it uses, its next call, and its state after the reply.
--
-- It begins once the text of the script is read, and answers a request that is served and is not HEAD. `job` is the
-- text of the job, which names the worker's descriptor of the pipe's write end.
pub mod Fits
pub mod OfferedBytes
pub mod Holdings
pub mod Wants
pub mod WorkerStates
use Rattle.std.specs.Prelude.{ℕ, min, ◌+◌, ◌-◌, ◌==◌, ◌&&◌, ◌||◌, nat_lt, not, Bool, true, false, List, [], ◌∷◌, Option}
use Rattle.std.specs.Prelude.{Some, None, if◌then◌else◌}
use Rattle.iol_core.specs.declared.refusals.Refusal.{Refusal}
use Rattle.iol_core.specs.declared.refusals.Refusal.TheVariants as no
use Rattle.iol_core.specs.declared.events.Call.{Call}
use Rattle.iol_core.specs.declared.events.Call.TheVariants as call
use Rattle.iol_core.specs.declared.events.Reply.{Reply}
use Rattle.iol_core.specs.declared.events.Reply.TheVariants as reply
use Rattle.flash_http.specs.Request.{serve, Wanted}
use Rattle.flash_laws.specs.Moves.{or_stay, or_else, on_done, on_agg, on_count, on_fd, on_fds, on_refused, if_denied}
use Rattle.flash_laws.specs.Conn as conn
use Rattle.flash_laws.specs.Conn.{Following, Conn, has_followed, count_of, none, one}
use Rattle.flash_laws.specs.Answers.Scripts.{script_text, frame_of, place_in_frame, end_around}
use Rattle.flash_laws.specs.declared.phase.Payload.TheVariants.{Error}
use Rattle.flash_laws.specs.declared.phase.Phase.{Phase}
use Rattle.flash_laws.specs.declared.phase.Phase.TheVariants as phase
use Rattle.flash_laws.specs.declared.script_run.TheConstants.{CHUNK_BYTES}
use Rattle.flash_laws.specs.declared.script_run.Run.{Run}
use Rattle.flash_laws.specs.declared.script_run.Step.{Step}
use Rattle.flash_laws.specs.declared.script_run.Step.TheVariants.{GivingPipe, MakingJob, WritingJob, DroppingJob}
use Rattle.flash_laws.specs.declared.script_run.Step.TheVariants.{MakingHead, SendingPart, ReadingOutput}
use Rattle.flash_laws.specs.declared.script_run.Step.TheVariants.{DroppingOutput, JoiningOutput, MakingFrame}
use Rattle.flash_laws.specs.declared.script_run.Step.TheVariants.{FillingFrame, DroppingHeld, DroppingEnd}
use Rattle.flash_laws.specs.declared.script_run.Step.TheVariants.{DiscardingHeld}
use Rattle.flash_laws.specs.declared.script_run.Step.TheVariants.{ClosingOutput, DroppingFrame, MakingEnd, FillingEnd}
use Rattle.flash_laws.specs.declared.script_run.Step.TheVariants.{DroppingLast, DroppingLastFrame}
use Rattle.flash_laws.specs.declared.script_run.Step.TheVariants.{ClosingPipe, DiscardingJob, Failing}
use Rattle.flash_laws.specs.declared.script_run.Running.{Running}
use Rattle.flash_laws.specs.declared.script_run.Running.TheVariants.{AwaitingWorker, InProgress, Finishing}
use Rattle.flash_laws.specs.declared.script_run.Running.TheVariants.{Disconnecting}

-- ---- the objects that it uses

-- Worker k, counted from 0, is domain k + 2, and the write end of its job pipe is the server's descriptor k + 1.
abbrev pub worker_domain : (worker : ℕ) → ℕ
worker_domain worker = worker + 2

abbrev pub job_pipe : (worker : ℕ) → ℕ
job_pipe worker = worker + 1

-- whether the rest of a response is still to be made, or to be sent
abbrev pub is_left : Phase → Bool
is_left (phase.MakingHead k) = true
is_left (phase.SendingWhole s) = true
is_left (phase.CuttingPiece s) = true
is_left (phase.SendingPiece s piece) = true
is_left (phase.DroppingPiece s piece) = true
is_left (phase.DroppingSent a taken more) = true
is_left (phase.AbortingPiece piece a more) = true
is_left (phase.Aborting a more) = true
is_left d = false

-- whether it makes no more calls
abbrev pub is_over : Running → Bool
is_over (Finishing d) = not (is_left d)
is_over Disconnecting = true
is_over x = false

abbrev pub has_frame : Option ℕ → (a : ℕ) → Bool
has_frame None a = false
has_frame (Some f) a = f == a

abbrev pub held_size : Following → ℕ
held_size None = 0
held_size (Some x) = x.1

-- a connection in this phase, for the definitions on responses
abbrev pub in_phase : Wanted → Phase → Conn
in_phase w d = record { buffered = []; request = serve w; phase = d }

-- ---- the replies that move a step; `received` is the contents of the aggregate in the reply

-- whether the call is retried
abbrev pub is_again : Refusal → Bool
is_again no.WouldBlock = true
is_again no.TooMany = true
is_again (no.PoolClosed p) = true
is_again (no.NoRoom p) = true
is_again no.Memory = true
is_again x = false

abbrev pub broken : Run → Run
broken run = record run { broken = true }

-- a free worker runs it
abbrev pub after_wait : (worker : ℕ) → Reply → Running
after_wait worker r = or_stay AwaitingWorker
    (on_fds r (λ from write. InProgress (record { worker = worker; from = from; broken = false }) (GivingPipe write)))

abbrev pub after_give : (write : ℕ) → Reply → Step
after_give write r = or_stay (GivingPipe write)
    (or_else (on_fd r MakingJob) (on_refused r (λ x. Some (if is_again x then GivingPipe write else ClosingPipe write))))

abbrev pub after_make : (fd : ℕ) → Reply → Step
after_make f r = or_stay (MakingJob f) (on_agg r (λ n. WritingJob n f))

abbrev pub after_hand : (job fd : ℕ) → Reply → Step
after_hand j f r = or_stay (WritingJob j f)
    (or_else (on_count r (λ n. DroppingJob j))
    (on_refused r (λ x. Some (if is_again x then WritingJob j f else DiscardingJob j))))

abbrev pub after_release_job : (job : ℕ) → Reply → Step
after_release_job j r = or_stay (DroppingJob j) (on_done r MakingHead)

-- a part, which is offered whole
abbrev pub sends_part : (agg len : ℕ) → Phase
sends_part a len = phase.SendingWhole (conn.whole a len 0 None)

abbrev pub after_head : Reply → (received : List ℕ) → Step
after_head r received = or_stay MakingHead (on_agg r (λ n. SendingPart (sends_part n (count_of received)) None))

-- a part is sent by the same phases as the response of a file
abbrev pub after_part : Phase → Reply → Phase
after_part (phase.SendingWhole s) r = conn.after_send s r
after_part (phase.CuttingPiece s) r = conn.after_cut s r
after_part (phase.SendingPiece s piece) r = conn.after_offer s piece r
after_part (phase.DroppingPiece s piece) r = conn.after_swap s piece r
after_part (phase.AbortingPiece piece a more) r = conn.after_break piece a more r
after_part d r = d

-- after it was sent, or aborted, output is read
abbrev pub after_sending : Run → Phase → (frame : Option ℕ) → Reply → Running
after_sending run (phase.DroppingSent a taken None) frame reply.Done = InProgress run (ReadingOutput None frame)
after_sending run (phase.Aborting a None) frame reply.Done = InProgress (broken run) (ReadingOutput None frame)
after_sending run d frame r = InProgress run (SendingPart (after_part d r) frame)

abbrev pub filled : (held : ℕ) → (frame : Option ℕ) → Step
filled held None = MakingFrame held
filled held (Some f) = FillingFrame held f

-- held bytes are buffered: if they are those of a chunk, it is made
abbrev pub holding : (held size : ℕ) → (frame : Option ℕ) → Step
holding held size frame = if nat_lt size CHUNK_BYTES then ReadingOutput (Some (held, size)) frame else filled held frame

-- some output was read
abbrev pub on_output : (broken chunked : Bool) → Following → (frame : Option ℕ) → (agg len : ℕ) → Step
on_output true chunked held frame a len = DroppingOutput a frame
on_output false false held frame a len = SendingPart (sends_part a len) frame
on_output false true None frame a len = holding a len frame
on_output false true (Some x) frame a len = JoiningOutput x.0 x.1 a len frame

-- the server may not read the output
abbrev pub unread : Following → (frame : Option ℕ) → Step
unread None frame = ClosingOutput None frame
unread (Some x) frame = DiscardingHeld x.0 frame

-- no output is its end
abbrev pub received_of_script : Wanted → Run → Following → (frame : Option ℕ) → (agg : ℕ) → (received : List ℕ) → Step
received_of_script w run held frame n [] = DroppingEnd n held frame
received_of_script w run held frame n (b ∷ received) =
    on_output run.broken w.chunked held frame n (count_of (b ∷ received))

abbrev pub after_output : Wanted → Run → Following → (frame : Option ℕ) → Reply → (received : List ℕ) → Running
after_output w run held frame r received = or_stay (InProgress run (ReadingOutput held frame))
    (or_else (on_agg r (λ n. InProgress run (received_of_script w run held frame n received)))
    (on_refused r (if_denied (InProgress (broken run) (unread held frame)))))

abbrev pub after_spill : (agg : ℕ) → (frame : Option ℕ) → Reply → Step
after_spill a frame r = or_stay (DroppingOutput a frame) (on_done r (ReadingOutput None frame))

-- the total length of two aggregates, as a 32-bit number
abbrev pub both : (size len : ℕ) → ℕ
both size len = min (size + len) 4294967295

abbrev pub after_gather : (held size piece len : ℕ) → (frame : Option ℕ) → Reply → Step
after_gather held size piece len frame r =
    or_stay (JoiningOutput held size piece len frame) (on_agg r (λ n. holding n (both size len) frame))

abbrev pub after_frame : (held : ℕ) → Reply → Step
after_frame held r = or_stay (MakingFrame held) (on_agg r (λ n. FillingFrame held n))

abbrev pub after_wrap : (held frame : ℕ) → Reply → (received : List ℕ) → Step
after_wrap held frame r received =
    or_stay (FillingFrame held frame) (on_agg r (λ n. DroppingHeld held n (count_of received) frame))

abbrev pub after_trim : (held chunk len frame : ℕ) → Reply → Step
after_trim held chunk len frame r =
    or_stay (DroppingHeld held chunk len frame) (on_done r (SendingPart (sends_part chunk len) (Some frame)))

abbrev pub after_ended : (agg : ℕ) → Following → (frame : Option ℕ) → Reply → Step
after_ended a held frame r = or_stay (DroppingEnd a held frame) (on_done r (ClosingOutput held frame))

abbrev pub after_release_held : (held : ℕ) → (frame : Option ℕ) → Reply → Step
after_release_held held frame r = or_stay (DiscardingHeld held frame) (on_done r (ClosingOutput None frame))

-- the end of the body is made, if the body is in chunks and is still sent
abbrev pub finishing : (broken chunked : Bool) → Run → Following → Running
finishing false true run held = InProgress run (MakingEnd held)
finishing b c run held = Disconnecting

abbrev pub stopped : Wanted → Run → Following → (frame : Option ℕ) → Running
stopped w run held (Some f) = InProgress run (DroppingFrame f held)
stopped w run held None = finishing run.broken w.chunked run held

abbrev pub after_stop : Wanted → Run → Following → (frame : Option ℕ) → Reply → Running
after_stop w run held frame r =
    or_stay (InProgress run (ClosingOutput held frame)) (on_done r (stopped w run held frame))

abbrev pub after_release_frame : Wanted → Run → (frame : ℕ) → Following → Reply → Running
after_release_frame w run f held r =
    or_stay (InProgress run (DroppingFrame f held)) (on_done r (finishing run.broken w.chunked run held))

-- the end of the body is sent by itself, or is set around the buffered output
abbrev pub ending : Run → Following → (agg len : ℕ) → Running
ending run None a len = Finishing (sends_part a len)
ending run (Some x) a len = InProgress run (FillingEnd x.0 x.1 a)

abbrev pub after_last : Run → Following → Reply → (received : List ℕ) → Running
after_last run held r received =
    or_stay (InProgress run (MakingEnd held)) (on_agg r (λ n. ending run held n (count_of received)))

abbrev pub after_wrap_last : (held size frame : ℕ) → Reply → (received : List ℕ) → Step
after_wrap_last held size frame r received =
    or_stay (FillingEnd held size frame) (on_agg r (λ n. DroppingLast held n (count_of received) frame))

abbrev pub after_trim_last : (held chunk len frame : ℕ) → Reply → Step
after_trim_last held chunk len frame r =
    or_stay (DroppingLast held chunk len frame) (on_done r (DroppingLastFrame frame chunk len))

abbrev pub after_unwrap : Run → (frame chunk len : ℕ) → Reply → Running
after_unwrap run frame chunk len r =
    or_stay (InProgress run (DroppingLastFrame frame chunk len)) (on_done r (Finishing (sends_part chunk len)))

abbrev pub after_return : (write : ℕ) → Reply → Step
after_return write r = or_stay (ClosingPipe write) (on_done r Failing)

abbrev pub after_lapse : (job : ℕ) → Reply → Step
after_lapse j r = or_stay (DiscardingJob j) (on_done r Failing)

-- a script that cannot run now gets an error response (RFC 9110, section 15.6.4)
abbrev pub after_fail : Run → Reply → Running
after_fail run r = or_stay (InProgress run Failing) (on_done r (Finishing (phase.MakingHead (Error 503))))

-- ---- the steps

-- The definition of a step. A new step is one more row of `step_of`.
pub record StepOf : Type 0 where
  -- its call: `job` is the text of the job, and `fd` the descriptor of the connection
  pub call : (job : ℕ → List ℕ) → (fd : ℕ) → Wanted → Run → Call
  -- whether it uses an aggregate
  pub agg : (a : ℕ) → Bool
  -- whether it has the write end of the pipe at a descriptor
  pub write_end : (g : ℕ) → Bool
  -- whether the read end is still open
  pub is_reading : Bool
  -- the state after the reply to its call; `received` is the contents of the aggregate in the reply
  pub after : Wanted → Run → Reply → (received : List ℕ) → Running

-- a call for which only the step matters
abbrev calls : Call → (job : ℕ → List ℕ) → (fd : ℕ) → Wanted → Run → Call
calls k job fd w run = k

-- the next step of the same run
abbrev goes : (Reply → Step) → Wanted → Run → Reply → (received : List ℕ) → Running
goes next w run r received = InProgress run (next r)

abbrev goes_by : (Reply → (received : List ℕ) → Step) → Wanted → Run → Reply → (received : List ℕ) → Running
goes_by next w run r received = InProgress run (next r received)

abbrev pub step_of : Step → StepOf
step_of (GivingPipe write) = record {
  call = λ job fd w run. call.GiveFd write (worker_domain run.worker);
  agg = none;
  write_end = one write;
  is_reading = true;
  after = goes (after_give write);
}
step_of (MakingJob f) = record {
  call = λ job fd w run. call.AggMake (job f);
  agg = none;
  write_end = none;
  is_reading = true;
  after = goes (after_make f);
}
step_of (WritingJob handed f) = record {
  call = λ job fd w run. call.IolWrite (job_pipe run.worker) handed;
  agg = one handed;
  write_end = none;
  is_reading = true;
  after = goes (after_hand handed f);
}
step_of (DroppingJob job) = record {
  call = calls (call.AggDrop job);
  agg = one job;
  write_end = none;
  is_reading = true;
  after = goes (after_release_job job);
}
step_of MakingHead = record {
  call = λ job fd w run. call.AggMake (script_text w);
  agg = none;
  write_end = none;
  is_reading = true;
  after = goes_by after_head;
}
step_of (SendingPart d frame) = record {
  call = λ job fd w run. conn.next_call fd (in_phase w d);
  agg = λ a. conn.uses_agg d a || has_frame frame a;
  write_end = none;
  is_reading = true;
  after = λ w run r received. after_sending run d frame r;
}
step_of (ReadingOutput held frame) = record {
  call = λ job fd w run. call.IolRead run.from (CHUNK_BYTES - held_size held);
  agg = λ a. has_followed held a || has_frame frame a;
  write_end = none;
  is_reading = true;
  after = λ w run r received. after_output w run held frame r received;
}
step_of (DroppingOutput spilt frame) = record {
  call = calls (call.AggDrop spilt);
  agg = λ a. (spilt == a) || has_frame frame a;
  write_end = none;
  is_reading = true;
  after = goes (after_spill spilt frame);
}
step_of (JoiningOutput held size piece len frame) = record {
  call = calls (call.AggJoin held piece);
  agg = λ a. (held == a) || ((piece == a) || has_frame frame a);
  write_end = none;
  is_reading = true;
  after = goes (after_gather held size piece len frame);
}
step_of (MakingFrame held) = record {
  call = calls (call.AggMake (frame_of CHUNK_BYTES));
  agg = one held;
  write_end = none;
  is_reading = true;
  after = goes (after_frame held);
}
step_of (FillingFrame held frame) = record {
  call = calls (call.AggReplace frame (place_in_frame CHUNK_BYTES) (place_in_frame CHUNK_BYTES) held);
  agg = λ a. (held == a) || (frame == a);
  write_end = none;
  is_reading = true;
  after = goes_by (after_wrap held frame);
}
step_of (DroppingHeld chunked chunk len frame) = record {
  call = calls (call.AggDrop chunked);
  agg = λ a. (chunked == a) || ((chunk == a) || (frame == a));
  write_end = none;
  is_reading = true;
  after = goes (after_trim chunked chunk len frame);
}
step_of (DroppingEnd empty held frame) = record {
  call = calls (call.AggDrop empty);
  agg = λ a. (empty == a) || (has_followed held a || has_frame frame a);
  write_end = none;
  is_reading = true;
  after = goes (after_ended empty held frame);
}
step_of (DiscardingHeld dropped frame) = record {
  call = calls (call.AggDrop dropped);
  agg = λ a. (dropped == a) || has_frame frame a;
  write_end = none;
  is_reading = true;
  after = goes (after_release_held dropped frame);
}
step_of (ClosingOutput held frame) = record {
  call = λ job fd w run. call.Close run.from;
  agg = λ a. has_followed held a || has_frame frame a;
  write_end = none;
  is_reading = true;
  after = λ w run r received. after_stop w run held frame r;
}
step_of (DroppingFrame frame held) = record {
  call = calls (call.AggDrop frame);
  agg = λ a. (frame == a) || has_followed held a;
  write_end = none;
  is_reading = false;
  after = λ w run r received. after_release_frame w run frame held r;
}
step_of (MakingEnd held) = record {
  call = calls (call.AggMake (end_around held));
  agg = has_followed held;
  write_end = none;
  is_reading = false;
  after = λ w run r received. after_last run held r received;
}
step_of (FillingEnd held size frame) = record {
  call = calls (call.AggReplace frame (place_in_frame size) (place_in_frame size) held);
  agg = λ a. (held == a) || (frame == a);
  write_end = none;
  is_reading = false;
  after = goes_by (after_wrap_last held size frame);
}
step_of (DroppingLast last chunk len frame) = record {
  call = calls (call.AggDrop last);
  agg = λ a. (last == a) || ((chunk == a) || (frame == a));
  write_end = none;
  is_reading = false;
  after = goes (after_trim_last last chunk len frame);
}
step_of (DroppingLastFrame end chunk len) = record {
  call = calls (call.AggDrop end);
  agg = λ a. (end == a) || (chunk == a);
  write_end = none;
  is_reading = false;
  after = λ w run r received. after_unwrap run end chunk len r;
}
step_of (ClosingPipe write) = record {
  call = calls (call.Close write);
  agg = none;
  write_end = one write;
  is_reading = true;
  after = goes (after_return write);
}
step_of (DiscardingJob lapsed) = record {
  call = calls (call.AggDrop lapsed);
  agg = one lapsed;
  write_end = none;
  is_reading = true;
  after = goes (after_lapse lapsed);
}
step_of Failing = record {
  call = λ job fd w failed. call.Close failed.from;
  agg = none;
  write_end = none;
  is_reading = true;
  after = λ w run r received. after_fail run r;
}

abbrev pub step_agg : Step → (a : ℕ) → Bool
step_agg s = (step_of s).agg

abbrev pub step_fd : Step → (g : ℕ) → Bool
step_fd s = (step_of s).write_end

abbrev pub is_reading : Step → Bool
is_reading s = (step_of s).is_reading

abbrev pub after_step : Wanted → Run → Step → Reply → (received : List ℕ) → Running
after_step w run s = (step_of s).after w run

-- ---- a run: the objects that it uses, its next call, and its state after the reply

-- the pipe ends that the server has
abbrev pub ends_of : Run → Step → (g : ℕ) → Bool
ends_of run step g = (is_reading step && (run.from == g)) || step_fd step g

abbrev pub uses_agg : Running → (a : ℕ) → Bool
uses_agg AwaitingWorker a = false
uses_agg (InProgress run step) a = step_agg step a
uses_agg (Finishing d) a = conn.uses_agg d a
uses_agg Disconnecting a = false

abbrev pub uses_fd : Running → (g : ℕ) → Bool
uses_fd AwaitingWorker g = false
uses_fd (InProgress run step) g = (job_pipe run.worker == g) || ends_of run step g
uses_fd (Finishing d) g = conn.uses_fd d g
uses_fd Disconnecting g = false

module _ (job : (fd : ℕ) → List ℕ) where
  abbrev pub step_call : (fd : ℕ) → Wanted → Run → Step → Call
  step_call fd w run s = (step_of s).call job fd w run

  -- its next call; fd is the descriptor of its connection
  abbrev pub next_call : (fd : ℕ) → Wanted → Running → Call
  next_call fd w AwaitingWorker = call.Pipe
  next_call fd w (InProgress run step) = step_call fd w run step
  next_call fd w (Finishing d) = conn.next_call fd (in_phase w d)
  next_call fd w Disconnecting = call.Close fd

-- Its state after the reply to its call; `worker` is a free worker.
abbrev pub after_reply : (worker : ℕ) → Wanted → Running → Reply → (received : List ℕ) → Running
after_reply worker w AwaitingWorker r received = after_wait worker r
after_reply worker w (InProgress run step) r received = after_step w run step r received
after_reply worker w (Finishing d) r received = Finishing (conn.after_reply (in_phase w d) r received).phase
after_reply worker w Disconnecting r received = Disconnecting
