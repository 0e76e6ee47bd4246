-- The result of a call of a run is used by it.
use Rattle.std.proofs.Common.{◌≡◌, ℕ, ◌+◌, ◌-◌, ◌==◌, List, [], ◌∷◌, ◌++◌, Option, Some, None, true, false, take, drop}
use Rattle.std.specs.Prelude.{◌||◌, slice_range}
use Rattle.iol_core.specs.State.{State, descriptor}
use Rattle.iol_core.specs.Run.{StepsTo}
use Rattle.iol_core.specs.declared.descriptors.Descriptor.TheVariants as on
use Rattle.iol_core.specs.declared.refusals.Refusal.{Refusal}
use Rattle.iol_core.specs.declared.events.Call.{Call}
use Rattle.iol_core.specs.declared.events.Call.TheVariants as call
use Rattle.iol_core.specs.declared.events.Event.{Event}
use Rattle.iol_core.specs.declared.events.Event.TheVariants as event
use Rattle.iol_core.specs.declared.events.Reply.{Reply}
use Rattle.iol_core.specs.declared.events.Reply.TheVariants as reply
use Rattle.iol_laws.specs.Aggregates.{AggregatesComeAndGo, brings}
use Rattle.iol_laws.specs.Caller as caller
use Rattle.iol_laws.specs.Caller.{CallsServeTheirDomain, readable_at}
use Rattle.iol_laws.specs.Order.{IsOrderly}
use Rattle.flash_http.specs.Request.{serve, Wanted}
use Rattle.flash_laws.specs.Conn as conn
use Rattle.flash_laws.specs.Conn.{Following, has_followed, count_of, piece_end}
use Rattle.flash_laws.specs.Conn.Fits.{Has}
use Rattle.flash_laws.specs.Run.Fits.{Progress, HasReceived, HasPart, HasLeft, HasRun}
use Rattle.flash_laws.specs.Run.Holdings.{RunsKeepNothing}
use Rattle.flash_laws.specs.Run.{both, worker_domain, has_frame, uses_agg, held_size, in_phase, step_call, next_call}
use Rattle.flash_laws.specs.Run.{ending, after_sending, after_output, after_step, after_reply, is_left, is_over}
use Rattle.flash_laws.specs.Answers.Scripts.{script_text, frame_of, place_in_frame, end_around}
use Rattle.flash_laws.specs.Site.{server}
use Rattle.flash_laws.specs.declared.phase.Phase.{Phase}
use Rattle.flash_laws.specs.declared.phase.Phase.TheVariants as phase
use Rattle.flash_laws.specs.declared.script_run.TheConstants.{CHUNK_BYTES}
use Rattle.flash_laws.specs.declared.script_run.Run.{Run}
use Rattle.flash_laws.specs.declared.script_run.Step.{Step}
use Rattle.flash_laws.specs.declared.script_run.Step.TheVariants.{GivingPipe, MakingJob, WritingJob, DroppingJob}
use Rattle.flash_laws.specs.declared.script_run.Step.TheVariants.{MakingHead, SendingPart, ReadingOutput}
use Rattle.flash_laws.specs.declared.script_run.Step.TheVariants.{DroppingOutput, JoiningOutput, MakingFrame}
use Rattle.flash_laws.specs.declared.script_run.Step.TheVariants.{FillingFrame, DroppingHeld, DroppingEnd}
use Rattle.flash_laws.specs.declared.script_run.Step.TheVariants.{DiscardingHeld}
use Rattle.flash_laws.specs.declared.script_run.Step.TheVariants.{DroppingFrame, MakingEnd, FillingEnd, DroppingLast}
use Rattle.flash_laws.specs.declared.script_run.Step.TheVariants.{DroppingLastFrame}
use Rattle.flash_laws.specs.declared.script_run.Step.TheVariants.{ClosingPipe, DiscardingJob}
use Rattle.flash_laws.specs.declared.script_run.Running.{Running}
use Rattle.flash_laws.specs.declared.script_run.Running.TheVariants.{AwaitingWorker, InProgress, Finishing}
use Rattle.flash_laws.specs.declared.script_run.Running.TheVariants.{Disconnecting}
use Rattle.flash_laws.proofs.Conn.Holdings as keeping
use Rattle.flash_laws.proofs.Conn.Holdings.{headed-first}
use Rattle.flash_laws.proofs.Lists.{later_of, former_of, not-false}
use Rattle.flash_laws.proofs.Run.Alone.{keeps-alone, opened}
use Rattle.flash_laws.proofs.Run.Rest.{is-rest}
use Rattle.flash_laws.proofs.Run.Holdings.{holding-new, on_output-new, left, shut}

module _ (come : AggregatesComeAndGo) (own : CallsServeTheirDomain) (m n : State) (order : IsOrderly m)
    (a : ℕ) (bytes : List ℕ) (before : readable_at m server a ≡ None) (after : readable_at n server a ≡ Some bytes)
    (w : Wanted) where
  -- the reply names the new aggregate
  named : (e : Event) (r : Reply) → StepsTo m e r n → brings e r server a ≡ true
  named = keeping.named come own m n order a bytes before after

  -- dropping an aggregate, closing, writing, making a pipe and giving its end away bring no aggregate
  dropped : (b : ℕ) (r : Reply) → StepsTo m (event.Call server (call.AggDrop b)) r n → ⊥
  dropped = keeping.dropped come own m n order a bytes before after

  shuts : (g : ℕ) (r : Reply) → StepsTo m (event.Call server (call.Close g)) r n → ⊥
  shuts = keeping.closed come own m n order a bytes before after

  written : (fd c b : ℕ) (sent : List ℕ) (r : Reply) → descriptor m server fd ≡ Some (on.Connection c)
      → readable_at m server b ≡ Some sent → StepsTo m (event.Call server (call.IolWrite fd b)) r n → ⊥
  written = keeping.written come own m n order a bytes before after

  handed : (fd p b : ℕ) (sent : List ℕ) (r : Reply) → descriptor m server fd ≡ Some (on.WriteEnd p)
      → readable_at m server b ≡ Some sent → StepsTo m (event.Call server (call.IolWrite fd b)) r n → ⊥
  handed fd p b sent r open_on is_readable step =
      keeping.unnamed come own m n order a bytes before after (call.IolWrite fd b) (λ x. caller.WritesPipe m p sent x n)
      r step (own.write_pipe m n server fd p b sent r order open_on is_readable step) (λ x bad. bad)
      (λ x y bad. bad)

  piped : (r : Reply) → StepsTo m (event.Call server call.Pipe) r n → ⊥
  piped r step = keeping.unnamed come own m n order a bytes before after call.Pipe (λ x. caller.MakesPipe m server x n)
      r step (own.makes_pipe m n server r step) (λ x bad. bad) (λ x y bad. bad)

  given : (g to p : ℕ) (r : Reply) → descriptor m server g ≡ Some (on.WriteEnd p)
      → StepsTo m (event.Call server (call.GiveFd g to)) r n → ⊥
  given g to p r open_on step =
      keeping.unnamed come own m n order a bytes before after (call.GiveFd g to)
      (λ x. caller.GivesFd m server g to (on.WriteEnd p) x n) r step
      (own.gives_fd m n server g to (on.WriteEnd p) r open_on step) (λ x bad. bad) (λ x y bad. bad)

  -- the reply names the aggregate that is made
  made : (k : Call) (it : List ℕ) (y : Reply → Running) (r : Reply) → StepsTo m (event.Call server k) r n
      → caller.Makes m server it r n
      → ((x : ℕ) → brings (event.Call server k) (reply.Agg x) server a ≡ true → (x == a) ≡ true)
      → ((x : Refusal) → brings (event.Call server k) (reply.Refused x) server a ≡ true → ⊥)
      → ((x : ℕ) → (x == a) ≡ true → uses_agg (y (reply.Agg x)) a ≡ true) → uses_agg (y r) a ≡ true
  made k it y = keeping.made come own m n order a bytes before after k it (λ z. uses_agg (y z) a)

  module _ (job : ℕ → List ℕ) (fd c : ℕ) (open_on : descriptor m server fd ≡ Some (on.Connection c)) (o : Progress)
    where
      sending-brings : (run : Run) (d : Phase) (frame : Option ℕ) (r : Reply) → HasPart m w o run d frame
          → StepsTo m (event.Call server (conn.next_call fd (in_phase w d))) r n
          → uses_agg (after_sending run d frame r) a ≡ true
      sending-brings run (phase.SendingWhole s) frame r h step =
          absurd (written fd c s.agg h.has.0.bytes r open_on h.has.0.is_readable step)
      sending-brings run (phase.CuttingPiece s) frame r h step =
          made (call.AggCut s.agg s.from (piece_end s)) (slice_range h.has.0.bytes s.from (piece_end s))
          (λ k. after_sending run (phase.CuttingPiece s) frame k) r step
          (own.cut m n server s.agg s.from (piece_end s) h.has.0.bytes r order h.has.0.is_readable step) (λ x is. is)
          (λ x is. cc (is))
          (λ x is. former_of ((x == a) || ((s.agg == a) || has_followed s.more a)) (has_frame frame a)
          (former_of (x == a) ((s.agg == a) || has_followed s.more a) is))
      sending-brings run (phase.SendingPiece s piece) frame r h step =
          absurd (written fd c piece (slice_range h.has.whole.bytes s.from (piece_end s)) r open_on h.has.is_readable
          step)
      sending-brings run (phase.DroppingPiece s piece) frame r h step = absurd (dropped piece r step)
      sending-brings run (phase.DroppingSent b taken None) frame r h step = absurd (dropped b r step)
      sending-brings run (phase.AbortingPiece piece b None) frame r h step = absurd (dropped piece r step)
      sending-brings run (phase.Aborting b None) frame r h step = absurd (dropped b r step)
      sending-brings run d frame r h step = absurd h.is_part

      receives-brings : (run : Run) (held : Following) (frame : Option ℕ) (r : Reply) (received : List ℕ)
          (h : HasReceived m w o run held frame)
          → StepsTo m (event.Call server (call.IolRead run.from (CHUNK_BYTES - held_size held))) r n
          → uses_agg (after_output w run held frame r received) a ≡ true
      receives-brings run held frame r received h step =
          by r received (own.read_pipe m n server run.from h.reads.0 (CHUNK_BYTES - held_size held) r order h.reads.1
          step) (named (event.Call server (call.IolRead run.from (CHUNK_BYTES - held_size held))) r step)
        where
          by : (r : Reply) (received : List ℕ) → caller.ReadsPipe m server h.reads.0 (CHUNK_BYTES - held_size held) r n
              → brings (event.Call server (call.IolRead run.from (CHUNK_BYTES - held_size held))) r server a ≡ true
              → uses_agg (after_output w run held frame r received) a ≡ true
          by (reply.Agg k) [] did is = former_of (k == a) (has_followed held a || has_frame frame a) is
          by (reply.Agg k) (b ∷ received) did is =
              on_output-new run.broken w.chunked held frame k (count_of (b ∷ received)) a is
          by (reply.Refused x) received did is = absurd (cc (is))
          by r received did is = absurd did

      ending-new : (run : Run) (held : Following) (k len : ℕ) → (k == a) ≡ true
          → uses_agg (ending run held k len) a ≡ true
      ending-new run None k len is = former_of (k == a) false is
      ending-new run (Some x) k len is = later_of (x.0 == a) (k == a) is

      step-brings : (run : Run) (s : Step) (r : Reply) (received : List ℕ) → HasRun job m w o (InProgress run s)
          → StepsTo m (event.Call server (step_call job fd w run s)) r n
          → uses_agg (after_step w run s r received) a ≡ true
      step-brings run (GivingPipe write) r received has step =
          absurd (given write (worker_domain run.worker) has.1.0.pipe r has.1.0.write_end step)
      step-brings run (MakingJob f) r received has step =
          made (call.AggMake (job f)) (job f) (λ k. after_step w run (MakingJob f) k received) r step
          (own.make m n server (job f) r order step) (λ x is. is) (λ x is. cc (is)) (λ x is. is)
      step-brings run (WritingJob j f) r received has step =
          absurd (handed (run.worker + 1) has.0.0 j (job f) r has.0.1 has.1.1 step)
      step-brings run (DroppingJob j) r received has step = absurd (dropped j r step)
      step-brings run MakingHead r received has step =
          made (call.AggMake (script_text w)) (script_text w) (λ k. after_step w run MakingHead k received) r step
          (own.make m n server (script_text w) r order step) (λ x is. is) (λ x is. cc (is))
          (λ x is. former_of ((x == a) || false) false (former_of (x == a) false is))
      step-brings run (SendingPart d frame) r received has step = sending-brings run d frame r has.1 step
      step-brings run (ReadingOutput held frame) r received has step =
          receives-brings run held frame r received has.1 step
      step-brings run (DroppingOutput b frame) r received has step = absurd (dropped b r step)
      step-brings run (JoiningOutput held size piece len frame) r received has step =
          made (call.AggJoin held piece) (has.1.bytes ++ has.1.more)
          (λ k. after_step w run (JoiningOutput held size piece len frame) k received) r step
          (own.join m n server held piece has.1.bytes has.1.more r order has.1.has.holds.is_readable has.1.is_readable
          step) (λ x is. is) (λ x is. cc (is)) (λ x is. holding-new x (both size len) frame a is)
      step-brings run (MakingFrame held) r received has step =
          made (call.AggMake (frame_of CHUNK_BYTES)) (frame_of CHUNK_BYTES)
          (λ k. after_step w run (MakingFrame held) k received) r step
          (own.make m n server (frame_of CHUNK_BYTES) r order step) (λ x is. is) (λ x is. cc (is))
          (λ x is. later_of (held == a) (x == a) is)
      step-brings run (FillingFrame held frame) r received has step =
          made (call.AggReplace frame (place_in_frame CHUNK_BYTES) (place_in_frame CHUNK_BYTES) held)
          (take (place_in_frame CHUNK_BYTES) (frame_of CHUNK_BYTES) ++ has.1.0.bytes
          ++ drop (place_in_frame CHUNK_BYTES) (frame_of CHUNK_BYTES))
          (λ k. after_step w run (FillingFrame held frame) k received) r step
          (own.replace m n server frame (place_in_frame CHUNK_BYTES) (place_in_frame CHUNK_BYTES) held
          (frame_of CHUNK_BYTES) has.1.0.bytes r order has.1.1 has.1.0.is_readable step) (λ x is. is)
          (λ x is. cc (is))
          (λ x is. later_of (held == a) ((x == a) || (frame == a)) (former_of (x == a) (frame == a) is))
      step-brings run (DroppingHeld held chunk len frame) r received has step = absurd (dropped held r step)
      step-brings run (DroppingEnd b held frame) r received has step = absurd (dropped b r step)
      step-brings run (DiscardingHeld held frame) r received has step = absurd (dropped held r step)
      step-brings run (DroppingFrame f held) r received has step = absurd (dropped f r step)
      step-brings run (MakingEnd held) r received has step =
          made (call.AggMake (end_around held)) (end_around held) (λ k. after_step w run (MakingEnd held) k received) r
          step
          (own.make m n server (end_around held) r order step) (λ x is. is) (λ x is. cc (is))
          (λ x is. ending-new run held x (count_of received) is)
      step-brings run (FillingEnd held size frame) r received has step =
          made (call.AggReplace frame (place_in_frame size) (place_in_frame size) held)
          (take (place_in_frame size) (end_around (Some (held, size))) ++ has.1.bytes
          ++ drop (place_in_frame size) (end_around (Some (held, size))))
          (λ k. after_step w run (FillingEnd held size frame) k received) r step
          (own.replace m n server frame (place_in_frame size) (place_in_frame size) held
          (end_around (Some (held, size))) has.1.bytes r order has.1.frames has.1.holds.is_readable step) (λ x is. is)
          (λ x is. cc (is))
          (λ x is. later_of (held == a) ((x == a) || (frame == a)) (former_of (x == a) (frame == a) is))
      step-brings run (DroppingLast held chunk len frame) r received has step = absurd (dropped held r step)
      step-brings run (DroppingLastFrame frame chunk len) r received has step = absurd (dropped frame r step)
      step-brings run (ClosingPipe write) r received has step = absurd (shuts write r step)
      step-brings run (DiscardingJob j) r received has step = absurd (dropped j r step)
      step-brings run x r received has step = absurd (shuts run.from r step)

      left-brings : (expected : List ℕ) (d : Phase) (r : Reply) (received : List ℕ) → is_left d ≡ true
          → Has m (serve w) expected d
          → StepsTo m (event.Call server (conn.next_call fd (in_phase w d))) r n
          → conn.uses_agg (conn.after_reply (in_phase w d) r received).phase a ≡ true
      left-brings expected (phase.MakingHead k) r received is has step =
          made (call.AggMake (conn.text_of (serve w) k)) (conn.text_of (serve w) k)
          (λ z. Finishing (conn.after_reply (in_phase w (phase.MakingHead k)) z received).phase) r step
          (own.make m n server (conn.text_of (serve w) k) r order step) (λ x is. is) (λ x is. cc (is))
          (λ x is. headed-first x (count_of received) (conn.following k) a is)
      left-brings expected (phase.SendingWhole s) r received is has step =
          absurd (written fd c s.agg has.0.bytes r open_on has.0.is_readable step)
      left-brings expected (phase.CuttingPiece s) r received is has step =
          made (call.AggCut s.agg s.from (piece_end s)) (slice_range has.0.bytes s.from (piece_end s))
          (λ z. Finishing (conn.after_reply (in_phase w (phase.CuttingPiece s)) z received).phase) r step
          (own.cut m n server s.agg s.from (piece_end s) has.0.bytes r order has.0.is_readable step) (λ x is. is)
          (λ x is. cc (is)) (λ x is. former_of (x == a) ((s.agg == a) || has_followed s.more a) is)
      left-brings expected (phase.SendingPiece s piece) r received is has step =
          absurd (written fd c piece (slice_range has.whole.bytes s.from (piece_end s)) r open_on has.is_readable
          step)
      left-brings expected (phase.DroppingPiece s piece) r received is has step = absurd (dropped piece r step)
      left-brings expected (phase.DroppingSent b taken more) r received is has step = absurd (dropped b r step)
      left-brings expected (phase.AbortingPiece piece b more) r received is has step = absurd (dropped piece r step)
      left-brings expected (phase.Aborting b more) r received is has step = absurd (dropped b r step)
      left-brings expected d r received is has step = absurd (cc (is))

      leaving-brings : (o : Progress) (d : Phase) (r : Reply) (received : List ℕ) → is_left d ≡ true → HasLeft m w o d
          → StepsTo m (event.Call server (conn.next_call fd (in_phase w d))) r n
          → conn.uses_agg (conn.after_reply (in_phase w d) r received).phase a ≡ true
      leaving-brings o d r received is has step = let h = is-rest m w o d is has in
          left-brings h.expected d r received is h.has step

pub brought : (come : AggregatesComeAndGo) (own : CallsServeTheirDomain) (job : ℕ → List ℕ) (m n : State)
    (fd c worker : ℕ) (w : Wanted) (x : Running) (o : Progress) (r : Reply) (received bytes : List ℕ) (a : ℕ)
    → IsOrderly m → descriptor m server fd ≡ Some (on.Connection c) → is_over x ≡ false → HasRun job m w o x
    → StepsTo m (event.Call server (next_call job fd w x)) r n
    → readable_at m server a ≡ None → readable_at n server a ≡ Some bytes
    → uses_agg (after_reply worker w x r received) a ≡ true
brought come own job m n fd c worker w AwaitingWorker o r received bytes a order open_on going has step before after =
    absurd (piped come own m n order a bytes before after w r step)
brought come own job m n fd c worker w (InProgress run s) o r received bytes a order open_on going has step before
    after =
    step-brings come own m n order a bytes before after w job fd c open_on o run s r received has step
brought come own job m n fd c worker w (Finishing d) o r received bytes a order open_on going has step before after =
    leaving-brings come own m n order a bytes before after w job fd c open_on o o d r received
    (not-false (is_left d) going) has step
brought come own job m n fd c worker w Disconnecting o r received bytes a order open_on going has step before after =
    absurd (cc (going))

pub runs_keep : AggregatesComeAndGo → CallsServeTheirDomain → RunsKeepNothing
runs_keep come own = λ job. record {
  brought = brought come own job;
  opened = opened job;
  left = left come job;
  shut = shut own job;
  alone = keeps-alone job;
}
