-- A run's data remains, if the objects that it uses remain.
use Rattle.std.proofs.Common.{◌≡◌, ℕ, ◌==◌, List, refl, sym, ap, ◌∙◌, Option, Some, None, true, false, Bool}
use Rattle.std.specs.Prelude.{◌||◌, ◌&&◌}
use Rattle.iol_core.specs.State.{State, descriptor}
use Rattle.iol_core.specs.Run.{StepsTo}
use Rattle.iol_core.specs.Values.{gives_up}
use Rattle.iol_core.specs.declared.descriptors.Descriptor.{Descriptor}
use Rattle.iol_core.specs.declared.descriptors.Descriptor.TheVariants as on
use Rattle.iol_core.specs.declared.events.Event.{Event}
use Rattle.iol_core.specs.declared.events.Reply.{Reply}
use Rattle.iol_laws.specs.Caller.{readable_at}
use Rattle.iol_laws.specs.Frame.{EachStepLeavesTheRest, touches_fd}
use Rattle.flash_http.specs.Request.{serve, Wanted}
use Rattle.flash_laws.specs.Conn as conn
use Rattle.flash_laws.specs.Conn.{Following, has_followed}
use Rattle.flash_laws.specs.Conn.Fits.{IsReadable}
use Rattle.flash_laws.specs.Run.Fits.{Progress, HasJobPipe, IsReading, HoldsOutput, IsHeld, HasFrame, HasOutput}
use Rattle.flash_laws.specs.Run.Fits.{HasReceived, HasAll, HasPipe, last_agg, sent_agg, IsPart, HasPart, HasEnd}
use Rattle.flash_laws.specs.Run.Fits.{HasStep, IsSending, HasRest, HasLeft, HasRun}
use Rattle.flash_laws.specs.Run.{job_pipe, has_frame, step_agg, is_reading, step_fd, uses_agg, uses_fd, sends_part}
use Rattle.flash_laws.specs.Answers.Scripts.{frame_of, end_around}
use Rattle.flash_laws.specs.Site.{server}
use Rattle.flash_laws.specs.declared.phase.Payload.TheVariants.{Error}
use Rattle.flash_laws.specs.declared.phase.Phase.{Phase}
use Rattle.flash_laws.specs.declared.phase.Phase.TheVariants as phase
use Rattle.flash_laws.specs.declared.script_run.TheConstants.{CHUNK_BYTES}
use Rattle.flash_laws.specs.declared.script_run.Run.{Run}
use Rattle.flash_laws.specs.declared.script_run.Step.{Step}
use Rattle.flash_laws.specs.declared.script_run.Step.TheVariants.{GivingPipe, WritingJob, DroppingJob, SendingPart}
use Rattle.flash_laws.specs.declared.script_run.Step.TheVariants.{ReadingOutput, DroppingOutput}
use Rattle.flash_laws.specs.declared.script_run.Step.TheVariants.{JoiningOutput, MakingFrame, FillingFrame}
use Rattle.flash_laws.specs.declared.script_run.Step.TheVariants.{DroppingHeld, DroppingEnd, DiscardingHeld}
use Rattle.flash_laws.specs.declared.script_run.Step.TheVariants.{ClosingOutput}
use Rattle.flash_laws.specs.declared.script_run.Step.TheVariants.{DroppingFrame, MakingEnd, FillingEnd, DroppingLast}
use Rattle.flash_laws.specs.declared.script_run.Step.TheVariants.{DroppingLastFrame}
use Rattle.flash_laws.specs.declared.script_run.Step.TheVariants.{ClosingPipe, DiscardingJob}
use Rattle.flash_laws.specs.declared.script_run.Running.{Running}
use Rattle.flash_laws.specs.declared.script_run.Running.TheVariants.{InProgress, Finishing}
use Rattle.flash_laws.proofs.Conn.Responses.{some-inj}
use Rattle.flash_laws.proofs.Conn.ReadableBytes.{readable-stays, readable-on, has-stays}
use Rattle.flash_laws.proofs.Lists.{not-equal, turned, self, first_of, later_of, amid, bare, former_of, swapped}

-- descriptors that are open on different objects differ
fds-differ : (m : State) (g h : ℕ) (x y : Descriptor) → descriptor m server g ≡ Some x → descriptor m server h ≡ Some y
    → (x ≡ y → ⊥) → (g == h) ≡ false
fds-differ m g h x y is_x is_y differ =
    not-equal g h (λ same. differ (some-inj x y (sym is_x ∙ (ap (λ k. descriptor m server k) same ∙ is_y))))

pub ends-differ : (m : State) (g h p q : ℕ) → descriptor m server g ≡ Some (on.ReadEnd p)
    → descriptor m server h ≡ Some (on.WriteEnd q) → (g == h) ≡ false
ends-differ m g h p q reads writes = fds-differ m g h (on.ReadEnd p) (on.WriteEnd q) reads writes (λ e. absurd (cc (e)))

-- the write end and the read end have different descriptors
pub write-elsewhere : (m : State) (run : Run) (write : ℕ) → HasPipe m run write → (write == run.from) ≡ false
write-elsewhere m run write h =
    turned run.from write (ends-differ m run.from write h.pipe h.pipe h.read_end h.write_end)

-- no phase that sends a part uses a descriptor of a file
no-file : (m : State) (d : Phase) (part : List ℕ) → IsPart m (sent_agg d) part → (g : ℕ) → conn.uses_fd d g ≡ true → ⊥
no-file m (phase.Reading f) part is g u = is
no-file m (phase.ClosingFile f k) part is g u = is
no-file m d part is g u = absurd (cc (u))

after-piece : (piece a : ℕ) (more : Following) → ((piece == a) || ((a == a) || has_followed more a)) ≡ true
after-piece piece a more = later_of (piece == a) ((a == a) || has_followed more a) (first_of a (has_followed more a))

-- if its aggregate stays, a part stays
pub last-on : (m n : State) (a : ℕ) (more : Following) (part : List ℕ)
    → (readable_at m server a ≡ Some part → readable_at n server a ≡ Some part) → IsPart m (last_agg a more) part
    → IsPart n (last_agg a more) part
last-on m n a None part stays is = stays is
last-on m n a (Some x) part stays is = absurd is

-- if the aggregates of its phase stay, a part that is being sent stays
part-used : (m : State) (d : Phase) (part : List ℕ) (n : State) → ((a : ℕ) (bytes : List ℕ) → conn.uses_agg d a ≡ true
    → readable_at m server a ≡ Some bytes → readable_at n server a ≡ Some bytes) → IsPart m (sent_agg d) part
    → IsPart n (sent_agg d) part
part-used m (phase.SendingWhole s) part n is_readable is =
    last-on m n s.agg s.more part (is_readable s.agg part (first_of s.agg (has_followed s.more s.agg))) is
part-used m (phase.CuttingPiece s) part n is_readable is =
    last-on m n s.agg s.more part (is_readable s.agg part (first_of s.agg (has_followed s.more s.agg))) is
part-used m (phase.SendingPiece s piece) part n is_readable is =
    last-on m n s.agg s.more part (is_readable s.agg part (after-piece piece s.agg s.more)) is
part-used m (phase.DroppingPiece s piece) part n is_readable is =
    last-on m n s.agg s.more part (is_readable s.agg part (after-piece piece s.agg s.more)) is
part-used m (phase.DroppingSent a taken None) part n is_readable is = is_readable a part (first_of a (false)) is
part-used m (phase.AbortingPiece piece a None) part n is_readable is = is_readable a part (after-piece piece a None) is
part-used m (phase.Aborting a None) part n is_readable is = is_readable a part (first_of a (false)) is
part-used m d part n is_readable is = absurd is

module _ (m n : State) where
  abbrev IsReadableOn : (ℕ → Bool) → Type 0
  IsReadableOn uses = (a : ℕ) (bytes : List ℕ) → uses a ≡ true → readable_at m server a ≡ Some bytes
      → readable_at n server a ≡ Some bytes

  abbrev OpensOn : (ℕ → Bool) → Type 0
  OpensOn uses = (g : ℕ) (x : Descriptor) → uses g ≡ true → descriptor m server g ≡ Some x
      → descriptor n server g ≡ Some x

  -- if the aggregates of two sets stay, those of each set stay
  fore : (u v : ℕ → Bool) → IsReadableOn (λ a. u a || v a) → IsReadableOn u
  fore u v is_readable a bytes is has = is_readable a bytes (former_of (u a) (v a) is) has

  back : (u v : ℕ → Bool) → IsReadableOn (λ a. u a || v a) → IsReadableOn v
  back u v is_readable a bytes is has = is_readable a bytes (later_of (u a) (v a) is) has

  pub frame-on : (frame : Option ℕ) → IsReadableOn (λ a. has_frame frame a) → HasFrame m frame → HasFrame n frame
  frame-on None is_readable has = tt
  frame-on (Some f) is_readable has = is_readable f (frame_of CHUNK_BYTES) (self f) has

  pub output-on : (w : Wanted) (a size : ℕ) (bytes : List ℕ)
      → (readable_at m server a ≡ Some bytes → readable_at n server a ≡ Some bytes)
      → HoldsOutput m w a size bytes → HoldsOutput n w a size bytes
  output-on w a size bytes is_readable h = record {
    is_readable = is_readable h.is_readable;
    count = h.count;
    some = h.some;
    few = h.few;
    chunked = h.chunked;
  }

  pub held-on : (w : Wanted) (held : Following) (bytes : List ℕ) → IsReadableOn (λ a. has_followed held a)
      → IsHeld m w held bytes → IsHeld n w held bytes
  held-on w None bytes is_readable has = has
  held-on w (Some x) bytes is_readable has = output-on w x.0 x.1 bytes (λ is. is_readable x.0 bytes (self x.0) is) has

  pub has-output-on : (w : Wanted) (held : Following) (frame : Option ℕ) (bytes : List ℕ)
      → IsReadableOn (λ a. has_followed held a || has_frame frame a) → HasOutput m w held frame bytes
      → HasOutput n w held frame bytes
  has-output-on w held frame bytes is_readable h = record {
    holds = held-on w held bytes (fore (λ a. has_followed held a) (λ a. has_frame frame a) is_readable) h.holds;
    frames = frame-on frame (back (λ a. has_followed held a) (λ a. has_frame frame a) is_readable) h.frames;
    apart = h.apart;
  }

  pub has-all-on : (w : Wanted) (o : Progress) (run : Run) (held : Following) (frame : Option ℕ)
      → IsReadableOn (λ a. has_followed held a || has_frame frame a) → HasAll m w o run held frame
      → HasAll n w o run held frame
  has-all-on w o run held frame is_readable h =
      record { bytes = h.bytes; has = has-output-on w held frame h.bytes is_readable h.has; ends = h.ends }

  has-received-on : (w : Wanted) (o : Progress) (run : Run) (held : Following) (frame : Option ℕ)
      → (IsReading m run → IsReading n run)
      → IsReadableOn (λ a. has_followed held a || has_frame frame a) → HasReceived m w o run held frame
      → HasReceived n w o run held frame
  has-received-on w o run held frame reads is_readable h =
      record {
        reads = reads h.reads;
        bytes = h.bytes;
        has = has-output-on w held frame h.bytes is_readable h.has;
        goes = h.goes;
      }

  has-part-on : (w : Wanted) (o : Progress) (run : Run) (d : Phase) (frame : Option ℕ)
      → (IsReading m run → IsReading n run)
      → IsReadableOn (λ a. conn.uses_agg d a || has_frame frame a) → HasPart m w o run d frame
      → HasPart n w o run d frame
  has-part-on w o run d frame reads is_readable h = record {
    reads = reads h.reads;
    frames = frame-on frame (back (λ a. conn.uses_agg d a) (λ a. has_frame frame a) is_readable) h.frames;
    part = h.part;
    is_part = part-used m d h.part n (fore (λ a. conn.uses_agg d a) (λ a. has_frame frame a) is_readable) h.is_part;
    has = has-stays m n (serve w) h.part d (fore (λ a. conn.uses_agg d a) (λ a. has_frame frame a) is_readable)
        (λ g x u is. absurd (no-file m d h.part h.is_part g u)) h.has;
    within = h.within;
    apart = h.apart;
    whole = h.whole;
    continues = h.continues;
  }

  has-end-on : (w : Wanted) (o : Progress) (a len : ℕ)
      → ((bytes : List ℕ) → readable_at m server a ≡ Some bytes → readable_at n server a ≡ Some bytes)
      → HasEnd m w o a len → HasEnd n w o a len
  has-end-on w o a len is_readable h =
      record { bytes = h.bytes; is_readable = is_readable h.bytes h.is_readable; count = h.count; left = h.left }

  pub hired-on : (worker : ℕ)
      → ((x : Descriptor) → descriptor m server (job_pipe worker) ≡ Some x
      → descriptor n server (job_pipe worker) ≡ Some x)
      → HasJobPipe m worker → HasJobPipe n worker
  hired-on worker opens is = (is.0, opens (on.WriteEnd is.0) is.1)

  pub reading-on : (run : Run)
      → ((x : Descriptor) → descriptor m server run.from ≡ Some x → descriptor n server run.from ≡ Some x)
      → IsReading m run → IsReading n run
  reading-on run opens is = (is.0, opens (on.ReadEnd is.0) is.1)

  -- a run that reads uses its read end
  from-used : (run : Run) (step : Step) → is_reading step ≡ true → uses_fd (InProgress run step) run.from ≡ true
  from-used run step open_yet =
      later_of (job_pipe run.worker == run.from) ((is_reading step && (run.from == run.from)) || step_fd step run.from)
      (former_of (is_reading step && (run.from == run.from)) (step_fd step run.from)
      (ap (λ b. b && (run.from == run.from)) open_yet ∙ self run.from))

  reads : (run : Run) (step : Step) → is_reading step ≡ true → OpensOn (λ g. uses_fd (InProgress run step) g)
      → IsReading m run → IsReading n run
  reads run step open_yet opens is = reading-on run (λ x e. opens run.from x (from-used run step open_yet) e) is

  -- if the descriptors of the run stay, its pipe stays
  pipe-on : (run : Run) (step : Step) (write : ℕ) → is_reading step ≡ true → step_fd step write ≡ true
      → OpensOn (λ g. uses_fd (InProgress run step) g)
      → HasPipe m run write → HasPipe n run write
  pipe-on run step write open_yet is opens h = record {
    pipe = h.pipe;
    read_end = opens run.from (on.ReadEnd h.pipe) (from-used run step open_yet) h.read_end;
    write_end =
        opens write (on.WriteEnd h.pipe)
        (later_of (job_pipe run.worker == write) ((is_reading step && (run.from == write)) || step_fd step write)
        (later_of (is_reading step && (run.from == write)) (step_fd step write) is)) h.write_end;
    apart = h.apart;
  }

  readable-if : (u : ℕ → Bool) (a : ℕ) → u a ≡ true → IsReadableOn u → IsReadable m a → IsReadable n a
  readable-if u a is is_readable has = readable-on m n a (λ bytes e. is_readable a bytes is e) has

  step-on : (job : ℕ → List ℕ) (w : Wanted) (o : Progress) (run : Run) (step : Step)
      → IsReadableOn (λ a. step_agg step a) → OpensOn (λ g. uses_fd (InProgress run step) g)
      → HasStep job m w o run step → HasStep job n w o run step
  step-on job w o run (GivingPipe write) is_readable opens has =
      (pipe-on run (GivingPipe write) write refl (self write) opens has.0, has.1)
  step-on job w o run (WritingJob j f) is_readable opens has =
      (reads run (WritingJob j f) refl opens has.0, is_readable j (job f) (self j) has.1, has.2)
  step-on job w o run (DroppingJob j) is_readable opens has =
      (reads run (DroppingJob j) refl opens has.0, readable-if (λ a. j == a) j (self j) is_readable has.1, has.2)
  step-on job w o run (SendingPart d frame) is_readable opens has =
      has-part-on w o run d frame (reads run (SendingPart d frame) refl opens) is_readable has
  step-on job w o run (ReadingOutput held frame) is_readable opens has =
      has-received-on w o run held frame (reads run (ReadingOutput held frame) refl opens) is_readable has
  step-on job w o run (DroppingOutput a frame) is_readable opens has = (
    (readable-if (λ b. (a == b) || has_frame frame b) a (first_of a (has_frame frame a)) is_readable has.0.0, has.0.1),
    has-received-on w o run None frame (reads run (DroppingOutput a frame) refl opens)
        (back (λ b. a == b) (λ b. has_frame frame b) is_readable) has.1,
  )
  step-on job w o run (JoiningOutput held size piece len frame) is_readable opens h = record {
    reads = reads run (JoiningOutput held size piece len frame) refl opens h.reads;
    bytes = h.bytes;
    more = h.more;
    has =
        has-output-on w (Some (held, size)) frame h.bytes
        (λ a bytes u is. is_readable a bytes (amid (held == a) (piece == a) (has_frame frame a) u) is) h.has;
    is_readable =
        is_readable piece h.more
        (later_of (held == piece) ((piece == piece) || has_frame frame piece) (first_of piece (has_frame frame piece)))
        h.is_readable;
    count = h.count;
    within = h.within;
    other = h.other;
    apart = h.apart;
    whole = h.whole;
    goes = h.goes;
  }
  step-on job w o run (MakingFrame held) is_readable opens h =
      record {
        reads = reads run (MakingFrame held) refl opens h.reads;
        bytes = h.bytes;
        is_readable = is_readable held h.bytes (self held) h.is_readable;
        count = h.count;
        chunked = h.chunked;
        whole = h.whole;
        goes = h.goes;
      }
  step-on job w o run (FillingFrame held frame) is_readable opens has = (
    record {
      reads = reads run (FillingFrame held frame) refl opens has.0.reads;
      bytes = has.0.bytes;
      is_readable = is_readable held has.0.bytes (first_of held (frame == held)) has.0.is_readable;
      count = has.0.count;
      chunked = has.0.chunked;
      whole = has.0.whole;
      goes = has.0.goes;
    },
    is_readable frame (frame_of CHUNK_BYTES) (later_of (held == frame) (frame == frame) (self frame)) has.1,
    has.2,
  )
  step-on job w o run (DroppingHeld held chunk len frame) is_readable opens has = (
    (
      readable-if (λ a. (held == a) || ((chunk == a) || (frame == a))) held
          (first_of held ((chunk == held) || (frame == held))) is_readable has.0.0,
      has.0.1,
    ),
    has-part-on w o run (sends_part chunk len) (Some frame) (reads run (DroppingHeld held chunk len frame) refl opens)
        (λ a bytes u is. is_readable a bytes
        (later_of (held == a) ((chunk == a) || (frame == a)) (plain (chunk == a) (frame == a) u)) is) has.1,
  )
    where
      plain : (x z : Bool) → ((x || false) || z) ≡ true → (x || z) ≡ true
      plain true z u = refl
      plain false z u = u
  step-on job w o run (DroppingEnd a held frame) is_readable opens has = (
    (
      readable-if (λ b. (a == b) || (has_followed held b || has_frame frame b)) a
          (first_of a (has_followed held a || has_frame frame a)) is_readable has.0.0,
      has.0.1,
    ),
    reads run (DroppingEnd a held frame) refl opens has.1,
    has-all-on w o run held frame (back (λ b. a == b) (λ b. has_followed held b || has_frame frame b) is_readable)
        has.2,
  )
  step-on job w o run (DiscardingHeld held frame) is_readable opens has = (
    (
      readable-if (λ b. (held == b) || has_frame frame b) held (first_of held (has_frame frame held)) is_readable
          has.0.0,
      has.0.1,
    ),
    reads run (DiscardingHeld held frame) refl opens has.1,
    has-all-on w o run None frame (back (λ b. held == b) (λ b. has_frame frame b) is_readable) has.2,
  )
  step-on job w o run (ClosingOutput held frame) is_readable opens has =
      (reads run (ClosingOutput held frame) refl opens has.0, has-all-on w o run held frame is_readable has.1)
  step-on job w o run (DroppingFrame f held) is_readable opens has =
      has-all-on w o run held (Some f) (λ a bytes u is. is_readable a bytes (swapped (has_followed held a) (f == a) u)
      is) has
  step-on job w o run (MakingEnd held) is_readable opens has = (
    has.0,
    has.1,
    has-all-on w o run held None (λ a bytes u is. is_readable a bytes (bare (has_followed held a) u) is) has.2,
  )
  step-on job w o run (FillingEnd held size frame) is_readable opens h = record {
    bytes = h.bytes;
    holds = output-on w held size h.bytes (λ is. is_readable held h.bytes (first_of held (frame == held)) is) h.holds;
    frames = is_readable frame (end_around (Some (held, size))) (later_of (held == frame) (frame == frame) (self frame))
        h.frames;
    apart = h.apart;
    left = h.left;
  }
  step-on job w o run (DroppingLast held chunk len frame) is_readable opens has = (
    (
      readable-if (λ a. (held == a) || ((chunk == a) || (frame == a))) held
          (first_of held ((chunk == held) || (frame == held))) is_readable has.0.0,
      has.0.1,
    ),
    (
      readable-if (λ a. (held == a) || ((chunk == a) || (frame == a))) frame
          (later_of (held == frame) ((chunk == frame) || (frame == frame))
          (later_of (chunk == frame) (frame == frame) (self frame))) is_readable has.1.0,
      has.1.1,
    ),
    has-end-on w o chunk len
        (λ bytes is. is_readable chunk bytes
        (later_of (held == chunk) ((chunk == chunk) || (frame == chunk)) (first_of chunk (frame == chunk))) is) has.2,
  )
  step-on job w o run (DroppingLastFrame frame chunk len) is_readable opens has = (
    (
      readable-if (λ a. (frame == a) || (chunk == a)) frame (first_of frame (chunk == frame)) is_readable has.0.0,
      has.0.1,
    ),
    has-end-on w o chunk len
        (λ bytes is. is_readable chunk bytes (later_of (frame == chunk) (chunk == chunk) (self chunk)) is) has.1,
  )
  step-on job w o run (ClosingPipe write) is_readable opens has =
      (pipe-on run (ClosingPipe write) write refl (self write) opens has.0, has.1)
  step-on job w o run (DiscardingJob j) is_readable opens has =
      (reads run (DiscardingJob j) refl opens has.0, readable-if (λ a. j == a) j (self j) is_readable has.1, has.2)
  step-on job w o run step is_readable opens has = (reads run step refl opens has.0, has.1)

  sending-on : (expected : List ℕ) (d : Phase) → IsReadableOn (λ a. conn.uses_agg d a) → IsSending m expected d
      → IsSending n expected d
  sending-on expected (phase.MakingHead (Error status)) is_readable has = tt
  sending-on expected d is_readable has = (part-used m d expected n is_readable has.0, has.1)

  rest-on : (w : Wanted) (o : Progress) (d : Phase) → IsReadableOn (λ a. conn.uses_agg d a)
      → OpensOn (λ g. conn.uses_fd d g)
      → HasRest m w o d → HasRest n w o d
  rest-on w o d is_readable opens h =
      record {
        expected = h.expected;
        left = h.left;
        has = has-stays m n (serve w) h.expected d is_readable opens h.has;
        sends = sending-on h.expected d is_readable h.sends;
      }

  left-on : (w : Wanted) (o : Progress) (d : Phase) → IsReadableOn (λ a. conn.uses_agg d a)
      → OpensOn (λ g. conn.uses_fd d g)
      → HasLeft m w o d → HasLeft n w o d
  left-on w o phase.Receiving is_readable opens has = has
  left-on w o phase.Disconnecting is_readable opens has = has
  left-on w o d is_readable opens has = rest-on w o d is_readable opens has

pub run_stays : (steps : EachStepLeavesTheRest) (job : ℕ → List ℕ) (m n : State) (w : Wanted) (x : Running) (e : Event)
    (r : Reply) (o : Progress) → StepsTo m e r n
    → ((a : ℕ) → uses_agg x a ≡ true → gives_up e server a ≡ false)
    → ((g : ℕ) → uses_fd x g ≡ true → touches_fd m e server g ≡ false) → HasRun job m w o x → HasRun job n w o x
run_stays steps job m n w (InProgress run phase) e r o step un still has =
    let opens : (g : ℕ) (x : Descriptor) → uses_fd (InProgress run phase) g ≡ true → descriptor m server g ≡ Some x
    → descriptor n server g ≡ Some x
    = λ g x u is. (steps.leaves m n e r step).fds server g x is (still g u) in (
      hired-on m n run.worker
          (λ x is. opens (job_pipe run.worker) x
          (first_of (job_pipe run.worker) ((is_reading phase && (run.from == job_pipe run.worker))
          || step_fd phase (job_pipe run.worker))) is) has.0,
      step-on m n job w o run phase (λ a bytes u is. readable-stays steps m n e r step a bytes is (un a u)) opens has.1,
    )
run_stays steps job m n w (Finishing d) e r o step un still has =
    left-on m n w o d (λ a bytes u is. readable-stays steps m n e r step a bytes is (un a u))
    (λ g x u is. (steps.leaves m n e r step).fds server g x is (still g u)) has
run_stays steps job m n w x e r o step un still has = has
