-- The bytes that the connection took count as taken; the reasons for which a response is aborted, or a script given up.
use Rattle.std.proofs.Common.{inl, inr, ◌≡◌, ℕ, ◌+◌, ◌==◌, ◌⊎◌, List, [], ◌∷◌, length, ap, ◌-◌, ◌∙◌, refl, sym, subst}
use Rattle.std.proofs.Common.{arith, Option, Some, None, true, false, Bool, length-append, if◌then◌else◌}
use Rattle.std.specs.Prelude.{◌||◌, ◌&&◌, not, is_none, MatchOption}
use Rattle.iol_core.specs.State.{State, descriptor, is_live, pipe_at, conn_at, is_gone}
use Rattle.iol_core.specs.Calls.Descriptors.{too_many_open, denied_by, needed_pool}
use Rattle.iol_core.specs.Meaning.{◌when◌, first, WantOfMemory}
use Rattle.iol_core.specs.Run.{StepsTo}
use Rattle.iol_core.specs.declared.descriptors.Descriptor.{Descriptor}
use Rattle.iol_core.specs.declared.descriptors.Descriptor.TheVariants as on
use Rattle.iol_core.specs.declared.refusals.Refusal.{Refusal}
use Rattle.iol_core.specs.declared.refusals.Refusal.TheVariants as no
use Rattle.iol_core.specs.declared.events.Call.TheVariants as call
use Rattle.iol_core.specs.declared.events.Event.TheVariants as event
use Rattle.iol_core.specs.declared.events.Reply.{Reply}
use Rattle.iol_core.specs.declared.events.Reply.TheVariants as reply
use Rattle.iol_laws.specs.Caller as caller
use Rattle.iol_laws.specs.Caller.{CallsServeTheirDomain}
use Rattle.iol_laws.specs.Frame.{EachStepLeavesTheRest}
use Rattle.iol_laws.specs.Order.{IsOrderly}
use Rattle.iol_laws.specs.Reasons.{RefusalsTellWhy}
use Rattle.iol_laws.specs.RefusalsLeft.{RefusalsThatAreLeft, CannotPut}
use Rattle.flash_http.specs.Request.{serve, Wanted}
use Rattle.flash_laws.specs.Conn as conn
use Rattle.flash_laws.specs.Conn.Progress.{is_busy}
use Rattle.flash_laws.specs.Run.Fits.{Progress, Ran, Broken, NotRun, IsLeft, Continues, HasPart, HasRest, HasStep}
use Rattle.flash_laws.specs.Run.Fits.{HasRun}
use Rattle.flash_laws.specs.Conn.OfferedBytes.{taken_of, newly_taken, is_dropping}
use Rattle.flash_laws.specs.Run.OfferedBytes.{receives_on, takes_on, PartUpdates, StepUpdates, Updates, taken_by}
use Rattle.flash_laws.specs.Run.OfferedBytes.{past_of}
use Rattle.flash_laws.specs.Run.OfferedBytes.{breaks_off, IsCutOff, is_failing, IsLost, ComesAfter}
use Rattle.flash_laws.specs.Run.{worker_domain, job_pipe, held_size, in_phase, step_call, next_call, is_again}
use Rattle.flash_laws.specs.Run.{after_give}
use Rattle.flash_laws.specs.Run.{after_hand, after_sending, after_step, after_reply, is_left, is_over}
use Rattle.flash_laws.specs.Site.{server}
use Rattle.flash_laws.specs.declared.phase.Payload.TheVariants.{Error}
use Rattle.flash_laws.specs.declared.phase.Phase.{Phase}
use Rattle.flash_laws.specs.declared.phase.Phase.TheVariants as phase
use Rattle.flash_laws.specs.declared.script_run.TheConstants.{CHUNK_BYTES}
use Rattle.flash_laws.specs.declared.script_run.Run.{Run}
use Rattle.flash_laws.specs.declared.script_run.Step.{Step}
use Rattle.flash_laws.specs.declared.script_run.Step.TheVariants.{GivingPipe, WritingJob, SendingPart, ReadingOutput}
use Rattle.flash_laws.specs.declared.script_run.Step.TheVariants.{ClosingPipe, DiscardingJob}
use Rattle.flash_laws.specs.declared.script_run.Step.TheVariants.{Failing}
use Rattle.flash_laws.specs.declared.script_run.Running.{Running}
use Rattle.flash_laws.specs.declared.script_run.Running.TheVariants.{AwaitingWorker, InProgress, Finishing}
use Rattle.flash_laws.specs.declared.script_run.Running.TheVariants.{Disconnecting}
use Rattle.flash_laws.proofs.Conn.Responses.{some-inj}
use Rattle.flash_laws.proofs.Lists.{clash, not-equal, not-false}
use Rattle.flash_laws.proofs.Run.Rest as left
use Rattle.flash_laws.proofs.Run.Rest.{SendsAll, is_sent, is-rest, whole-taken}
use Rattle.flash_laws.proofs.Run.TakesNothing.{is_part, Bars, takes_nothing}
use Rattle.flash_laws.proofs.Conn.TakenBytes.{breaks as conn-breaks}

-- ---- the number of bytes taken before

past-receives : (o : Progress) (received : List ℕ) → past_of (receives_on o received) ≡ past_of o
past-receives (Ran was ended past) [] = refl
past-receives (Ran was ended past) (b ∷ received) = refl
past-receives x received = refl

past-grows : (o : Progress) (part : List ℕ) → (o ≡ Broken → ⊥) → past_of (takes_on o part) ≡ past_of o + length part
past-grows (Ran was ended past) part whole = length-append past part
past-grows Broken part whole = absurd (whole refl)
past-grows (NotRun status past) part whole = length-append past part

taken-plain : (run : Run) (s : Step) → is_part s ≡ false → taken_by (InProgress run s) ≡ 0
taken-plain run (SendingPart d frame) plain = absurd (cc (plain))
taken-plain run s plain = refl

broken-plain : (run : Run) (s : Step) → is_part s ≡ false → breaks_off (InProgress run s) ≡ run.broken
broken-plain run (SendingPart d frame) plain = absurd (cc (plain))
broken-plain run s plain = refl

-- a response that continues is not aborted
goes-whole : (w : Wanted) (o : Progress) (part : List ℕ) → Continues w o part [] → o ≡ Broken → ⊥
goes-whole w (Ran was ended past) part goes is = cc (is)
goes-whole w x part goes is = goes

left-whole : (w : Wanted) (o : Progress) (expected : List ℕ) → IsLeft w o expected → o ≡ Broken → ⊥
left-whole w Broken expected left is = left
left-whole w x expected left is = cc (is)

-- if the server may not read the output, the response is aborted
bars-breaks : (w : Wanted) (run : Run) (s : Step) (r : Reply) (received : List ℕ) → Bars s r
    → breaks_off (after_step w run s r received) ≡ true
bars-breaks w run (ReadingOutput None frame) (reply.Refused (no.Denied p)) received bars = refl
bars-breaks w run (ReadingOutput (Some x) frame) (reply.Refused (no.Denied p)) received bars = refl
bars-breaks w run s r received bars = absurd bars

module _ (job : ℕ → List ℕ) (m : State) (w : Wanted) (run : Run) where
  past-step : (s : Step) (r : Reply) (received : List ℕ) (before after : Progress) → is_part s ≡ false
      → HasStep job m w before run s → (Bars s r → ⊥)
      → StepUpdates m s r received before after → past_of after ≡ past_of before
  past-step (SendingPart d frame) r received before after plain has open_yet updates = absurd (cc (plain))
  past-step (ReadingOutput held frame) (reply.Agg n) received before after plain has open_yet updates =
      ap (λ (o : Progress). past_of o) updates ∙ past-receives before received
  past-step (ReadingOutput held frame) (reply.Refused (no.Denied p)) received before after plain has open_yet updates =
      absurd (open_yet tt)
  past-step Failing reply.Done received before after plain has open_yet updates =
      ap (λ (o : Progress). past_of o) updates
      ∙ sym (ap (λ (o : Progress). past_of o) has.1.1)
  past-step s r received before after plain has open_yet updates = ap (λ (o : Progress). past_of o) updates

-- the descriptor of the job pipe is not the connection's
job-elsewhere : (m : State) (fd c p worker : ℕ) → descriptor m server fd ≡ Some (on.Connection c)
    → descriptor m server (job_pipe worker) ≡ Some (on.WriteEnd p) → (job_pipe worker == fd) ≡ false
job-elsewhere m fd c p worker open_on hired =
    not-equal (job_pipe worker) fd (λ e. let f = ap (λ k. descriptor m server k) e in absurd (cc (f, open_on, hired)))

takes-nothing : (job : ℕ → List ℕ) (m : State) (w : Wanted) (run : Run) (fd c p : ℕ) (s : Step) (r : Reply)
    → is_part s ≡ false → descriptor m server fd ≡ Some (on.Connection c)
    → descriptor m server (job_pipe run.worker) ≡ Some (on.WriteEnd p)
    → newly_taken fd (step_call job fd w run s) r ≡ 0
takes-nothing job m w run fd c p (SendingPart d frame) r plain open_on hired = absurd (cc (plain))
takes-nothing job m w run fd c p (WritingJob j f) (reply.Count k) plain open_on hired =
    ap (λ b. if b then k else 0) (job-elsewhere m fd c p run.worker open_on hired)
takes-nothing job m w run fd c p (WritingJob j f) r plain open_on hired = refl
takes-nothing job m w run fd c p s r plain open_on hired = refl

taken-headed : (status : ℕ) (r : Reply) (received : List ℕ) → taken_of (conn.after_head (Error status) r received) ≡ 0
taken-headed status (reply.Agg n) received = refl
taken-headed status r received = refl

taken-over : (b : Bool) → taken_of (if b then phase.Receiving else phase.Disconnecting) ≡ 0
taken-over true = refl
taken-over false = refl

-- the number of bytes that count as taken after a reply
module _ (steps : EachStepLeavesTheRest) (own : CallsServeTheirDomain) (m n : State) (order : IsOrderly m) (w : Wanted)
    (fd c : ℕ) (open_on : descriptor m server fd ≡ Some (on.Connection c)) where
  -- all of a part is taken
  whole : (expected : List ℕ) (a taken : ℕ) (before after : Progress)
      → SendsAll m w expected (phase.DroppingSent a taken None)
      → (before ≡ Broken → ⊥)
      → PartUpdates m (phase.DroppingSent a taken None) reply.Done before after → past_of after ≡ past_of before + taken
  whole expected a taken before after has open_yet updates =
      let part = some-inj updates.0 expected (sym updates.1 ∙ has.1) in
      let grows = past-grows before expected open_yet in
      let all = whole-taken expected taken (sym has.0.follows ∙ has.0.next) has.2 in
      let is = ap (λ (o : Progress). past_of o) (updates.2 ∙ ap (λ (l : List ℕ). takes_on before l) part) in
      omega (arith, grows, all, is)

  -- a part is still being sent
  part : (expected : List ℕ) (d : Phase) (r : Reply) (received : List ℕ) (before after : Progress)
      → SendsAll m w expected d
      → StepsTo m (event.Call server (conn.next_call fd (in_phase w d))) r n → is_sent d ≡ false → is_dropping d ≡ false
      → is_dropping (conn.after_reply (in_phase w d) r received).phase ≡ false → after ≡ before
      → past_of after + taken_of (conn.after_reply (in_phase w d) r received).phase ≡ past_of before + taken_of d
      + newly_taken fd (conn.next_call fd (in_phase w d)) r
  part expected d r received before after has step unsent at on updates =
      let counts = left.counts steps own m n order w expected fd c d r received open_on has step unsent at on in
      let is = ap (λ (o : Progress). past_of o) updates in
      omega (arith, counts, is)

  -- the rest is being sent
  rest : (d : Phase) (r : Reply) (received : List ℕ) (before after : Progress) (h : HasRest m w before d)
      → StepsTo m (event.Call server (conn.next_call fd (in_phase w d))) r n → PartUpdates m d r before after
      → is_dropping d ≡ false
      → is_dropping (conn.after_reply (in_phase w d) r received).phase ≡ false
      → past_of after + taken_of (conn.after_reply (in_phase w d) r received).phase ≡ past_of before + taken_of d
      + newly_taken fd (conn.next_call fd (in_phase w d)) r
  rest (phase.MakingHead (Error status)) r received before after h step updates at on =
      let is = ap (λ (o : Progress). past_of o) updates in
      let none = taken-headed status r received in
      omega (arith, is, none)
  rest (phase.DroppingSent a taken None) r received before after h step updates at on =
      by r (own.drops m n server a r order step) updates
    where
      by : (r : Reply) → caller.Drops m server a r n → PartUpdates m (phase.DroppingSent a taken None) r before after
          → past_of after + taken_of (conn.after_taken (serve w) a taken None r) ≡ past_of before + taken + newly_taken
          fd (call.AggDrop a) r
      by reply.Done did updates =
          let all =
          whole h.expected a taken before after (h.has, h.sends.0, h.sends.1)
          (left-whole w before h.expected h.left) updates in
          let none = taken-over w.keep in
          omega (arith, all, none)
      by (reply.Refused y) did updates = let is = ap (λ (o : Progress). past_of o) updates in omega (arith, is)
      by r did updates = absurd did
  rest (phase.DroppingSent a taken (Some x)) r received before after h step updates at on = absurd h.sends.0
  rest (phase.Aborting a None) r received before after h step updates at on = absurd (cc (at))
  rest d r received before after h step updates at on =
      part h.expected d r received before after (h.has, h.sends.0, h.sends.1) step refl at on updates

  -- a step that sends a part
  sending : (run : Run) (d : Phase) (frame : Option ℕ) (r : Reply) (before after : Progress)
      (h : HasPart m w before run d frame)
      → StepsTo m (event.Call server (conn.next_call fd (in_phase w d))) r n → PartUpdates m d r before after
      → is_dropping d ≡ false
      → breaks_off (after_sending run d frame r) ≡ false
      → past_of after + taken_by (after_sending run d frame r) ≡ past_of before + taken_of d + newly_taken fd
      (conn.next_call fd (in_phase w d)) r
  sending run (phase.SendingWhole s) frame r before after h step updates at on =
      part h.part (phase.SendingWhole s) r [] before after (h.has, h.is_part, h.within) step refl refl on updates
  sending run (phase.CuttingPiece s) frame r before after h step updates at on =
      part h.part (phase.CuttingPiece s) r [] before after (h.has, h.is_part, h.within) step refl refl on
      updates
  sending run (phase.SendingPiece s piece) frame r before after h step updates at on =
      part h.part (phase.SendingPiece s piece) r [] before after (h.has, h.is_part, h.within) step refl
      refl on updates
  sending run (phase.DroppingPiece s piece) frame r before after h step updates at on =
      part h.part (phase.DroppingPiece s piece) r [] before after (h.has, h.is_part, h.within) step refl
      refl on updates
  sending run (phase.DroppingSent a taken None) frame r before after h step updates at on =
      by r (own.drops m n server a r order step) updates
    where
      by : (r : Reply) → caller.Drops m server a r n → PartUpdates m (phase.DroppingSent a taken None) r before after
          → past_of after + taken_by (after_sending run (phase.DroppingSent a taken None) frame r) ≡ past_of before
          + taken
          + newly_taken fd (call.AggDrop a) r
      by reply.Done did updates = let all =
          whole h.part a taken before after (h.has, h.is_part, h.within) (goes-whole w before h.part h.continues)
          updates in omega (arith, all)
      by (reply.Refused y) did updates = let is = ap (λ (o : Progress). past_of o) updates in omega (arith, is)
      by r did updates = absurd did
  sending run (phase.AbortingPiece piece a None) frame r before after h step updates at on = absurd (cc (at))
  sending run (phase.Aborting a None) frame r before after h step updates at on = absurd (cc (at))
  sending run d frame r before after h step updates at on = absurd h.is_part

-- any other step
plain-takes : (job : ℕ → List ℕ) (m : State) (w : Wanted) (run : Run) (fd c : ℕ) (s : Step) (r : Reply)
    (received : List ℕ) (before after : Progress) → is_part s ≡ false
    → descriptor m server fd ≡ Some (on.Connection c) → HasRun job m w before (InProgress run s)
    → StepUpdates m s r received before after
    → breaks_off (after_step w run s r received) ≡ false
    → past_of after + taken_by (after_step w run s r received) ≡ past_of before + taken_by (InProgress run s)
    + newly_taken fd
    (step_call job fd w run s) r
plain-takes job m w run fd c s r received before after plain open_on has updates on =
    let past =
    past-step job m w run s r received before after plain has.1
    (λ bars. clash (breaks_off (after_step w run s r received)) (bars-breaks w run s r received bars) on) updates in
    let new = (takes_nothing w run s r received plain).0 in
    let was = taken-plain run s plain in
    let none = takes-nothing job m w run fd c has.0.0 s r plain open_on has.0.1 in
    omega (arith, past, new, was, none)

pub takes : (steps : EachStepLeavesTheRest) (own : CallsServeTheirDomain) (job : ℕ → List ℕ) (m n : State)
    (fd c worker : ℕ) (w : Wanted) (x : Running) (r : Reply) (received : List ℕ) (before after : Progress)
    → IsOrderly m → descriptor m server fd ≡ Some (on.Connection c) → is_over x ≡ false → HasRun job m w before x
    → StepsTo m (event.Call server (next_call job fd w x)) r n → Updates m x r received before after
    → breaks_off x ≡ false → breaks_off (after_reply worker w x r received) ≡ false
    → past_of after + taken_by (after_reply worker w x r received) ≡ past_of before + taken_by x + newly_taken fd
    (next_call job fd w x) r
takes steps own job m n fd c worker w AwaitingWorker r received before after order open_on going has step updates at on
    =
    by r
  where
    by : (r : Reply) → past_of after + taken_by (after_reply worker w AwaitingWorker r received) ≡ past_of before + 0
        + newly_taken fd call.Pipe r
    by (reply.Fds from write) = let is = ap (λ (o : Progress). past_of o) updates in omega (arith, is)
    by r = let is = ap (λ (o : Progress). past_of o) updates in omega (arith, is)
takes steps own job m n fd c worker w (Finishing d) r received before after order open_on going has step updates at on =
    rest steps own m n order w fd c open_on d r received before after
    (is-rest m w before d (not-false (is_left d) going) has) step updates at on
takes steps own job m n fd c worker w Disconnecting r received before after order open_on going has step updates at on =
    absurd (cc (going))
takes steps own job m n fd c worker w (InProgress run (SendingPart d frame)) r received before after order open_on going
    has step
    updates at on =
    sending steps own m n order w fd c open_on run d frame r before after has.1 step updates at on
takes steps own job m n fd c worker w (InProgress run s) r received before after order open_on going has step updates at
    on =
    plain-takes job m w run fd c s r received before after refl open_on has updates on

-- ---- the reasons for aborting a response

barred : (why : RefusalsTellWhy) (job : ℕ → List ℕ) (m n : State) (fd c : ℕ) (w : Wanted) (o : Progress) (run : Run)
    (s : Step) (r : Reply) → Bars s r
    → HasStep job m w o run s → StepsTo m (event.Call server (step_call job fd w run s)) r n
    → IsCutOff m c (InProgress run s)
barred why job m n fd c w o run (ReadingOutput held frame) (reply.Refused (no.Denied q)) bars has step =
    inr (
      has.reads.0,
      q,
      has.reads.1,
      why.pipe_is_hidden m n server run.from has.reads.0 (CHUNK_BYTES - held_size held)
          q has.reads.1 step,
    )
barred why job m n fd c w o run s r bars has step = absurd bars

-- a part is aborted only if the peer is gone
module _ (why : RefusalsTellWhy) (m n : State) (fd c : ℕ) (open_on : descriptor m server fd ≡ Some (on.Connection c))
  where
    -- any phase of a response, as for a file
    aborts : (w : Wanted) (d : Phase) (r : Reply) (received : List ℕ) → is_busy d ≡ true
        → StepsTo m (event.Call server (conn.next_call fd (in_phase w d))) r n
        → is_dropping d ≡ false → is_dropping (conn.after_reply (in_phase w d) r received).phase ≡ true
        → is_gone (conn_at m c).peer ≡ true
    aborts w d r received busy step at off = conn-breaks why m n fd c open_on [] (serve w) received d r busy step at off

    rest-drops : (w : Wanted) (o : Progress) (d : Phase) (r : Reply) (received : List ℕ) → HasRest m w o d
        → StepsTo m (event.Call server (conn.next_call fd (in_phase w d))) r n
        → is_dropping d ≡ false → is_dropping (conn.after_reply (in_phase w d) r received).phase ≡ true
        → is_gone (conn_at m c).peer ≡ true
    rest-drops w o d r received h step at off = aborts w d r received (left.busy m h.expected d h.sends) step at off

    sending-drops : (w : Wanted) (o : Progress) (run : Run) (d : Phase) (frame : Option ℕ) (r : Reply)
        → HasPart m w o run d frame
        → StepsTo m (event.Call server (conn.next_call fd (in_phase w d))) r n → is_dropping d ≡ false
        → breaks_off (after_sending run d frame r) ≡ true → is_gone (conn_at m c).peer ≡ true
    sending-drops w o run (phase.SendingWhole s) frame r h step at off =
        aborts w (phase.SendingWhole s) r [] refl step at off
    sending-drops w o run (phase.CuttingPiece s) frame r h step at off =
        aborts w (phase.CuttingPiece s) r [] refl step at off
    sending-drops w o run (phase.SendingPiece s piece) frame r h step at off =
        aborts w (phase.SendingPiece s piece) r [] refl step at off
    sending-drops w o run (phase.DroppingPiece s piece) frame r h step at off =
        aborts w (phase.DroppingPiece s piece) r [] refl step at off
    sending-drops w o run (phase.DroppingSent a taken None) frame reply.Done h step at off =
        absurd (clash run.broken off h.whole)
    sending-drops w o run (phase.DroppingSent a taken None) frame r h step at off = absurd (cc (off))
    sending-drops w o run (phase.AbortingPiece piece a None) frame r h step at off = absurd (cc (at))
    sending-drops w o run (phase.Aborting a None) frame r h step at off = absurd (cc (at))
    sending-drops w o run d frame r h step at off = absurd h.is_part

plain-breaks : (why : RefusalsTellWhy) (job : ℕ → List ℕ) (m n : State) (fd c : ℕ) (w : Wanted) (o : Progress)
    (run : Run) (s : Step) (r : Reply) (received : List ℕ) → is_part s ≡ false
    → HasStep job m w o run s → StepsTo m (event.Call server (step_call job fd w run s)) r n
    → breaks_off (InProgress run s) ≡ false → breaks_off (after_step w run s r received) ≡ true
    → IsCutOff m c (InProgress run s)
plain-breaks why job m n fd c w o run s r received plain has step at off =
    by ((takes_nothing w run s r received plain).1 off)
  where
    by : ((run.broken ≡ true) ⊎ Bars s r) → IsCutOff m c (InProgress run s)
    by (inl is) = absurd (clash run.broken is (sym (broken-plain run s plain) ∙ at))
    by (inr bars) = barred why job m n fd c w o run s r bars has step

pub breaks : (why : RefusalsTellWhy) (job : ℕ → List ℕ) (m n : State) (fd c worker : ℕ) (w : Wanted) (x : Running)
    (r : Reply) (received : List ℕ) (o : Progress)
    → descriptor m server fd ≡ Some (on.Connection c) → is_over x ≡ false → HasRun job m w o x
    → StepsTo m (event.Call server (next_call job fd w x)) r n
    → breaks_off x ≡ false → breaks_off (after_reply worker w x r received) ≡ true → IsCutOff m c x
breaks why job m n fd c worker w AwaitingWorker r received o open_on going has step at off = absurd (by r off)
  where
    by : (r : Reply) → breaks_off (after_reply worker w AwaitingWorker r received) ≡ true → ⊥
    by (reply.Fds from write) off = cc (off)
    by r off = cc (off)
breaks why job m n fd c worker w (Finishing d) r received o open_on going has step at off =
    rest-drops why m n fd c open_on w o d r received (is-rest m w o d (not-false (is_left d) going) has) step at off
breaks why job m n fd c worker w Disconnecting r received o open_on going has step at off = absurd (cc (going))
breaks why job m n fd c worker w (InProgress run (SendingPart d frame)) r received o open_on going has step at off =
    inl (sending-drops why m n fd c open_on w o run d frame r has.1 step at off)
breaks why job m n fd c worker w (InProgress run s) r received o open_on going has step at off =
    plain-breaks why job m n fd c w o run s r received refl has.1 step at off

-- ---- the reasons for giving up a script

-- if giving away a pipe end is refused, and is not to be retried, the receiver is not live
not-given : (m n : State) (write to p : ℕ) (y : Refusal) → is_live m server ≡ true
    → descriptor m server write ≡ Some (on.WriteEnd p)
    → StepsTo m (event.Call server (call.GiveFd write to)) (reply.Refused y) n → is_again y ≡ false
    → is_live m to ≡ false
not-given m n write to p y lives open_on step is =
    by (is_live m to) (server == to) (too_many_open m to 1) refl
    (subst
    (λ (g : Option Descriptor).
    MatchOption
    (first ((no.NoDomain when (not (is_live m server) || not (is_live m to))) ∷ (no.BadFd when is_none g)
    ∷ (no.TooMany when (not (server == to) && too_many_open m to 1)) ∷ denied_by m to (needed_pool m g) ∷ []))
    (WantOfMemory y) (λ z. y ≡ z)) open_on step.0)
  where
    late : (y : Refusal) → WantOfMemory y → is_again y ≡ false → ⊥
    late no.Memory want is = cc (is)
    late y want is = want

    by : (live same many : Bool) → is_live m to ≡ live
        → MatchOption
        (first ((no.NoDomain when (not (is_live m server) || not (is_live m to))) ∷ None
        ∷ (no.TooMany when (not same && many)) ∷ None ∷ [])) (WantOfMemory y) (λ z. y ≡ z)
        → is_live m to ≡ false
    by false same many here why = here
    by true same many here why =
        absurd
        (rest same many
        (subst
        (λ a.
        MatchOption
        (first ((no.NoDomain when (not a || not (is_live m to))) ∷ None ∷ (no.TooMany when (not same && many)) ∷ None
        ∷ [])) (WantOfMemory y) (λ z. y ≡ z)) lives why))
      where
        rest : (same many : Bool)
            → MatchOption
            (first ((no.NoDomain when (false || not (is_live m to))) ∷ None ∷ (no.TooMany when (not same && many))
            ∷ None ∷ [])) (WantOfMemory y) (λ z. y ≡ z) → ⊥
        rest same many why =
            last same many
            (subst
            (λ a.
            MatchOption (first ((no.NoDomain when (false || not a)) ∷ None ∷ (no.TooMany when (not same && many)) ∷ None
            ∷ [])) (WantOfMemory y) (λ z. y ≡ z)) here why)
          where
            last : (same many : Bool)
                → MatchOption (first (None ∷ None ∷ (no.TooMany when (not same && many)) ∷ None ∷ [])) (WantOfMemory y)
                (λ z. y ≡ z) → ⊥
            last true many why = late y why is
            last false true why = let e = ap (λ z. is_again z) why in absurd (cc (e, is))
            last false false why = late y why is

gives-up : (write : ℕ) (run : Run) (r : Reply) → is_failing (InProgress run (after_give write r)) ≡ true
    → (y : Refusal) × (r ≡ reply.Refused y) × (is_again y ≡ false)
gives-up write run (reply.Refused y) off = by (is_again y) refl off
  where
    by : (b : Bool) → is_again y ≡ b → is_failing (InProgress run (if b then GivingPipe write else ClosingPipe write))
        ≡ true
        → (z : Refusal) × (reply.Refused y ≡ reply.Refused z) × (is_again z ≡ false)
    by true is off = absurd (cc (off))
    by false is off = (y, refl, is)
gives-up write run (reply.Fd f) off = absurd (cc (off))
gives-up write run r off = absurd (cc (off))

hands-up : (j f : ℕ) (run : Run) (r : Reply) → is_failing (InProgress run (after_hand j f r)) ≡ true
    → (y : Refusal) × (r ≡ reply.Refused y) × (is_again y ≡ false)
hands-up j f run (reply.Refused y) off = by (is_again y) refl off
  where
    by : (b : Bool) → is_again y ≡ b → is_failing (InProgress run (if b then WritingJob j f else DiscardingJob j))
        ≡ true
        → (z : Refusal) × (reply.Refused y ≡ reply.Refused z) × (is_again z ≡ false)
    by true is off = absurd (cc (off))
    by false is off = (y, refl, is)
hands-up j f run (reply.Count k) off = absurd (cc (off))
hands-up j f run r off = absurd (cc (off))

-- if a write of a job fails neither for lack of memory nor since it would block, the pipe has no reader
not-written : (why : RefusalsTellWhy) (m n : State) (fd p a : ℕ) (y : Refusal)
    → descriptor m server fd ≡ Some (on.WriteEnd p)
    → StepsTo m (event.Call server (call.IolWrite fd a)) (reply.Refused y) n → CannotPut y → is_again y ≡ false
    → (pipe_at m p).reading ≡ false
not-written why m n fd p a no.BrokenPipe open_on step put is = why.nobody_reads m n server fd p a open_on step
not-written why m n fd p a no.WouldBlock open_on step put is = absurd (cc (is))
not-written why m n fd p a no.Memory open_on step put is = absurd (cc (is))
not-written why m n fd p a y open_on step put is = absurd put

plain-fails : (may : RefusalsThatAreLeft) (why : RefusalsTellWhy) (job : ℕ → List ℕ) (m n : State) (fd : ℕ) (w : Wanted)
    (o : Progress) (run : Run) (s : Step) (r : Reply) (received : List ℕ)
    → is_live m server ≡ true → HasRun job m w o (InProgress run s)
    → StepsTo m (event.Call server (step_call job fd w run s)) r n
    → is_failing (InProgress run s) ≡ false → is_failing (after_step w run s r received) ≡ true
    → IsLost m (InProgress run s)
plain-fails may why job m n fd w o run (GivingPipe write) r received lives has step at off =
    let up = gives-up write run r off in
    inl (not-given m n write (worker_domain run.worker) has.1.0.pipe up.0 lives has.1.0.write_end
    (subst (λ (z : Reply). StepsTo m (event.Call server (call.GiveFd write (worker_domain run.worker))) z n) up.1
    step) up.2)
plain-fails may why job m n fd w o run (WritingJob j f) r received lives has step at off =
    let up = hands-up j f run r off in
    let after_reply = subst (λ (z : Reply). StepsTo m (event.Call server (call.IolWrite (job_pipe run.worker) j)) z n)
    up.1 step in
    inr (
      has.0.0,
      has.0.1,
      not-written why m n (job_pipe run.worker) has.0.0 j up.0 has.0.1 after_reply
          (may.writes_queue m n server (job_pipe run.worker) j (on.WriteEnd has.0.0) (job f) up.0 lives has.0.1 refl
          refl has.1.1 after_reply) up.2,
    )
plain-fails may why job m n fd w o run (ClosingPipe write) r received lives has step at off = absurd (cc (at))
plain-fails may why job m n fd w o run (DiscardingJob j) r received lives has step at off = absurd (cc (at))
plain-fails may why job m n fd w o run Failing r received lives has step at off = absurd (cc (at))
plain-fails may why job m n fd w o run (SendingPart d frame) r received lives has step at off = absurd (by d r off)
  where
    by : (d : Phase) (r : Reply) → is_failing (after_sending run d frame r) ≡ true → ⊥
    by (phase.DroppingSent a taken None) reply.Done off = cc (off)
    by (phase.Aborting a None) reply.Done off = cc (off)
    by d r off = cc (off)
plain-fails may why job m n fd w o run s r received lives has step at off = let e =
    (takes_nothing w run s r received refl).2 off in absurd (cc (e))

pub fails : (may : RefusalsThatAreLeft) (why : RefusalsTellWhy) (job : ℕ → List ℕ) (m n : State) (fd worker : ℕ)
    (w : Wanted) (x : Running) (r : Reply) (received : List ℕ) (o : Progress)
    → is_live m server ≡ true → HasRun job m w o x → StepsTo m (event.Call server (next_call job fd w x)) r n
    → is_failing x ≡ false → is_failing (after_reply worker w x r received) ≡ true → IsLost m x
fails may why job m n fd worker w (InProgress run s) r received o lives has step at off =
    plain-fails may why job m n fd w o run s r received lives has step at off
fails may why job m n fd worker w AwaitingWorker r received o lives has step at off = absurd (by r off)
  where
    by : (r : Reply) → is_failing (after_reply worker w AwaitingWorker r received) ≡ true → ⊥
    by (reply.Fds from write) off = cc (off)
    by r off = cc (off)
fails may why job m n fd worker w x r received o lives has step at off = absurd (cc (off))

-- ---- the order of the steps

pub in_turn : (worker : ℕ) (w : Wanted) (x : Running) (r : Reply) (received : List ℕ)
    → (after_reply worker w x r received ≡ x) ⊎ ComesAfter x r (after_reply worker w x r received)
in_turn worker w AwaitingWorker (reply.Fds from write) received = inr tt
in_turn worker w (Finishing d) r received = inr tt
in_turn worker w (InProgress run (SendingPart d frame)) r received = inr (by d r)
  where
    by : (d : Phase) (r : Reply) → ComesAfter (InProgress run (SendingPart d frame)) r (after_sending run d frame r)
    by (phase.DroppingSent a taken None) reply.Done = tt
    by (phase.Aborting a None) reply.Done = tt
    by d r = refl
in_turn worker w (InProgress run s) r received = (takes_nothing w run s r received refl).3
in_turn worker w x r received = inl refl
