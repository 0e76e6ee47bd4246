-- The bytes offered for a script are the next bytes of the response, for every run.
use Rattle.std.proofs.Common.{◌≡◌, ℕ, suc, ◌+◌, ◌-◌, ◌==◌, ◌<◌, ◌≤◌, List, [], ◌∷◌, ◌++◌, length, drop, ap, ◌∙◌, refl}
use Rattle.std.proofs.Common.{sym, subst, arith, Option, Some, None, true, false, Bool, append_assoc, append-nil}
use Rattle.std.proofs.Common.{zero-add}
use Rattle.std.proofs.lemmas.Bool.{or_parts}
use Rattle.std.proofs.lemmas.List.{drop-append-le}
use Rattle.iol_core.specs.State.{State, descriptor, pipe_at, new_pipe}
use Rattle.iol_core.specs.Run.{StepsTo}
use Rattle.iol_core.specs.declared.descriptors.Descriptor.TheVariants as on
use Rattle.iol_core.specs.declared.refusals.Refusal.TheVariants as no
use Rattle.iol_core.specs.declared.events.Call.{Call}
use Rattle.iol_core.specs.declared.events.Call.TheVariants as call
use Rattle.iol_core.specs.declared.events.Event.TheVariants as event
use Rattle.iol_core.specs.declared.events.Reply.{Reply}
use Rattle.iol_core.specs.declared.events.Reply.TheVariants as reply
use Rattle.iol_laws.specs.Frame.{EachStepLeavesTheRest, touches_fd}
use Rattle.iol_laws.specs.Order.{IsOrderly}
use Rattle.iol_laws.specs.Caller as caller
use Rattle.iol_laws.specs.Caller.{CallsServeTheirDomain, readable_at}
use Rattle.iol_laws.specs.Reasons.{RefusalsTellWhy}
use Rattle.iol_laws.specs.RefusalsLeft.{RefusalsThatAreLeft}
use Rattle.flash_http.specs.Request.{serve, Wanted}
use Rattle.flash_laws.specs.Conn as conn
use Rattle.flash_laws.specs.Conn.{Following, piece_end}
use Rattle.flash_laws.specs.Conn.Fits.{Has, Names}
use Rattle.flash_laws.specs.Conn.OfferedBytes.{taken_of}
use Rattle.flash_laws.specs.Run.Fits.{Progress, Ran, Broken, NotRun, Follows, MayAnswer, Continues, IsLeft, HasJobPipe}
use Rattle.flash_laws.specs.Run.Fits.{HasPart, HasRest, HasLeft, HasRun}
use Rattle.flash_laws.specs.Run.OfferedBytes.{takes_on, Updates, taken_by, past_of, IsNextOf, HasWorker}
use Rattle.flash_laws.specs.Run.OfferedBytes.{RunsOfferTheResponse}
use Rattle.flash_laws.specs.Run.{worker_domain, job_pipe, held_size, in_phase, next_call, broken, after_sending}
use Rattle.flash_laws.specs.Run.{after_output, finishing, after_reply, is_left, is_over, stopped, ending, sends_part}
use Rattle.flash_laws.specs.Answers.Scripts.{script_body, script_response}
use Rattle.flash_laws.specs.Site.{server}
use Rattle.flash_laws.specs.declared.phase.Phase.{Phase}
use Rattle.flash_laws.specs.declared.phase.Phase.TheVariants as phase
use Rattle.flash_laws.specs.declared.script_run.TheConstants.{CHUNK_BYTES}
use Rattle.flash_laws.specs.declared.script_run.Run.{Run}
use Rattle.flash_laws.specs.declared.script_run.Step.{Step}
use Rattle.flash_laws.specs.declared.script_run.Step.TheVariants.{GivingPipe, MakingJob, WritingJob, DroppingJob}
use Rattle.flash_laws.specs.declared.script_run.Step.TheVariants.{MakingHead, SendingPart, ReadingOutput}
use Rattle.flash_laws.specs.declared.script_run.Step.TheVariants.{DroppingOutput, JoiningOutput, MakingFrame}
use Rattle.flash_laws.specs.declared.script_run.Step.TheVariants.{FillingFrame, DroppingHeld, DroppingEnd}
use Rattle.flash_laws.specs.declared.script_run.Step.TheVariants.{DiscardingHeld}
use Rattle.flash_laws.specs.declared.script_run.Step.TheVariants.{ClosingOutput, DroppingFrame, MakingEnd, FillingEnd}
use Rattle.flash_laws.specs.declared.script_run.Step.TheVariants.{DroppingLast, DroppingLastFrame}
use Rattle.flash_laws.specs.declared.script_run.Step.TheVariants.{ClosingPipe, DiscardingJob, Failing}
use Rattle.flash_laws.specs.declared.script_run.Running.{Running}
use Rattle.flash_laws.specs.declared.script_run.Running.TheVariants.{AwaitingWorker, InProgress, Finishing}
use Rattle.flash_laws.specs.declared.script_run.Running.TheVariants.{Disconnecting}
use Rattle.flash_laws.proofs.Moves.{after-done, after-agg}
use Rattle.flash_laws.proofs.Client.Phases.{Next, written_fd, next-expected}
use Rattle.flash_laws.proofs.Run.Rest as left
use Rattle.flash_laws.proofs.Run.Rest.{is-rest}
use Rattle.flash_laws.proofs.Run.Moves.{moves}
use Rattle.flash_laws.proofs.Run.Progress.{rank, nears}
use Rattle.flash_laws.proofs.Run.Parts as parts
use Rattle.flash_laws.proofs.Run.Parts.{no-position, continued, proceeds-on}
use Rattle.flash_laws.proofs.Run.ReadsOn.{reads_on}
use Rattle.flash_laws.proofs.Run.Stays.{run_stays, hired-on, write-elsewhere}
use Rattle.flash_laws.proofs.Run.Takes.{takes, breaks, fails, in_turn}
use Rattle.flash_laws.proofs.Run.Steps as acts
use Rattle.flash_laws.proofs.Run.Stops as stopping
use Rattle.flash_laws.proofs.Lists.{not-false}

module _ (steps : EachStepLeavesTheRest) (own : CallsServeTheirDomain) (m n : State) (order : IsOrderly m) (job : ℕ
    → List ℕ) (w : Wanted) where
  abbrev AfterReply : Running → Running → Reply → List ℕ → Progress → Type 0
  AfterReply x y r received before = (after : Progress) × Updates m x r received before after × HasRun job n w after y

  module _ (run : Run) (hired : HasJobPipe m run.worker) (fd c : ℕ)
      (open_on : descriptor m server fd ≡ Some (on.Connection c)) (frame : Option ℕ) where
    still-hired : (k : Call) (r : Reply) → StepsTo m (event.Call server k) r n
        → touches_fd m (event.Call server k) server (job_pipe run.worker) ≡ false → HasJobPipe n run.worker
    still-hired k r step still =
        hired-on m n run.worker
        (λ x is. (steps.leaves m n (event.Call server k) r step).fds server (job_pipe run.worker) x is still) hired

    written : (a : ℕ) (r : Reply) → StepsTo m (event.Call server (call.IolWrite fd a)) r n → HasJobPipe n run.worker
    written a r step =
        still-hired (call.IolWrite fd a) r step (no-position m fd (job_pipe run.worker) (on.Connection c) open_on refl)

    -- all of the part is sent
    sent : (a taken : ℕ) (r : Reply) (received : List ℕ) (o : Progress)
        → HasPart m w o run (phase.DroppingSent a taken None) frame
        → StepsTo m (event.Call server (call.AggDrop a)) r n
        → AfterReply (InProgress run (SendingPart (phase.DroppingSent a taken None) frame))
        (after_sending run (phase.DroppingSent a taken None) frame r) r received o
    sent a taken r received o h step = by r (own.drops m n server a r order step) step
      where
        by : (r : Reply) → caller.Drops m server a r n → StepsTo m (event.Call server (call.AggDrop a)) r n
            → AfterReply (InProgress run (SendingPart (phase.DroppingSent a taken None) frame))
            (after_sending run (phase.DroppingSent a taken None) frame r) r received o
        by reply.Done did step = (
          takes_on o h.part,
          (h.part, h.is_part, refl),
          (
            still-hired (call.AggDrop a) reply.Done step refl,
            parts.receives-again steps own m n order w o run frame a (phase.DroppingSent a taken None)
                (takes_on o h.part) run
                step (λ f is. (or_parts (a == f) false is).0) refl
                (proceeds-on run.broken w (takes_on o h.part) [] h.whole (continued w o h.part [] h.continues)) h,
          ),
        )
        by (reply.Refused y) did step = (
          o,
          refl,
          subst (λ (s : State). HasRun job s w o (InProgress run (SendingPart (phase.DroppingSent a taken None) frame)))
              (sym did) (hired, h),
        )
        by r did step = absurd did

    -- the part is aborted
    unsent : (a : ℕ) (r : Reply) (received : List ℕ) (o : Progress) → HasPart m w o run (phase.Aborting a None) frame
        → StepsTo m (event.Call server (call.AggDrop a)) r n
        → AfterReply (InProgress run (SendingPart (phase.Aborting a None) frame))
        (after_sending run (phase.Aborting a None) frame r) r
        received o
    unsent a r received o h step = by r (own.drops m n server a r order step) step
      where
        by : (r : Reply) → caller.Drops m server a r n → StepsTo m (event.Call server (call.AggDrop a)) r n
            → AfterReply (InProgress run (SendingPart (phase.Aborting a None) frame))
            (after_sending run (phase.Aborting a None) frame r) r received o
        by reply.Done did step = (
          Broken,
          refl,
          (
            still-hired (call.AggDrop a) reply.Done step refl,
            parts.receives-again steps own m n order w o run frame a (phase.Aborting a None) Broken (broken run) step
                (λ f is. (or_parts (a == f) false is).0) refl (refl, refl) h,
          ),
        )
        by (reply.Refused y) did step = (
          o,
          refl,
          subst (λ (s : State). HasRun job s w o (InProgress run (SendingPart (phase.Aborting a None) frame))) (sym did)
              (hired, h),
        )
        by r did step = absurd did

    sending : (d : Phase) (r : Reply) (received : List ℕ) (o : Progress) → HasPart m w o run d frame
        → StepsTo m (event.Call server (conn.next_call fd (in_phase w d))) r n
        → AfterReply (InProgress run (SendingPart d frame)) (after_sending run d frame r) r received o
    sending (phase.SendingWhole s) r received o h step =
        (o, refl, (written s.agg r step, parts.sends steps own m n order w o run frame fd c s r open_on h step))
    sending (phase.CuttingPiece s) r received o h step = (
      o,
      refl,
      (
        still-hired (call.AggCut s.agg s.from (piece_end s)) r step refl,
        parts.cuts steps own m n order w o run frame s r h step,
      ),
    )
    sending (phase.SendingPiece s piece) r received o h step =
        (o, refl, (written piece r step, parts.offers steps own m n order w o run frame fd c s piece r open_on h step))
    sending (phase.DroppingPiece s piece) r received o h step = (
      o,
      refl,
      (
        still-hired (call.AggDrop piece) r step refl,
        parts.swaps steps own m n order w o run frame s piece r h step,
      ),
    )
    sending (phase.AbortingPiece piece a None) r received o h step = (
      o,
      refl,
      (still-hired (call.AggDrop piece) r step refl, parts.breaks steps own m n order w o run frame piece a r h step),
    )
    sending (phase.DroppingSent a taken None) r received o h step = sent a taken r received o h step
    sending (phase.Aborting a None) r received o h step = unsent a r received o h step
    sending d r received o h step = absurd h.is_part

  -- the rest is sent by the phases of a file's response
  rest : (fd c : ℕ) (o : Progress) (d : Phase) (r : Reply) (received : List ℕ)
      → descriptor m server fd ≡ Some (on.Connection c)
      → HasRest m w o d → StepsTo m (event.Call server (conn.next_call fd (in_phase w d))) r n → Names n r received
      → AfterReply (Finishing d) (Finishing (conn.after_reply (in_phase w d) r received).phase) r received o
  rest fd c o d r received open_on h step names =
      left.leaving steps own m n order w h.expected fd c d r received o h.left h.has h.sends open_on step names

  leaving : (fd c : ℕ) (o : Progress) (d : Phase) (r : Reply) (received : List ℕ)
      → descriptor m server fd ≡ Some (on.Connection c) → is_left d ≡ true
      → HasLeft m w o d → StepsTo m (event.Call server (conn.next_call fd (in_phase w d))) r n → Names n r received
      → AfterReply (Finishing d) (Finishing (conn.after_reply (in_phase w d) r received).phase) r received o
  leaving fd c o d r received open_on is has step names =
      rest fd c o d r received open_on (is-rest m w o d is has) step names

  pub replied : (fd c worker : ℕ) (x : Running) (r : Reply) (received : List ℕ) (o : Progress)
      → descriptor m server fd ≡ Some (on.Connection c)
      → (x ≡ AwaitingWorker → HasJobPipe m worker) → is_over x ≡ false → HasRun job m w o x
      → StepsTo m (event.Call server (next_call job fd w x)) r n → Names n r received
      → AfterReply x (after_reply worker w x r received) r received o
  replied fd c worker AwaitingWorker r received o open_on free going has step names =
      acts.awaits steps own m n order job w worker r received o (free refl) has step
  replied fd c worker Disconnecting r received o open_on free going has step names = absurd (cc (going))
  replied fd c worker (Finishing d) r received o open_on free going has step names =
      leaving fd c o d r received open_on (not-false (is_left d) going) has step names
  replied fd c worker (InProgress run (GivingPipe write)) r received o open_on free going has step names =
      (o, refl, acts.gives steps own m n order job w run has.0 write r o has.1 step)
  replied fd c worker (InProgress run (MakingJob f)) r received o open_on free going has step names =
      (o, refl, acts.makes steps own m n order job w run has.0 f r o has.1 step)
  replied fd c worker (InProgress run (WritingJob j f)) r received o open_on free going has step names =
      (o, refl, acts.hands steps own m n order job w run has.0 j f r o has.1 step)
  replied fd c worker (InProgress run (DroppingJob j)) r received o open_on free going has step names = (
    o,
    refl,
    acts.drops steps own m n order job w run has.0 j (DroppingJob j) MakingHead r o has refl
        (has.1.0, has.1.2) step,
  )
  replied fd c worker (InProgress run MakingHead) r received o open_on free going has step names =
      (o, refl, acts.heads steps own m n order job w run has.0 r received o has.1 step names)
  replied fd c worker (InProgress run (SendingPart d frame)) r received o open_on free going has step names =
      sending run has.0 fd c open_on frame d r received o has.1 step
  replied fd c worker (InProgress run (ReadingOutput held frame)) r received o open_on free going has step names =
      acts.receives steps own m n order job w run has.0 held frame r received o has.1 step names
  replied fd c worker (InProgress run (DroppingOutput a frame)) r received o open_on free going has step names = (
    o,
    refl,
    acts.drops steps own m n order job w run has.0 a (DroppingOutput a frame) (ReadingOutput None frame) r o has
        has.1.0.1 has.1.1 step,
  )
  replied fd c worker (InProgress run (JoiningOutput held size piece len frame)) r received o open_on free going has
      step names =
      (o, refl, acts.gathers steps own m n order job w run has.0 held size piece len frame r o has.1 step)
  replied fd c worker (InProgress run (MakingFrame held)) r received o open_on free going has step names =
      (o, refl, acts.frames steps own m n order job w run has.0 held r o has.1 step)
  replied fd c worker (InProgress run (FillingFrame held frame)) r received o open_on free going has step names =
      (o, refl, acts.wraps steps own m n order job w run has.0 held frame r received o has.1 step names)
  replied fd c worker (InProgress run (DroppingHeld held chunk len frame)) r received o open_on free going has step
      names = (
        o,
        refl,
        acts.drops steps own m n order job w run has.0 held (DroppingHeld held chunk len frame)
            (SendingPart (sends_part chunk len) (Some frame)) r o has has.1.0.1 has.1.1 step,
      )
  replied fd c worker (InProgress run (DroppingEnd a held frame)) r received o open_on free going has step names = (
    o,
    refl,
    acts.drops steps own m n order job w run has.0 a (DroppingEnd a held frame) (ClosingOutput held frame) r o has
        has.1.0.1 (has.1.1, has.1.2) step,
  )
  replied fd c worker (InProgress run (DiscardingHeld held frame)) r received o open_on free going has step names = (
    o,
    refl,
    acts.drops steps own m n order job w run has.0 held (DiscardingHeld held frame) (ClosingOutput None frame) r o has
        has.1.0.1 (has.1.1, has.1.2) step,
  )
  replied fd c worker (InProgress run (ClosingOutput held frame)) r received o open_on free going has step names =
      (o, refl, stopping.stops steps own m n order job w run has.0 held frame r o has.1 step)
  replied fd c worker (InProgress run (DroppingFrame f held)) r received o open_on free going has step names =
      (o, refl, stopping.unframes steps own m n order job w run has.0 f held r o has.1 step)
  replied fd c worker (InProgress run (MakingEnd held)) r received o open_on free going has step names =
      (o, refl, stopping.lasts steps own m n order job w run has.0 held r received o has.1 step names)
  replied fd c worker (InProgress run (FillingEnd held size frame)) r received o open_on free going has step names =
      (o, refl, stopping.wraps_last steps own m n order job w run has.0 held size frame r received o has.1 step names)
  replied fd c worker (InProgress run (DroppingLast held chunk len frame)) r received o open_on free going has step
      names = (
        o,
        refl,
        acts.drops steps own m n order job w run has.0 held (DroppingLast held chunk len frame)
            (DroppingLastFrame frame chunk len) r o has has.1.0.1 (has.1.1, has.1.2) step,
      )
  replied fd c worker (InProgress run (DroppingLastFrame frame chunk len)) r received o open_on free going has step
      names =
      (o, refl, stopping.unwraps steps own m n order job w run has.0 frame chunk len r o has.1 step)
  replied fd c worker (InProgress run (ClosingPipe write)) r received o open_on free going has step names =
      (o, refl, stopping.returns steps own m n order job w run has.0 write r o has.1 step)
  replied fd c worker (InProgress run (DiscardingJob j)) r received o open_on free going has step names = (
    o,
    refl,
    acts.drops steps own m n order job w run has.0 j (DiscardingJob j) Failing r o has refl
        (has.1.0, has.1.2) step,
  )
  replied fd c worker (InProgress run Failing) r received o open_on free going has step names =
      stopping.fails steps own m n order job w run has.0 r received o has.1 step

-- ---- offered bytes

drop_past : (past xs : List ℕ) (t : ℕ) → drop (length past + t) (past ++ xs) ≡ drop t xs
drop_past [] xs t = ap (λ (k : ℕ). drop k xs) (zero-add t)
drop_past (p ∷ ps) xs t =
    let e : length (p ∷ ps) + t ≡ suc (length ps + t) = omega arith in
    ap (λ (k : ℕ). drop k (p ∷ (ps ++ xs))) e ∙ drop_past ps xs t

-- the next bytes of the part that is sent are the next bytes of each possible response
next-in : (m : State) (w : Wanted) (o : Progress) (a taken : ℕ) (part bytes after : List ℕ) → Continues w o part []
    → taken ≤ length part → bytes ++ after ≡ drop taken part → readable_at m server a ≡ Some bytes
    → IsNextOf m w o a taken
next-in m w (Ran received ended past) a taken part bytes after goes within next is_readable = record {
  bytes = bytes;
  is_readable = is_readable;
  next = λ r may. (
    after ++ script_body w.chunked may.0,
    (sym (append_assoc bytes after (script_body w.chunked may.0))
        ∙ (ap (λ (l : List ℕ). l ++ script_body w.chunked may.0) next
        ∙ (sym (drop-append-le taken part (script_body w.chunked may.0) within)
        ∙ (sym (drop_past past (part ++ script_body w.chunked may.0) taken)
        ∙ ap (λ (l : List ℕ). drop (length past + taken) l)
        (sym (may.2 ∙ (goes may.0 ∙ append_assoc past part (script_body w.chunked may.0)))))))),
  );
}
next-in m w x a taken part bytes after goes within next is_readable = absurd goes

-- the bytes that a phase offers are the next bytes of the expected response
offered : (m : State) (fd a : ℕ) (w : Wanted) (expected : List ℕ) (d : Phase) → Has m (serve w) expected d
    → conn.next_call fd (in_phase w d) ≡ call.IolWrite fd a → Next m expected a (taken_of d)
offered m fd a w expected d has is = (next-expected m fd fd a [] (serve w) d expected has is).1

pub part-next : (m : State) (fd a : ℕ) (w : Wanted) (o : Progress) (run : Run) (d : Phase) (frame : Option ℕ)
    → HasPart m w o run d frame
    → conn.next_call fd (in_phase w d) ≡ call.IolWrite fd a → IsNextOf m w o a (taken_of d)
part-next m fd a w o run d frame h is =
    let p = offered m fd a w h.part d h.has is in
    next-in m w o a (taken_of d) h.part p.0 p.1 h.continues h.within p.3 p.2

-- once all of the response is known, each possible response has the same rest
is-whole : (w : Wanted) (o : Progress) (expected r : List ℕ) → IsLeft w o expected → MayAnswer w o r → (taken : ℕ)
    → drop taken expected ≡ drop (past_of o + taken) r
is-whole w (Ran received ended past) expected r left may taken =
    let none : may.0 ≡ [] = subst (λ b. Follows b may.0) left.0 may.1 in
    let all : r ≡ past ++ expected =
    may.2
    ∙ (ap (λ (l : List ℕ). script_response w (received ++ l)) none
    ∙ (ap (λ (l : List ℕ). script_response w l) (append-nil received) ∙ left.1)) in
    sym (drop_past past expected taken) ∙ ap (λ (l : List ℕ). drop (length past + taken) l) (sym all)
is-whole w Broken expected r left may taken = absurd left
is-whole w (NotRun status past) expected r left may taken = sym (drop_past past expected taken)
    ∙ ap (λ (l : List ℕ). drop (length past + taken) l) (sym (may ∙ left))

rest-next : (m : State) (fd a : ℕ) (w : Wanted) (o : Progress) (d : Phase) → HasRest m w o d
    → conn.next_call fd (in_phase w d) ≡ call.IolWrite fd a → IsNextOf m w o a (taken_of d)
rest-next m fd a w o d h is =
    let p = offered m fd a w h.expected d h.has is in
    record {
      bytes = p.0;
      is_readable = p.2;
      next = λ r may. (p.1, p.3 ∙ is-whole w o h.expected r h.left may (taken_of d));
    }

pub left-next : (m : State) (fd a : ℕ) (w : Wanted) (o : Progress) (d : Phase) → HasLeft m w o d
    → conn.next_call fd (in_phase w d) ≡ call.IolWrite fd a → IsNextOf m w o a (taken_of d)
left-next m fd a w o phase.Receiving has is = absurd (cc (is))
left-next m fd a w o phase.Disconnecting has is = absurd (cc (is))
left-next m fd a w o d has is = rest-next m fd a w o d has is

next-of : (job : ℕ → List ℕ) (m : State) (fd c a : ℕ) (w : Wanted) (x : Running) (o : Progress)
    → descriptor m server fd ≡ Some (on.Connection c) → HasRun job m w o x
    → next_call job fd w x ≡ call.IolWrite fd a → IsNextOf m w o a (taken_by x)
next-of job m fd c a w (InProgress run (SendingPart d frame)) o open_on has is =
    part-next m fd a w o run d frame has.1 is
next-of job m fd c a w (InProgress run (WritingJob j f)) o open_on has is =
    let same : job_pipe run.worker ≡ fd = ap (λ k. written_fd k (job_pipe run.worker)) is in
    let e = ap (λ z. descriptor m server z) same in
    let hired = has.0.1 in
    absurd (cc (e, hired, open_on))
next-of job m fd c a w (Finishing d) o open_on has is = left-next m fd a w o d has is
next-of job m fd c a w x o open_on has is = absurd (cc (is))

few-held : (job : ℕ → List ℕ) (m : State) (w : Wanted) (o : Progress) (run : Run) (held : Option (ℕ × ℕ))
    (frame : Option ℕ)
    → HasRun job m w o (InProgress run (ReadingOutput held frame)) → held_size held < CHUNK_BYTES
few-held job m w o run None frame has = omega arith
few-held job m w o run (Some x) frame has = has.1.has.holds.few

-- ---- an aborted response offers no bytes

none-of : (job : ℕ → List ℕ) (m : State) (fd a : ℕ) (w : Wanted) (x : Running) → HasRun job m w Broken x
    → next_call job fd w x ≡ call.IolWrite fd a → ⊥
none-of job m fd a w (InProgress run (SendingPart d frame)) has is = has.1.continues
none-of job m fd a w (InProgress run (WritingJob j f)) has is = let e = has.1.2.1 in cc (e)
none-of job m fd a w (Finishing phase.Receiving) has is = has.0
none-of job m fd a w (Finishing phase.Disconnecting) has is = cc (is)
none-of job m fd a w (Finishing d) has is = has.left
none-of job m fd a w x has is = cc (is)

-- ---- the job

opened : (own : CallsServeTheirDomain) (job : ℕ → List ℕ) (m n : State) (fd worker : ℕ) (w : Wanted) (from write : ℕ)
    (received : List ℕ)
    → StepsTo m (event.Call server (next_call job fd w AwaitingWorker)) (reply.Fds from write) n
    → (after_reply worker w AwaitingWorker (reply.Fds from write) received
    ≡ InProgress (record { worker = worker; from = from; broken = false }) (GivingPipe write))
    × ((p : ℕ) × (pipe_at n p ≡ new_pipe) × (descriptor n server from ≡ Some (on.ReadEnd p))
    × (descriptor n server write ≡ Some (on.WriteEnd p)))
opened own job m n fd worker w from write received step =
    let did = own.makes_pipe m n server (reply.Fds from write) step in
    (refl, (did.pipe, did.empty, did.read_end, did.write_end))

given : (steps : EachStepLeavesTheRest) (own : CallsServeTheirDomain) (job : ℕ → List ℕ) (m n : State) (fd worker : ℕ)
    (w : Wanted) (o : Progress) (run : Run) (write f : ℕ) (received : List ℕ)
    → HasRun job m w o (InProgress run (GivingPipe write))
    → StepsTo m (event.Call server (next_call job fd w (InProgress run (GivingPipe write)))) (reply.Fd f) n
    → (after_reply worker w (InProgress run (GivingPipe write)) (reply.Fd f) received ≡ InProgress run (MakingJob f))
    × ((p : ℕ) × (descriptor n server run.from ≡ Some (on.ReadEnd p))
    × (descriptor n (worker_domain run.worker) f ≡ Some (on.WriteEnd p)))
given steps own job m n fd worker w o run write f received has step = (
  refl,
  (
    has.1.0.pipe,
    (steps.leaves m n (event.Call server (call.GiveFd write (worker_domain run.worker))) (reply.Fd f) step).fds server
        run.from (on.ReadEnd has.1.0.pipe) has.1.0.read_end
        (write-elsewhere m run write has.1.0),
    (own.gives_fd m n server write (worker_domain run.worker) (on.WriteEnd has.1.0.pipe) (reply.Fd f) has.1.0.write_end
        step).open_on,
  ),
)

-- ---- its worker

keeps-finishing : (b c : Bool) (run : Run) (held : Following) → HasWorker run.worker (finishing b c run held)
keeps-finishing false true run held = refl
keeps-finishing false false run held = tt
keeps-finishing true c run held = tt

keeps-stopped : (w : Wanted) (run : Run) (held : Following) (frame : Option ℕ)
    → HasWorker run.worker (stopped w run held frame)
keeps-stopped w run held None = keeps-finishing run.broken w.chunked run held
keeps-stopped w run held (Some f) = refl

keeps-sending : (run : Run) (d : Phase) (frame : Option ℕ) (r : Reply)
    → HasWorker run.worker (after_sending run d frame r)
keeps-sending run (phase.DroppingSent a taken None) frame reply.Done = refl
keeps-sending run (phase.Aborting a None) frame reply.Done = refl
keeps-sending run d frame r = refl

keeps-receives : (w : Wanted) (run : Run) (held : Following) (frame : Option ℕ) (r : Reply) (received : List ℕ)
    → HasWorker run.worker (after_output w run held frame r received)
keeps-receives w run held frame (reply.Agg n) [] = refl
keeps-receives w run held frame (reply.Agg n) (b ∷ received) = refl
keeps-receives w run held frame (reply.Refused (no.Denied p)) received = refl
keeps-receives w run held frame r received = refl

keeps-ending : (run : Run) (held : Following) (n len : ℕ) → HasWorker run.worker (ending run held n len)
keeps-ending run None n len = tt
keeps-ending run (Some x) n len = refl

pub keeps : (worker : ℕ) (w : Wanted) (run : Run) (step : Step) (r : Reply) (received : List ℕ)
    → HasWorker run.worker (after_reply worker w (InProgress run step) r received)
keeps worker w run (SendingPart d frame) r received = keeps-sending run d frame r
keeps worker w run (ReadingOutput held frame) r received = keeps-receives w run held frame r received
keeps worker w run (ClosingOutput held frame) r received =
    after-done (HasWorker run.worker) r refl (keeps-stopped w run held frame)
keeps worker w run (DroppingFrame frame held) r received =
    after-done (HasWorker run.worker) r refl (keeps-finishing run.broken w.chunked run held)
keeps worker w run (MakingEnd held) r received =
    after-agg (HasWorker run.worker) r refl (λ n. keeps-ending run held n (conn.count_of received))
keeps worker w run (DroppingLastFrame frame chunk len) r received = after-done (HasWorker run.worker) r refl tt
keeps worker w run Failing r received = after-done (HasWorker run.worker) r refl tt
keeps worker w run step r received = refl

pub runs_offer : EachStepLeavesTheRest → CallsServeTheirDomain → RefusalsTellWhy → RefusalsThatAreLeft
    → RunsOfferTheResponse
runs_offer steps own why may = λ job. record {
  starts = λ m w. refl;
  replied = λ m n fd c worker w x r received o order open_on free going has step names. replied steps own m n order job
      w fd c worker x r received o open_on free going has step names;
  stays = λ m n w x e r o. run_stays steps job m n w x e r o;
  offers = next-of job;
  silent = none-of job;
  takes = takes steps own job;
  breaks = breaks why job;
  fails = fails may why job;
  rank = rank;
  nears = nears own may job;
  moves = moves job;
  reads = few-held job;
  receives = λ m n fd w o run held frame r order has step. (
    has.1.reads.0,
    has.1.reads.1,
    own.read_pipe m n server run.from has.1.reads.0 (CHUNK_BYTES - held_size held) r
        order has.1.reads.1 step,
  );
  reads_on = reads_on;
  opens = opened own job;
  gives = given steps own job;
  hands = λ m n fd w o run j f r order has step. (
    has.0.0,
    has.0.1,
    own.write_pipe m n server (job_pipe run.worker) has.0.0 j (job f) r order has.0.1 has.1.1
        step,
  );
  in_turn = in_turn;
  keeps = keeps;
}
