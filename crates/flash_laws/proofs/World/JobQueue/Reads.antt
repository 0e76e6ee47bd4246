-- The worker of a run while its output is read: its further output is the rest.
use Rattle.std.proofs.Common.{inl, inr, ◌≡◌, ◌<◌, ℕ, ◌-◌, List, [], ◌∷◌, ◌++◌, ap, ◌∙◌, refl, sym, subst, arith, Option}
use Rattle.std.proofs.Common.{Some, None, true, false, Bool, slice_get, append-nil, append_assoc, if◌then◌else◌}
use Rattle.std.specs.Prelude.{◌&&◌, nat_lt}
use Rattle.iol_core.specs.Text.{Text}
use Rattle.iol_core.specs.State.{State, descriptor, may_read, pipe_at, conn_at, is_gone}
use Rattle.iol_core.specs.declared.descriptors.Descriptor.{Descriptor}
use Rattle.iol_core.specs.declared.descriptors.Descriptor.TheVariants as on
use Rattle.iol_core.specs.declared.refusals.Refusal.TheVariants as no
use Rattle.iol_core.specs.declared.events.Call.{Call}
use Rattle.iol_core.specs.declared.events.Call.TheVariants as call
use Rattle.iol_core.specs.declared.events.Reply.{Reply}
use Rattle.iol_core.specs.declared.events.Reply.TheVariants as reply
use Rattle.iol_laws.specs.Caller.{readable_at}
use Rattle.iol_laws.specs.Reasons.{IsHidden}
use Rattle.iol_laws.specs.Sources.{MayReadAll, lie_in}
use Rattle.iol_proc.specs.declared.process_slot.ProcessSlot.{ProcessSlot}
use Rattle.flash_http.specs.Request.{Wanted}
use Rattle.flash_cgi.specs.Expected.{Made, text_of}
use Rattle.flash_laws.specs.Client.Fits.{response_to}
use Rattle.flash_laws.specs.Answers.Scripts.{script_response}
use Rattle.flash_laws.specs.Conn as conn
use Rattle.flash_laws.specs.Conn.{Following, count_of}
use Rattle.flash_laws.specs.Workers.WorkerSet.{WorkerSet}
use Rattle.flash_laws.specs.Conn.Fits.{Names}
use Rattle.flash_laws.specs.Conn.OfferedBytes.{is_dropping}
use Rattle.flash_laws.specs.Workers.DeliversText.{DeliversText}
use Rattle.flash_laws.specs.Run.Fits.{Progress, Ran, Broken, NotRun, Follows, MayAnswer, IsSending}
use Rattle.flash_laws.specs.Run.OfferedBytes.{receives_on, takes_on, PartUpdates, StepUpdates, IsCutOff}
use Rattle.flash_laws.specs.Run.{in_phase, held_size, broken, both, after_part, after_sending, after_output, after_step}
use Rattle.flash_laws.specs.Run.{filled, holding, on_output, sends_part}
use Rattle.flash_laws.specs.SiteContents.{SiteContents}
use Rattle.flash_laws.specs.Site.{server}
use Rattle.flash_laws.specs.Run.WorkerStates.{IsDelivering, IsToCome, IsReceivedWhole, IsAtStep}
use Rattle.flash_laws.specs.declared.phase.Payload.TheVariants.{Error}
use Rattle.flash_laws.specs.declared.phase.Phase.{Phase}
use Rattle.flash_laws.specs.declared.phase.Phase.TheVariants as phase
use Rattle.flash_laws.specs.declared.script_run.TheConstants.{CHUNK_BYTES}
use Rattle.flash_laws.specs.declared.script_run.Run.{Run}
use Rattle.flash_laws.specs.declared.script_run.Step.{Step}
use Rattle.flash_laws.specs.declared.script_run.Step.TheVariants.{DroppingJob, MakingHead, SendingPart, ReadingOutput}
use Rattle.flash_laws.specs.declared.script_run.Step.TheVariants.{DroppingOutput, JoiningOutput}
use Rattle.flash_laws.specs.declared.script_run.Step.TheVariants.{MakingFrame, FillingFrame, DroppingHeld, DroppingEnd}
use Rattle.flash_laws.specs.declared.script_run.Running.{Running}
use Rattle.flash_laws.specs.declared.script_run.Running.TheVariants.{InProgress}
use Rattle.flash_laws.proofs.Lists.{clash}
use Rattle.flash_laws.proofs.World.AllLaws.{AllLaws}
use Rattle.flash_laws.proofs.World.JobQueue.After.{JobQueueAfter, MayOn, CutBy, may_same, cut_same, proceeds, same_on}
use Rattle.flash_laws.proofs.World.JobQueue.Calls.{TouchesNoPipe, OwnCall, own_files, other}

-- ---- a part of the response is taken: the unseen output and the possible responses are unchanged

taken_may : (w : Wanted) (o : Progress) (part expected : List ℕ) → MayAnswer w o expected
    → MayAnswer w (takes_on o part) expected
taken_may w (Ran received ended past) part expected may = may
taken_may w x part expected may = may

pub part_may : (m : State) (w : Wanted) (d : Phase) (r : Reply) (o after : Progress) (expected : List ℕ)
    → PartUpdates m d r o after → is_dropping d ≡ false → MayAnswer w o expected → MayAnswer w after expected
part_may m w (phase.DroppingSent a taken None) reply.Done o after expected updates whole may =
    subst (λ (p : Progress). MayAnswer w p expected) (sym updates.2) (taken_may w o updates.0 expected may)
part_may m w (phase.Aborting a None) reply.Done o after expected updates whole may = absurd (cc (whole))
part_may m w d r o after expected updates whole may = subst (λ (p : Progress). MayAnswer w p expected) (sym updates) may

taken_to_come : (o : Progress) (part output more : List ℕ) → IsToCome o output more
    → IsToCome (takes_on o part) output more
taken_to_come (Ran received ended past) part output more come = come
taken_to_come x part output more come = come

pub part_to_come : (m : State) (d : Phase) (r : Reply) (o after : Progress) (output more : List ℕ)
    → PartUpdates m d r o after → IsToCome o output more → IsToCome after output more
part_to_come m (phase.DroppingSent a taken None) reply.Done o after output more updates come =
    subst (λ (p : Progress). IsToCome p output more) (sym updates.2) (taken_to_come o updates.0 output more come)
part_to_come m (phase.Aborting a None) reply.Done o after output more updates come =
    subst (λ (p : Progress). IsToCome p output more) (sym updates) tt
part_to_come m d r o after output more updates come = subst (λ (p : Progress). IsToCome p output more) (sym updates)
    come

-- the calls that send it touch no pipe
pub part_touches_none : (m : State) (fd : ℕ) (w : Wanted) (expected : List ℕ) (d : Phase) → IsSending m expected d
    → TouchesNoPipe fd (conn.next_call fd (in_phase w d))
part_touches_none m fd w expected (phase.MakingHead (Error status)) is = tt
part_touches_none m fd w expected (phase.SendingWhole s) is = refl
part_touches_none m fd w expected (phase.CuttingPiece s) is = tt
part_touches_none m fd w expected (phase.SendingPiece s piece) is = refl
part_touches_none m fd w expected (phase.DroppingPiece s piece) is = tt
part_touches_none m fd w expected (phase.DroppingSent a taken None) is = tt
part_touches_none m fd w expected (phase.AbortingPiece piece a None) is = tt
part_touches_none m fd w expected (phase.Aborting a None) is = tt
part_touches_none m fd w expected d is = absurd is.0

-- the steps between the reads
abbrev pub ReceivesNothing : Step → Type 0
ReceivesNothing (DroppingJob j) = Unit {0}
ReceivesNothing MakingHead = Unit {0}
ReceivesNothing (DroppingOutput a frame) = Unit {0}
ReceivesNothing (JoiningOutput held size piece len frame) = Unit {0}
ReceivesNothing (MakingFrame held) = Unit {0}
ReceivesNothing (FillingFrame held frame) = Unit {0}
ReceivesNothing (DroppingHeld held chunk len frame) = Unit {0}
ReceivesNothing step = ⊥

-- ---- the bytes received are the front of the unseen output

received_more : (o after : Progress) (output more rest bytes : List ℕ) (b : ℕ) → after ≡ receives_on o (b ∷ bytes)
    → IsToCome o output more → more ≡ (b ∷ bytes) ++ rest
    → IsToCome after output rest
received_more (Ran received ended past) after output more rest bytes b updates come splits =
    subst (λ (p : Progress). IsToCome p output rest) (sym updates)
    (come.0, come.1 ∙ (ap (λ (l : List ℕ). received ++ l) splits ∙ sym (append_assoc received (b ∷ bytes) rest)))
received_more Broken after output more rest bytes b updates come splits =
    subst (λ (p : Progress). IsToCome p output rest) (sym updates) tt
received_more (NotRun status past) after output more rest bytes b updates come splits = absurd come

received_whole : (o after : Progress) (output more : List ℕ) → after ≡ receives_on o [] → IsToCome o output more
    → more ≡ [] → IsReceivedWhole after output
received_whole (Ran received ended past) after output more updates come none =
    subst (λ (p : Progress). IsReceivedWhole p output) (sym updates) (
      refl,
      come.1
          ∙ (ap (λ (l : List ℕ). received ++ l) none ∙ append-nil received),
    )
received_whole Broken after output more updates come none =
    subst (λ (p : Progress). IsReceivedWhole p output) (sym updates) tt
received_whole (NotRun status past) after output more updates come none = absurd come

-- ---- so the response to the output is possible

run_may : (w : Wanted) (made : Made) (received past more : List ℕ) (ended : Bool) → text_of made ≡ received ++ more
    → Follows ended more
    → MayAnswer w (Ran received ended past) (response_to w made)
run_may w made received past more ended all follows = (more, follows, ap (λ (l : List ℕ). script_response w l) all)

more_may : (w : Wanted) (made : Made) (o after : Progress) (more rest bytes : List ℕ) (b : ℕ)
    → after ≡ receives_on o (b ∷ bytes) → IsToCome o (text_of made) more → more ≡ (b ∷ bytes) ++ rest
    → MayAnswer w o (response_to w made) → MayAnswer w after (response_to w made)
more_may w made (Ran received ended past) after more rest bytes b updates come splits may =
    subst (λ (p : Progress). MayAnswer w p (response_to w made)) (sym updates)
    (run_may w made (received ++ (b ∷ bytes)) past rest ended (come.1
    ∙ (ap (λ (l : List ℕ). received ++ l) splits ∙ sym (append_assoc received (b ∷ bytes) rest)))
    (subst (λ (e : Bool). Follows e rest) (sym come.0) tt))
more_may w made Broken after more rest bytes b updates come splits may = absurd may
more_may w made (NotRun status past) after more rest bytes b updates come splits may = absurd come

end_may : (w : Wanted) (made : Made) (o after : Progress) (more : List ℕ) → after ≡ receives_on o []
    → IsToCome o (text_of made) more → more ≡ []
    → MayAnswer w o (response_to w made) → MayAnswer w after (response_to w made)
end_may w made (Ran received ended past) after more updates come none may =
    subst (λ (p : Progress). MayAnswer w p (response_to w made)) (sym updates)
    (run_may w made received past [] true (come.1 ∙ ap (λ (l : List ℕ). received ++ l) none) refl)
end_may w made Broken after more updates come none may = absurd may
end_may w made (NotRun status past) after more updates come none may = absurd come

-- ---- the server may read all output of a worker

not_hidden : (pools : ℕ → Bool) (m : State) (q : ℕ) (t : Text) → MayReadAll m server pools → lie_in pools t ≡ true
    → IsHidden m server q t → ⊥
not_hidden pools m q t wide lies hidden =
    let e = ap (λ u. lie_in pools u) (sym hidden.text_is) ∙ lies in
    clash (may_read m server q) (wide q (first_true (pools q) (lie_in pools hidden.rest) e)) hidden.may_not
  where
    first_true : (a b : Bool) → (a && b) ≡ true → a ≡ true
    first_true true b is = refl
    first_true false b is = absurd (cc (is))

module _ (site_contents : SiteContents) (worker_set : WorkerSet) (laws : AllLaws worker_set) (m n : State) (c : ℕ)
    (process_slots : List (ProcessSlot worker_set.Worker)) (w : Wanted) (o after : Progress) where
  pub not_cut : (made : Made) (run : Run) (step : Step) (process_slot : ProcessSlot worker_set.Worker)
      → IsDelivering worker_set m process_slot run made o → MayReadAll m server worker_set.pools
      → IsCutOff m c (InProgress run step) → is_gone (conn_at m c).peer ≡ true
  not_cut made run step process_slot was wide cut = by cut
    where
      lies : DeliversText worker_set.turns worker_set.pools worker_set.Free worker_set.Expected m
          (worker_set.job_queue run.worker) was.has.pipe process_slot made was.more
          → lie_in worker_set.pools (pipe_at m was.has.pipe).queue ≡ true
      lies (inl expected) = laws.workers.shown m (worker_set.job_queue run.worker) was.has.pipe process_slot made
          was.more expected
      lies (inr there) = there.lies

      one : (p q : ℕ) (u : Option Descriptor) → u ≡ Some (on.ReadEnd p) → u ≡ Some (on.ReadEnd q) → p ≡ q
      one p q u x y = cc (x, y)

      by : IsCutOff m c (InProgress run step) → is_gone (conn_at m c).peer ≡ true
      by (inl gone) = gone
      by (inr hides) = absurd (not_hidden worker_set.pools m hides.1 (pipe_at m hides.0).queue wide
          (subst (λ p. lie_in worker_set.pools (pipe_at m p).queue ≡ true)
          (one was.has.pipe hides.0 (descriptor m server run.from) was.has.reads hides.2) (lies was.delivers_text))
          hides.3)

  module _ (made : Made) where
    abbrev After : Running → Running → Type 0
    After y z = JobQueueAfter worker_set m n c process_slots w made y z o after

    module _ (run : Run) (process_slot : ProcessSlot worker_set.Worker)
        (sits : slice_get process_slots run.worker ≡ Some process_slot)
        (now : IsDelivering worker_set n process_slot run made after) where
      -- ---- held output

      held_on : (step : Step) (a size : ℕ) (frame : Option ℕ)
          → ((z : Running) → MayOn (response_to w made) w (InProgress run step) z o after)
          → CutBy m c (InProgress run step) (InProgress run (holding a size frame))
          → After (InProgress run step) (InProgress run (holding a size frame))
      held_on step a size frame may cut = by (nat_lt size CHUNK_BYTES) frame cut
        where
          by : (t : Bool) (f : Option ℕ)
              → CutBy m c (InProgress run step)
              (InProgress run (if t then ReadingOutput (Some (a, size)) f else filled a f))
              → After (InProgress run step)
              (InProgress run (if t then ReadingOutput (Some (a, size)) f else filled a f))
          by true f cut =
              proceeds worker_set m n c process_slots w made o after run run step (ReadingOutput (Some (a, size)) f)
              process_slot refl sits now (may (InProgress run (ReadingOutput (Some (a, size)) f))) cut
          by false None cut =
              proceeds worker_set m n c process_slots w made o after run run step (MakingFrame a) process_slot refl sits
              now
              (may (InProgress run (MakingFrame a))) cut
          by false (Some f) cut =
              proceeds worker_set m n c process_slots w made o after run run step (FillingFrame a f) process_slot refl
              sits now
              (may (InProgress run (FillingFrame a f))) cut

      on_output_on : (step : Step) (b chunked : Bool) (held : Following) (frame : Option ℕ) (a len : ℕ)
          → ((z : Running) → MayOn (response_to w made) w (InProgress run step) z o after)
          → CutBy m c (InProgress run step) (InProgress run (on_output b chunked held frame a len))
          → After (InProgress run step) (InProgress run (on_output b chunked held frame a len))
      on_output_on step true chunked held frame a len may cut =
          proceeds worker_set m n c process_slots w made o after run run step (DroppingOutput a frame) process_slot refl
          sits
          now (may (InProgress run (DroppingOutput a frame))) cut
      on_output_on step false false held frame a len may cut =
          proceeds worker_set m n c process_slots w made o after run run step (SendingPart (sends_part a len) frame)
          process_slot refl sits now (may (InProgress run (SendingPart (sends_part a len) frame))) cut
      on_output_on step false true None frame a len may cut = held_on step a len frame may cut
      on_output_on step false true (Some y) frame a len may cut =
          proceeds worker_set m n c process_slots w made o after run run step (JoiningOutput y.0 y.1 a len frame)
          process_slot
          refl sits now (may (InProgress run (JoiningOutput y.0 y.1 a len frame))) cut

      -- ---- steps that receive nothing

      module _ (same : after ≡ o) where
        to : (step later : Step) → CutBy m c (InProgress run step) (InProgress run later)
            → IsAtStep worker_set n process_slot run made after later
            → After (InProgress run step) (InProgress run later)
        to step later cut at_step =
            same_on worker_set m n c process_slots w made o after run step later process_slot sits
            same cut at_step

        pub steps_without_output : (step : Step) (r : Reply) (received : List ℕ) → ReceivesNothing step
            → CutBy m c (InProgress run step) (after_step w run step r received)
            → After (InProgress run step) (after_step w run step r received)
        steps_without_output (DroppingJob j) reply.Done received is cut = to (DroppingJob j) MakingHead cut now
        steps_without_output (DroppingJob j) r received is cut = to (DroppingJob j) (DroppingJob j) cut now
        steps_without_output MakingHead (reply.Agg a) received is cut =
            to MakingHead (SendingPart (sends_part a (count_of received)) None) cut now
        steps_without_output MakingHead r received is cut = to MakingHead MakingHead cut now
        steps_without_output (DroppingOutput a frame) reply.Done received is cut =
            to (DroppingOutput a frame) (ReadingOutput None frame) cut now
        steps_without_output (DroppingOutput a frame) r received is cut =
            to (DroppingOutput a frame) (DroppingOutput a frame) cut now
        steps_without_output (JoiningOutput held size piece len frame) (reply.Agg a) received is cut =
            held_on (JoiningOutput held size piece len frame) a (both size len) frame
            (λ z. may_same (response_to w made) w (InProgress run (JoiningOutput held size piece len frame)) z o after
            same) cut
        steps_without_output (JoiningOutput held size piece len frame) r received is cut =
            to (JoiningOutput held size piece len frame) (JoiningOutput held size piece len frame) cut now
        steps_without_output (MakingFrame held) (reply.Agg a) received is cut =
            to (MakingFrame held) (FillingFrame held a) cut now
        steps_without_output (MakingFrame held) r received is cut = to (MakingFrame held) (MakingFrame held) cut now
        steps_without_output (FillingFrame held frame) (reply.Agg a) received is cut =
            to (FillingFrame held frame) (DroppingHeld held a (count_of received) frame) cut now
        steps_without_output (FillingFrame held frame) r received is cut =
            to (FillingFrame held frame) (FillingFrame held frame) cut now
        steps_without_output (DroppingHeld held chunk len frame) reply.Done received is cut =
            to (DroppingHeld held chunk len frame) (SendingPart (sends_part chunk len) (Some frame)) cut now
        steps_without_output (DroppingHeld held chunk len frame) r received is cut =
            to (DroppingHeld held chunk len frame) (DroppingHeld held chunk len frame) cut now
        steps_without_output step r received is cut = absurd is

      -- a part is sent
      pub sending : (d : Phase) (frame : Option ℕ) (r : Reply) → PartUpdates m d r o after
          → CutBy m c (InProgress run (SendingPart d frame)) (after_sending run d frame r)
          → After (InProgress run (SendingPart d frame)) (after_sending run d frame r)
      sending (phase.DroppingSent a taken None) frame reply.Done updates cut =
          proceeds worker_set m n c process_slots w made o after run run
          (SendingPart (phase.DroppingSent a taken None) frame)
          (ReadingOutput None frame) process_slot refl sits now
          (λ was gone may. part_may m w (phase.DroppingSent a taken None) reply.Done o after (response_to w made)
          updates
          was
          may) cut
      sending (phase.Aborting a None) frame reply.Done updates cut =
          proceeds worker_set m n c process_slots w made o after run (broken run)
          (SendingPart (phase.Aborting a None) frame)
          (ReadingOutput None frame) process_slot refl sits (record {
            has = record { pipe = now.has.pipe; reads = now.has.reads; apart = now.has.apart };
            more = now.more;
            delivers_text = now.delivers_text;
            to_come = now.to_come;
          })
          (λ was gone may. absurd (cc (was))) cut
      sending d frame r updates cut =
          proceeds worker_set m n c process_slots w made o after run run (SendingPart d frame)
          (SendingPart (after_part d r) frame) process_slot refl sits now
          (λ was gone may. part_may m w d r o after (response_to w made) updates was may) cut

  -- ---- output is read, or its end

  module _ (made : Made) (run : Run) (held : Following) (frame : Option ℕ)
      (process_slot : ProcessSlot worker_set.Worker) (sits : slice_get process_slots run.worker ≡ Some process_slot)
      (was : IsDelivering worker_set m process_slot run made o) (few : held_size held < CHUNK_BYTES) where
    abbrev Received : Running → Type 0
    Received z = JobQueueAfter worker_set m n c process_slots w made (InProgress run (ReadingOutput held frame)) z o
        after

    abbrev count : ℕ
    count = CHUNK_BYTES - held_size held

    abbrev reads : Call
    reads = call.IolRead run.from count

    ended : (a : ℕ) → OwnCall site_contents worker_set m n reads (reply.Agg a) process_slots
        → readable_at n server a ≡ Some [] → after ≡ receives_on o []
        → pipe_at n (worker_set.job_queue run.worker) ≡ pipe_at m (worker_set.job_queue run.worker)
        → CutBy m c (InProgress run (ReadingOutput held frame)) (InProgress run (DroppingEnd a held frame))
        → Received (InProgress run (DroppingEnd a held frame))
    ended a h is_readable updates job_queue cut =
        let all = laws.texts.ends m n (worker_set.job_queue run.worker) was.has.pipe server run.from count a
        process_slot made was.more h.order h.fixed.placed (omega (arith, few)) h.step
        (other site_contents worker_set laws m n reads (reply.Agg a) process_slots h run.worker process_slot sits)
        was.has.reads (own_files site_contents worker_set laws m n reads (reply.Agg a) process_slots h run.worker
        process_slot sits) job_queue is_readable was.delivers_text in
        proceeds worker_set m n c process_slots w made o after run run (ReadingOutput held frame)
        (DroppingEnd a held frame)
        process_slot refl sits
        (record { free = all.1; whole = received_whole o after (text_of made) was.more updates was.to_come all.0 })
        (λ on gone may. end_may w made o after was.more updates was.to_come all.0 may) cut

    more : (a b : ℕ) (bytes : List ℕ) → OwnCall site_contents worker_set m n reads (reply.Agg a) process_slots
        → readable_at n server a ≡ Some (b ∷ bytes) → after ≡ receives_on o (b ∷ bytes)
        → pipe_at n (worker_set.job_queue run.worker) ≡ pipe_at m (worker_set.job_queue run.worker)
        → descriptor n server run.from ≡ Some (on.ReadEnd was.has.pipe)
        → CutBy m c (InProgress run (ReadingOutput held frame))
        (after_output w run held frame (reply.Agg a) (b ∷ bytes))
        → Received (after_output w run held frame (reply.Agg a) (b ∷ bytes))
    more a b bytes h is_readable updates job_queue from cut =
        let did = laws.texts.reads m n (worker_set.job_queue run.worker) was.has.pipe server run.from count a
        process_slot made was.more (b ∷ bytes) h.order h.fixed.placed h.step
        (other site_contents worker_set laws m n reads (reply.Agg a) process_slots h run.worker process_slot sits)
        was.has.reads (own_files site_contents worker_set laws m n reads (reply.Agg a) process_slots h run.worker
        process_slot sits) job_queue is_readable was.delivers_text in
        let now : IsDelivering worker_set n process_slot run made after = record {
          has = record { pipe = was.has.pipe; reads = from; apart = was.has.apart };
          more = did.rest;
          delivers_text = did.delivers_text;
          to_come = received_more o after (text_of made) was.more did.rest bytes b updates was.to_come did.splits;
        } in
        on_output_on made run process_slot sits now (ReadingOutput held frame) run.broken w.chunked held frame a
        (count_of (b ∷ bytes))
        (λ z on gone may. more_may w made o after was.more did.rest bytes b updates was.to_come did.splits may) cut

    again : n ≡ m → after ≡ o → Received (InProgress run (ReadingOutput held frame))
    again is same =
        same_on worker_set m n c process_slots w made o after run (ReadingOutput held frame) (ReadingOutput held frame)
        process_slot sits same
        (cut_same m c (InProgress run (ReadingOutput held frame)) (InProgress run (ReadingOutput held frame)) refl)
        (subst (λ (u : State). IsDelivering worker_set u process_slot run made after) (sym is)
        (subst (λ (p : Progress). IsDelivering worker_set m process_slot run made p) (sym same) was))

    pub receives : (r : Reply) (received : List ℕ) → OwnCall site_contents worker_set m n reads r process_slots
        → Names n r received → StepUpdates m (ReadingOutput held frame) r received o after
        → pipe_at n (worker_set.job_queue run.worker) ≡ pipe_at m (worker_set.job_queue run.worker)
        → descriptor n server run.from ≡ Some (on.ReadEnd was.has.pipe)
        → CutBy m c (InProgress run (ReadingOutput held frame)) (after_output w run held frame r received)
        → Received (after_output w run held frame r received)
    receives (reply.Agg a) [] h names updates job_queue from cut = ended a h names updates job_queue cut
    receives (reply.Agg a) (b ∷ bytes) h names updates job_queue from cut =
        more a b bytes h names updates job_queue from cut
    receives (reply.Refused (no.Denied q)) received h names updates job_queue from cut =
        absurd (laws.texts.undenied m n (worker_set.job_queue run.worker) was.has.pipe server run.from count q
        process_slot made was.more h.fixed.wide was.has.reads was.delivers_text h.step)
    receives (reply.Refused y) received h names updates job_queue from cut =
        again (laws.the.own.read_pipe m n server run.from was.has.pipe count (reply.Refused y) h.order was.has.reads
        h.step) updates
    receives r received h names updates job_queue from cut =
        absurd (laws.the.own.read_pipe m n server run.from was.has.pipe count r h.order was.has.reads h.step)
