-- A call of a run reduces its rank, reads more output, or is retried later.
use Rattle.std.proofs.Common.{inl, inr, ◌≡◌, ℕ, ◌+◌, ◌*◌, ◌-◌, ◌<◌, ◌≤◌, ◌⊎◌, List, [], ◌∷◌, ◌++◌, length, take, drop}
use Rattle.std.proofs.Common.{ap, ◌∙◌, refl, sym, subst, arith, Option, Some, None, true, false, Bool, length-append}
use Rattle.std.proofs.Common.{length-drop, if◌then◌else◌}
use Rattle.std.specs.Prelude.{nat_lt}
use Rattle.std.specs.Fmt.{digits}
use Rattle.std.proofs.lemmas.List.{length-take}
use Rattle.iol_core.specs.State.{State, descriptor, is_live}
use Rattle.iol_core.specs.Run.{StepsTo}
use Rattle.iol_core.specs.declared.limits.TheConstants.{MAX_AGGREGATE_BYTES}
use Rattle.iol_core.specs.declared.descriptors.Descriptor.TheVariants as on
use Rattle.iol_core.specs.declared.refusals.Refusal.{Refusal}
use Rattle.iol_core.specs.declared.refusals.Refusal.TheVariants as no
use Rattle.iol_core.specs.declared.events.Call.TheVariants as call
use Rattle.iol_core.specs.declared.events.Event.TheVariants as event
use Rattle.iol_core.specs.declared.events.Reply.{Reply}
use Rattle.iol_core.specs.declared.events.Reply.TheVariants as reply
use Rattle.iol_laws.specs.Caller as caller
use Rattle.iol_laws.specs.Caller.{CallsServeTheirDomain, readable_at}
use Rattle.iol_laws.specs.Order.{IsOrderly}
use Rattle.iol_laws.specs.RefusalsLeft.{RefusalsThatAreLeft, LacksNumbersOrHasNothingToRead}
use Rattle.flash_http.specs.Chunk.{chunk_head, chunk_end, last_chunk}
use Rattle.flash_http.specs.Request.{serve, Wanted}
use Rattle.flash_laws.specs.Conn as conn
use Rattle.flash_laws.specs.Conn.{Following, count_of}
use Rattle.flash_laws.specs.Conn.Fits.{Names}
use Rattle.flash_laws.specs.Conn.Progress.{Rank, IsBelow, Nears, CanMake, is_busy}
use Rattle.flash_laws.specs.Conn.Policy.{is_later}
use Rattle.flash_laws.specs.Run.Fits.{Progress, HasPart, HasRun}
use Rattle.flash_laws.specs.Run.OfferedBytes.{ReceivesMore}
use Rattle.flash_laws.specs.Run.{both, worker_domain, job_pipe, held_size, in_phase, step_call, next_call, is_again}
use Rattle.flash_laws.specs.Run.{broken, after_wait, after_give, after_make, after_hand, after_head, after_sending}
use Rattle.flash_laws.specs.Run.{after_gather, after_frame, after_wrap, after_wrap_last, after_return, after_output}
use Rattle.flash_laws.specs.Run.{after_stop, after_release_frame, after_last, after_unwrap, after_fail, filled, holding}
use Rattle.flash_laws.specs.Run.{unread, finishing, stopped, ending, after_step, after_reply, is_left, is_over}
use Rattle.flash_laws.specs.Run.{sends_part}
use Rattle.flash_laws.specs.Answers.Scripts.{script_text, frame_of, place_in_frame, end_around}
use Rattle.flash_laws.specs.Site.{server}
use Rattle.flash_laws.specs.declared.phase.Payload.TheVariants.{Error}
use Rattle.flash_laws.specs.declared.phase.Phase.{Phase}
use Rattle.flash_laws.specs.declared.phase.Phase.TheVariants as phase
use Rattle.flash_laws.specs.declared.script_run.TheConstants.{CHUNK_BYTES}
use Rattle.flash_laws.specs.declared.script_run.Run.{Run}
use Rattle.flash_laws.specs.declared.script_run.Step.{Step}
use Rattle.flash_laws.specs.declared.script_run.Step.TheVariants.{GivingPipe, MakingJob, WritingJob, DroppingJob}
use Rattle.flash_laws.specs.declared.script_run.Step.TheVariants.{MakingHead, SendingPart, ReadingOutput}
use Rattle.flash_laws.specs.declared.script_run.Step.TheVariants.{DroppingOutput, JoiningOutput, MakingFrame}
use Rattle.flash_laws.specs.declared.script_run.Step.TheVariants.{FillingFrame, DroppingHeld, DroppingEnd}
use Rattle.flash_laws.specs.declared.script_run.Step.TheVariants.{DiscardingHeld}
use Rattle.flash_laws.specs.declared.script_run.Step.TheVariants.{ClosingOutput, DroppingFrame, MakingEnd, FillingEnd}
use Rattle.flash_laws.specs.declared.script_run.Step.TheVariants.{DroppingLast, DroppingLastFrame}
use Rattle.flash_laws.specs.declared.script_run.Step.TheVariants.{ClosingPipe, DiscardingJob, Failing}
use Rattle.flash_laws.specs.declared.script_run.Running.{Running}
use Rattle.flash_laws.specs.declared.script_run.Running.TheVariants.{AwaitingWorker, InProgress, Finishing}
use Rattle.flash_laws.specs.declared.script_run.Running.TheVariants.{Disconnecting}
use Rattle.flash_laws.proofs.Conn.Responses.{some-inj}
use Rattle.flash_laws.proofs.Lists.{differ, not-false}
use Rattle.flash_laws.proofs.Conn.Progress.{stage, calls_left, head_calls, lacks-later, drops, closes, makes, joins}
use Rattle.flash_laws.proofs.Conn.Progress.{near}
use Rattle.flash_laws.proofs.Conn.Progress as file
use Rattle.flash_laws.proofs.Run.Outputs.{short-digits}
use Rattle.flash_laws.proofs.Run.Rest.{is-rest}

-- ---- the rank: the number of calls left, if the worker outputs no more

-- when the end of the body is to be made
abbrev end_calls : Following → ℕ
end_calls held = 3 * (length (end_around held) + held_size held) + 7

-- when the head is to be made
abbrev body_calls : Wanted → ℕ
body_calls w = 3 * length (script_text w) + (end_calls None + 8)

-- for a script that is not run
abbrev error_calls : Wanted → ℕ
error_calls w = head_calls (serve w) (Error 503)

-- when a whole chunk is to be inserted into its frame
abbrev chunk_calls : ℕ
chunk_calls = 3 * (length (frame_of CHUNK_BYTES) + CHUNK_BYTES) + (end_calls None + 9)

abbrev step_calls : Wanted → Step → ℕ
step_calls w (GivingPipe write) = body_calls w + error_calls w + 7
step_calls w (MakingJob f) = body_calls w + error_calls w + 6
step_calls w (WritingJob j f) = body_calls w + error_calls w + 5
step_calls w (DroppingJob j) = body_calls w + 1
step_calls w MakingHead = body_calls w
step_calls w (SendingPart d frame) = calls_left (serve w) d + (end_calls None + 4)
step_calls w (ReadingOutput held frame) = end_calls held + 4
step_calls w (DroppingOutput a frame) = end_calls None + 5
step_calls w (JoiningOutput held size piece len frame) = end_calls (Some (held, size + len)) + chunk_calls + 6
step_calls w (MakingFrame held) = chunk_calls + 1
step_calls w (FillingFrame held frame) = chunk_calls
step_calls w (DroppingHeld held chunk len frame) = 3 * len + (end_calls None + 8)
step_calls w (DroppingEnd a held frame) = end_calls held + 3
step_calls w (DiscardingHeld held frame) = end_calls None + 3
step_calls w (ClosingOutput held frame) = end_calls held + 2
step_calls w (DroppingFrame f held) = end_calls held + 1
step_calls w (MakingEnd held) = end_calls held
step_calls w (FillingEnd held size frame) = 3 * (length (end_around (Some (held, size))) + size) + 6
step_calls w (DroppingLast held chunk len frame) = 3 * len + 5
step_calls w (DroppingLastFrame frame chunk len) = 3 * len + 4
step_calls w (ClosingPipe write) = error_calls w + 3
step_calls w (DiscardingJob j) = error_calls w + 2
step_calls w Failing = error_calls w + 1

abbrev pub run_calls : Wanted → Running → ℕ
run_calls w AwaitingWorker = body_calls w + error_calls w + 8
run_calls w (InProgress run s) = step_calls w s
run_calls w (Finishing d) = calls_left (serve w) d
run_calls w Disconnecting = 0

abbrev pub rank : Wanted → Running → Rank
rank w x = (0, run_calls w x)

falls : (w : Wanted) (y x : Running) → run_calls w y < run_calls w x → IsBelow (rank w y) (rank w x)
falls w y x fewer = inr (refl, fewer)

-- ---- some lengths

head-long : (size : ℕ) → length (chunk_head size) ≤ 66
head-long size = let e = short-digits size in let f = length-append (digits 16 false size) chunk_end in
    omega (arith, e, f)

around-more : (x : ℕ × ℕ) → length (end_around None) ≤ length (end_around (Some x))
around-more x =
    let e = length-append (chunk_head x.1) (chunk_end ++ last_chunk) in
    let f = length-append chunk_end last_chunk in
    omega (arith, e, f)

frame-place : (size : ℕ) (rest : List ℕ) → length (chunk_head size) ≤ length (chunk_head size ++ rest)
frame-place size rest = let e = length-append (chunk_head size) rest in omega (arith, e)

-- the length after an insertion
set-long : (at : ℕ) (xs ys : List ℕ) → at ≤ length xs → length (take at xs ++ ys ++ drop at xs) ≡ length xs + length ys
set-long at xs ys within =
    let a = length-append (take at xs ++ ys) (drop at xs) in
    let b = length-append (take at xs) ys in
    let c = length-take at xs in
    let d = length-drop at xs in
    omega (arith, a, b, c, d, within)

counts-short : (received : List ℕ) → count_of received ≤ length received
counts-short received = omega arith

-- ---- calls that are retried later

again-later : (z : Refusal) → is_again z ≡ true → is_later (reply.Refused z) ≡ true
again-later no.WouldBlock is = refl
again-later no.TooMany is = refl
again-later (no.PoolClosed p) is = refl
again-later (no.NoRoom p) is = refl
again-later no.Memory is = refl
again-later z is = absurd (cc (is))

-- ---- each step

finishing-near : (w : Wanted) (run : Run) (held : Following) (x : Running) → end_calls held < run_calls w x
    → (b c : Bool) → IsBelow (rank w (finishing b c run held)) (rank w x)
finishing-near w run held x fewer false true = falls w (InProgress run (MakingEnd held)) x fewer
finishing-near w run held x fewer false false = falls w Disconnecting x (omega (arith, fewer))
finishing-near w run held x fewer true c = falls w Disconnecting x (omega (arith, fewer))

stopped-near : (w : Wanted) (run : Run) (held : Following) (frame : Option ℕ)
    → IsBelow (rank w (stopped w run held frame)) (rank w (InProgress run (ClosingOutput held frame)))
stopped-near w run held (Some f) =
    falls w (InProgress run (DroppingFrame f held)) (InProgress run (ClosingOutput held (Some f))) (omega arith)
stopped-near w run held None =
    finishing-near w run held (InProgress run (ClosingOutput held None)) (omega arith) run.broken w.chunked

ending-near : (w : Wanted) (run : Run) (held : Following) (a : ℕ) (received : List ℕ) → received ≡ end_around held
    → IsBelow (rank w (ending run held a (count_of received))) (rank w (InProgress run (MakingEnd held)))
ending-near w run None a received same =
    let long = ap (λ (l : List ℕ). length l) same in
    falls w (Finishing (sends_part a (count_of received))) (InProgress run (MakingEnd None)) (omega (arith, long))
ending-near w run (Some x) a received same =
    falls w (InProgress run (FillingEnd x.0 x.1 a)) (InProgress run (MakingEnd (Some x))) (omega arith)

unread-near : (w : Wanted) (run : Run) (held : Following) (frame : Option ℕ)
    → IsBelow (rank w (InProgress (broken run) (unread held frame)))
    (rank w (InProgress run (ReadingOutput held frame)))
unread-near w run None frame =
    falls w (InProgress (broken run) (ClosingOutput None frame)) (InProgress run (ReadingOutput None frame))
    (omega arith)
unread-near w run (Some x) frame =
    let more = around-more x in
    falls w (InProgress (broken run) (DiscardingHeld x.0 frame)) (InProgress run (ReadingOutput (Some x) frame))
    (omega (arith, more))

-- read output is joined to the held output
holding-near : (w : Wanted) (run : Run) (held size piece len a : ℕ) (frame : Option ℕ) → size + len ≤ CHUNK_BYTES
    → IsBelow (rank w (InProgress run (holding a (both size len) frame)))
    (rank w (InProgress run (JoiningOutput held size piece len frame)))
holding-near w run held size piece len a frame few =
    subst
    (λ s. IsBelow (rank w (InProgress run (holding a s frame)))
    (rank w (InProgress run (JoiningOutput held size piece len frame))))
    (sym all) (by (nat_lt (size + len) CHUNK_BYTES) frame)
  where
    all : both size len ≡ size + len
    all = omega (arith, few)

    by : (b : Bool) (f : Option ℕ)
        → IsBelow (rank w (InProgress run (if b then ReadingOutput (Some (a, size + len)) f else filled a f)))
        (rank w (InProgress run (JoiningOutput held size piece len frame)))
    by true f =
        falls w (InProgress run (ReadingOutput (Some (a, size + len)) f))
        (InProgress run (JoiningOutput held size piece len frame))
        (omega arith)
    by false None = falls w (InProgress run (MakingFrame a)) (InProgress run (JoiningOutput held size piece len frame))
        (omega arith)
    by false (Some f) =
        falls w (InProgress run (FillingFrame a f)) (InProgress run (JoiningOutput held size piece len frame))
        (omega arith)

module _ (own : CallsServeTheirDomain) (may : RefusalsThatAreLeft) (m n : State) (order : IsOrderly m)
    (lives : is_live m server ≡ true)
    (job : ℕ → List ℕ) (w : Wanted) where
  abbrev Near : Running → Reply → Running → Type 0
  Near x r y = Nears (rank w) x r y

  -- bytes are inserted into others
  sets : (a at b : ℕ) (xs ys received : List ℕ) (x : Running) (y : Reply → Running) (r : Reply)
      → readable_at m server a ≡ Some xs → readable_at m server b ≡ Some ys
      → at ≤ length xs → length xs + length ys ≤ MAX_AGGREGATE_BYTES
      → StepsTo m (event.Call server (call.AggReplace a at at b)) r n → Names n r received
      → ((k : ℕ) → count_of received ≤ length xs + length ys → IsBelow (rank w (y (reply.Agg k))) (rank w x))
      → ((z : Refusal) → y (reply.Refused z) ≡ x) → Near x r (y r)
  sets a at b xs ys received x y r readable_a readable_b within fits step names below same =
      by r (own.replace m n server a at at b xs ys r order readable_a readable_b step) step names
    where
      long : length (take at xs ++ ys ++ drop at xs) ≡ length xs + length ys
      long = set-long at xs ys within

      by : (r : Reply) → caller.Makes m server (take at xs ++ ys ++ drop at xs) r n
          → StepsTo m (event.Call server (call.AggReplace a at at b)) r n → Names n r received → Near x r (y r)
      by (reply.Agg k) did step names =
          let same_long =
          ap (λ (l : List ℕ). length l) (some-inj received (take at xs ++ ys ++ drop at xs) (sym names ∙ did.0)) in
          inl (below k (omega (arith, same_long, long)))
      by (reply.Refused z) did step names =
          inr (
            same z,
            lacks-later z (may.replace m n server a at at b xs ys z lives readable_a readable_b (omega arith) within
                (omega (arith, long, fits)) step),
          )
      by r did step names = absurd did

  pipes : (worker : ℕ) (r : Reply) → StepsTo m (event.Call server call.Pipe) r n
      → Near AwaitingWorker r (after_wait worker r)
  pipes worker (reply.Fds from write) step =
      inl (falls w (after_wait worker (reply.Fds from write)) AwaitingWorker (omega arith))
  pipes worker (reply.Refused z) step = inr (refl, lacks-later z (may.pipe m n server z lives step))
  pipes worker r step = let e = step.1 in absurd (cc (e))

  module _ (run : Run) where
    gives : (write : ℕ) (r : Reply) → StepsTo m (event.Call server (call.GiveFd write (worker_domain run.worker))) r n
        → Near (InProgress run (GivingPipe write)) r (InProgress run (after_give write r))
    gives write (reply.Fd f) step =
        inl (falls w (InProgress run (MakingJob f)) (InProgress run (GivingPipe write)) (omega arith))
    gives write (reply.Refused z) step = by (is_again z) refl
      where
        by : (b : Bool) → is_again z ≡ b
            → Near (InProgress run (GivingPipe write)) (reply.Refused z)
            (InProgress run (if b then GivingPipe write else ClosingPipe write))
        by true is = inr (refl, again-later z is)
        by false is =
            inl (falls w (InProgress run (ClosingPipe write)) (InProgress run (GivingPipe write)) (omega arith))
    gives write r step = let e = step.1 in absurd (cc (e))

    hands : (j f : ℕ) (r : Reply) → StepsTo m (event.Call server (call.IolWrite (job_pipe run.worker) j)) r n
        → Near (InProgress run (WritingJob j f)) r (InProgress run (after_hand j f r))
    hands j f (reply.Count k) step =
        inl (falls w (InProgress run (DroppingJob j)) (InProgress run (WritingJob j f)) (omega arith))
    hands j f (reply.Refused z) step = by (is_again z) refl
      where
        by : (b : Bool) → is_again z ≡ b
            → Near (InProgress run (WritingJob j f)) (reply.Refused z)
            (InProgress run (if b then WritingJob j f else DiscardingJob j))
        by true is = inr (refl, again-later z is)
        by false is = inl (falls w (InProgress run (DiscardingJob j)) (InProgress run (WritingJob j f)) (omega arith))
    hands j f r step = let e = step.1 in absurd (cc (e))

    -- a part is sent by the phases of a file's response
    part : (d e : Phase) (frame : Option ℕ) (r : Reply) → stage d ≡ 0 → Nears (file.rank (serve w)) d r e
        → Near (InProgress run (SendingPart d frame)) r (InProgress run (SendingPart e frame))
    part d e frame r one (inl (inl falls_first)) = absurd (omega (arith, one, falls_first))
    part d e frame r one (inl (inr fewer)) =
        (let less = fewer.1 in
        inl (falls w (InProgress run (SendingPart e frame)) (InProgress run (SendingPart d frame))
        (omega (arith, less))))
    part d e frame r one (inr same) = inr (ap (λ z. InProgress run (SendingPart z frame)) same.0, same.1)

    sending : (fd c : ℕ) (o : Progress) (d : Phase) (frame : Option ℕ) (r : Reply) (received : List ℕ)
        → descriptor m server fd ≡ Some (on.Connection c) → HasPart m w o run d frame
        → StepsTo m (event.Call server (conn.next_call fd (in_phase w d))) r n → Names n r received
        → Near (InProgress run (SendingPart d frame)) r (after_sending run d frame r)
    sending fd c o (phase.DroppingSent a taken None) frame r received open_on h step names =
        drops own may m n order lives (rank w) (InProgress run (SendingPart (phase.DroppingSent a taken None) frame))
        (λ z. after_sending run (phase.DroppingSent a taken None) frame z) a h.part r h.is_part step
        (falls w (InProgress run (ReadingOutput None frame))
        (InProgress run (SendingPart (phase.DroppingSent a taken None) frame)) (omega arith))
    sending fd c o (phase.Aborting a None) frame r received open_on h step names =
        drops own may m n order lives (rank w) (InProgress run (SendingPart (phase.Aborting a None) frame))
        (λ z. after_sending run (phase.Aborting a None) frame z) a h.part r h.is_part step
        (falls w (InProgress (broken run) (ReadingOutput None frame))
        (InProgress run (SendingPart (phase.Aborting a None) frame))
        (omega arith))
    sending fd c o (phase.SendingWhole s) frame r received open_on h step names =
        part (phase.SendingWhole s) (conn.after_send s r) frame r refl
        (near own may m n order lives fd c [] (serve w) (phase.SendingWhole s) h.part r received open_on
        refl h.has tt step names)
    sending fd c o (phase.CuttingPiece s) frame r received open_on h step names =
        part (phase.CuttingPiece s) (conn.after_cut s r) frame r refl
        (near own may m n order lives fd c [] (serve w) (phase.CuttingPiece s) h.part r received open_on
        refl h.has tt step names)
    sending fd c o (phase.SendingPiece s piece) frame r received open_on h step names =
        part (phase.SendingPiece s piece) (conn.after_offer s piece r) frame r refl
        (near own may m n order lives fd c [] (serve w) (phase.SendingPiece s piece) h.part r received
        open_on refl h.has tt step names)
    sending fd c o (phase.DroppingPiece s piece) frame r received open_on h step names =
        part (phase.DroppingPiece s piece) (conn.after_swap s piece r) frame r refl
        (near own may m n order lives fd c [] (serve w) (phase.DroppingPiece s piece) h.part r received
        open_on refl h.has tt step names)
    sending fd c o (phase.AbortingPiece piece a None) frame r received open_on h step names =
        part (phase.AbortingPiece piece a None) (conn.after_break piece a None r) frame r refl
        (near own may m n order lives fd c [] (serve w) (phase.AbortingPiece piece a None) h.part r received open_on
        refl
        h.has tt step names)
    sending fd c o d frame r received open_on h step names = absurd h.is_part

    abbrev Nearer : Step → Reply → List ℕ → Type 0
    Nearer s r received = Near (InProgress run s) r (after_step w run s r received)
        ⊎ ReceivesMore (InProgress run s) r received

    receives : (held : Following) (frame : Option ℕ) (p : ℕ) (r : Reply) (received : List ℕ)
        → descriptor m server run.from ≡ Some (on.ReadEnd p)
        → StepsTo m (event.Call server (call.IolRead run.from (CHUNK_BYTES - held_size held))) r n
        → Nearer (ReadingOutput held frame) r received
    receives held frame p (reply.Agg k) [] opened step =
        inl
        (inl (falls w (InProgress run (DroppingEnd k held frame)) (InProgress run (ReadingOutput held frame))
        (omega arith)))
    receives held frame p (reply.Agg k) (b ∷ received) opened step = inr tt
    receives held frame p (reply.Refused z) received opened step =
        inl
        (refused z (may.reads_queue m n server run.from (CHUNK_BYTES - held_size held) (on.ReadEnd p) z lives opened
        refl refl step))
      where
        refused : (z : Refusal) → LacksNumbersOrHasNothingToRead z
            → Near (InProgress run (ReadingOutput held frame)) (reply.Refused z)
            (after_output w run held frame (reply.Refused z) received)
        refused no.TooMany lacks = inr (refl, refl)
        refused no.WouldBlock lacks = inr (refl, refl)
        refused no.Memory lacks = inr (refl, refl)
        refused (no.Denied q) lacks = inl (unread-near w run held frame)
        refused z lacks = absurd lacks
    receives held frame p r received opened step = let e = step.1 in absurd (cc (e))

    -- an aggregate is dropped, and the step t is next
    dropping : (s t : Step) (a : ℕ) (bytes : List ℕ) (r : Reply) (received : List ℕ)
        → readable_at m server a ≡ Some bytes → StepsTo m (event.Call server (call.AggDrop a)) r n
        → after_step w run s reply.Done received ≡ InProgress run t → step_calls w t < step_calls w s
        → Nearer s r received
    dropping s t a bytes r received readable step next fewer =
        inl (drops own may m n order lives (rank w) (InProgress run s) (λ z. after_step w run s z received) a bytes r
        readable
        step
        (subst (λ (y : Running). IsBelow (rank w y) (rank w (InProgress run s))) (sym next)
        (falls w (InProgress run t) (InProgress run s) fewer)))

    steps : (fd c : ℕ) (o : Progress) (s : Step) (r : Reply) (received : List ℕ)
        → descriptor m server fd ≡ Some (on.Connection c) → HasRun job m w o (InProgress run s)
        → CanMake m (step_call job fd w run s) → StepsTo m (event.Call server (step_call job fd w run s)) r n
        → Names n r received → Nearer s r received
    steps fd c o (GivingPipe write) r received open_on has can step names = inl (gives write r step)
    steps fd c o (MakingJob f) r received open_on has can step names =
        inl (makes own may m n order lives (rank w) (InProgress run (MakingJob f))
        (λ z. InProgress run (after_make f z)) (job f)
        received r can step names
        (λ k same. falls w (InProgress run (WritingJob k f)) (InProgress run (MakingJob f)) (omega arith)) (λ z. refl))
    steps fd c o (WritingJob j f) r received open_on has can step names = inl (hands j f r step)
    steps fd c o (DroppingJob j) r received open_on has can step names =
        dropping (DroppingJob j) MakingHead j has.1.1.0 r received has.1.1.1 step refl (omega arith)
    steps fd c o MakingHead r received open_on has can step names =
        inl
        (makes own may m n order lives (rank w) (InProgress run MakingHead)
        (λ z. InProgress run (after_head z received))
        (script_text w) received r can step names
        (λ k same. let long = ap (λ (l : List ℕ). length l) same in let short = counts-short received in
        falls w (InProgress run (SendingPart (sends_part k (count_of received)) None)) (InProgress run MakingHead)
        (omega (arith, long, short))) (λ z. refl))
    steps fd c o (SendingPart d frame) r received open_on has can step names =
        inl (sending fd c o d frame r received open_on has.1 step names)
    steps fd c o (ReadingOutput held frame) r received open_on has can step names =
        receives held frame has.1.reads.0 r received has.1.reads.1 step
    steps fd c o (DroppingOutput a frame) r received open_on has can step names =
        dropping (DroppingOutput a frame) (ReadingOutput None frame) a has.1.0.0.0 r received has.1.0.0.1 step refl
        (omega arith)
    steps fd c o (JoiningOutput held size piece len frame) r received open_on has can step names =
        inl (joins own may m n order lives (rank w) (InProgress run (JoiningOutput held size piece len frame))
        (λ z. InProgress run (after_gather held size piece len frame z)) held piece has.1.bytes has.1.more r
        has.1.has.holds.is_readable has.1.is_readable (differ held piece has.1.other)
        (let one = has.1.has.holds.count in let two = has.1.count in let few = has.1.within in
        omega (arith, one, two, few)) step
        (λ k. holding-near w run held size piece len k frame has.1.within) (λ z. refl))
    steps fd c o (MakingFrame held) r received open_on has can step names =
        inl (makes own may m n order lives (rank w) (InProgress run (MakingFrame held))
        (λ z. InProgress run (after_frame held z))
        (frame_of CHUNK_BYTES) received r can step names
        (λ k same. falls w (InProgress run (FillingFrame held k)) (InProgress run (MakingFrame held)) (omega arith))
        (λ z. refl))
    steps fd c o (FillingFrame held frame) r received open_on has can step names =
        let long = has.1.0.count in
        inl (sets frame (place_in_frame CHUNK_BYTES) held (frame_of CHUNK_BYTES) has.1.0.bytes received
        (InProgress run (FillingFrame held frame)) (λ z. InProgress run (after_wrap held frame z received)) r
        has.1.1 has.1.0.is_readable (frame-place CHUNK_BYTES chunk_end)
        (let short = head-long CHUNK_BYTES in let all = length-append (chunk_head CHUNK_BYTES) chunk_end in
        omega (arith, long, short, all)) step names
        (λ k most. falls w (InProgress run (DroppingHeld held k (count_of received) frame))
        (InProgress run (FillingFrame held frame))
        (omega (arith, most, long))) (λ z. refl))
    steps fd c o (DroppingHeld held chunk len frame) r received open_on has can step names =
        dropping (DroppingHeld held chunk len frame) (SendingPart (sends_part chunk len) (Some frame)) held has.1.0.0.0
        r
        received has.1.0.0.1 step refl (omega arith)
    steps fd c o (DroppingEnd a held frame) r received open_on has can step names =
        dropping (DroppingEnd a held frame) (ClosingOutput held frame) a has.1.0.0.0 r received has.1.0.0.1 step refl
        (omega arith)
    steps fd c o (DiscardingHeld held frame) r received open_on has can step names =
        dropping (DiscardingHeld held frame) (ClosingOutput None frame) held has.1.0.0.0 r received has.1.0.0.1 step
        refl (omega arith)
    steps fd c o (ClosingOutput held frame) r received open_on has can step names =
        inl (closes own may m n order lives (rank w) (InProgress run (ClosingOutput held frame))
        (λ z. after_stop w run held frame z)
        run.from (on.ReadEnd has.1.0.0) r has.1.0.1 step (stopped-near w run held frame))
    steps fd c o (DroppingFrame f held) r received open_on has can step names =
        inl
        (drops own may m n order lives (rank w) (InProgress run (DroppingFrame f held))
        (λ z. after_release_frame w run f held z) f (frame_of CHUNK_BYTES) r has.1.has.frames step
        (finishing-near w run held (InProgress run (DroppingFrame f held)) (omega arith) run.broken w.chunked))
    steps fd c o (MakingEnd held) r received open_on has can step names =
        inl (makes own may m n order lives (rank w) (InProgress run (MakingEnd held))
        (λ z. after_last run held z received)
        (end_around held) received r can step names
        (λ k same. ending-near w run held k received same) (λ z. refl))
    steps fd c o (FillingEnd held size frame) r received open_on has can step names =
        let long = has.1.holds.count in
        let few = has.1.holds.few in
        inl (sets frame (place_in_frame size) held (end_around (Some (held, size))) has.1.bytes received
        (InProgress run (FillingEnd held size frame)) (λ z. InProgress run (after_wrap_last held size frame z received))
        r
        has.1.frames has.1.holds.is_readable (frame-place size (chunk_end ++ last_chunk))
        (let short = head-long size in let all = length-append (chunk_head size) (chunk_end ++ last_chunk) in let rest =
        length-append chunk_end last_chunk in omega (arith, long, few, short, all, rest)) step names
        (λ k most. falls w (InProgress run (DroppingLast held k (count_of received) frame))
        (InProgress run (FillingEnd held size frame)) (omega (arith, most, long))) (λ z. refl))
    steps fd c o (DroppingLast held chunk len frame) r received open_on has can step names =
        dropping (DroppingLast held chunk len frame) (DroppingLastFrame frame chunk len) held has.1.0.0.0 r received
        has.1.0.0.1 step
        refl (omega arith)
    steps fd c o (DroppingLastFrame frame chunk len) r received open_on has can step names =
        inl (drops own may m n order lives (rank w) (InProgress run (DroppingLastFrame frame chunk len))
        (λ z. after_unwrap run frame chunk len z) frame has.1.0.0.0 r has.1.0.0.1 step
        (falls w (Finishing (sends_part chunk len)) (InProgress run (DroppingLastFrame frame chunk len)) (omega arith)))
    steps fd c o (ClosingPipe write) r received open_on has can step names =
        inl (closes own may m n order lives (rank w) (InProgress run (ClosingPipe write))
        (λ z. InProgress run (after_return write z))
        write (on.WriteEnd has.1.0.pipe) r has.1.0.write_end step
        (falls w (InProgress run Failing) (InProgress run (ClosingPipe write)) (omega arith)))
    steps fd c o (DiscardingJob j) r received open_on has can step names =
        dropping (DiscardingJob j) Failing j has.1.1.0 r received has.1.1.1 step refl (omega arith)
    steps fd c o Failing r received open_on has can step names =
        inl (closes own may m n order lives (rank w) (InProgress run Failing) (λ z. after_fail run z) run.from
        (on.ReadEnd has.1.0.0) r has.1.0.1 step
        (falls w (Finishing (phase.MakingHead (Error 503))) (InProgress run Failing) (omega arith)))

  -- ---- the rest is sent by the phases of a file's response

  rest : (d e : Phase) (r : Reply) → stage d ≡ 0 → Nears (file.rank (serve w)) d r e
      → Near (Finishing d) r (Finishing e)
  rest d e r one (inl (inl falls_first)) = absurd (omega (arith, one, falls_first))
  rest d e r one (inl (inr fewer)) = inl (falls w (Finishing e) (Finishing d) fewer.1)
  rest d e r one (inr same) = inr (ap (λ z. Finishing z) same.0, same.1)

left-stage : (d : Phase) → is_left d ≡ true → stage d ≡ 0
left-stage phase.Opening is = absurd (cc (is))
left-stage (phase.Reading f) is = absurd (cc (is))
left-stage d is = refl

left-busy : (d : Phase) → is_left d ≡ true → is_busy d ≡ true
left-busy phase.Receiving is = absurd (cc (is))
left-busy phase.Disconnecting is = absurd (cc (is))
left-busy phase.Closed is = absurd (cc (is))
left-busy d is = refl

pub nears : CallsServeTheirDomain → RefusalsThatAreLeft
    → (job : ℕ → List ℕ) (m n : State) (fd c worker : ℕ) (w : Wanted) (x : Running) (r : Reply) (received : List ℕ)
    (o : Progress)
    → IsOrderly m → is_live m server ≡ true → descriptor m server fd ≡ Some (on.Connection c) → is_over x ≡ false
    → HasRun job m w o x → CanMake m (next_call job fd w x)
    → StepsTo m (event.Call server (next_call job fd w x)) r n → Names n r received
    → Nears (rank w) x r (after_reply worker w x r received) ⊎ ReceivesMore x r received
nears own may job m n fd c worker w AwaitingWorker r received o order lives open_on going has can step names =
    inl (pipes own may m n order lives job w worker r step)
nears own may job m n fd c worker w (InProgress run s) r received o order lives open_on going has can step names =
    steps own may m n order lives job w run fd c o s r received open_on has can step names
nears own may job m n fd c worker w (Finishing d) r received o order lives open_on going has can step names =
    let left : is_left d ≡ true = not-false (is_left d) going in
    let h = is-rest m w o d left has in
    inl (rest own may m n order lives job w d (conn.after_reply (in_phase w d) r received).phase r (left-stage d left)
    (near own may m n order lives fd c [] (serve w) d h.expected r received open_on (left-busy d left) h.has can step
    names))
nears own may job m n fd c worker w Disconnecting r received o order lives open_on going has can step names =
    absurd (cc (going))
