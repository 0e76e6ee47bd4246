-- After the reply to its own call a run has the data for its next step: until its output ends.
use Rattle.std.proofs.Common.{◌≡◌, ℕ, ◌+◌, ◌-◌, ◌==◌, ◌<◌, ◌≤◌, List, [], ◌∷◌, ◌++◌, length, take, drop, ap, ◌∙◌, refl}
use Rattle.std.proofs.Common.{sym, subst, arith, Option, Some, None, true, false, Bool, append-nil, length-append}
use Rattle.std.proofs.Common.{if◌then◌else◌}
use Rattle.std.specs.Prelude.{◌||◌, nat_lt}
use Rattle.std.proofs.lemmas.Bool.{or_from}
use Rattle.std.proofs.lemmas.Bool.Decides.{nat_tests}
use Rattle.iol_core.specs.Text.{bytes_of}
use Rattle.iol_core.specs.State.{State, descriptor, may_read, pipe_at}
use Rattle.iol_core.specs.Run.{StepsTo}
use Rattle.iol_core.specs.Values.{gives_up}
use Rattle.iol_core.specs.declared.descriptors.Descriptor.TheVariants as on
use Rattle.iol_core.specs.declared.refusals.Refusal.TheVariants as no
use Rattle.iol_core.specs.declared.events.Call.{Call}
use Rattle.iol_core.specs.declared.events.Call.TheVariants as call
use Rattle.iol_core.specs.declared.events.Event.TheVariants as event
use Rattle.iol_core.specs.declared.events.Reply.{Reply}
use Rattle.iol_core.specs.declared.events.Reply.TheVariants as reply
use Rattle.iol_laws.specs.Frame.{EachStepLeavesTheRest, touches_fd}
use Rattle.iol_laws.specs.Order.{IsOrderly}
use Rattle.iol_laws.specs.Caller as caller
use Rattle.iol_laws.specs.Caller.{CallsServeTheirDomain, readable_at}
use Rattle.flash_http.specs.Chunk.{chunk_head, chunk_end, chunk}
use Rattle.flash_http.specs.Request.{serve, Wanted}
use Rattle.flash_laws.specs.Moves.{or_stay, on_done}
use Rattle.flash_laws.specs.Conn.{Following, has_followed, count_of}
use Rattle.flash_laws.specs.Conn.Fits.{Names, Has}
use Rattle.flash_laws.specs.Run.Fits.{Progress, Broken, nothing_yet, HoldsBack, Continues, Goes, HasJobPipe, IsReading}
use Rattle.flash_laws.specs.Run.Fits.{IsHeld, HasFrame, meets, HasOutput, HasReceived, sends_frame, HasChunk, HasStep}
use Rattle.flash_laws.specs.Run.Fits.{HasRun}
use Rattle.flash_laws.specs.Run.OfferedBytes.{receives_on, Updates}
use Rattle.flash_laws.specs.Run.{both, worker_domain, job_pipe, has_frame, step_agg, uses_fd, held_size, is_again}
use Rattle.flash_laws.specs.Run.{broken, after_wait, after_give, after_make, after_hand, after_head, filled, holding}
use Rattle.flash_laws.specs.Run.{on_output, unread, after_output, after_gather, after_frame, after_wrap, sends_part}
use Rattle.flash_laws.specs.Answers.Scripts.{script_text, frame_of, place_in_frame}
use Rattle.flash_laws.specs.Site.{server}
use Rattle.flash_laws.specs.declared.script_run.TheConstants.{CHUNK_BYTES}
use Rattle.flash_laws.specs.declared.script_run.Run.{Run}
use Rattle.flash_laws.specs.declared.script_run.Step.{Step}
use Rattle.flash_laws.specs.declared.script_run.Step.TheVariants.{GivingPipe, MakingJob, WritingJob, MakingHead}
use Rattle.flash_laws.specs.declared.script_run.Step.TheVariants.{ReadingOutput, JoiningOutput, MakingFrame}
use Rattle.flash_laws.specs.declared.script_run.Step.TheVariants.{FillingFrame, DroppingHeld, ClosingPipe}
use Rattle.flash_laws.specs.declared.script_run.Step.TheVariants.{DiscardingJob}
use Rattle.flash_laws.specs.declared.script_run.Running.{Running}
use Rattle.flash_laws.specs.declared.script_run.Running.TheVariants.{AwaitingWorker, InProgress}
use Rattle.flash_laws.proofs.Conn.Responses.{some-inj}
use Rattle.flash_laws.proofs.Counts.{counted, made-short}
use Rattle.flash_laws.proofs.Conn.ReadableBytes.{readable-stays, new-other}
use Rattle.flash_laws.proofs.Moves.{dropped, made, made-received}
use Rattle.flash_laws.proofs.Lists.{not-equal, turned}
use Rattle.flash_laws.proofs.Run.Outputs.{short-output, short-chunk, receives-more, receives-end, plain-part}
use Rattle.flash_laws.proofs.Run.Outputs.{chunk-part}
use Rattle.flash_laws.proofs.Run.Pieces.{set_between}
use Rattle.flash_laws.proofs.Run.Parts.{other, no-position, new-frame, proceeds-on}
use Rattle.flash_laws.proofs.Run.Stays.{run_stays, frame-on, hired-on, reading-on, write-elsewhere}

-- a part of which nothing is sent yet
pub begun : (n : State) (w : Wanted) (a len : ℕ) (part : List ℕ) → readable_at n server a ≡ Some part
    → len ≡ length part → Has n (serve w) part (sends_part a len)
begun n w a len part is_readable size = (
  record {
    bytes = part;
    after = [];
    is_readable = is_readable;
    size = size;
    follows = refl;
    next = append-nil part;
    apart = refl;
  },
  refl,
)

module _ (steps : EachStepLeavesTheRest) (own : CallsServeTheirDomain) (m n : State) (order : IsOrderly m) (job : ℕ
    → List ℕ) (w : Wanted) where
  abbrev AfterReply : Running → Running → Reply → List ℕ → Progress → Type 0
  AfterReply x y r received before = (after : Progress) × Updates m x r received before after × HasRun job n w after y

  pub is_readable : (k : Call) (r : Reply) → StepsTo m (event.Call server k) r n → (a : ℕ) (bytes : List ℕ)
      → gives_up (event.Call server k) server a ≡ false → readable_at m server a ≡ Some bytes
      → readable_at n server a ≡ Some bytes
  is_readable k r step a bytes un is = readable-stays steps m n (event.Call server k) r step a bytes is un

  pub same : (o : Progress) (x : Running) → HasRun job m w o x → n ≡ m → HasRun job n w o x
  same o x has is = subst (λ (s : State). HasRun job s w o x) (sym is) has

  -- ---- a run begins: the pipe is made

  pub awaits : (worker : ℕ) (r : Reply) (received : List ℕ) (o : Progress) → HasJobPipe m worker
      → o ≡ nothing_yet → StepsTo m (event.Call server call.Pipe) r n
      → AfterReply AwaitingWorker (after_wait worker r) r received o
  awaits worker r received o hired fresh step = by r (own.makes_pipe m n server r step) step
    where
      by : (r : Reply) → caller.MakesPipe m server r n → StepsTo m (event.Call server call.Pipe) r n
          → AfterReply AwaitingWorker (after_wait worker r) r received o
      by (reply.Fds from write) did step = (
        o,
        refl,
        (
          (
            hired.0,
            (steps.leaves m n (event.Call server call.Pipe) (reply.Fds from write) step).fds server (worker + 1)
                (on.WriteEnd hired.0) hired.1 refl,
          ),
          (
            record {
              pipe = did.pipe;
              read_end = did.read_end;
              write_end = did.write_end;
              apart =
                  not-equal write (worker + 1) (λ e. let f = ap (λ k. descriptor m server k) e in let a =
                  did.new_writes in
                  let b = hired.1 in absurd (cc (a, b, f)));
            },
            (refl, fresh),
          ),
        ),
      )
      by (reply.Refused y) did step = (o, refl, fresh)
      by r did step = absurd did

  module _ (run : Run) (hired : HasJobPipe m run.worker) where
    -- a call that gives up no aggregate of the step, and touches no descriptor of it
    pub stay : (k : Call) (r : Reply) (o : Progress) (s : Step) → StepsTo m (event.Call server k) r n
        → ((a : ℕ) → step_agg s a ≡ true → gives_up (event.Call server k) server a ≡ false)
        → ((g : ℕ) → uses_fd (InProgress run s) g ≡ true → touches_fd m (event.Call server k) server g ≡ false)
        → HasStep job m w o run s → HasRun job n w o (InProgress run s)
    stay k r o s step un still has =
        run_stays steps job m n w (InProgress run s) (event.Call server k) r o step un still (hired, has)

    pub still-hired : (k : Call) (r : Reply) → StepsTo m (event.Call server k) r n
        → touches_fd m (event.Call server k) server (job_pipe run.worker) ≡ false → HasJobPipe n run.worker
    still-hired k r step still =
        hired-on m n run.worker
        (λ x is. (steps.leaves m n (event.Call server k) r step).fds server (job_pipe run.worker) x is still) hired

    pub still-reading : (k : Call) (r : Reply) → StepsTo m (event.Call server k) r n
        → touches_fd m (event.Call server k) server run.from ≡ false → IsReading m run → IsReading n run
    still-reading k r step still is =
        reading-on m n run (λ x e. (steps.leaves m n (event.Call server k) r step).fds server run.from x e still) is

    -- an aggregate that the next step does not use is dropped, or the call is refused
    pub drops : (a : ℕ) (s t : Step) (r : Reply) (o : Progress) → HasRun job m w o (InProgress run s)
        → step_agg t a ≡ false
        → HasStep job m w o run t
        → StepsTo m (event.Call server (call.AggDrop a)) r n
        → HasRun job n w o (InProgress run (or_stay s (on_done r t)))
    drops a s t r o has apart next step =
        dropped m n (λ z. HasRun job n w o (InProgress run z)) a r (own.drops m n server a r order step)
        (same o (InProgress run s) has)
        (stay (call.AggDrop a) r o t step (λ b u. other (λ z. step_agg t z) a b apart u) (λ g u. refl) next)

    -- ---- the job

    pub gives : (write : ℕ) (r : Reply) (o : Progress) → HasStep job m w o run (GivingPipe write)
        → StepsTo m (event.Call server (call.GiveFd write (worker_domain run.worker))) r n
        → HasRun job n w o (InProgress run (after_give write r))
    gives write r o has step =
        by r (own.gives_fd m n server write (worker_domain run.worker) (on.WriteEnd has.0.pipe) r has.0.write_end step)
        step
      where
        again : (b : Bool) → n ≡ m
            → HasRun job n w o (InProgress run (if b then GivingPipe write else ClosingPipe write))
        again true is = same o (InProgress run (GivingPipe write)) (hired, has) is
        again false is = same o (InProgress run (ClosingPipe write)) (hired, has) is

        by : (r : Reply) → caller.GivesFd m server write (worker_domain run.worker) (on.WriteEnd has.0.pipe) r n
            → StepsTo m (event.Call server (call.GiveFd write (worker_domain run.worker))) r n
            → HasRun job n w o (InProgress run (after_give write r))
        by (reply.Fd f) did step = (
          still-hired (call.GiveFd write (worker_domain run.worker)) (reply.Fd f) step has.0.apart,
          (
            still-reading (call.GiveFd write (worker_domain run.worker)) (reply.Fd f) step
                (write-elsewhere m run write has.0) (has.0.pipe, has.0.read_end),
            has.1,
          ),
        )
        by (reply.Refused y) did step = again (is_again y) did
        by r did step = absurd did

    pub makes : (f : ℕ) (r : Reply) (o : Progress) → HasStep job m w o run (MakingJob f)
        → StepsTo m (event.Call server (call.AggMake (job f))) r n → HasRun job n w o (InProgress run (after_make f r))
    makes f r o has step =
        let here = stay (call.AggMake (job f)) r o (MakingJob f) step (λ a u. refl) (λ g u. refl) has in
        made m n (λ s. HasRun job n w o (InProgress run s)) (job f) r (own.make m n server (job f) r order step)
        (same o (InProgress run (MakingJob f)) (hired, has))
        (λ x readable new. (here.0, (here.1.0, readable, here.1.1)))

    pub hands : (j f : ℕ) (r : Reply) (o : Progress) → HasStep job m w o run (WritingJob j f)
        → StepsTo m (event.Call server (call.IolWrite (job_pipe run.worker) j)) r n
        → HasRun job n w o (InProgress run (after_hand j f r))
    hands j f r o has step =
        by r (own.write_pipe m n server (job_pipe run.worker) hired.0 j (job f) r order hired.1 has.1 step) step
      where
        again : (b : Bool) → n ≡ m → HasRun job n w o (InProgress run (if b then WritingJob j f else DiscardingJob j))
        again true is = same o (InProgress run (WritingJob j f)) (hired, has) is
        again false is = same o (InProgress run (DiscardingJob j)) (hired, (has.0, (job f, has.1), has.2)) is

        by : (r : Reply) → caller.WritesPipe m hired.0 (job f) r n
            → StepsTo m (event.Call server (call.IolWrite (job_pipe run.worker) j)) r n
            → HasRun job n w o (InProgress run (after_hand j f r))
        by (reply.Count k) did step =
            let here = stay (call.IolWrite (job_pipe run.worker) j) (reply.Count k) o (WritingJob j f) step
            (λ a u. refl)
            (λ g u. no-position m (job_pipe run.worker) g (on.WriteEnd hired.0) hired.1 refl) has in
            (here.0, (here.1.0, (job f, here.1.1), here.1.2))
        by (reply.Refused y) did step = again (is_again y) did
        by r did step = absurd did

    -- ---- the head

    pub heads : (r : Reply) (received : List ℕ) (o : Progress) → HasStep job m w o run MakingHead
        → StepsTo m (event.Call server (call.AggMake (script_text w))) r n → Names n r received
        → HasRun job n w o (InProgress run (after_head r received))
    heads r received o has step names =
        let here = stay (call.AggMake (script_text w)) r o MakingHead step (λ a u. refl) (λ g u. refl) has in
        made-received m n (λ s. HasRun job n w o (InProgress run s)) (script_text w) received r
        (own.make m n server (script_text w) r order step) names (same o (InProgress run MakingHead) (hired, has))
        (λ x is receives readable new. (
          here.0,
          record {
            reads = here.1.0;
            frames = tt;
            part = script_text w;
            is_part = readable;
            has = begun n w x (count_of received) (script_text w) readable
                (ap (λ (l : List ℕ). count_of l) receives
                ∙ counted (script_text w)
                (made-short m n server x (script_text w)
                (subst (λ z. StepsTo m (event.Call server (call.AggMake (script_text w))) z n) is step)));
            within = omega arith;
            apart = refl;
            whole = has.1.0;
            continues = subst (λ (z : Progress). Continues w z (script_text w) []) (sym has.1.1) (λ more. refl);
          },
        ))

    -- ---- output is read

    -- a new aggregate is not that of the held output
    pub new-held : (held : Following) (bytes : List ℕ) (x : ℕ) → IsHeld m w held bytes → readable_at m server x ≡ None
        → has_followed held x ≡ false
    new-held None bytes x has new = refl
    new-held (Some y) bytes x has new = new-other m y.0 x bytes has.is_readable new

    -- the held output has at most the bytes of a chunk
    held-now : (a size : ℕ) (bytes : List ℕ) (frame : Option ℕ) (o : Progress) → readable_at n server a ≡ Some bytes
        → size ≡ length bytes → 0 < size
        → size ≤ CHUNK_BYTES → w.chunked ≡ true → run.broken ≡ false → IsReading n run → HasFrame n frame
        → has_frame frame a ≡ false
        → HoldsBack w o bytes → HasStep job n w o run (holding a size frame)
    held-now a size bytes frame o readable count some most chunked whole reads frames apart back =
        by (nat_lt size CHUNK_BYTES) refl
      where
        full : nat_lt size CHUNK_BYTES ≡ false → HasChunk n w o run a
        full is = record {
          reads = reads;
          bytes = bytes;
          is_readable = readable;
          count = (let le : CHUNK_BYTES ≤ size = grind (arith, nat_tests, is) in omega (arith, le, most, count));
          chunked = chunked;
          whole = whole;
          goes = back;
        }

        set : (frame : Option ℕ) → HasFrame n frame → has_frame frame a ≡ false → nat_lt size CHUNK_BYTES ≡ false
            → HasStep job n w o run (filled a frame)
        set None frames apart is = full is
        set (Some f) frames apart is = (full is, frames, apart)

        by : (b : Bool) → nat_lt size CHUNK_BYTES ≡ b
            → HasStep job n w o run (if b then ReadingOutput (Some (a, size)) frame else filled a frame)
        by true is = record {
          reads = reads;
          bytes = bytes;
          has =
              record {
                holds = record {
                  is_readable = readable;
                  count = count;
                  some = some;
                  few = grind (arith, nat_tests, is);
                  chunked = chunked;
                };
                frames = frames;
                apart = apart;
              };
          goes = proceeds-on run.broken w o bytes whole back;
        }
        by false is = set frame frames apart is

    -- if the body is not chunked, no output is held
    pub none-held : (s : State) (held : Following) (bytes : List ℕ) → IsHeld s w held bytes → w.chunked ≡ false
        → bytes ≡ []
    none-held s None bytes has plain = has
    none-held s (Some x) bytes has plain = let c = has.chunked in absurd (cc (c, plain))

    off-frame : (a : ℕ) (frame : Option ℕ) → has_frame frame a ≡ false
        → sends_frame (sends_part a 0) frame ≡ false
    off-frame a None apart = refl
    off-frame a (Some f) apart = or_from (a == f) false (turned f a apart) refl

    received-now : (held : Following) (frame : Option ℕ) (x b : ℕ) (new : List ℕ) (o : Progress)
        (h : HasReceived n w o run held frame)
        → readable_at n server x ≡ Some (b ∷ new) → length (b ∷ new) ≤ CHUNK_BYTES - held_size held
        → has_followed held x ≡ false → has_frame frame x ≡ false
        → HasStep job n w (receives_on o (b ∷ new)) run (on_output run.broken w.chunked held frame x
        (count_of (b ∷ new)))
    received-now held frame x b new o h readable short other apart =
        by run.broken w.chunked held h.has.holds h.has.apart short other refl refl h.goes
      where
        count : count_of (b ∷ new) ≡ length (b ∷ new)
        count = counted (b ∷ new) (omega (arith, short))

        by : (c d : Bool) (held : Following) → IsHeld n w held h.bytes → meets held frame ≡ false
            → length (b ∷ new) ≤ CHUNK_BYTES - held_size held
            → has_followed held x ≡ false → run.broken ≡ c → w.chunked ≡ d
            → Goes c w o h.bytes
            → HasStep job n w (receives_on o (b ∷ new)) run (on_output c d held frame x (count_of (b ∷ new)))
        by true d held holds off short other is_c is_d goes = (
          ((b ∷ new, readable), apart),
          record {
            reads = h.reads;
            bytes = [];
            has = record { holds = refl; frames = h.has.frames; apart = refl };
            goes =
                subst (λ c. Goes c w (receives_on o (b ∷ new)) []) (sym is_c)
                (subst (λ (z : Progress). receives_on z (b ∷ new) ≡ Broken) (sym goes.0) refl, refl);
          },
        )
        by false false held holds off short other is_c is_d goes =
            let none = none-held n held h.bytes holds is_d in
            record {
              reads = h.reads;
              frames = h.has.frames;
              part = b ∷ new;
              is_part = readable;
              has = begun n w x (count_of (b ∷ new)) (b ∷ new) readable count;
              within = omega arith;
              apart = off-frame x frame apart;
              whole = is_c;
              continues =
                  plain-part w (receives_on o (b ∷ new)) (b ∷ new) is_d
                  (subst (λ (l : List ℕ). HoldsBack w (receives_on o (b ∷ new)) (l ++ (b ∷ new))) none
                  (receives-more w o h.bytes b new goes));
            }
        by false true None holds off short other is_c is_d goes =
            held-now x (count_of (b ∷ new)) (b ∷ new) frame (receives_on o (b ∷ new)) readable count
            (omega (arith, count)) (omega (arith, count, short)) is_d is_c h.reads h.has.frames apart
            (subst (λ (l : List ℕ). HoldsBack w (receives_on o (b ∷ new)) (l ++ (b ∷ new))) holds
            (receives-more w o h.bytes b new goes))
        by false true (Some y) holds off short other is_c is_d goes = record {
          reads = h.reads;
          bytes = h.bytes;
          more = b ∷ new;
          has = record { holds = holds; frames = h.has.frames; apart = off };
          is_readable = readable;
          count = count;
          within = (let few = holds.few in omega (arith, few, short, count));
          other = other;
          apart = apart;
          whole = is_c;
          goes = receives-more w o h.bytes b new goes;
        }

    -- the server may not read the output: no more of the response is sent
    barred : (held : Following) (frame : Option ℕ) → IsReading m run → (bytes : List ℕ) → HasOutput m w held frame bytes
        → HasStep job m w Broken (broken run) (unread held frame)
    barred None frame reads bytes has = (
      reads,
      record {
        bytes = [];
        has = record { holds = refl; frames = has.frames; apart = refl };
        ends = (refl, refl);
      },
    )
    barred (Some x) frame reads bytes has = (
      ((bytes, has.holds.is_readable), has.apart),
      reads,
      record { bytes = []; has = record { holds = refl; frames = has.frames; apart = refl }; ends = (refl, refl) },
    )

    pub receives : (held : Following) (frame : Option ℕ) (r : Reply) (received : List ℕ) (o : Progress)
        → HasStep job m w o run (ReadingOutput held frame)
        → StepsTo m (event.Call server (call.IolRead run.from (CHUNK_BYTES - held_size held))) r n → Names n r received
        → AfterReply (InProgress run (ReadingOutput held frame)) (after_output w run held frame r received) r received o
    receives held frame r received o has step names =
        by r (own.read_pipe m n server run.from has.reads.0 (CHUNK_BYTES - held_size held) r order has.reads.1 step)
        step names
      where
        count : ℕ
        count = CHUNK_BYTES - held_size held

        -- more output, or its end
        more : (x : ℕ) (received : List ℕ) → HasJobPipe n run.worker → HasReceived n w o run held frame
            → readable_at n server x ≡ Some received → length received ≤ count
            → has_followed held x ≡ false → has_frame frame x ≡ false
            → AfterReply (InProgress run (ReadingOutput held frame))
            (after_output w run held frame (reply.Agg x) received)
            (reply.Agg x) received o
        more x [] hired here readable short off apart = (
          receives_on o [],
          refl,
          (
            hired,
            (
              (([], readable), or_from (has_followed held x) (has_frame frame x) off apart),
              here.reads,
              record { bytes = here.bytes; has = here.has; ends = receives-end run.broken w o here.bytes here.goes },
            ),
          ),
        )
        more x (b ∷ new) hired here readable short off apart =
            (receives_on o (b ∷ new), refl, (hired, received-now held frame x b new o here readable short off apart))

        by : (r : Reply) → caller.ReadsPipe m server has.reads.0 (CHUNK_BYTES - held_size held) r n
            → StepsTo m (event.Call server (call.IolRead run.from (CHUNK_BYTES - held_size held))) r n
            → Names n r received
            → AfterReply (InProgress run (ReadingOutput held frame)) (after_output w run held frame r received) r
            received o
        by (reply.Agg x) did step names =
            let here = stay (call.IolRead run.from count) (reply.Agg x) o (ReadingOutput held frame) step (λ a u. refl)
            (λ g u. no-position m run.from g (on.ReadEnd has.reads.0) has.reads.1 refl) has in
            more x received here.0 here.1 names
            (short-output (may_read m server) count (pipe_at m has.reads.0).queue did.text received did.most
            (some-inj received (bytes_of did.text) (sym names ∙ did.is_readable)))
            (new-held held has.bytes x has.has.holds did.new) (new-frame m frame x has.has.frames did.new)
        by (reply.Refused (no.Denied p)) did step names = (
          Broken,
          refl,
          subst (λ (s : State). HasJobPipe s run.worker × HasStep job s w Broken (broken run) (unread held frame))
              (sym did) (hired, barred held frame has.reads has.bytes has.has),
        )
        by (reply.Refused y) did step names =
            (o, refl, same o (InProgress run (ReadingOutput held frame)) (hired, has) did)
        by r did step names = absurd did

    pub gathers : (held size piece len : ℕ) (frame : Option ℕ) (r : Reply) (o : Progress)
        → HasStep job m w o run (JoiningOutput held size piece len frame)
        → StepsTo m (event.Call server (call.AggJoin held piece)) r n
        → HasRun job n w o (InProgress run (after_gather held size piece len frame r))
    gathers held size piece len frame r o has step =
        made m n (λ s. HasRun job n w o (InProgress run s)) (has.bytes ++ has.more) r
        (own.join m n server held piece has.bytes has.more r order has.has.holds.is_readable has.is_readable step)
        (same o (InProgress run (JoiningOutput held size piece len frame)) (hired, has)) (λ x readable new. (
          still-hired (call.AggJoin held piece) r step refl,
          held-now x (both size len) (has.bytes ++ has.more) frame o readable
              (let a = length-append has.bytes has.more in let b = has.has.holds.count in let c = has.count in
              let within = has.within in omega (arith, a, b, c, within))
              (let b = has.has.holds.some in omega (arith, b)) (let within = has.within in omega (arith, within))
              has.has.holds.chunked has.whole
              (still-reading (call.AggJoin held piece) r step refl has.reads)
              (frame-on m n frame (λ a bytes u is. is_readable (call.AggJoin held piece) r step a bytes
              (or_from (held == a) (piece == a) (other (λ z. has_frame frame z) held a has.has.apart u)
              (other (λ z. has_frame frame z) piece a has.apart u)) is) has.has.frames)
              (new-frame m frame x has.has.frames new) has.goes,
        ))

    -- ---- a chunk is made

    pub frames : (held : ℕ) (r : Reply) (o : Progress) → HasStep job m w o run (MakingFrame held)
        → StepsTo m (event.Call server (call.AggMake (frame_of CHUNK_BYTES))) r n
        → HasRun job n w o (InProgress run (after_frame held r))
    frames held r o has step =
        let here = stay (call.AggMake (frame_of CHUNK_BYTES)) r o (MakingFrame held) step (λ a u. refl) (λ g u. refl)
        has in
        made m n (λ s. HasRun job n w o (InProgress run s)) (frame_of CHUNK_BYTES) r
        (own.make m n server (frame_of CHUNK_BYTES) r order step)
        (same o (InProgress run (MakingFrame held)) (hired, has))
        (λ x readable new.
        (here.0, (here.1, readable, turned held x (new-other m held x has.bytes has.is_readable new))))

    pub wraps : (held frame : ℕ) (r : Reply) (received : List ℕ) (o : Progress)
        → HasStep job m w o run (FillingFrame held frame)
        → StepsTo m
        (event.Call server (call.AggReplace frame (place_in_frame CHUNK_BYTES) (place_in_frame CHUNK_BYTES) held)) r
        n → Names n r received
        → HasRun job n w o (InProgress run (after_wrap held frame r received))
    wraps held frame r received o has step names =
        made-received m n (λ s. HasRun job n w o (InProgress run s)) whole received r
        (own.replace m n server frame (place_in_frame CHUNK_BYTES) (place_in_frame CHUNK_BYTES) held
        (frame_of CHUNK_BYTES) has.0.bytes r order has.1 has.0.is_readable step) names
        (same o (InProgress run (FillingFrame held frame)) (hired, has)) new
      where
        whole : List ℕ
        whole = take (place_in_frame CHUNK_BYTES) (frame_of CHUNK_BYTES) ++ has.0.bytes
            ++ drop (place_in_frame CHUNK_BYTES) (frame_of CHUNK_BYTES)

        is_chunk : whole ≡ chunk has.0.bytes
        is_chunk = set_between (chunk_head CHUNK_BYTES) chunk_end has.0.bytes
            ∙ ap (λ k. chunk_head k ++ (has.0.bytes ++ chunk_end)) (sym has.0.count)

        new : (x : ℕ) → r ≡ reply.Agg x → received ≡ whole → readable_at n server x ≡ Some whole
            → readable_at m server x ≡ None
            → HasRun job n w o (InProgress run (DroppingHeld held x (count_of received) frame))
        new x is receives is_readable-whole fresh =
            let here = stay (call.AggReplace frame (place_in_frame CHUNK_BYTES) (place_in_frame CHUNK_BYTES) held) r o
            (FillingFrame held frame) step (λ a u. refl) (λ g u. refl) has in
            let readable : readable_at n server x ≡ Some (chunk has.0.bytes) = is_readable-whole
            ∙ ap (λ (l : List ℕ). Some l) is_chunk in
            let c = has.0.count in
            let few : length has.0.bytes ≤ CHUNK_BYTES = omega (arith, c) in
            let not_held = turned held x (new-other m held x has.0.bytes has.0.is_readable fresh) in
            let not_frame = turned frame x (new-other m frame x (frame_of CHUNK_BYTES) has.1 fresh) in (
              here.0,
              (
                (
                  (here.1.0.bytes, here.1.0.is_readable),
                  or_from ((x == held) || false) (frame == held) (or_from (x == held) false not_held refl) has.2,
                ),
                record {
                  reads = here.1.0.reads;
                  frames = here.1.1;
                  part = chunk has.0.bytes;
                  is_part = readable;
                  has =
                      begun n w x (count_of received) (chunk has.0.bytes) readable
                      (ap (λ (l : List ℕ). count_of l) (receives ∙ is_chunk)
                      ∙ counted (chunk has.0.bytes)
                      (short-chunk (length has.0.bytes) has.0.bytes chunk_end few (omega arith)));
                  within = omega arith;
                  apart = or_from (x == frame) false not_frame refl;
                  whole = has.0.whole;
                  continues = chunk-part w o has.0.bytes has.0.chunked has.0.count has.0.goes;
                },
              ),
            )
