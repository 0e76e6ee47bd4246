-- After the reply to its own call a run has the data for its next step: at the end of its output, and if its script
-- cannot be run.
use Rattle.std.proofs.Common.{inr, ◌≡◌, ℕ, ◌==◌, ◌≤◌, List, [], ◌++◌, length, take, drop, ap, ◌∙◌, refl, sym, subst}
use Rattle.std.proofs.Common.{arith, Option, Some, None, true, false, Bool}
use Rattle.std.specs.Prelude.{not}
use Rattle.std.proofs.lemmas.Bool.{or_from}
use Rattle.std.proofs.lemmas.Bool.Decides.{nat_tests}
use Rattle.iol_core.specs.State.{State}
use Rattle.iol_core.specs.Run.{StepsTo}
use Rattle.iol_core.specs.Values.{gives_up}
use Rattle.iol_core.specs.declared.events.Call.{Call}
use Rattle.iol_core.specs.declared.events.Call.TheVariants as call
use Rattle.iol_core.specs.declared.events.Event.TheVariants as event
use Rattle.iol_core.specs.declared.events.Reply.{Reply}
use Rattle.iol_core.specs.declared.events.Reply.TheVariants as reply
use Rattle.iol_laws.specs.Frame.{EachStepLeavesTheRest, touches_fd}
use Rattle.iol_laws.specs.Order.{IsOrderly}
use Rattle.iol_laws.specs.Caller as caller
use Rattle.iol_laws.specs.Caller.{CallsServeTheirDomain, readable_at}
use Rattle.flash_http.specs.Chunk.{chunk_head, chunk_end, last_chunk}
use Rattle.flash_http.specs.Request.{Wanted}
use Rattle.flash_laws.specs.Answers.{error_text}
use Rattle.flash_laws.specs.Conn.{Following, has_followed, count_of}
use Rattle.flash_laws.specs.Conn.Fits.{Names}
use Rattle.flash_laws.specs.Run.Fits.{Progress, Ran, Broken, NotRun, IsLeft, Ends, HasJobPipe, IsReading, IsHeld, meets}
use Rattle.flash_laws.specs.Run.Fits.{HasAll, HasStep, HasNone, HasRun}
use Rattle.flash_laws.specs.Run.OfferedBytes.{Updates}
use Rattle.flash_laws.specs.Run.{job_pipe, step_agg, uses_fd, finishing, stopped, after_stop, after_release_frame}
use Rattle.flash_laws.specs.Run.{ending, after_last, after_wrap_last, after_unwrap, after_return, after_fail}
use Rattle.flash_laws.specs.Run.{sends_part}
use Rattle.flash_laws.specs.Answers.Scripts.{script_body, place_in_frame, end_around}
use Rattle.flash_laws.specs.Site.{server}
use Rattle.flash_laws.specs.declared.script_run.TheConstants.{CHUNK_BYTES}
use Rattle.flash_laws.specs.declared.script_run.Run.{Run}
use Rattle.flash_laws.specs.declared.script_run.Step.{Step}
use Rattle.flash_laws.specs.declared.script_run.Step.TheVariants.{ClosingOutput, DroppingFrame, MakingEnd, FillingEnd}
use Rattle.flash_laws.specs.declared.script_run.Step.TheVariants.{DroppingLast, DroppingLastFrame}
use Rattle.flash_laws.specs.declared.script_run.Step.TheVariants.{ClosingPipe, Failing}
use Rattle.flash_laws.specs.declared.script_run.Running.{Running}
use Rattle.flash_laws.specs.declared.script_run.Running.TheVariants.{InProgress, Finishing, Disconnecting}
use Rattle.flash_laws.proofs.Counts.{counted, made-short}
use Rattle.flash_laws.proofs.Conn.ReadableBytes.{new-other}
use Rattle.flash_laws.proofs.Moves.{dropped, closed, made-received}
use Rattle.flash_laws.proofs.Lists.{turned}
use Rattle.flash_laws.proofs.Run.Outputs.{short-chunk, last-left}
use Rattle.flash_laws.proofs.Run.Pieces.{set_between}
use Rattle.flash_laws.proofs.Run.Stays.{held-on, has-all-on, ends-differ, write-elsewhere}
use Rattle.flash_laws.proofs.Run.Steps as acts
use Rattle.flash_laws.proofs.Run.Steps.{begun}

module _ (steps : EachStepLeavesTheRest) (own : CallsServeTheirDomain) (m n : State) (order : IsOrderly m) (job : ℕ
    → List ℕ) (w : Wanted) where
  abbrev AfterReply : Running → Running → Reply → List ℕ → Progress → Type 0
  AfterReply x y r received before = (after : Progress) × Updates m x r received before after × HasRun job n w after y

  -- ---- lemmas about these states

  is_readable : (k : Call) (r : Reply) → StepsTo m (event.Call server k) r n → (a : ℕ) (bytes : List ℕ)
      → gives_up (event.Call server k) server a ≡ false → readable_at m server a ≡ Some bytes
      → readable_at n server a ≡ Some bytes
  is_readable = acts.is_readable steps own m n order job w

  same : (o : Progress) (x : Running) → HasRun job m w o x → n ≡ m → HasRun job n w o x
  same = acts.same steps own m n order job w

  module _ (run : Run) (hired : HasJobPipe m run.worker) where
    stay : (k : Call) (r : Reply) (o : Progress) (s : Step) → StepsTo m (event.Call server k) r n
        → ((a : ℕ) → step_agg s a ≡ true → gives_up (event.Call server k) server a ≡ false)
        → ((g : ℕ) → uses_fd (InProgress run s) g ≡ true → touches_fd m (event.Call server k) server g ≡ false)
        → HasStep job m w o run s → HasRun job n w o (InProgress run s)
    stay = acts.stay steps own m n order job w run hired

    still-hired : (k : Call) (r : Reply) → StepsTo m (event.Call server k) r n
        → touches_fd m (event.Call server k) server (job_pipe run.worker) ≡ false → HasJobPipe n run.worker
    still-hired = acts.still-hired steps own m n order job w run hired

    still-reading : (k : Call) (r : Reply) → StepsTo m (event.Call server k) r n
        → touches_fd m (event.Call server k) server run.from ≡ false → IsReading m run → IsReading n run
    still-reading = acts.still-reading steps own m n order job w run hired

    new-held : (held : Following) (bytes : List ℕ) (x : ℕ) → IsHeld m w held bytes → readable_at m server x ≡ None
        → has_followed held x ≡ false
    new-held = acts.new-held steps own m n order job w run hired

    none-held : (s : State) (held : Following) (bytes : List ℕ) → IsHeld s w held bytes → w.chunked ≡ false → bytes ≡ []
    none-held = acts.none-held steps own m n order job w run hired

    -- ---- the end

    -- without chunks nothing is left; with chunks the end of the body is left
    finishes : (b c : Bool) (held : Following) (bytes : List ℕ) (o : Progress) → HasJobPipe n run.worker
        → run.broken ≡ b → w.chunked ≡ c
        → IsHeld n w held bytes → Ends run.broken w o bytes → HasRun job n w o (finishing b c run held)
    finishes false true held bytes o hired whole chunked holds ends = (
      hired,
      (
        chunked,
        whole,
        record {
          bytes = bytes;
          has = record { holds = holds; frames = tt; apart = none held };
          ends = ends;
        },
      ),
    )
      where
        none : (held : Following) → meets held None ≡ false
        none None = refl
        none (Some x) = refl
    finishes false false held bytes o hired whole plain holds ends =
        over o (subst (λ b. Ends b w o bytes) whole ends)
      where
        none : script_body w.chunked bytes ≡ []
        none = ap (λ c. script_body c bytes) plain ∙ none-held n held bytes holds plain

        over : (o : Progress) → IsLeft w o (script_body w.chunked bytes) → HasNone w o
        over (Ran received ended past) left =
            (subst (λ (l : List ℕ). IsLeft w (Ran received ended past) l) none left, inr plain)
        over Broken left = absurd left
        over (NotRun status past) left = (subst (λ (l : List ℕ). IsLeft w (NotRun status past) l) none left, inr plain)
    finishes true c held bytes o hired gone chunked holds ends =
        subst (λ (z : Progress). HasRun job n w z Disconnecting) (sym (subst (λ b. Ends b w o bytes) gone ends).0) tt

    pub stops : (held : Following) (frame : Option ℕ) (r : Reply) (o : Progress)
        → HasStep job m w o run (ClosingOutput held frame)
        → StepsTo m (event.Call server (call.Close run.from)) r n → HasRun job n w o (after_stop w run held frame r)
    stops held frame r o has step =
        closed m n (HasRun job n w o) run.from r (own.closes m n server run.from r step)
        (same o (InProgress run (ClosingOutput held frame)) (hired, has))
        (next frame
        (still-hired (call.Close run.from) r step
        (ends-differ m run.from (job_pipe run.worker) has.0.0 hired.0 has.0.1 hired.1))
        (has-all-on m n w o run held frame (λ a bytes u is. is_readable (call.Close run.from) r step a bytes refl is)
        has.1))
      where
        next : (frame : Option ℕ) → HasJobPipe n run.worker → HasAll n w o run held frame
            → HasRun job n w o (stopped w run held frame)
        next None hired all = finishes run.broken w.chunked held all.bytes o hired refl refl all.has.holds all.ends
        next (Some f) hired all = (hired, all)

    pub unframes : (f : ℕ) (held : Following) (r : Reply) (o : Progress) → HasStep job m w o run (DroppingFrame f held)
        → StepsTo m (event.Call server (call.AggDrop f)) r n → HasRun job n w o (after_release_frame w run f held r)
    unframes f held r o has step =
        dropped m n (HasRun job n w o) f r (own.drops m n server f r order step)
        (same o (InProgress run (DroppingFrame f held)) (hired, has))
        (finishes run.broken w.chunked held has.bytes o (still-hired (call.AggDrop f) r step refl) refl refl
        (held-on m n w held has.bytes
        (λ a bytes u is. is_readable (call.AggDrop f) r step a bytes (off held has.has.apart a u) is) has.has.holds)
        has.ends)
      where
        off : (held : Following) → meets held (Some f) ≡ false → (a : ℕ) → has_followed held a ≡ true → (f == a) ≡ false
        off None is a u = absurd (cc (u))
        off (Some x) is a u = let e : x.0 ≡ a = grind (arith, nat_tests, u) in subst (λ z. (f == z) ≡ false) e is

    -- the end of the body is made
    pub lasts : (held : Following) (r : Reply) (received : List ℕ) (o : Progress)
        → HasStep job m w o run (MakingEnd held)
        → StepsTo m (event.Call server (call.AggMake (end_around held))) r n → Names n r received
        → HasRun job n w o (after_last run held r received)
    lasts held r received o has step names =
        made-received m n (HasRun job n w o) (end_around held) received r
        (own.make m n server (end_around held) r order step) names
        (same o (InProgress run (MakingEnd held)) (hired, has))
        (λ x is receives readable new.
        let short =
        made-short m n server x (end_around held)
        (subst (λ z. StepsTo m (event.Call server (call.AggMake (end_around held))) z n) is step) in
        last o held x (count_of received) here.0
        (held-on m n w held has.2.bytes (λ a bytes u is. is_readable (call.AggMake (end_around held)) r step a bytes
        refl is) has.2.has.holds) (new-held held has.2.bytes x has.2.has.holds new) readable
        (ap (λ (l : List ℕ). count_of l) receives ∙ counted (end_around held) short) is_left)
      where
        here : HasRun job n w o (InProgress run (MakingEnd held))
        here = stay (call.AggMake (end_around held)) r o (MakingEnd held) step (λ a u. refl) (λ g u. refl) has

        is_left : IsLeft w o (script_body true has.2.bytes)
        is_left =
            subst (λ c. IsLeft w o (script_body c has.2.bytes)) has.0
            (subst (λ b. Ends b w o has.2.bytes) has.1 has.2.ends)

        last : (o : Progress) (held : Following) (x len : ℕ) → HasJobPipe n run.worker → IsHeld n w held has.2.bytes
            → has_followed held x ≡ false → readable_at n server x ≡ Some (end_around held)
            → len ≡ length (end_around held) → IsLeft w o (script_body true has.2.bytes)
            → HasRun job n w o (ending run held x len)
        last o None x len hired holds off readable count left = record {
          expected = last_chunk;
          left = subst (λ (l : List ℕ). IsLeft w o (script_body true l)) holds left;
          has = begun n w x len last_chunk readable count;
          sends = (readable, omega arith);
        }
        last o (Some y) x len hired holds off readable count left = (
          hired,
          record {
            bytes = has.2.bytes;
            holds = holds;
            frames = readable;
            apart = turned y.0 x off;
            left = left;
          },
        )

    pub wraps_last : (held size frame : ℕ) (r : Reply) (received : List ℕ) (o : Progress)
        → HasStep job m w o run (FillingEnd held size frame)
        → StepsTo m (event.Call server (call.AggReplace frame (place_in_frame size) (place_in_frame size) held)) r n
        → Names n r received
        → HasRun job n w o (InProgress run (after_wrap_last held size frame r received))
    wraps_last held size frame r received o has step names =
        made-received m n (λ s. HasRun job n w o (InProgress run s)) whole received r
        (own.replace m n server frame (place_in_frame size) (place_in_frame size) held
        (end_around (Some (held, size))) has.bytes r order has.frames has.holds.is_readable step) names
        (same o (InProgress run (FillingEnd held size frame)) (hired, has)) new
      where
        whole : List ℕ
        whole = take (place_in_frame size) (end_around (Some (held, size))) ++ has.bytes
            ++ drop (place_in_frame size) (end_around (Some (held, size)))

        chunked : List ℕ
        chunked = chunk_head size ++ (has.bytes ++ (chunk_end ++ last_chunk))

        is_chunk : whole ≡ chunked
        is_chunk = set_between (chunk_head size) (chunk_end ++ last_chunk) has.bytes

        new : (x : ℕ) → r ≡ reply.Agg x → received ≡ whole → readable_at n server x ≡ Some whole
            → readable_at m server x ≡ None
            → HasRun job n w o (InProgress run (DroppingLast held x (count_of received) frame))
        new x is receives readable fresh =
            let here = stay (call.AggReplace frame (place_in_frame size) (place_in_frame size) held) r o
            (FillingEnd held size frame) step (λ a u. refl) (λ g u. refl) has in
            let c = has.holds.count in
            let f = has.holds.few in
            let few : length has.bytes ≤ CHUNK_BYTES = omega (arith, c, f) in (
              here.0,
              (
                (
                  (here.1.bytes, here.1.holds.is_readable),
                  or_from (frame == held) (x == held) has.apart
                      (turned held x (new-other m held x has.bytes has.holds.is_readable fresh)),
                ),
                (
                  (end_around (Some (held, size)), here.1.frames),
                  turned frame x (new-other m frame x (end_around (Some (held, size))) has.frames fresh),
                ),
                record {
                  bytes = chunked;
                  is_readable = readable ∙ ap (λ (l : List ℕ). Some l) is_chunk;
                  count = ap (λ (l : List ℕ). count_of l) (receives ∙ is_chunk)
                      ∙ counted chunked (short-chunk size has.bytes (chunk_end ++ last_chunk) few (omega arith));
                  left = last-left w o has.bytes size has.holds.count has.holds.some has.holds.few has.left;
                },
              ),
            )

    pub unwraps : (frame a len : ℕ) (r : Reply) (o : Progress) → HasStep job m w o run (DroppingLastFrame frame a len)
        → StepsTo m (event.Call server (call.AggDrop frame)) r n → HasRun job n w o (after_unwrap run frame a len r)
    unwraps frame a len r o has step =
        dropped m n (HasRun job n w o) frame r (own.drops m n server frame r order step)
        (same o (InProgress run (DroppingLastFrame frame a len)) (hired, has))
        (over o has.1.bytes has.1.left (is_readable (call.AggDrop frame) r step a has.1.bytes (turned a frame has.0.1)
        has.1.is_readable) has.1.count)
      where
        over : (o : Progress) (bytes : List ℕ) → IsLeft w o bytes → readable_at n server a ≡ Some bytes
            → len ≡ length bytes → HasRun job n w o (Finishing (sends_part a len))
        over o bytes left readable count =
            record {
              expected = bytes;
              left = left;
              has = begun n w a len bytes readable count;
              sends = (readable, omega arith);
            }

    -- ---- a script that cannot be run

    pub returns : (write : ℕ) (r : Reply) (o : Progress) → HasStep job m w o run (ClosingPipe write)
        → StepsTo m (event.Call server (call.Close write)) r n
        → HasRun job n w o (InProgress run (after_return write r))
    returns write r o has step =
        closed m n (λ s. HasRun job n w o (InProgress run s)) write r (own.closes m n server write r step)
        (same o (InProgress run (ClosingPipe write)) (hired, has)) (
          still-hired (call.Close write) r step has.0.apart,
          (
            still-reading (call.Close write) r step (write-elsewhere m run write has.0) (has.0.pipe, has.0.read_end),
            has.1,
          ),
        )

    pub fails : (r : Reply) (received : List ℕ) (o : Progress) → HasStep job m w o run Failing
        → StepsTo m (event.Call server (call.Close run.from)) r n
        → AfterReply (InProgress run Failing) (after_fail run r) r received o
    fails r received o has step = by r (own.closes m n server run.from r step)
      where
        by : (r : Reply) → caller.Closes m server run.from r n
            → AfterReply (InProgress run Failing) (after_fail run r) r received o
        by reply.Done did = (
          NotRun 503 [],
          refl,
          record { expected = error_text 503 w.head_only (not w.keep); left = refl; has = refl; sends = tt },
        )
        by (reply.Refused y) did = (o, refl, same o (InProgress run Failing) (hired, has) did)
        by r did = absurd did
