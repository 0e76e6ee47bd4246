-- The bytes offered to a client are the next bytes of the response, for a file and for a script.
use Rattle.std.proofs.Common.{inl, inr, ◌≡◌, ℕ, ◌+◌, ◌⊎◌, List, [], drop, ap, ◌∙◌, refl, sym, subst, Option, Some, None}
use Rattle.std.proofs.Common.{true, false, Bool, zero-add, if◌then◌else◌}
use Rattle.iol_core.specs.Access.{HasAccess}
use Rattle.iol_core.specs.State.{State, descriptor, is_live}
use Rattle.iol_core.specs.Run.{StepsTo}
use Rattle.iol_core.specs.Values.{gives_up}
use Rattle.iol_core.specs.declared.descriptors.Descriptor.TheVariants as on
use Rattle.iol_core.specs.declared.descriptors.Mode.TheVariants as modes
use Rattle.iol_core.specs.declared.events.Call.{Call}
use Rattle.iol_core.specs.declared.events.Call.TheVariants as call
use Rattle.iol_core.specs.declared.events.Event.{Event}
use Rattle.iol_core.specs.declared.events.Event.TheVariants as event
use Rattle.iol_core.specs.declared.events.Reply.{Reply}
use Rattle.iol_laws.specs.Caller.{CallsServeTheirDomain}
use Rattle.iol_laws.specs.CallerFiles.{FileCallsServeTheirDomain}
use Rattle.iol_laws.specs.Frame.{EachStepLeavesTheRest, touches_fd}
use Rattle.iol_laws.specs.Order.{IsOrderly}
use Rattle.iol_laws.specs.RefusalsLeft.{RefusalsThatAreLeft}
use Rattle.flash_http.specs.Request.{Answer, serve, refuse, Wanted}
use Rattle.flash_laws.specs.Answers.{Outcome, response, script_text}
use Rattle.flash_laws.specs.Client.{Client, uses_agg, uses_fd, is_for_script, conn_call, job_of, next_call}
use Rattle.flash_laws.specs.Client.{file_after_reply, keeps_text, text_on, after_run, proceeds, run_after_reply, run_on}
use Rattle.flash_laws.specs.Client.{after_reply, awaits}
use Rattle.flash_laws.specs.Client.OfferedBytes.{begun, is_ending, Updates, taken_by, HandsJob, IsAsItsConn, IsAsItsRun}
use Rattle.flash_laws.specs.Client.OfferedBytes.{ClientsAreOfferedTheResponse}
use Rattle.flash_laws.specs.Conn as conn
use Rattle.flash_laws.specs.Conn.{Conn, most_read}
use Rattle.flash_laws.specs.declared.phase.Phase.{Phase}
use Rattle.flash_laws.specs.declared.phase.Phase.TheVariants.{Receiving, Opening, Reading as Reading, SendingWhole}
use Rattle.flash_laws.specs.declared.phase.Phase.TheVariants.{SendingPiece, Disconnecting}
use Rattle.flash_laws.specs.declared.script_run.Step.TheVariants as act
use Rattle.flash_laws.specs.declared.script_run.Running.{Running}
use Rattle.flash_laws.specs.declared.script_run.Running.TheVariants.{InProgress, Finishing}
use Rattle.flash_laws.specs.Conn.Fits.{Has, Names}
use Rattle.flash_laws.specs.Client.ResponseState as known
use Rattle.flash_laws.specs.Client.ResponseState.{Known, OfFile, OfScript, MaySendOutput, IsNextOf, is_read, is_silent}
use Rattle.flash_laws.specs.Client.ResponseState.{IsAfter, HasNoRun, IsRun, HasKnown}
use Rattle.flash_laws.specs.Conn.OfferedBytes as single
use Rattle.flash_laws.specs.Run.Fits.{Progress, HasJobPipe, HasRun}
use Rattle.flash_laws.specs.Run.OfferedBytes.{past_of, IsNextOf as IsNextOfRun, taken_by as taken_by_run}
use Rattle.flash_laws.specs.Run as running
use Rattle.flash_laws.specs.Run.{in_phase, is_over, job_pipe}
use Rattle.flash_laws.specs.Site.{server}
use Rattle.flash_laws.proofs.Forms.{at, of as client}
use Rattle.flash_laws.proofs.Client.Alone.{no-text, of-file, of-script}
use Rattle.flash_laws.proofs.Client.DoneCalls.{client-moves}
use Rattle.flash_laws.proofs.Client.Progress.{rank, client-nears}
use Rattle.flash_laws.proofs.Client.Frame.{client-whole, client-keeps}
use Rattle.flash_laws.proofs.Client.TakenBytes.{client-takes}
use Rattle.flash_laws.proofs.Client.Phases.{Next, written_fd, written, next-expected, script-writes}
use Rattle.flash_laws.proofs.Conn.ReadableBytes.{readable-stays, has-stays}
use Rattle.flash_laws.proofs.Run.Ends.{IsEnd, run-ends, run-after, keeps-back, call-text}
use Rattle.flash_laws.proofs.Run.OfferedBytes.{part-next, left-next}
use Rattle.flash_laws.proofs.Run.OfferedBytes as running_on
use Rattle.flash_laws.proofs.Run.Stays.{run_stays}

-- ---- a request begins

starts : (scripts : Bool) (m : State) (fd : ℕ) (buffered : List ℕ) (q : Answer) (o : Outcome)
    → single.FirstCall q (next_call scripts fd (begun buffered q)) × HasKnown scripts m (begun buffered q) (OfFile o)
starts scripts m fd buffered (serve w) o =
    (opens (is_for_script scripts (serve w)), record { none = refl; unread = refl; has = tt })
  where
    opens : (b : Bool) → conn_call b fd (at buffered (serve w) Opening) ≡ call.OpenFile w.name modes.Read
    opens true = refl
    opens false = refl
starts scripts m fd buffered (refuse status head_only close) o =
    (refl, record { none = refl; unread = refl; has = refl })

-- ---- a reply to a run

-- once a run is over, the machine has the data of a client without a run
end-has : (scripts : Bool) (n : State) (w : Wanted) (buffered text : List ℕ) (o : Progress) (d : Phase)
    → w.head_only ≡ false → IsEnd d × IsAfter w o d
    → HasNoRun scripts n w (client (at buffered (serve w) d) None []) text o
end-has scripts n w buffered text o d answers ends = elim ends.0 [
  | inl rests ↦ subst (λ (e : Phase). HasNoRun scripts n w (client (at buffered (serve w) e) None []) text o)
      (sym rests)
      (record {
        script = λ read. absurd (cc (read));
        read = refl;
        has = tt;
        sends = sent Receiving refl refl (subst (λ (e : Phase). IsAfter w o e) rests ends.1);
      })
  | inr closes ↦ subst (λ (e : Phase). HasNoRun scripts n w (client (at buffered (serve w) e) None []) text o)
      (sym closes)
      (record {
        script = λ read. absurd (cc (read));
        read = refl;
        has = tt;
        sends = sent Disconnecting refl refl (subst (λ (e : Phase). IsAfter w o e) closes ends.1);
      })
]
  where
    sent : (e : Phase) → is_silent e ≡ true → is_read e ≡ false → IsAfter w o e
        → known.Sends w.head_only w (client (at buffered (serve w) e) None []) text o
    sent e silent unread after =
        subst (λ h. known.Sends h w (client (at buffered (serve w) e) None []) text o) (sym answers)
        (silent, no-text (is_read e) w (client (at buffered (serve w) e) None []) text o unread after)

run-has : (scripts : Bool) (n : State) (w : Wanted) (buffered : List ℕ) (d : Phase) (script text : List ℕ)
    (y z : Running)
    (o : Progress)
    → w.head_only ≡ false → is_over y ≡ false → (is_over z ≡ true → IsEnd (after_run z) × IsAfter w o (after_run z))
    → (keeps_text z ≡ true → keeps_text y ≡ true)
    → (keeps_text y ≡ true → script ≡ text) → HasRun (job_of w text) n w o z
    → HasKnown scripts n (run_on (client (at buffered (serve w) d) (Some y) script) y z) (OfScript text o)
run-has scripts n w buffered d script text y z o answers going ends back same has =
    subst (λ b. HasKnown scripts n (proceeds b (is_over z) x y z) (OfScript text o)) (sym going) (by (is_over z) refl)
  where
    x : Client
    x = client (at buffered (serve w) d) (Some y) script

    texts : (a b : Bool) → (a ≡ true → script ≡ text) → (b ≡ true → a ≡ true) → b ≡ true → text_on a b script ≡ text
    texts a true same back is = by_a a same (back refl)
      where
        by_a : (a : Bool) → (a ≡ true → script ≡ text) → a ≡ true → text_on a true script ≡ text
        by_a true same is = same refl
        by_a false same is = absurd (cc (is))
    texts a false same back is = absurd (cc (is))

    by : (over : Bool) → is_over z ≡ over
        → HasKnown scripts n (proceeds false over (client (at buffered (serve w) d) (Some y) script) y z)
        (OfScript text o)
    by true is = end-has scripts n w buffered text o (after_run z) answers (ends is)
    by false is =
        record { answers = answers; has = has; buffered = λ keeps. texts (keeps_text y) (keeps_text z) same back keeps }

module _ (steps : EachStepLeavesTheRest) (own : CallsServeTheirDomain) (scripts : Bool) (m n : State)
    (order : IsOrderly m) (fd c : ℕ)
    (open_on : descriptor m server fd ≡ Some (on.Connection c)) (buffered : List ℕ) (d : Phase) (script : List ℕ) where
  abbrev AfterReplyOfRun : (worker : ℕ) → Answer → Running → Reply → (received : List ℕ) → Known → Type 0
  AfterReplyOfRun worker q y r received before =
      (after : Known) × Updates scripts m (client (at buffered q d) (Some y) script) r received before after
      × HasKnown scripts n (run_after_reply worker q (client (at buffered q d) (Some y) script) y r received) after

  run-on : (worker : ℕ) (w : Wanted) (y : Running) (r : Reply) (received : List ℕ) (text : List ℕ) (o : Progress)
      → (awaits (client (at buffered (serve w) d) (Some y) script) ≡ true → HasJobPipe m worker) → is_over y ≡ false
      → IsRun m w y script text o → StepsTo m (event.Call server (running.next_call (job_of w script) fd w y)) r n
      → Names n r received
      → AfterReplyOfRun worker (serve w) y r received (OfScript text o)
  run-on worker w y r received text o hired going has step names =
      let got = running_on.replied steps own m n order (job_of w text) w fd c worker y r received o open_on
      (λ waits. hired (ap (λ (z : Running). awaits (client (at buffered (serve w) d) (Some z) script)) waits)) going
      has.has
      (subst (λ (k : Call). StepsTo m (event.Call server k) r n) (call-text fd w y script text has.buffered) step)
      names in (
        OfScript text got.0,
        (got.0, got.1, refl),
        run-has scripts n w buffered d script text y (running.after_reply worker w y r received) got.0 has.answers going
            (λ over. (
              run-ends (job_of w text) n w got.0 (running.after_reply worker w y r received) got.2 over,
              run-after (job_of w text) n w got.0 (running.after_reply worker w y r received) got.2 over,
            ))
            (keeps-back worker w y r received) has.buffered got.2,
      )

-- ---- any reply

replied : EachStepLeavesTheRest → CallsServeTheirDomain → FileCallsServeTheirDomain
    → (scripts : Bool) (m n : State) (fd c worker : ℕ)
    (buffered : List ℕ) (q : Answer) (d : Phase) (run : Option Running) (script : List ℕ) (r : Reply)
    (received : List ℕ)
    (before : Known)
    → IsOrderly m → HasAccess m → is_live m server ≡ true → descriptor m server fd ≡ Some (on.Connection c)
    → (awaits (client (at buffered q d) run script) ≡ true → HasJobPipe m worker)
    → is_ending (client (at buffered q d) run script) ≡ false
    → HasKnown scripts m (client (at buffered q d) run script) before
    → StepsTo m (event.Call server (next_call scripts fd (client (at buffered q d) run script))) r n
    → Names n r received
    → (after : Known) × Updates scripts m (client (at buffered q d) run script) r received before after
    × HasKnown scripts n (after_reply scripts worker (client (at buffered q d) run script) r received) after
replied steps own files scripts m n fd c worker buffered q d None script r received (OfFile o) order access lives
    open_on
    hired going has step names =
    of-file steps own files scripts m n order access lives fd c open_on buffered script q d r received o
    (is_for_script scripts q) refl going has step names
replied steps own files scripts m n fd c worker buffered q d (Some y) script r received (OfFile o) order access lives
    open_on hired going has step names = absurd (let none = has.none in cc (none))
replied steps own files scripts m n fd c worker buffered (refuse status head_only close) d run script r received
    (OfScript text o) order access lives open_on hired going has step names = absurd has
replied steps own files scripts m n fd c worker buffered (serve w) d None script r received (OfScript text o) order
    access
    lives open_on hired going has step names =
    of-script steps own files scripts m n order access lives fd c open_on buffered script w text o r received d
    (is_for_script scripts (serve w)) refl going has step names
replied steps own files scripts m n fd c worker buffered (serve w) d (Some y) script r received (OfScript text o) order
    access lives open_on hired going has step names =
    run-on steps own scripts m n order fd c open_on buffered d script worker w y r received text o hired going has step
    names

-- ---- calls and events of others

stays : EachStepLeavesTheRest
    → (scripts : Bool) (m n : State) (buffered : List ℕ) (q : Answer) (d : Phase) (run : Option Running)
    (script : List ℕ)
    (e : Event) (r : Reply) (known : Known)
    → StepsTo m e r n
    → ((a : ℕ) → uses_agg (client (at buffered q d) run script) a ≡ true → gives_up e server a ≡ false)
    → ((g : ℕ) → uses_fd (client (at buffered q d) run script) g ≡ true → touches_fd m e server g ≡ false)
    → HasKnown scripts m (client (at buffered q d) run script) known
    → HasKnown scripts n (client (at buffered q d) run script) known
stays steps scripts m n buffered q d None script e r (OfFile o) step aggs fds has = record {
  none = has.none;
  unread = has.unread;
  has = has-stays m n q (response q o) d (λ a l u readable. readable-stays steps m n e r step a l readable (aggs a u))
      (λ g y u opens. (steps.leaves m n e r step).fds server g y opens (fds g u)) has.has;
}
stays steps scripts m n buffered q d (Some y) script e r (OfFile o) step aggs fds has =
    absurd (let none = has.none in cc (none))
stays steps scripts m n buffered (refuse status head_only close) d run script e r (OfScript text o) step aggs fds has =
    absurd has
stays steps scripts m n buffered (serve w) d None script e r (OfScript text o) step aggs fds has = record {
  script = has.script;
  read = has.read;
  has =
      has-stays m n (serve w) (script_text w) d
      (λ a l u readable. readable-stays steps m n e r step a l readable (aggs a u))
      (λ g y u opens. (steps.leaves m n e r step).fds server g y opens (fds g u)) has.has;
  sends = has.sends;
}
stays steps scripts m n buffered (serve w) d (Some y) script e r (OfScript text o) step aggs fds has = record {
  answers = has.answers;
  has = run_stays steps (job_of w text) m n w y e r o step aggs fds has.has;
  buffered = has.buffered;
}

-- ---- offered bytes

abbrev Writes : (scripts : Bool) → State → (fd g a : ℕ) → Client → Known → Type 0
Writes scripts m fd g a x known = ((g ≡ fd) × IsNextOf m x.conn.request known a (taken_by x)) ⊎ HandsJob x g a

-- if only one response is possible, its next bytes are the next of each possible response
one-next : (m : State) (q : Answer) (k : Known) (expected : List ℕ) (a taken : ℕ) → known.taken_before k ≡ 0
    → ((r : List ℕ) → known.MayAnswer q k r → r ≡ expected)
    → Next m expected a taken → IsNextOf m q k a taken
one-next m q k expected a taken none may next = record {
  bytes = next.0;
  is_readable = next.2;
  next =
      λ r is. (
        next.1,
        next.3
            ∙ (ap (λ j. drop j expected) (sym (zero-add taken))
            ∙ (ap (λ j. drop (j + taken) expected) (sym none)
            ∙ ap (λ (l : List ℕ). drop (known.taken_before k + taken) l) (sym (may r is)))),
      );
}

-- a phase that sends nothing makes no call that writes
silent-writes : (fd g a : ℕ) (buffered : List ℕ) (q : Answer) (d : Phase) → is_silent d ≡ true
    → conn.next_call fd (at buffered q d) ≡ call.IolWrite g a → ⊥
silent-writes fd g a buffered q (SendingWhole s) silent is = cc (silent)
silent-writes fd g a buffered q (SendingPiece s piece) silent is = cc (silent)
silent-writes fd g a buffered q (Reading f) silent is = cc (silent)
silent-writes fd g a buffered q d silent is = cc (is)

-- a phase that sends writes to its own connection
own-fd : (fd g a : ℕ) (w : Wanted) (d : Phase) → conn.next_call fd (in_phase w d) ≡ call.IolWrite g a → g ≡ fd
own-fd fd g a w (SendingWhole s) is = sym (ap (λ k. written_fd k fd) is)
own-fd fd g a w (SendingPiece s piece) is = sym (ap (λ k. written_fd k fd) is)
own-fd fd g a w (Reading f) is = absurd (by w.head_only is)
  where
    by : (b : Bool) → (if b then call.Length f else call.IolRead f most_read) ≡ call.IolWrite g a → ⊥
    by true is = cc (is)
    by false is = cc (is)
own-fd fd g a w d is = absurd (cc (is))

-- the next bytes of the run's response are the next bytes of the response to the request
known-next : (m : State) (w : Wanted) (d : Phase) (buffered text : List ℕ) (o : Progress) (a taken : ℕ)
    → w.head_only ≡ false → IsNextOfRun m w o a taken
    → IsNextOf m (serve w) (OfScript text o) a taken
known-next m w d buffered text o a taken answers next = record {
  bytes = next.bytes;
  is_readable = next.is_readable;
  next = λ r may. next.next r (subst (λ h. MaySendOutput h w o r) answers may);
}

run-writes : (scripts : Bool) (m : State) (fd g a : ℕ) (buffered : List ℕ) (w : Wanted) (d : Phase) (y : Running)
    (script text : List ℕ) (o : Progress)
    → IsRun m w y script text o → running.next_call (job_of w script) fd w y ≡ call.IolWrite g a
    → Writes scripts m fd g a (client (at buffered (serve w) d) (Some y) script) (OfScript text o)
run-writes scripts m fd g a buffered w d (InProgress run (act.WritingJob j f)) script text o has is =
    inr (sym (ap (λ k. written_fd k (job_pipe run.worker)) is), sym (ap (λ k. written k j) is))
run-writes scripts m fd g a buffered w d (InProgress run (act.SendingPart e frame)) script text o has is =
    let own = own-fd fd g a w e is in
    inl (
      own,
      known-next m w d buffered text o a (taken_by_run (InProgress run (act.SendingPart e frame))) has.answers
          (part-next m fd a w o run e frame has.has.1 (is ∙ ap (λ k. call.IolWrite k a) own)),
    )
run-writes scripts m fd g a buffered w d (Finishing e) script text o has is =
    let own = own-fd fd g a w e is in
    inl (
      own,
      known-next m w d buffered text o a (taken_by_run (Finishing e)) has.answers
          (left-next m fd a w o e has.has (is ∙ ap (λ k. call.IolWrite k a) own)),
    )
run-writes scripts m fd g a buffered w d y script text o has is = absurd (cc (is))

offers : (scripts : Bool) (m : State) (fd g a : ℕ) (buffered : List ℕ) (q : Answer) (d : Phase) (run : Option Running)
    (script : List ℕ) (known : Known)
    → HasKnown scripts m (client (at buffered q d) run script) known
    → next_call scripts fd (client (at buffered q d) run script) ≡ call.IolWrite g a
    → Writes scripts m fd g a (client (at buffered q d) run script) known
offers scripts m fd g a buffered q d None script (OfFile o) has is =
    let next =
    next-expected m fd g a buffered q d (response q o) has.has
    (script-writes fd g a buffered q d (is_for_script scripts q) is) in
    inl (next.0, one-next m q (OfFile o) (response q o) a (single.taken_of d) refl (λ r may. may) next.1)
offers scripts m fd g a buffered q d (Some y) script (OfFile o) has is = absurd (let none = has.none in cc (none))
offers scripts m fd g a buffered (refuse status head_only close) d run script (OfScript text o) has is = absurd has
offers scripts m fd g a buffered (serve w) d None script (OfScript text o) has is = by w.head_only refl has.sends
  where
    asks : conn.next_call fd (at buffered (serve w) d) ≡ call.IolWrite g a
    asks = script-writes fd g a buffered (serve w) d (is_for_script scripts (serve w)) is

    by : (h : Bool) → w.head_only ≡ h → known.Sends h w (client (at buffered (serve w) d) None script) text o
        → Writes scripts m fd g a (client (at buffered (serve w) d) None script) (OfScript text o)
    by true head fresh =
        let next = next-expected m fd g a buffered (serve w) d (script_text w) has.has asks in
        inl (
          next.0,
          one-next m (serve w) (OfScript text o) (script_text w) a (single.taken_of d)
              (ap (λ (p : Progress). past_of p) fresh) (λ r may. subst (λ h. MaySendOutput h w o r) head may) next.1,
        )
    by false head was = absurd (silent-writes fd g a buffered (serve w) d was.0 asks)
offers scripts m fd g a buffered (serve w) d (Some y) script (OfScript text o) has is =
    run-writes scripts m fd g a buffered w d y script text o has is

-- ---- a client whose request is not for a script

as-its-conn : (scripts : Bool) (m : State) (buffered : List ℕ) (q : Answer) (d : Phase) (script : List ℕ) (o : Outcome)
    → is_for_script scripts q ≡ false
    → Has m q (response q o) d → IsAsItsConn scripts m (client (at buffered q d) None script) o
as-its-conn scripts m buffered q d script o plain has = record {
  has = has;
  asks = λ fd. ap (λ b. conn_call b fd (at buffered q d)) plain;
  aggs = λ a. refl;
  fds = λ g. refl;
  reports = λ worker r received. ap (λ b. file_after_reply b (client (at buffered q d) None script) r received) plain;
}

client-files : (scripts : Bool) (m : State) (buffered : List ℕ) (q : Answer) (d : Phase) (run : Option Running)
    (script : List ℕ) (o : Outcome) → is_for_script scripts q ≡ false
    → HasKnown scripts m (client (at buffered q d) run script) (OfFile o)
    → IsAsItsConn scripts m (client (at buffered q d) run script) o
client-files scripts m buffered q d run script o plain has =
    subst (λ (z : Option Running). IsAsItsConn scripts m (client (at buffered q d) z script) o) (sym has.none)
    (as-its-conn scripts m buffered q d script o plain has.has)

-- ---- a client with a run

as-its-run : (scripts : Bool) (m : State) (buffered : List ℕ) (d : Phase) (script : List ℕ) (w : Wanted) (y : Running)
    (text : List ℕ) (o : Progress) → is_over y ≡ false
    → IsRun m w y script text o → IsAsItsRun scripts m (client (at buffered (serve w) d) (Some y) script) w y text o
as-its-run scripts m buffered d script w y text o going has = record {
  has = has.has;
  asks = λ fd. call-text fd w y script text has.buffered;
  aggs = λ a. refl;
  fds = λ g. refl;
  reports = λ worker r received.
      let x = client (at buffered (serve w) d) (Some y) script in
      let z = running.after_reply worker w y r received in
      record {
        going =
            λ is. (let same = goes-as x y z false going is in
            (ap (λ (k : Client). k.run) same, ap (λ (k : Client). k.conn) same));
        ended = λ is. goes-as x y z true going is;
      };
}
  where
    goes-as : (x : Client) (y z : Running) (over : Bool) → is_over y ≡ false → is_over z ≡ over
        → proceeds (is_over y) (is_over z) x y z ≡ proceeds false over x y z
    goes-as x y z over going is = ap (λ b. proceeds b (is_over z) x y z) going ∙ ap (λ b. proceeds false b x y z) is

client-runs : (scripts : Bool) (m : State) (buffered : List ℕ) (q : Answer) (d : Phase) (run : Option Running)
    (script : List ℕ) (w : Wanted) (y : Running) (text : List ℕ) (o : Progress)
    → run ≡ Some y → q ≡ serve w → is_over y ≡ false
    → HasKnown scripts m (client (at buffered q d) run script) (OfScript text o)
    → IsAsItsRun scripts m (client (at buffered q d) run script) w y text o
client-runs scripts m buffered q d run script w y text o is_run is_q going has =
    let had = subst (λ (p : Answer). HasKnown scripts m (client (at buffered p d) (Some y) script) (OfScript text o))
    is_q
    (subst (λ (z : Option Running). HasKnown scripts m (client (at buffered q d) z script) (OfScript text o)) is_run
    has) in
    subst (λ (z : Option Running). IsAsItsRun scripts m (client (at buffered q d) z script) w y text o) (sym is_run)
    (subst (λ (p : Answer). IsAsItsRun scripts m (client (at buffered p d) (Some y) script) w y text o) (sym is_q)
    (as-its-run scripts m buffered d script w y text o going had))

pub clients_offered : EachStepLeavesTheRest → CallsServeTheirDomain → FileCallsServeTheirDomain → RefusalsThatAreLeft
    → ClientsAreOfferedTheResponse
clients_offered steps own files may = λ scripts. record {
  starts = starts scripts;
  replied = λ m n fd c worker x r received before order access lives open_on hired going has step names.
      replied steps own files scripts m n fd c worker x.conn.buffered x.conn.request x.conn.phase x.run x.script r
      received before
      order access lives open_on hired going has step names;
  stays = λ m n x e r known step aggs fds has. stays steps scripts m n x.conn.buffered x.conn.request x.conn.phase x.run
      x.script
      e r known step aggs fds has;
  takes = λ m n fd c worker x r received before after order open_on going has step updates at_is on busy.
      client-takes steps own scripts m n fd c worker x.conn.buffered x.conn.request x.conn.phase x.run x.script r
      received before
      after order open_on going has step updates at_is on busy;
  files = λ m x o plain has. client-files scripts m x.conn.buffered x.conn.request x.conn.phase x.run x.script o plain
      has;
  runs = λ m x w y text o is_run is_q going has. client-runs scripts m x.conn.buffered x.conn.request x.conn.phase x.run
      x.script
      w y text o is_run is_q going has;
  whole = λ fd f x none for_script reads. client-whole scripts fd f x.conn.buffered x.conn.request x.conn.phase x.run
      x.script
      none for_script reads;
  keeps = λ worker x r received. client-keeps scripts worker x.conn.buffered x.conn.request x.conn.phase x.run x.script
      r
      received;
  rank = rank;
  nears = λ m n fd c worker x r received known order lives open_on busy has can step names.
      client-nears steps own may scripts m n fd c worker x.conn.buffered x.conn.request x.conn.phase x.run x.script r
      received
      known order lives open_on busy has can step names;
  moves = λ m n fd worker x r received known going has step same. client-moves scripts m n fd worker x.conn.buffered
      x.conn.request x.conn.phase x.run x.script r received known going has step same;
  offers = λ m fd g a x known has is. offers scripts m fd g a x.conn.buffered x.conn.request x.conn.phase x.run x.script
      known has
      is;
}
