-- A call for a client reduces the rank of its request, reads more output of its script, or is retried later.
use Rattle.std.proofs.Common.{inl, inr, ◌≡◌, ℕ, ◌+◌, ◌<◌, ◌⊎◌, List, [], ap, ◌∙◌, refl, sym, subst, arith, Option, Some}
use Rattle.std.proofs.Common.{None, true, false, Bool, if◌then◌else◌}
use Rattle.iol_core.specs.State.{State, descriptor, is_live}
use Rattle.iol_core.specs.Run.{StepsTo}
use Rattle.iol_core.specs.declared.descriptors.Descriptor.TheVariants as on
use Rattle.iol_core.specs.declared.descriptors.Mode.TheVariants as modes
use Rattle.iol_core.specs.declared.refusals.Refusal.TheVariants as no
use Rattle.iol_core.specs.declared.events.Call.{Call}
use Rattle.iol_core.specs.declared.events.Call.TheVariants as call
use Rattle.iol_core.specs.declared.events.Event.TheVariants as event
use Rattle.iol_core.specs.declared.events.Reply.{Reply}
use Rattle.iol_core.specs.declared.events.Reply.TheVariants as reply
use Rattle.iol_laws.specs.Caller.{CallsServeTheirDomain, readable_at}
use Rattle.iol_laws.specs.Frame.{EachStepLeavesTheRest}
use Rattle.iol_laws.specs.Order.{IsOrderly}
use Rattle.iol_laws.specs.RefusalsLeft.{RefusalsThatAreLeft}
use Rattle.flash_http.specs.Request.{Answer, serve, refuse, Wanted}
use Rattle.flash_laws.specs.Answers.{response, script_text}
use Rattle.flash_laws.specs.Client.{Client, is_for_script, conn_call, job_of, next_call, after_drop_whole}
use Rattle.flash_laws.specs.Client.{conn_after_reply, file_after_reply, keeps_text, text_on, after_run, proceeds}
use Rattle.flash_laws.specs.Client.{run_after_reply, after_reply}
use Rattle.flash_laws.specs.Client.OfferedBytes.{is_working, ReceivesMore}
use Rattle.flash_laws.specs.Conn as conn
use Rattle.flash_laws.specs.Conn.{Conn, most_read, after_close_file}
use Rattle.flash_laws.specs.Conn.Fits.{Has, Names}
use Rattle.flash_laws.specs.Client.ResponseState.{Known, OfFile, OfScript, is_read, HasNoRun, IsRun, HasKnown}
use Rattle.flash_laws.specs.Conn.Progress.{Rank, IsBelow, Nears, CanMake, is_busy}
use Rattle.flash_laws.specs.Run.Fits.{Progress, HasRun}
use Rattle.flash_laws.specs.Run.OfferedBytes.{ReceivesMore as RunReceives}
use Rattle.flash_laws.specs.Run as running
use Rattle.flash_laws.specs.Run.{is_over}
use Rattle.flash_laws.specs.Site.{server}
use Rattle.flash_laws.specs.declared.phase.FileResult.TheVariants.{Text as TextOf}
use Rattle.flash_laws.specs.declared.phase.Payload.TheVariants.{Script}
use Rattle.flash_laws.specs.declared.phase.Phase.{Phase}
use Rattle.flash_laws.specs.declared.phase.Phase.TheVariants.{Receiving, Reading as Reading, ClosingFile, DroppingWhole}
use Rattle.flash_laws.specs.declared.phase.Phase.TheVariants.{MakingHead}
use Rattle.flash_laws.specs.declared.script_run.Running.{Running}
use Rattle.flash_laws.specs.declared.script_run.Running.TheVariants.{AwaitingWorker, InProgress, Finishing}
use Rattle.flash_laws.specs.declared.script_run.Running.TheVariants.{Disconnecting as Ends}
use Rattle.flash_laws.proofs.Forms.{at, of as client}
use Rattle.flash_laws.proofs.Client.Phases.{unread-after_reply}
use Rattle.flash_laws.proofs.Lists.{clash, not-true}
use Rattle.flash_laws.proofs.Conn.Progress as file
use Rattle.flash_laws.proofs.Conn.Progress.{stage, calls_left, near, drops, closes}
use Rattle.flash_laws.proofs.Run.Ends.{IsEnd, run-ends, call-text}
use Rattle.flash_laws.proofs.Run.Progress.{run_calls, rank as run_rank, nears as run_nears}
use Rattle.flash_laws.proofs.Run.OfferedBytes as running_on

-- ---- the rank

-- the calls of a run that will begin
abbrev to_run : Answer → ℕ
to_run (serve w) = run_calls w AwaitingWorker
to_run (refuse status head_only close) = 0

abbrev run_left : Answer → Running → ℕ
run_left (serve w) y = run_calls w y
run_left (refuse status head_only close) y = 0

abbrev more_left : Answer → Phase → ℕ
more_left q d = if is_read d then to_run q else 0

abbrev pub rank : Client → Rank
rank x = by x.run
  where
    by : Option Running → Rank
    by None = (stage x.conn.phase, calls_left x.conn.request x.conn.phase + more_left x.conn.request x.conn.phase)
    by (Some y) = (0, run_left x.conn.request y)

none-more : (q : Answer) (d : Phase) → is_read d ≡ false → more_left q d ≡ 0
none-more q d is = ap (λ b. if b then to_run q else 0) is

-- `Nears` of the phase of a connection implies `Nears` of the client
lift : (buffered : List ℕ) (q : Answer) (script : List ℕ) (d e : Phase) (r : Reply) → is_read d ≡ false
    → is_read e ≡ false
    → Nears (file.rank q) d r e
    → Nears rank (client (at buffered q d) None script) r (client (at buffered q e) None script)
lift buffered q script d e r was now (inl (inl less)) = inl (inl less)
lift buffered q script d e r was now (inl (inr fewer)) =
    let less = fewer.1 in
    let one = none-more q d was in
    let two = none-more q e now in
    inl (inr (fewer.0, omega (arith, less, one, two)))
lift buffered q script d e r was now (inr same) = inr (ap (λ z. client (at buffered q z) None script) same.0, same.1)

-- ---- phases in which the calls for a script may differ from those for a file

abbrev pub is_scripts : Phase → Bool
is_scripts (Reading f) = true
is_scripts (DroppingWhole a Script) = true
is_scripts d = false

pub call-plain : (fd : ℕ) (buffered : List ℕ) (q : Answer) (d : Phase) → is_scripts d ≡ false
    → conn_call true fd (at buffered q d) ≡ conn.next_call fd (at buffered q d)
call-plain fd buffered q (Reading f) plain = absurd (cc (plain))
call-plain fd buffered q d plain = refl

pub after_reply-plain : (buffered : List ℕ) (q : Answer) (script : List ℕ) (d : Phase) (r : Reply) (received : List ℕ)
    → is_scripts d ≡ false
    → file_after_reply true (client (at buffered q d) None script) r received
    ≡ conn_after_reply (client (at buffered q d) None script) r received
after_reply-plain buffered q script (Reading f) r received plain = absurd (cc (plain))
after_reply-plain buffered q script (DroppingWhole a Script) r received plain = absurd (cc (plain))
after_reply-plain buffered q script d r received plain = refl

-- a busy connection keeps its buffered input and its request
conn-at : (buffered : List ℕ) (q : Answer) (d : Phase) (r : Reply) (received : List ℕ) → is_busy d ≡ true
    → conn.after_reply (at buffered q d) r received
    ≡ at buffered q (conn.after_reply (at buffered q d) r received).phase
conn-at buffered q Receiving r received busy = absurd (cc (busy))
conn-at buffered q d r received busy = refl

module _ (own : CallsServeTheirDomain) (may : RefusalsThatAreLeft) (m n : State) (order : IsOrderly m)
    (lives : is_live m server ≡ true)
    (fd c : ℕ) (open_on : descriptor m server fd ≡ Some (on.Connection c)) (buffered script : List ℕ) where
  -- a phase of a file
  file-near : (q : Answer) (d : Phase) (expected : List ℕ) (r : Reply) (received : List ℕ) → is_busy d ≡ true
      → is_read d ≡ false → Has m q expected d
      → CanMake m (conn.next_call fd (at buffered q d))
      → StepsTo m (event.Call server (conn.next_call fd (at buffered q d))) r n
      → Names n r received
      → Nears rank (client (at buffered q d) None script) r
      (conn_after_reply (client (at buffered q d) None script) r received)
  file-near q d expected r received busy unread has can step names =
      subst (λ (z : Conn). Nears rank (client (at buffered q d) None script) r (client z None script))
      (sym (conn-at buffered q d r received busy))
      (lift buffered q script d (conn.after_reply (at buffered q d) r received).phase r unread
      (unread-after_reply buffered q d r received unread)
      (near own may m n order lives fd c buffered q d expected r received open_on busy has can step names))

  -- the text of a script is read
  text-near : (q : Answer) (f : ℕ) (r : Reply) (received : List ℕ) → StepsTo m (event.Call server (call.IolRead f most_read)) r n
      → Nears rank (client (at buffered q (Reading f)) None script) r
      (file_after_reply true (client (at buffered q (Reading f)) None script) r received)
  text-near q f (reply.Agg k) received step = inl (inl (omega arith))
  text-near q f (reply.Count k) received step = let e = step.1 in absurd (cc (e))
  text-near q f (reply.Refused no.WouldBlock) received step = inr (refl, refl)
  text-near q f (reply.Refused z) received step = inl (inl (omega arith))
  text-near q f r received step = let e = step.1 in absurd (cc (e))

  -- a request for a file, or for a script if no text that can run was read
  of-file : (b : Bool) (q : Answer) (d : Phase) (expected : List ℕ) (r : Reply) (received : List ℕ) → is_busy d ≡ true
      → is_read d ≡ false → Has m q expected d
      → CanMake m (conn_call b fd (at buffered q d))
      → StepsTo m (event.Call server (conn_call b fd (at buffered q d))) r n
      → Names n r received
      → Nears rank (client (at buffered q d) None script) r
      (file_after_reply b (client (at buffered q d) None script) r received)
  of-file false q d expected r received busy unread has can step names =
      file-near q d expected r received busy unread has can step names
  of-file true q d expected r received busy unread has can step names = by (is_scripts d) refl
    where
      reading : (e : Phase) → d ≡ e → is_scripts e ≡ true
          → Nears rank (client (at buffered q d) None script) r
          (file_after_reply true (client (at buffered q d) None script) r received)
      reading (Reading f) is scripts =
          let read : StepsTo m (event.Call server (call.IolRead f most_read)) r n = subst
          (λ (e : Phase). StepsTo m (event.Call server (conn_call true fd (at buffered q e))) r n) is step in
          subst
          (λ (e : Phase). Nears rank (client (at buffered q e) None script) r
          (file_after_reply true (client (at buffered q e) None script) r received)) (sym is)
          (text-near q f r received read)
      reading (DroppingWhole a Script) is scripts = absurd (let e = ap (λ z. is_read z) is in cc (e, unread))
      reading e is scripts = absurd (cc (scripts))

      by : (b : Bool) → is_scripts d ≡ b
          → Nears rank (client (at buffered q d) None script) r
          (file_after_reply true (client (at buffered q d) None script) r received)
      by true is = reading d refl is
      by false plain =
          let same = call-plain fd buffered q d plain in
          subst (λ (z : Client). Nears rank (client (at buffered q d) None script) r z)
          (sym (after_reply-plain buffered q script d r received plain))
          (file-near q d expected r received busy unread has (subst (λ (k : Call). CanMake m k) same can)
          (subst (λ (k : Call). StepsTo m (event.Call server k) r n) same step) names)

  -- ---- a script that can run

  -- its aggregate is dropped, and then it runs, except for HEAD
  spared-near : (w : Wanted) (a : ℕ) (bytes : List ℕ) (r : Reply) (received : List ℕ)
      → StepsTo m (event.Call server (call.AggDrop a)) r n
      → readable_at m server a ≡ Some bytes
      → Nears rank (client (at buffered (serve w) (DroppingWhole a Script)) None script) r
      (file_after_reply true (client (at buffered (serve w) (DroppingWhole a Script)) None script) r received)
  spared-near w a bytes r received step readable =
      drops own may m n order lives rank (client (at buffered (serve w) (DroppingWhole a Script)) None script)
      (λ z. file_after_reply true (client (at buffered (serve w) (DroppingWhole a Script)) None script) z received) a
      bytes
      r
      readable step
      (by w.head_only)
    where
      by : (h : Bool)
          → IsBelow (rank (client (at buffered (serve w) (MakingHead Script)) (after_drop_whole h reply.Done) script))
          (rank (client (at buffered (serve w) (DroppingWhole a Script)) None script))
      by true = inr (refl, omega arith)
      by false = inr (refl, omega arith)

  read-near : (w : Wanted) (d : Phase) (r : Reply) (received : List ℕ) → is_read d ≡ true
      → Has m (serve w) (script_text w) d
      → StepsTo m (event.Call server (conn_call true fd (at buffered (serve w) d))) r n
      → Nears rank (client (at buffered (serve w) d) None script) r
      (file_after_reply true (client (at buffered (serve w) d) None script) r received)
  read-near w (ClosingFile f (TextOf a true)) r received read has step =
      closes own may m n order lives rank (client (at buffered (serve w) (ClosingFile f (TextOf a true))) None script)
      (λ z. client (at buffered (serve w) (after_close_file (serve w) f (TextOf a true) z)) None script) f
      (on.File has.0.0 has.0.1 modes.Read) r has.0.2 step (inr (refl, omega arith))
  read-near w (DroppingWhole a Script) r received read has step = spared-near w a has.0.0 r received step has.0.1
  read-near w d r received read has step = absurd (cc (read))

  of-script : (scripts : Bool) (w : Wanted) (d : Phase) (text : List ℕ) (o : Progress) (r : Reply) (received : List ℕ)
      → is_busy d ≡ true
      → HasNoRun scripts m w (client (at buffered (serve w) d) None script) text o → (b : Bool)
      → is_for_script scripts (serve w) ≡ b
      → CanMake m (conn_call b fd (at buffered (serve w) d))
      → StepsTo m (event.Call server (conn_call b fd (at buffered (serve w) d))) r n → Names n r received
      → Nears rank (client (at buffered (serve w) d) None script) r
      (file_after_reply b (client (at buffered (serve w) d) None script) r received)
  of-script scripts w d text o r received busy has b for_script can step names = by (is_read d) refl
    where
      runs : (c : Bool) → b ≡ c → is_read d ≡ true
          → Nears rank (client (at buffered (serve w) d) None script) r
          (file_after_reply b (client (at buffered (serve w) d) None script) r received)
      runs true is read =
          subst
          (λ z. Nears rank (client (at buffered (serve w) d) None script) r
          (file_after_reply z (client (at buffered (serve w) d) None script) r received)) (sym is)
          (read-near w d r received read has.has
          (subst (λ z. StepsTo m (event.Call server (conn_call z fd (at buffered (serve w) d))) r n) is step))
      runs false is read = absurd (clash (is_for_script scripts (serve w)) (has.script read) (for_script ∙ is))

      by : (z : Bool) → is_read d ≡ z
          → Nears rank (client (at buffered (serve w) d) None script) r
          (file_after_reply b (client (at buffered (serve w) d) None script) r received)
      by true read = runs b refl read
      by false unread = of-file b (serve w) d (script_text w) r received busy unread has.has can step names

-- ---- a run

text-same : (b : Bool) (script : List ℕ) → text_on b b script ≡ script
text-same true script = refl
text-same false script = refl

-- if its run is unchanged, the client is unchanged
stands : (c : Conn) (script : List ℕ) (y z : Running) → z ≡ y
    → proceeds false false (client c (Some y) script) y z ≡ client c (Some y) script
stands c script y z same =
    subst (λ (k : Running). proceeds false false (client c (Some y) script) y k ≡ client c (Some y) script) (sym same)
    (ap (λ (t : List ℕ). client c (Some y) t) (text-same (keeps_text y) script))

end-below : (buffered : List ℕ) (w : Wanted) (e : Phase) (k : ℕ) → IsEnd e → 0 < k
    → IsBelow (rank (client (at buffered (serve w) e) None [])) (0, k)
end-below buffered w e k ends some = elim ends [
  | inl rests ↦ subst (λ (d : Phase). IsBelow (rank (client (at buffered (serve w) d) None [])) (0, k)) (sym rests)
      (inr (refl, some))
  | inr closes ↦ subst (λ (d : Phase). IsBelow (rank (client (at buffered (serve w) d) None [])) (0, k)) (sym closes)
      (inr (refl, some))
]

-- `Nears` of a client whose run moves from y to z
abbrev Goes : (buffered : List ℕ) → Phase → (script : List ℕ) → Wanted → (y z : Running) → Reply → (was over : Bool)
    → Type 0
Goes buffered d script w y z r was over =
    Nears rank (client (at buffered (serve w) d) (Some y) script) r
    (proceeds was over (client (at buffered (serve w) d) (Some y) script) y z)

module _ (steps : EachStepLeavesTheRest) (own : CallsServeTheirDomain) (may : RefusalsThatAreLeft) (m n : State)
    (order : IsOrderly m) (lives : is_live m server ≡ true)
    (fd c : ℕ) (open_on : descriptor m server fd ≡ Some (on.Connection c)) where
  -- after a run is over, the connection is idle, or is to be closed
  over-ends : (job : ℕ → List ℕ) (worker : ℕ) (w : Wanted) (y : Running) (r : Reply) (received : List ℕ) (o : Progress)
      → is_over y ≡ false → HasRun job m w o y
      → StepsTo m (event.Call server (running.next_call job fd w y)) r n → Names n r received
      → is_over (running.after_reply worker w y r received) ≡ true
      → IsEnd (after_run (running.after_reply worker w y r received))
  over-ends job worker w AwaitingWorker (reply.Fds from write) received o going has step names over = absurd (cc (over))
  over-ends job worker w AwaitingWorker r received o going has step names over = absurd (cc (over))
  over-ends job worker w (InProgress run s) r received o going has step names over =
      let got = running_on.replied steps own m n order job w fd c worker (InProgress run s) r received o open_on
      (λ e. absurd (cc (e))) going has step names in
      run-ends job n w got.0 (running.after_reply worker w (InProgress run s) r received) got.2 over
  over-ends job worker w (Finishing d) r received o going has step names over =
      let got = running_on.replied steps own m n order job w fd c worker (Finishing d) r received o open_on
      (λ e. absurd (cc (e))) going has step names in
      run-ends job n w got.0 (running.after_reply worker w (Finishing d) r received) got.2 over
  over-ends job worker w Ends r received o going has step names over = absurd (cc (going))

  run-near : (buffered : List ℕ) (d : Phase) (script : List ℕ) (worker : ℕ) (w : Wanted) (y : Running) (r : Reply)
      (received text : List ℕ) (o : Progress) → is_over y ≡ false
      → IsRun m w y script text o → CanMake m (running.next_call (job_of w script) fd w y)
      → StepsTo m (event.Call server (running.next_call (job_of w script) fd w y)) r n → Names n r received
      → Nears rank (client (at buffered (serve w) d) (Some y) script) r
      (run_after_reply worker (serve w) (client (at buffered (serve w) d) (Some y) script) y r received)
      ⊎ RunReceives y r received
  run-near buffered d script worker w y r received text o going has can step names =
      by (run_nears own may (job_of w text) m n fd c worker w y r received o order lives open_on going has.has
      (subst (λ (k : Call). CanMake m k) same can) (subst (λ (k : Call). StepsTo m (event.Call server k) r n) same step)
      names)
    where
      same : running.next_call (job_of w script) fd w y ≡ running.next_call (job_of w text) fd w y
      same = call-text fd w y script text has.buffered

      less : (over : Bool) → is_over (running.after_reply worker w y r received) ≡ over
          → run_calls w (running.after_reply worker w y r received) < run_calls w y
          → Goes buffered d script w y (running.after_reply worker w y r received) r false over
      less true over fewer =
          inl (end-below buffered w (after_run (running.after_reply worker w y r received)) (run_calls w y)
          (over-ends (job_of w text) worker w y r received o going has.has
          (subst (λ (k : Call). StepsTo m (event.Call server k) r n) same step) names over) (omega (arith, fewer)))
      less false over fewer = inl (inr (refl, fewer))

      unmoved : (over : Bool) → is_over (running.after_reply worker w y r received) ≡ over
          → Nears (run_rank w) y r (running.after_reply worker w y r received)
          → Goes buffered d script w y (running.after_reply worker w y r received) r false over
      unmoved over is (inl (inl falls)) = absurd (omega (arith, falls))
      unmoved over is (inl (inr fewer)) = less over is fewer.1
      unmoved true is (inr still) =
          absurd (clash (is_over (running.after_reply worker w y r received)) is (ap (λ k. is_over k) still.0 ∙ going))
      unmoved false is (inr still) =
          inr (stands (at buffered (serve w) d) script y (running.after_reply worker w y r received) still.0, still.1)

      by : Nears (run_rank w) y r (running.after_reply worker w y r received) ⊎ RunReceives y r received
          → Goes buffered d script w y (running.after_reply worker w y r received) r (is_over y)
          (is_over (running.after_reply worker w y r received)) ⊎ RunReceives y r received
      by (inl nearer) =
          inl
          (subst (λ b. Goes buffered d script w y (running.after_reply worker w y r received) r b
          (is_over (running.after_reply worker w y r received))) (sym going)
          (unmoved (is_over (running.after_reply worker w y r received)) refl nearer))
      by (inr more) = inr more

-- ---- any client

pub client-nears : EachStepLeavesTheRest → CallsServeTheirDomain → RefusalsThatAreLeft
    → (scripts : Bool) (m n : State) (fd c worker : ℕ) (buffered : List ℕ) (q : Answer) (d : Phase)
    (run : Option Running) (script : List ℕ) (r : Reply) (received : List ℕ) (known : Known) → IsOrderly m
    → is_live m server ≡ true → descriptor m server fd ≡ Some (on.Connection c)
    → is_working (client (at buffered q d) run script) ≡ true
    → HasKnown scripts m (client (at buffered q d) run script) known
    → CanMake m (next_call scripts fd (client (at buffered q d) run script))
    → StepsTo m (event.Call server (next_call scripts fd (client (at buffered q d) run script))) r n
    → Names n r received
    → Nears rank (client (at buffered q d) run script) r
    (after_reply scripts worker (client (at buffered q d) run script) r received)
    ⊎ ReceivesMore (client (at buffered q d) run script) r received
client-nears steps own may scripts m n fd c worker buffered q d None script r received (OfFile o) order lives open_on
    busy
    has can step names =
    inl (of-file own may m n order lives fd c open_on buffered script (is_for_script scripts q) q d (response q o) r
    received busy has.unread has.has can step names)
client-nears steps own may scripts m n fd c worker buffered q d (Some y) script r received (OfFile o) order lives
    open_on
    busy has can step names = absurd (let none = has.none in cc (none))
client-nears steps own may scripts m n fd c worker buffered (refuse status head_only close) d run script r received
    (OfScript text o) order lives open_on busy has can step names = absurd has
client-nears steps own may scripts m n fd c worker buffered (serve w) d None script r received (OfScript text o) order
    lives
    open_on busy has can step names =
    inl (of-script own may m n order lives fd c open_on buffered script scripts w d text o r received busy has
    (is_for_script scripts (serve w)) refl can step names)
client-nears steps own may scripts m n fd c worker buffered (serve w) d (Some y) script r received (OfScript text o)
    order
    lives open_on busy has can step names =
    run-near steps own may m n order lives fd c open_on buffered d script worker w y r received text o
    (not-true (is_over y) busy) has can step names
