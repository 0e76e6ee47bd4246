-- The bytes that a client's connection took count as taken.
use Rattle.std.proofs.Common.{◌≡◌, ℕ, ◌+◌, List, ap, ◌∙◌, refl, sym, subst, arith, Option, Some, None, true, false}
use Rattle.std.proofs.Common.{Bool, if◌then◌else◌}
use Rattle.iol_core.specs.State.{State, descriptor}
use Rattle.iol_core.specs.Run.{StepsTo}
use Rattle.iol_core.specs.declared.descriptors.Descriptor.TheVariants as on
use Rattle.iol_core.specs.declared.refusals.Refusal.TheVariants as no
use Rattle.iol_core.specs.declared.events.Call.{Call}
use Rattle.iol_core.specs.declared.events.Call.TheVariants as call
use Rattle.iol_core.specs.declared.events.Event.TheVariants as event
use Rattle.iol_core.specs.declared.events.Reply.{Reply}
use Rattle.iol_core.specs.declared.events.Reply.TheVariants as reply
use Rattle.iol_laws.specs.Caller.{CallsServeTheirDomain}
use Rattle.iol_laws.specs.Frame.{EachStepLeavesTheRest}
use Rattle.iol_laws.specs.Order.{IsOrderly}
use Rattle.flash_http.specs.Request.{Answer, serve, refuse, Wanted}
use Rattle.flash_laws.specs.Answers.{Outcome, Failed, response, script_text}
use Rattle.flash_laws.specs.Client.{Client, is_for_script, conn_call, job_of, next_call, can_run, after_text}
use Rattle.flash_laws.specs.Client.{after_drop_whole, file_after_reply, after_run, proceeds, run_after_reply}
use Rattle.flash_laws.specs.Client.{after_reply}
use Rattle.flash_laws.specs.Client.OfferedBytes.{is_ending, is_working, drops_rest, ConnUpdates, Updates, taken_by}
use Rattle.flash_laws.specs.Conn.{is_head_only, after_drop_whole as after_drop_whole_conn}
use Rattle.flash_laws.specs.Conn.Fits.{Has}
use Rattle.flash_laws.specs.Client.ResponseState.{Known, OfFile, OfScript, of_text, taken_before, is_opening, IsRun}
use Rattle.flash_laws.specs.Client.ResponseState.{HasKnown}
use Rattle.flash_laws.specs.Conn.OfferedBytes.{taken_of, newly_taken, is_dropping}
use Rattle.flash_laws.specs.Run.Fits.{Progress, nothing_yet}
use Rattle.flash_laws.specs.Run.OfferedBytes.{past_of, breaks_off, taken_by as run_taken}
use Rattle.flash_laws.specs.Run as running
use Rattle.flash_laws.specs.Run.{is_over}
use Rattle.flash_laws.specs.Site.{server}
use Rattle.flash_laws.specs.declared.phase.Payload.TheVariants.{Script}
use Rattle.flash_laws.specs.declared.phase.Phase.{Phase}
use Rattle.flash_laws.specs.declared.phase.Phase.TheVariants.{Reading as Reading, DroppingWhole}
use Rattle.flash_laws.specs.declared.script_run.Running.{Running}
use Rattle.flash_laws.specs.declared.script_run.Running.TheVariants.{Finishing, Disconnecting as Ends}
use Rattle.flash_laws.proofs.Forms.{at, of as client}
use Rattle.flash_laws.proofs.Client.Progress.{is_scripts, call-plain, after_reply-plain}
use Rattle.flash_laws.proofs.Run.Ends.{call-text}
use Rattle.flash_laws.proofs.Run.Takes as run_takes
use Rattle.flash_laws.proofs.Conn.TakenBytes as file

-- ---- the bytes taken before

text-none : (text : List ℕ) → taken_before (of_text text) ≡ 0
text-none text = by (can_run text)
  where
    by : (b : Bool) → taken_before (if b then OfScript text nothing_yet else OfFile (Failed 500)) ≡ 0
    by true = refl
    by false = refl

file-updates : (b : Bool) (d : Phase) (r : Reply) (received : List ℕ) (o : Outcome) (after : Known)
    → ConnUpdates b d r received (OfFile o) after → taken_before after ≡ 0
file-updates true (Reading f) (reply.Agg n) received o after l = ap (λ (k : Known). taken_before k) l
    ∙ text-none received
file-updates b d r received o after l = ap (λ (k : Known). taken_before k) l.2

script-updates : (b : Bool) (d : Phase) (r : Reply) (received text : List ℕ) (o : Progress) (after : Known)
    → is_opening d ≡ false → ConnUpdates b d r received (OfScript text o) after
    → taken_before after ≡ past_of o
script-updates true (Reading f) (reply.Agg n) received text o after read l = absurd (cc (read))
script-updates b d r received text o after read l = ap (λ (k : Known). taken_before k) l

-- ---- without a run

reading-none : (f : ℕ) (r : Reply) (received : List ℕ) → taken_of (after_text f r received) ≡ 0
reading-none f (reply.Agg n) received = refl
reading-none f (reply.Count n) received = refl
reading-none f (reply.Refused no.WouldBlock) received = refl
reading-none f (reply.Refused z) received = refl
reading-none f r received = refl

spares-none : (fd : ℕ) (buffered : List ℕ) (q : Answer) (a : ℕ) (script : List ℕ) (r : Reply) (received : List ℕ)
    → taken_by (file_after_reply true (client (at buffered q (DroppingWhole a Script)) None script) r received)
    ≡ newly_taken fd (call.AggDrop a) r
spares-none fd buffered q a script r received = by (is_head_only q) r
  where
    by : (h : Bool) (r : Reply)
        → taken_by (record {
          conn = record (at buffered q (DroppingWhole a Script)) { phase = after_drop_whole_conn a Script r };
          run = after_drop_whole h r;
          script = script;
        }) ≡ newly_taken fd (call.AggDrop a) r
    by true reply.Done = refl
    by false reply.Done = refl
    by true r = refl
    by false r = refl

module _ (own : CallsServeTheirDomain) (m n : State) (order : IsOrderly m) (fd c : ℕ)
    (open_on : descriptor m server fd ≡ Some (on.Connection c))
    (buffered script : List ℕ) (q : Answer) (expected : List ℕ) (r : Reply) (received : List ℕ) where
  abbrev Takes : (b : Bool) → Phase → Type 0
  Takes b d = taken_by (file_after_reply b (client (at buffered q d) None script) r received)
      ≡ taken_of d + newly_taken fd
      (conn_call b fd (at buffered q d)) r

  conn-takes : (b : Bool) (d : Phase) → Has m q expected d
      → StepsTo m (event.Call server (conn_call b fd (at buffered q d))) r n → is_dropping d ≡ false
      → drops_rest (file_after_reply b (client (at buffered q d) None script) r received) ≡ false
      → is_working (file_after_reply b (client (at buffered q d) None script) r received) ≡ true → Takes b d
  conn-takes false d has step at_is on busy =
      file.takes own m n order fd c open_on q expected buffered d r received has step at_is on busy
  conn-takes true d has step at_is on busy = by (is_scripts d) refl
    where
      scripts : (e : Phase) → d ≡ e → is_scripts e ≡ true → Takes true d
      scripts (Reading f) is own_way = subst (λ (e : Phase). Takes true e) (sym is) (reading-none f r received)
      scripts (DroppingWhole a Script) is own_way =
          subst (λ (e : Phase). Takes true e) (sym is) (let e = spares-none fd buffered q a script r received in
          omega (arith, e))
      scripts e is own_way = absurd (cc (own_way))

      by : (b : Bool) → is_scripts d ≡ b → Takes true d
      by true is = scripts d refl is
      by false plain =
          let asks = call-plain fd buffered q d plain in
          let same = after_reply-plain buffered q script d r received plain in
          ap (λ (z : Client). taken_by z) same
          ∙ (file.takes own m n order fd c open_on q expected buffered d r received has
          (subst (λ (k : Call). StepsTo m (event.Call server k) r n) asks step) at_is
          (ap (λ (z : Client). drops_rest z) (sym same) ∙ on) (ap (λ (z : Client). is_working z) (sym same) ∙ busy)
          ∙ ap (λ (k : Call). taken_of d + newly_taken fd k r) (sym asks))

-- ---- with a run

end-taken : (z : Running) → is_over z ≡ true → taken_of (after_run z) ≡ run_taken z
end-taken (Finishing d) over = refl
end-taken Ends over = refl
end-taken x over = absurd (cc (over))

end-breaks : (z : Running) → is_over z ≡ true → breaks_off z ≡ is_dropping (after_run z)
end-breaks (Finishing d) over = refl
end-breaks Ends over = refl
end-breaks x over = absurd (cc (over))

gone-taken : (x : Client) (y z : Running) (over : Bool) → is_over z ≡ over
    → taken_by (proceeds false over x y z) ≡ run_taken z
gone-taken x y z true is = end-taken z is
gone-taken x y z false is = refl

gone-breaks : (x : Client) (y z : Running) (over : Bool) → is_over z ≡ over
    → breaks_off z ≡ drops_rest (proceeds false over x y z)
gone-breaks x y z true is = end-breaks z is
gone-breaks x y z false is = refl

run-takes : EachStepLeavesTheRest → CallsServeTheirDomain
    → (m n : State) (fd c worker : ℕ) (buffered : List ℕ) (d : Phase) (script : List ℕ) (w : Wanted) (y : Running)
    (r : Reply) (received text : List ℕ)
    (o : Progress) (after : Known) → IsOrderly m → descriptor m server fd ≡ Some (on.Connection c) → is_over y ≡ false
    → IsRun m w y script text o
    → StepsTo m (event.Call server (running.next_call (job_of w script) fd w y)) r n
    → Updates true m (client (at buffered (serve w) d) (Some y) script) r received (OfScript text o) after
    → breaks_off y ≡ false
    → drops_rest (run_after_reply worker (serve w) (client (at buffered (serve w) d) (Some y) script) y r received)
    ≡ false
    → taken_before after + taken_by (run_after_reply worker (serve w) (client (at buffered (serve w) d) (Some y) script)
    y r
    received)
    ≡ past_of o + run_taken y + newly_taken fd (running.next_call (job_of w script) fd w y) r
run-takes steps own m n fd c worker buffered d script w y r received text o after order open_on going has step updates
    at_is
    on =
    let same = call-text fd w y script text has.buffered in
    let takes = run_takes.takes steps own (job_of w text) m n fd c worker w y r received o updates.0 order open_on going
    has.has
    (subst (λ (k : Call). StepsTo m (event.Call server k) r n) same step) updates.1 at_is
    (gone-breaks (client (at buffered (serve w) d) (Some y) script) y (running.after_reply worker w y r received)
    (is_over (running.after_reply worker w y r received)) refl
    ∙ (ap
    (λ b.
    drops_rest
    (proceeds b (is_over (running.after_reply worker w y r received)) (client (at buffered (serve w) d) (Some y) script)
    y (running.after_reply worker w y r received))) (sym going) ∙ on)) in
    let before : taken_before after ≡ past_of updates.0 = ap (λ (k : Known). taken_before k) updates.2 in
    let now :
    taken_by (run_after_reply worker (serve w) (client (at buffered (serve w) d) (Some y) script) y r received)
    ≡ run_taken (running.after_reply worker w y r received) =
    ap
    (λ b.
    taken_by
    (proceeds b (is_over (running.after_reply worker w y r received)) (client (at buffered (serve w) d) (Some y) script)
    y (running.after_reply worker w y r received))) going
    ∙ gone-taken (client (at buffered (serve w) d) (Some y) script) y (running.after_reply worker w y r received)
    (is_over (running.after_reply worker w y r received)) refl in
    let asked : newly_taken fd (running.next_call (job_of w script) fd w y) r
    ≡ newly_taken fd (running.next_call (job_of w text) fd w y) r = ap (λ (k : Call). newly_taken fd k r) same in
    omega (arith, takes, before, now, asked)

-- ---- any client

pub client-takes : EachStepLeavesTheRest → CallsServeTheirDomain
    → (scripts : Bool) (m n : State) (fd c worker : ℕ) (buffered : List ℕ) (q : Answer) (d : Phase)
    (run : Option Running)
    (script : List ℕ)
    (r : Reply) (received : List ℕ) (before after : Known) → IsOrderly m
    → descriptor m server fd ≡ Some (on.Connection c) → is_ending (client (at buffered q d) run script) ≡ false
    → HasKnown scripts m (client (at buffered q d) run script) before
    → StepsTo m (event.Call server (next_call scripts fd (client (at buffered q d) run script))) r n
    → Updates scripts m (client (at buffered q d) run script) r received before after
    → drops_rest (client (at buffered q d) run script) ≡ false
    → drops_rest (after_reply scripts worker (client (at buffered q d) run script) r received) ≡ false
    → is_working (after_reply scripts worker (client (at buffered q d) run script) r received) ≡ true
    → taken_before after + taken_by (after_reply scripts worker (client (at buffered q d) run script) r received)
    ≡ taken_before before + taken_by (client (at buffered q d) run script) + newly_taken fd
    (next_call scripts fd (client (at buffered q d) run script)) r
client-takes steps own scripts m n fd c worker buffered q d None script r received (OfFile o) after order open_on going
    has
    step updates at_is on busy =
    let none = file-updates (is_for_script scripts q) d r received o after updates in
    let takes =
    conn-takes own m n order fd c open_on buffered script q (response q o) r received (is_for_script scripts q)
    d has.has step at_is on busy in
    omega (arith, none, takes)
client-takes steps own scripts m n fd c worker buffered q d (Some y) script r received (OfFile o) after order open_on
    going
    has step updates at_is on busy = absurd (let none = has.none in cc (none))
client-takes steps own scripts m n fd c worker buffered (refuse status head_only close) d run script r received
    (OfScript text o) after order open_on going has step updates at_is on busy = absurd has
client-takes steps own scripts m n fd c worker buffered (serve w) d None script r received (OfScript text o) after order
    open_on going has step updates at_is on busy =
    let same = script-updates (is_for_script scripts (serve w)) d r received text o after has.read updates in
    let takes = conn-takes own m n order fd c open_on buffered script (serve w) (script_text w) r received
    (is_for_script scripts (serve w)) d has.has step at_is on busy in
    omega (arith, same, takes)
client-takes steps own scripts m n fd c worker buffered (serve w) d (Some y) script r received (OfScript text o) after
    order
    open_on going has step updates at_is on busy =
    run-takes steps own m n fd c worker buffered d script w y r received text o after order open_on going has step
    updates
    at_is on
