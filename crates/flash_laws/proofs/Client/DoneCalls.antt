-- A successful call of a client is not repeated, and a descriptor that it returns is used.
use Rattle.std.proofs.Common.{◌≡◌, ℕ, ◌==◌, List, ap, ◌∙◌, sym, subst, Option, Some, None, true, false, Bool}
use Rattle.std.specs.Prelude.{◌||◌}
use Rattle.iol_core.specs.State.{State}
use Rattle.iol_core.specs.Run.{StepsTo}
use Rattle.iol_core.specs.declared.events.Call.{Call}
use Rattle.iol_core.specs.declared.events.Event.TheVariants as event
use Rattle.iol_core.specs.declared.events.Reply.{Reply}
use Rattle.iol_core.specs.declared.events.Reply.TheVariants as reply
use Rattle.flash_http.specs.Request.{Answer, serve, refuse}
use Rattle.flash_laws.specs.Client.{Client, is_for_script, conn_call, job_of, next_call, after_text, file_after_reply}
use Rattle.flash_laws.specs.Client.{proceeds, after_reply, awaits}
use Rattle.flash_laws.specs.Client.Holdings.{has_fd}
use Rattle.flash_laws.specs.Client.OfferedBytes.{is_ending}
use Rattle.flash_laws.specs.Conn.{most_read}
use Rattle.flash_laws.specs.declared.phase.Payload.TheVariants.{Script}
use Rattle.flash_laws.specs.declared.phase.Phase.{Phase}
use Rattle.flash_laws.specs.declared.phase.Phase.TheVariants.{Opening, Reading as Reading, DroppingWhole}
use Rattle.flash_laws.specs.declared.script_run.Running.{Running}
use Rattle.flash_laws.specs.declared.script_run.Running.TheVariants.{AwaitingWorker}
use Rattle.flash_laws.specs.Conn.Fits.{is_closing}
use Rattle.flash_laws.specs.Client.ResponseState.{Known, OfFile, OfScript, HasKnown}
use Rattle.flash_laws.specs.Conn.OfferedBytes.{may_repeat}
use Rattle.flash_laws.specs.Run as running
use Rattle.flash_laws.specs.Run.{is_over}
use Rattle.flash_laws.specs.Site.{server}
use Rattle.flash_laws.proofs.Forms.{at, of as client}
use Rattle.flash_laws.proofs.Conn.Responses.{some-inj}
use Rattle.flash_laws.proofs.Conn.DoneCalls as moving
use Rattle.flash_laws.proofs.Conn.Repeats as repeats
use Rattle.flash_laws.proofs.Run.Ends.{call-text}
use Rattle.flash_laws.proofs.Run.Moves as run_moves

module _ (m n : State) (fd : ℕ) (buffered : List ℕ) (q : Answer) (script : List ℕ) where
  moved : (b : Bool) (d : Phase) (r : Reply) (received : List ℕ) → is_closing d ≡ false
      → StepsTo m (event.Call server (conn_call b fd (at buffered q d))) r n
      → (file_after_reply b (client (at buffered q d) None script) r received).conn.phase ≡ d
      → may_repeat (conn_call b fd (at buffered q d)) r ≡ true
  moved true (Reading f) r received going step same =
      repeats.reads m n (Reading f) (λ z. after_text f z received) f most_read r step (λ k e. cc (e)) same
  moved true (DroppingWhole b Script) r received going step same =
      moving.moved m n fd buffered q (DroppingWhole b Script) r received going step same
  moved other d r received going step same = moving.moved m n fd buffered q d r received going step same

  -- the next phase has a descriptor that the call returned
  opened : (b : Bool) (d : Phase) (f : ℕ) (received : List ℕ)
      → StepsTo m (event.Call server (conn_call b fd (at buffered q d))) (reply.Fd f) n
      → has_fd (file_after_reply b (client (at buffered q d) None script) (reply.Fd f) received) f ≡ true
  opened false d f received step = moving.opened m n fd buffered q d f received step
  opened true Opening f received step = moving.opened m n fd buffered q Opening f received step
  opened true (DroppingWhole b Script) f received step = (let e = step.1 in absurd (cc (e)))
  opened true d f received step = (let e = step.1 in absurd (cc (e)))

-- if the client still has the run y, the reply left y unchanged
stood : (over : Bool) (x : Client) (y z : Running) → (proceeds false over x y z).run ≡ Some y → z ≡ y
stood true x y z same = absurd (cc (same))
stood false x y z same = some-inj z y same

run-moves : (scripts : Bool) (m n : State) (fd worker : ℕ) (buffered : List ℕ) (q : Answer) (d : Phase) (y : Running)
    (script : List ℕ) (r : Reply) (received : List ℕ) (known : Known)
    → is_over y ≡ false → HasKnown scripts m (client (at buffered q d) (Some y) script) known
    → StepsTo m (event.Call server (next_call scripts fd (client (at buffered q d) (Some y) script))) r n
    → after_reply scripts worker (client (at buffered q d) (Some y) script) r received
    ≡ client (at buffered q d) (Some y)
    script
    → may_repeat (next_call scripts fd (client (at buffered q d) (Some y) script)) r ≡ true
run-moves scripts m n fd worker buffered q d y script r received (OfFile o) going has step same =
    absurd (let none = has.none in cc (none))
run-moves scripts m n fd worker buffered (refuse status head_only close) d y script r received (OfScript text o) going
    has
    step same = absurd has
run-moves scripts m n fd worker buffered (serve w) d y script r received (OfScript text o) going has step same =
    let x = client (at buffered (serve w) d) (Some y) script in
    let z = running.after_reply worker w y r received in
    let stands : (proceeds false (is_over z) x y z).run ≡ Some y =
    ap (λ b. (proceeds b (is_over z) x y z).run) (sym going) ∙ ap (λ (k : Client). k.run) same in
    let words = call-text fd w y script text has.buffered in
    ap (λ (k : Call). may_repeat k r) words
    ∙ run_moves.moves (job_of w text) m n fd worker w y r received o going has.has
    (subst (λ (k : Call). StepsTo m (event.Call server k) r n) words step) (stood (is_over z) x y z stands)

pub client-moves : (scripts : Bool) (m n : State) (fd worker : ℕ) (buffered : List ℕ) (q : Answer) (d : Phase)
    (run : Option Running) (script : List ℕ) (r : Reply) (received : List ℕ) (known : Known)
    → is_ending (client (at buffered q d) run script) ≡ false
    → HasKnown scripts m (client (at buffered q d) run script) known
    → StepsTo m (event.Call server (next_call scripts fd (client (at buffered q d) run script))) r n
    → after_reply scripts worker (client (at buffered q d) run script) r received ≡ client (at buffered q d) run script
    → may_repeat (next_call scripts fd (client (at buffered q d) run script)) r ≡ true
client-moves scripts m n fd worker buffered q d None script r received known going has step same =
    moved m n fd buffered q script (is_for_script scripts q) d r received going step
    (ap (λ (x : Client). x.conn.phase) same)
client-moves scripts m n fd worker buffered q d (Some y) script r received known going has step same =
    run-moves scripts m n fd worker buffered q d y script r received known going has step same

pub client-opened : (scripts : Bool) (m n : State) (fd worker f : ℕ) (buffered : List ℕ) (q : Answer) (d : Phase)
    (run : Option Running) (script received : List ℕ) → run ≡ None
    → StepsTo m (event.Call server (next_call scripts fd (client (at buffered q d) run script))) (reply.Fd f) n
    → has_fd (after_reply scripts worker (client (at buffered q d) run script) (reply.Fd f) received) f ≡ true
client-opened scripts m n fd worker f buffered q d None script received none step =
    opened m n fd buffered q script (is_for_script scripts q) d f received step
client-opened scripts m n fd worker f buffered q d (Some y) script received none step = absurd (cc (none))

pub client-piped : (scripts : Bool) (m : State) (worker from write : ℕ) (buffered : List ℕ) (q : Answer) (d : Phase)
    (run : Option Running) (script : List ℕ) (known : Known) (received : List ℕ) (g : ℕ)
    → awaits (client (at buffered q d) run script) ≡ true
    → HasKnown scripts m (client (at buffered q d) run script) known
    → ((from == g) || (write == g)) ≡ true
    → has_fd (after_reply scripts worker (client (at buffered q d) run script) (reply.Fds from write) received) g ≡ true
client-piped scripts m worker from write buffered q d (Some AwaitingWorker) script (OfFile o) received g waits has u =
    absurd (let none = has.none in cc (none))
client-piped scripts m worker from write buffered (refuse status head_only close) d (Some AwaitingWorker) script
    (OfScript text o)
    received g waits has u = absurd has
client-piped scripts m worker from write buffered (serve w) d (Some AwaitingWorker) script (OfScript text o) received g
    waits has
    u = u
client-piped scripts m worker from write buffered q d run script known received g waits has u = absurd (cc (waits))
