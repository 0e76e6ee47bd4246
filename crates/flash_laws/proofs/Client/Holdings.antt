-- The result of a call belongs to the client for which it was made, and is given up when that client no longer uses it.
use Rattle.std.proofs.Common.{◌≡◌, ℕ, ◌==◌, List, ◌∙◌, refl, sym, subst, Option, Some, None, true, false, Bool}
use Rattle.iol_core.specs.Access.{HasAccess}
use Rattle.iol_core.specs.State.{State, descriptor, is_live}
use Rattle.iol_core.specs.Run.{StepsTo}
use Rattle.iol_core.specs.declared.descriptors.Descriptor.TheVariants as on
use Rattle.iol_core.specs.declared.refusals.Refusal.TheVariants as no
use Rattle.iol_core.specs.declared.events.Call.{Call}
use Rattle.iol_core.specs.declared.events.Event.TheVariants as event
use Rattle.iol_core.specs.declared.events.Reply.{Reply}
use Rattle.iol_core.specs.declared.events.Reply.TheVariants as reply
use Rattle.iol_laws.specs.Aggregates.{AggregatesComeAndGo}
use Rattle.iol_laws.specs.Caller.{CallsServeTheirDomain, readable_at}
use Rattle.iol_laws.specs.CallerFiles.{FileCallsServeTheirDomain}
use Rattle.iol_laws.specs.Order.{IsOrderly}
use Rattle.flash_http.specs.Request.{Answer, serve, refuse, Wanted}
use Rattle.flash_laws.specs.Answers.{response, script_text}
use Rattle.flash_laws.specs.Client.{Client, uses_agg, is_for_script, conn_call, job_of, buffered_text, next_call}
use Rattle.flash_laws.specs.Client.{after_text}
use Rattle.flash_laws.specs.Client.{after_drop_whole, file_after_reply, proceeds, run_after_reply, after_reply}
use Rattle.flash_laws.specs.Client.Holdings.{has_fd, ClientsLeaveNothing}
use Rattle.flash_laws.specs.Client.OfferedBytes.{is_ending}
use Rattle.flash_laws.specs.Conn as conn
use Rattle.flash_laws.specs.Conn.{Conn, is_head_only}
use Rattle.flash_laws.specs.declared.phase.Payload.TheVariants.{Script}
use Rattle.flash_laws.specs.declared.phase.Phase.{Phase}
use Rattle.flash_laws.specs.declared.phase.Phase.TheVariants.{Reading as Reading, DroppingWhole}
use Rattle.flash_laws.specs.declared.script_run.Running.{Running}
use Rattle.flash_laws.specs.declared.script_run.Running.TheVariants.{AwaitingWorker, InProgress, Finishing}
use Rattle.flash_laws.specs.declared.script_run.Running.TheVariants.{Disconnecting as Ends}
use Rattle.flash_laws.specs.Conn.Fits.{Has}
use Rattle.flash_laws.specs.Client.ResponseState.{Known, OfFile, OfScript, IsRun, HasKnown}
use Rattle.flash_laws.specs.Run.Fits.{Progress}
use Rattle.flash_laws.specs.Run.Holdings.{has_end, RunsKeepNothing}
use Rattle.flash_laws.specs.Run as running
use Rattle.flash_laws.specs.Run.{is_over}
use Rattle.flash_laws.specs.Site.{server}
use Rattle.flash_laws.proofs.Forms.{at, of as client}
use Rattle.flash_laws.proofs.Client.DoneCalls.{client-opened, client-piped}
use Rattle.flash_laws.proofs.Client.Frame.{client-holds, client-ready, new-holds}
use Rattle.flash_laws.proofs.Conn.Holdings as keeping
use Rattle.flash_laws.proofs.Conn.Holdings.{leaves-after_reply, shuts}
use Rattle.flash_laws.proofs.Lists.{clash}
use Rattle.flash_laws.proofs.Run.ReplyUse.{runs_keep}
use Rattle.flash_laws.proofs.Run.Ends.{call-text}

-- ---- before a run begins: the objects of the connection

-- After a reply to a client without a run, `client_has` of it is `conn_has` of its connection's phase, if this holds
-- after the text of a script was read, and after it was dropped.
script-as : {A : Type 0} (client_has : Client → A) (conn_has : Phase → A) (buffered : List ℕ) (q : Answer) (d : Phase)
    (script : List ℕ) (r : Reply) (received : List ℕ) (b : Bool)
    → ((c : Conn) (text : List ℕ) → client_has (client c None text) ≡ conn_has c.phase)
    → ((f : ℕ) (r : Reply)
    → conn_has (after_text f r received) ≡ conn_has (conn.after_reply (at buffered q (Reading f)) r received).phase)
    → ((a : ℕ)
    → client_has (client (conn.after_reply (at buffered q (DroppingWhole a Script)) reply.Done received)
    (Some AwaitingWorker) script)
    ≡ conn_has (conn.after_reply (at buffered q (DroppingWhole a Script)) reply.Done received).phase)
    → client_has (file_after_reply b (client (at buffered q d) None script) r received)
    ≡ conn_has (conn.after_reply (at buffered q d) r received).phase
script-as client_has conn_has buffered q d script r received false plain text dropped =
    plain (conn.after_reply (at buffered q d) r received) script
script-as client_has conn_has buffered q (Reading f) script r received true plain text dropped =
    plain (record { buffered = buffered; request = q; phase = after_text f r received })
    (buffered_text (is_head_only q) script r received) ∙ text f r
script-as client_has conn_has buffered q (DroppingWhole a Script) script r received true plain text dropped =
    by (is_head_only q) r
  where
    by : (h : Bool) (r : Reply)
        → client_has (record {
          conn = conn.after_reply (at buffered q (DroppingWhole a Script)) r received;
          run = after_drop_whole h r;
          script = script;
        })
        ≡ conn_has (conn.after_reply (at buffered q (DroppingWhole a Script)) r received).phase
    by false reply.Done = dropped a
    by b r = plain (conn.after_reply (at buffered q (DroppingWhole a Script)) r received) script
script-as client_has conn_has buffered q d script r received true plain text dropped =
    plain (conn.after_reply (at buffered q d) r received) script

pub script-uses : (buffered : List ℕ) (q : Answer) (d : Phase) (script : List ℕ) (r : Reply) (received : List ℕ) (a : ℕ)
    (b : Bool)
    → uses_agg (file_after_reply b (client (at buffered q d) None script) r received) a
    ≡ conn.uses_agg (conn.after_reply (at buffered q d) r received).phase a
script-uses buffered q d script r received a b =
    script-as (λ x. uses_agg x a) (λ e. conn.uses_agg e a) buffered q d script r received b (λ c text. refl) text
    (λ x. refl)
  where
    text : (f : ℕ) (r : Reply)
        → conn.uses_agg (after_text f r received) a
        ≡ conn.uses_agg (conn.after_reply (at buffered q (Reading f)) r received).phase a
    text f (reply.Agg n) = refl
    text f r = refl

script-opens : (buffered : List ℕ) (q : Answer) (d : Phase) (script : List ℕ) (r : Reply) (received : List ℕ) (g : ℕ)
    (b : Bool)
    → has_fd (file_after_reply b (client (at buffered q d) None script) r received) g
    ≡ conn.uses_fd (conn.after_reply (at buffered q d) r received).phase g
script-opens buffered q d script r received g b =
    script-as (λ x. has_fd x g) (λ e. conn.uses_fd e g) buffered q d script r received b (λ c text. refl) text
    (λ x. refl)
  where
    text : (f : ℕ) (r : Reply)
        → conn.uses_fd (after_text f r received) g
        ≡ conn.uses_fd (conn.after_reply (at buffered q (Reading f)) r received).phase g
    text f (reply.Agg n) = refl
    text f r = refl

-- ---- the objects of a run, until it is over

pub on-uses : (x : Client) (y z : Running) (a : ℕ) (was over : Bool) → is_over z ≡ over
    → uses_agg (proceeds was over x y z) a ≡ running.uses_agg z a
on-uses x y (Finishing d) a false true is = refl
on-uses x y Ends a false true is = refl
on-uses x y z a false false is = refl
on-uses x y z a true true is = refl
on-uses x y z a true false is = refl
on-uses x y other a false true is = absurd (cc (is))

on-ends : (x : Client) (y z : Running) (g : ℕ) (was over : Bool) → is_over z ≡ over
    → has_fd (proceeds was over x y z) g ≡ false → has_end z g ≡ false
on-ends x y (InProgress run s) g false true is unused = absurd (cc (is))
on-ends x y z g false false is unused = unused
on-ends x y z g true true is unused = unused
on-ends x y z g true false is unused = unused
on-ends x y z g false true is unused = refl

module _ (come : AggregatesComeAndGo) (own : CallsServeTheirDomain) (files : FileCallsServeTheirDomain) (m n : State)
    (order : IsOrderly m) where
  -- ---- new aggregates

  pub conn-brought : (fd c : ℕ) (buffered : List ℕ) (q : Answer) (d : Phase) (expected : List ℕ) (r : Reply)
      (received bytes : List ℕ) (a : ℕ) (b : Bool)
      → HasAccess m → is_live m server ≡ true → descriptor m server fd ≡ Some (on.Connection c) → Has m q expected d
      → StepsTo m (event.Call server (conn_call b fd (at buffered q d))) r n → readable_at m server a ≡ None
      → readable_at n server a ≡ Some bytes
      → conn.uses_agg (conn.after_reply (at buffered q d) r received).phase a ≡ true
  conn-brought fd c buffered q d expected r received bytes a false access lives open_on has step before after =
      keeping.brought come own m n order a bytes before after files buffered fd c q d expected r received access lives
      open_on has step
  conn-brought fd c buffered q (Reading g) expected r received bytes a true access lives open_on has step before after =
      keeping.reads come own m n order a bytes before after files buffered q g has.1.0 has.1.1 r received access lives
      has.1.2 false step
  conn-brought fd c buffered q d expected r received bytes a true access lives open_on has step before after =
      keeping.brought come own m n order a bytes before after files buffered fd c q d expected r received access lives
      open_on has step

  run-brought : (law : RunsKeepNothing) (fd c worker : ℕ) (buffered : List ℕ) (w : Wanted) (d : Phase) (y : Running)
      (script text : List ℕ) (o : Progress)
      (r : Reply) (received bytes : List ℕ) (a : ℕ) → descriptor m server fd ≡ Some (on.Connection c)
      → is_over y ≡ false → IsRun m w y script text o
      → StepsTo m (event.Call server (running.next_call (job_of w script) fd w y)) r n → readable_at m server a ≡ None
      → readable_at n server a ≡ Some bytes
      → uses_agg (run_after_reply worker (serve w) (client (at buffered (serve w) d) (Some y) script) y r received) a
      ≡ true
  run-brought law fd c worker buffered w d y script text o r received bytes a open_on going has step before after =
      on-uses (client (at buffered (serve w) d) (Some y) script) y (running.after_reply worker w y r received) a
      (is_over y)
      (is_over (running.after_reply worker w y r received)) refl
      ∙ (law (job_of w text)).brought m n fd c worker w y o r received bytes a order open_on going has.has
      (subst (λ (k : Call). StepsTo m (event.Call server k) r n) (call-text fd w y script text has.buffered) step)
      before
      after

  brought : (scripts : Bool) (fd c worker : ℕ) (buffered : List ℕ) (q : Answer) (d : Phase) (run : Option Running)
      (script : List ℕ) (known : Known)
      (r : Reply) (received bytes : List ℕ) (a : ℕ) → HasAccess m → is_live m server ≡ true
      → descriptor m server fd ≡ Some (on.Connection c)
      → is_ending (client (at buffered q d) run script) ≡ false
      → HasKnown scripts m (client (at buffered q d) run script) known
      → StepsTo m (event.Call server (next_call scripts fd (client (at buffered q d) run script))) r n
      → readable_at m server a ≡ None → readable_at n server a ≡ Some bytes
      → uses_agg (after_reply scripts worker (client (at buffered q d) run script) r received) a ≡ true
  brought scripts fd c worker buffered q d None script (OfFile o) r received bytes a access lives open_on going has step
      before after =
      script-uses buffered q d script r received a (is_for_script scripts q)
      ∙ conn-brought fd c buffered q d (response q o) r received bytes a (is_for_script scripts q) access lives open_on
      has.has step before after
  brought scripts fd c worker buffered q d (Some y) script (OfFile o) r received bytes a access lives open_on going has
      step
      before after = absurd (let none = has.none in cc (none))
  brought scripts fd c worker buffered (refuse status head_only close) d run script (OfScript text o) r received bytes a
      access lives open_on going has step before after = absurd has
  brought scripts fd c worker buffered (serve w) d None script (OfScript text o) r received bytes a access lives open_on
      going has step before after =
      script-uses buffered (serve w) d script r received a (is_for_script scripts (serve w))
      ∙ conn-brought fd c buffered (serve w) d (script_text w) r received bytes a (is_for_script scripts (serve w))
      access
      lives open_on has.has step before after
  brought scripts fd c worker buffered (serve w) d (Some y) script (OfScript text o) r received bytes a access lives
      open_on
      going has step before after =
      run-brought (runs_keep come own) fd c worker buffered w d y script text o r received bytes a open_on going has
      step
      before after

  -- ---- aggregates no longer used

  gone : (fd : ℕ) (buffered : List ℕ) (q : Answer) (d : Phase) (r : Reply) (received : List ℕ) (a : ℕ)
      → StepsTo m (event.Call server (conn.next_call fd (at buffered q d))) r n → conn.uses_agg d a ≡ true
      → conn.uses_agg (conn.after_reply (at buffered q d) r received).phase a ≡ false → readable_at n server a ≡ None
  gone fd buffered q d r received a step u unused =
      let gives = leaves-after_reply fd buffered q d r received a u unused in
      come.gone m n (event.Call server (conn.next_call fd (at buffered q d))) r server a order step gives.0 gives.1

  pub conn-left : (fd : ℕ) (buffered : List ℕ) (q : Answer) (d : Phase) (r : Reply) (received : List ℕ) (a : ℕ)
      (b : Bool)
      → StepsTo m (event.Call server (conn_call b fd (at buffered q d))) r n → conn.uses_agg d a ≡ true
      → conn.uses_agg (conn.after_reply (at buffered q d) r received).phase a ≡ false → readable_at n server a ≡ None
  conn-left fd buffered q d r received a false step u unused = gone fd buffered q d r received a step u unused
  conn-left fd buffered q (Reading g) r received a true step u unused = absurd (cc (u))
  conn-left fd buffered q d r received a true step u unused = gone fd buffered q d r received a step u unused

  left : (scripts : Bool) (fd worker : ℕ) (buffered : List ℕ) (q : Answer) (d : Phase) (run : Option Running)
      (script : List ℕ) (known : Known)
      (r : Reply) (received : List ℕ) (a : ℕ) → HasKnown scripts m (client (at buffered q d) run script) known
      → StepsTo m (event.Call server (next_call scripts fd (client (at buffered q d) run script))) r n
      → uses_agg (client (at buffered q d) run script) a ≡ true
      → uses_agg (after_reply scripts worker (client (at buffered q d) run script) r received) a ≡ false
      → readable_at n server a ≡ None
  left scripts fd worker buffered q d None script known r received a has step u unused =
      conn-left fd buffered q d r received a (is_for_script scripts q) step u
      (sym (script-uses buffered q d script r received a (is_for_script scripts q)) ∙ unused)
  left scripts fd worker buffered q d (Some y) script (OfFile o) r received a has step u unused =
      absurd (let none = has.none in cc (none))
  left scripts fd worker buffered (refuse status head_only close) d (Some y) script (OfScript text o) r received a has
      step
      u unused = absurd has
  left scripts fd worker buffered (serve w) d (Some y) script (OfScript text o) r received a has step u unused =
      (runs_keep come own (job_of w text)).left m n fd worker w y o r received a order has.has
      (subst (λ (k : Call). StepsTo m (event.Call server k) r n) (call-text fd w y script text has.buffered) step) u
      (sym (on-uses (client (at buffered (serve w) d) (Some y) script) y (running.after_reply worker w y r received) a
      (is_over y) (is_over (running.after_reply worker w y r received)) refl) ∙ unused)

conn-shut : (own : CallsServeTheirDomain) (m n : State) (fd : ℕ) (buffered : List ℕ) (q : Answer) (d : Phase)
    (r : Reply)
    (received : List ℕ) (g : ℕ) (b : Bool)
    → StepsTo m (event.Call server (conn_call b fd (at buffered q d))) r n → conn.uses_fd d g ≡ true
    → conn.uses_fd (conn.after_reply (at buffered q d) r received).phase g ≡ false → descriptor n server g ≡ None
conn-shut own m n fd buffered q d r received g false step u unused =
    shuts own m n fd buffered q d r received g step u unused
conn-shut own m n fd buffered q (Reading f) r received g true step u unused = absurd (by r unused)
  where
    by : (r : Reply) → conn.uses_fd (conn.after_reply (at buffered q (Reading f)) r received).phase g ≡ false → ⊥
    by (reply.Agg k) unused = clash (f == g) u unused
    by (reply.Count k) unused = clash (f == g) u unused
    by (reply.Refused no.WouldBlock) unused = clash (f == g) u unused
    by (reply.Refused x) unused = clash (f == g) u unused
    by r unused = clash (f == g) u unused
conn-shut own m n fd buffered q d r received g true step u unused =
    shuts own m n fd buffered q d r received g step u unused

shut : (come : AggregatesComeAndGo) (own : CallsServeTheirDomain) (m n : State) (scripts : Bool) (fd worker : ℕ)
    (buffered : List ℕ) (q : Answer) (d : Phase)
    (run : Option Running) (script : List ℕ) (known : Known) (r : Reply) (received : List ℕ) (g : ℕ)
    → HasKnown scripts m (client (at buffered q d) run script) known
    → StepsTo m (event.Call server (next_call scripts fd (client (at buffered q d) run script))) r n
    → has_fd (client (at buffered q d) run script) g ≡ true
    → has_fd (after_reply scripts worker (client (at buffered q d) run script) r received) g ≡ false
    → descriptor n server g ≡ None
shut come own m n scripts fd worker buffered q d None script known r received g has step u unused =
    conn-shut own m n fd buffered q d r received g (is_for_script scripts q) step u
    (sym (script-opens buffered q d script r received g (is_for_script scripts q)) ∙ unused)
shut come own m n scripts fd worker buffered q d (Some y) script (OfFile o) r received g has step u unused =
    absurd (let none = has.none in cc (none))
shut come own m n scripts fd worker buffered (refuse status head_only close) d (Some y) script (OfScript text o) r
    received
    g has step u unused = absurd has
shut come own m n scripts fd worker buffered (serve w) d (Some y) script (OfScript text o) r received g has step u
    unused =
    (runs_keep come own (job_of w text)).shut m n fd worker w y o r received g has.has
    (subst (λ (k : Call). StepsTo m (event.Call server k) r n) (call-text fd w y script text has.buffered) step) u
    (on-ends (client (at buffered (serve w) d) (Some y) script) y (running.after_reply worker w y r received) g
    (is_over y)
    (is_over (running.after_reply worker w y r received)) refl unused)

pub clients_leave : AggregatesComeAndGo → CallsServeTheirDomain → FileCallsServeTheirDomain → ClientsLeaveNothing
clients_leave come own files = λ scripts. record {
  brought = λ m n fd c worker x known r received bytes a order access lives open_on going has step before after.
      brought come own files m n order scripts fd c worker x.conn.buffered x.conn.request x.conn.phase x.run x.script
      known r
      received bytes a access lives open_on going has step before after;
  opened = λ m n fd worker f x received none step. client-opened scripts m n fd worker f x.conn.buffered x.conn.request
      x.conn.phase x.run x.script received none step;
  piped = λ m worker from write x known received g waits has u. client-piped scripts m worker from write x.conn.buffered
      x.conn.request x.conn.phase x.run x.script known received g waits has u;
  left = λ m n fd worker x known r received a order has step u unused.
      left come own files m n order scripts fd worker x.conn.buffered x.conn.request x.conn.phase x.run x.script known r
      received
      a has step u unused;
  shut = λ m n fd worker x known r received g has step u unused.
      shut come own m n scripts fd worker x.conn.buffered x.conn.request x.conn.phase x.run x.script known r received g
      has step u
      unused;
  fresh = new-holds scripts;
  held = λ worker x r received holds. client-holds scripts worker x.conn.buffered x.conn.request x.conn.phase x.run
      x.script r
      received holds;
  ready = λ x y holds begun. client-ready scripts x.conn.buffered x.conn.request x.conn.phase x.run x.script y holds
      begun;
}
