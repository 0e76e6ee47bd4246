-- A client whose call would block is unchanged.
use Rattle.std.proofs.Common.{inl, inr, ◌≡◌, ℕ, zero, suc, ◌+◌, ◌-◌, ◌<◌, ◌≤◌, ◌⊎◌, List, [], ◌∷◌, ◌++◌, length, ap}
use Rattle.std.proofs.Common.{◌∙◌, refl, sym, subst, arith, Option, Some, None, true, false, Bool, append-nil}
use Rattle.std.proofs.Common.{slice_set}
use Rattle.std.specs.Prelude.{replicate}
use Rattle.std.proofs.lemmas.Bool.{cases_lt}
use Rattle.std.proofs.lemmas.Bool.Decides.{nat_tests}
use Rattle.std.proofs.lemmas.Grind.{common_steps}
use Rattle.iol_core.specs.NumberedLists.{in_place}
use Rattle.iol_core.specs.State.{State}
use Rattle.iol_core.specs.declared.refusals.Refusal.TheVariants as no
use Rattle.iol_core.specs.declared.descriptors.Mode.TheVariants as modes
use Rattle.iol_core.specs.declared.events.Call.{Call}
use Rattle.iol_core.specs.declared.events.Call.TheVariants as call
use Rattle.iol_core.specs.declared.events.Event.TheVariants as event
use Rattle.iol_core.specs.declared.events.Reply.TheVariants as reply
use Rattle.iol_core.specs.Run.{StepsTo}
use Rattle.iol_laws.specs.RefusalsLeft.{may_wait}
use Rattle.flash_http.specs.Request.{Answer, serve, refuse, Wanted}
use Rattle.flash_laws.specs.Client.{Client, is_for_script, conn_call, next_call, Readies, IsAwaiting, buffered_text}
use Rattle.flash_laws.specs.Client.{after_drop_whole, file_after_reply, keeps_text, text_on, proceeds, run_after_reply}
use Rattle.flash_laws.specs.Client.{after_reply, left_over}
use Rattle.flash_laws.specs.Conn as conn
use Rattle.flash_laws.specs.Conn.{Conn, is_head_only, text_of, begins, Starts}
use Rattle.flash_laws.specs.World.Idle.{WouldWait, Blocks, BlocksAt}
use Rattle.flash_laws.specs.Site.Places.{first_free, has_free, runs_scripts, after_reply_at}
use Rattle.flash_laws.specs.Run as running
use Rattle.flash_laws.specs.Run.{is_over, after_sending}
use Rattle.flash_laws.specs.Site.OtherConns.{with_at, left_by}
use Rattle.flash_laws.specs.declared.phase.Payload.TheVariants.{Error, Script}
use Rattle.flash_laws.specs.declared.phase.Phase.{Phase}
use Rattle.flash_laws.specs.declared.phase.Phase.TheVariants.{Receiving, Reading as Reading, DroppingWhole}
use Rattle.flash_laws.specs.declared.phase.Phase.TheVariants.{DroppingSent, Aborting, Closed}
use Rattle.flash_laws.specs.declared.script_run.Run.{Run}
use Rattle.flash_laws.specs.declared.script_run.Step.{Step}
use Rattle.flash_laws.specs.declared.script_run.Step.TheVariants as act
use Rattle.flash_laws.specs.declared.script_run.Running.{Running}
use Rattle.flash_laws.specs.declared.script_run.Running.TheVariants.{InProgress, Finishing}
use Rattle.flash_laws.proofs.Forms.{at, of}
use Rattle.flash_laws.proofs.Lists.{never_passed}

-- only calls that may wait are refused WouldBlock
abbrev pub WaitLaw : Type 0
WaitLaw = (s t : State) (d : ℕ) (k : Call) → StepsTo s (event.Call d k) (reply.Refused no.WouldBlock) t
    → may_wait k ≡ true

-- Places.

pub none-in : (clients : List (Option Client)) (i : ℕ) → length clients ≤ i → in_place clients i ≡ None
none-in clients i past = grind (arith, nat_tests, common_steps, past)

grown-none : (clients : List (Option Client)) (fd : ℕ) → fd < length clients
    → clients ++ replicate (fd + 1 - length clients) None ≡ clients
grown-none clients fd lt =
    (let e : fd + 1 - length clients ≡ 0 = omega (arith, lt) in ap (λ k. clients ++ replicate k None) e
    ∙ append-nil clients)

set-there : (clients : List (Option Client)) (fd : ℕ) (x : Client) → in_place clients fd ≡ Some x
    → slice_set clients fd (Some x) ≡ clients
set-there [] fd x is = absurd (cc)
set-there (y ∷ clients) zero x is = ap (λ (z : Option Client). z ∷ clients) (sym is)
set-there (y ∷ clients) (suc fd) x is = ap (λ (l : List (Option Client)). y ∷ l) (set-there clients fd x is)

within : (clients : List (Option Client)) (fd : ℕ) (x : Client) → in_place clients fd ≡ Some x → fd < length clients
within clients fd x is =
    elim (cases_lt fd (length clients)) [
      | inl lt ↦ lt
      | inr past ↦
          (let none = none-in clients fd past in absurd (cc (none, is)))
    ]

-- setting a place to the client that it has changes nothing
pub same-there : (clients : List (Option Client)) (fd : ℕ) (x : Client) → in_place clients fd ≡ Some x
    → with_at clients fd (Some x) ≡ clients
same-there clients fd x is =
    ap (λ (l : List (Option Client)). slice_set l fd (Some x)) (grown-none clients fd (within clients fd x is))
    ∙ set-there clients fd x is

-- A connection whose call would block is unchanged.

conn-blocked : (buffered : List ℕ) (q : Answer) (d : Phase) (received : List ℕ)
    → conn.after_reply (at buffered q d) (reply.Refused no.WouldBlock) received ≡ at buffered q d
conn-blocked buffered q Receiving received = refl
conn-blocked buffered q d received = refl

-- likewise a run

part-blocked : (run : Run) (d : Phase) (frame : Option ℕ)
    → after_sending run d frame (reply.Refused no.WouldBlock) ≡ InProgress run (act.SendingPart d frame)
part-blocked run (DroppingSent a taken None) frame = refl
part-blocked run (Aborting a None) frame = refl
part-blocked run d frame = refl

step-blocked : (w : Wanted) (run : Run) (s : Step) (received : List ℕ)
    → running.after_step w run s (reply.Refused no.WouldBlock) received ≡ InProgress run s
step-blocked w run (act.SendingPart d frame) received = part-blocked run d frame
step-blocked w run s received = refl

run-blocked : (worker : ℕ) (w : Wanted) (y : Running) (received : List ℕ)
    → running.after_reply worker w y (reply.Refused no.WouldBlock) received ≡ y
run-blocked worker w (InProgress run s) received = step-blocked w run s received
run-blocked worker w (Finishing d) received =
    ap (λ (x : Conn). Finishing x.phase) (conn-blocked [] (serve w) d received)
run-blocked worker w x received = refl

-- if its run does not change, a client is unchanged, and so is its text
same-text : (k : Bool) (text : List ℕ) → text_on k k text ≡ text
same-text true text = refl
same-text false text = refl

stands : (x : Client) (y : Running) (over : Bool) → x.run ≡ Some y → proceeds over over x y y ≡ x
stands x y over run_is =
    same over
    ∙ (ap (λ (l : List ℕ). record { conn = x.conn; run = Some y; script = l }) (same-text (keeps_text y) x.script)
    ∙ ap (λ (o : Option Running). record { conn = x.conn; run = o; script = x.script }) (sym run_is))
  where
    same : (b : Bool)
        → proceeds b b x y y ≡ record {
          conn = x.conn;
          run = Some y;
          script = text_on (keeps_text y) (keeps_text y) x.script;
        }
    same true = refl
    same false = refl

-- A client whose call would block is unchanged.

script-blocked : (buffered : List ℕ) (q : Answer) (d : Phase) (script received : List ℕ)
    → file_after_reply true (of (at buffered q d) None script) (reply.Refused no.WouldBlock) received
    ≡ of (at buffered q d) None script
script-blocked buffered q (Reading f) script received = by (is_head_only q)
  where
    by : (h : Bool)
        → of (at buffered q (Reading f)) None (buffered_text h script (reply.Refused no.WouldBlock) received)
        ≡ of (at buffered q (Reading f)) None script
    by true = refl
    by false = refl
script-blocked buffered q (DroppingWhole a Script) script received = by (is_head_only q)
  where
    by : (h : Bool) → of (at buffered q (DroppingWhole a Script)) (after_drop_whole h (reply.Refused no.WouldBlock))
        script
        ≡ of (at buffered q (DroppingWhole a Script)) None script
    by true = refl
    by false = refl
script-blocked buffered q d script received = refl

pub after_reply-blocked : (scripts : Bool) (worker : ℕ) (c : Conn) (run : Option Running) (script received : List ℕ)
    → after_reply scripts worker (of c run script) (reply.Refused no.WouldBlock) received ≡ of c run script
after_reply-blocked scripts worker c None script received = by (is_for_script scripts c.request)
  where
    by : (b : Bool) → file_after_reply b (of c None script) (reply.Refused no.WouldBlock) received ≡ of c None script
    by true = script-blocked c.buffered c.request c.phase script received
    by false = ap (λ (z : Conn). of z None script) (conn-blocked c.buffered c.request c.phase received)
after_reply-blocked scripts worker c (Some y) script received = by c.request
  where
    by : (q : Answer) → run_after_reply worker q (of c (Some y) script) y (reply.Refused no.WouldBlock) received
        ≡ of c (Some y) script
    by (serve w) =
        ap (λ (z : Running). proceeds (is_over y) (is_over z) (of c (Some y) script) y z)
        (run-blocked worker w y received) ∙ stands (of c (Some y) script) y (is_over y) refl
    by (refuse status head_only close) = refl

-- and the client is not removed
phase-blocked : WaitLaw → (m : State) (by fd : ℕ) (b : Bool) (buffered : List ℕ) (q : Answer) (d : Phase) (x : Client)
    → WouldWait m by (conn_call b fd (at buffered q d)) → left_by d x ≡ Some x
phase-blocked waits m by fd true buffered q Closed x step =
    absurd (let may = waits m m by (call.Close fd) step in cc (may))
phase-blocked waits m by fd false buffered q Closed x step =
    absurd (let may = waits m m by (call.Close fd) step in cc (may))
phase-blocked waits m by fd b buffered q d x step = refl

left-blocked : WaitLaw
    → (m : State) (by workers fd : ℕ) (clients : List (Option Client)) (c : Conn) (run : Option Running)
    (script : List ℕ)
    → Blocks m by workers clients fd (of c run script) → left_over (of c run script) ≡ Some (of c run script)
left-blocked waits m by workers fd clients c (Some y) script blocks = refl
left-blocked waits m by workers fd clients c None script blocks = elim blocks.1 [
  | inl passed ↦ absurd (never_passed (has_free workers clients) passed)
  | inr step ↦ phase-blocked waits m by fd (is_for_script (runs_scripts workers) c.request) c.buffered c.request c.phase
      (of c None script) step
]

pub filed-at : WaitLaw → (m : State) (by workers fd : ℕ) (clients : List (Option Client)) (received : List ℕ)
    → BlocksAt m by workers clients fd
    → after_reply_at workers clients fd (in_place clients fd) (reply.Refused no.WouldBlock) received ≡ clients
filed-at waits m by workers fd clients received blocked = at_place (in_place clients fd) refl
  where
    at_place : (o : Option Client) → in_place clients fd ≡ o
        → after_reply_at workers clients fd o (reply.Refused no.WouldBlock) received ≡ clients
    at_place None is = refl
    at_place (Some x) is =
        ap (λ (y : Client). with_at clients fd (left_over y))
        (after_reply-blocked (runs_scripts workers) (first_free workers clients) x.conn x.run x.script received)
        ∙ (ap (λ (o : Option Client). with_at clients fd o)
        (left-blocked waits m by workers fd clients x.conn x.run x.script (blocked x is))
        ∙ same-there clients fd x is)

-- A connection that is made ready is unchanged, or begins a request.

abbrev Stands : Conn → Conn → Type 0
Stands x y = (y ≡ x) × conn.IsAwaiting y

abbrev Begins : Conn → Type 0
Begins y = (p : Answer) × (rest : List ℕ) × (y ≡ at rest p (begins p))

pub conn-ready : (buffered : List ℕ) (q : Answer) (d : Phase) (y : Conn) → conn.Readies (at buffered q d) y
    → Stands (at buffered q d) y ⊎ Begins y
conn-ready buffered q Receiving y ready = by ready
  where
    by : Starts (at buffered q Receiving) y → Stands (at buffered q Receiving) y ⊎ Begins y
    by (inl waits) = inl (waits.1, subst (λ (x : Conn). conn.IsAwaiting x) (sym waits.1) waits.0)
    by (inr some) = inr (some.0, some.1, some.3)
conn-ready buffered q d y ready = inl (ready, subst (λ (x : Conn). conn.IsAwaiting x) (sym ready) tt)

-- the first call of a request is never refused WouldBlock
never-waits : WaitLaw → (m : State) (by fd : ℕ) (b : Bool) (rest : List ℕ) (p : Answer)
    → WouldWait m by (conn_call b fd (at rest p (begins p))) → ⊥
never-waits waits m by fd true rest (serve w) step =
    (let may = waits m m by (call.OpenFile w.name modes.Read) step in cc (may))
never-waits waits m by fd false rest (serve w) step =
    (let may = waits m m by (call.OpenFile w.name modes.Read) step in cc (may))
never-waits waits m by fd true rest (refuse status head_only close) step =
    (let may = waits m m by (call.AggMake (text_of (refuse status head_only close) (Error status))) step in cc (may))
never-waits waits m by fd false rest (refuse status head_only close) step =
    (let may = waits m m by (call.AggMake (text_of (refuse status head_only close) (Error status))) step in cc (may))

-- a client that is made ready and whose call would block is unchanged
pub ready-blocked : WaitLaw
    → (m : State) (by fd : ℕ) (scripts : Bool) (c : Conn) (run : Option Running) (script : List ℕ) (y : Client)
    → Readies (of c run script) y → WouldWait m by (next_call scripts fd y) → (y ≡ of c run script) × IsAwaiting y
ready-blocked waits m by fd scripts c (Some z) script y ready step =
    (ready, subst (λ (x : Client). IsAwaiting x) (sym ready) tt)
ready-blocked waits m by fd scripts c None script y ready step =
    elim (conn-ready c.buffered c.request c.phase ready.0 ready.1) [
      | inl stands ↦ (
        ready.2 ∙ ap (λ (x : Conn). of x None script) stands.0,
        subst (λ (x : Client). IsAwaiting x) (sym ready.2) stands.1,
      )
      | inr begun ↦
          absurd (never-waits waits m by fd (is_for_script scripts begun.0) begun.1 begun.0
          (subst (λ (x : Client). WouldWait m by (next_call scripts fd x)) (ready.2
          ∙ ap (λ (x : Conn). of x None script) begun.2) step))
    ]
