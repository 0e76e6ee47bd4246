-- Replies leave a client's request unchanged, and extend its buffered stream. A client holds no text except that of a
-- script that will run.
use Rattle.std.proofs.Common.{◌≡◌, ℕ, List, [], ◌∷◌, ap, ◌∙◌, refl, sym, subst, Option, Some, None, true, false, Bool}
use Rattle.std.proofs.Common.{append-nil}
use Rattle.std.specs.Prelude.{◌&&◌, not}
use Rattle.iol_core.specs.declared.events.Call.TheVariants as call
use Rattle.iol_core.specs.declared.events.Reply.{Reply}
use Rattle.iol_core.specs.declared.events.Reply.TheVariants as reply
use Rattle.flash_http.specs.Request.{Answer, serve, refuse}
use Rattle.flash_laws.specs.Client.{Client, is_for_script, conn_call, next_call, can_run, buffered_if, after_drop_whole}
use Rattle.flash_laws.specs.Client.{file_after_reply, keeps_text, text_on, proceeds, after_reply, Readies, new_client}
use Rattle.flash_laws.specs.Client.Holdings.{HoldsNoOther}
use Rattle.flash_laws.specs.Client.OfferedBytes.{buffered_after}
use Rattle.flash_laws.specs.Conn as conn
use Rattle.flash_laws.specs.Conn.{Conn, most_read, is_head_only}
use Rattle.flash_laws.specs.declared.phase.FileResult.TheVariants.{Text as TextOf}
use Rattle.flash_laws.specs.declared.phase.Payload.TheVariants.{Body, Script}
use Rattle.flash_laws.specs.declared.phase.Phase.{Phase}
use Rattle.flash_laws.specs.declared.phase.Phase.TheVariants.{Receiving, Reading as Reading, ClosingFile, DroppingWhole}
use Rattle.flash_laws.specs.declared.script_run.Running.{Running}
use Rattle.flash_laws.specs.Client.ResponseState.{is_read}
use Rattle.flash_laws.specs.Run as running
use Rattle.flash_laws.specs.Run.{is_over}
use Rattle.flash_laws.proofs.Forms.{at, of as client}

-- ---- a script is read whole

pub client-whole : (scripts : Bool) (fd f : ℕ) (buffered : List ℕ) (q : Answer) (d : Phase) (run : Option Running)
    (script : List ℕ) → run ≡ None
    → is_for_script scripts q ≡ true → d ≡ Reading f
    → next_call scripts fd (client (at buffered q d) run script) ≡ call.IolRead f most_read
client-whole scripts fd f buffered q d None script none for_script reads =
    ap (λ b. conn_call b fd (at buffered q d)) for_script
    ∙ ap (λ (e : Phase). conn_call true fd (at buffered q e)) reads
client-whole scripts fd f buffered q d (Some y) script none for_script reads = absurd (cc (none))

-- ---- the request, and the buffered input

-- the request is unchanged, and the buffered input is extended by the bytes received
abbrev Keeps : Client → Reply → (received : List ℕ) → Client → Type 0
Keeps x r received y = (y.conn.request ≡ x.conn.request) × (y.conn.buffered ≡ buffered_after x r received)

file-keeps : (buffered : List ℕ) (q : Answer) (d : Phase) (script : List ℕ) (r : Reply) (received : List ℕ) (b : Bool)
    → Keeps (client (at buffered q d) None script) r received
    (file_after_reply b (client (at buffered q d) None script) r received)
file-keeps buffered q Receiving script (reply.Agg n) [] false = (refl, sym (append-nil buffered))
file-keeps buffered q Receiving script (reply.Agg n) (c ∷ received) false = (refl, refl)
file-keeps buffered q (DroppingWhole a (Body b size len)) script r received false = (refl, refl)
file-keeps buffered q Receiving script (reply.Agg n) [] true = (refl, sym (append-nil buffered))
file-keeps buffered q Receiving script (reply.Agg n) (c ∷ received) true = (refl, refl)
file-keeps buffered q (DroppingWhole a (Body b size len)) script r received true = (refl, refl)
file-keeps buffered q d script r received false = (refl, refl)
file-keeps buffered q d script r received true = (refl, refl)

-- a run changes neither
run-keeps : (x : Client) (y z : Running) (was over : Bool) → ((proceeds was over x y z).conn.request ≡ x.conn.request)
    × ((proceeds was over x y z).conn.buffered ≡ x.conn.buffered)
run-keeps x y z false true = (refl, refl)
run-keeps x y z false false = (refl, refl)
run-keeps x y z true true = (refl, refl)
run-keeps x y z true false = (refl, refl)

pub client-keeps : (scripts : Bool) (worker : ℕ) (buffered : List ℕ) (q : Answer) (d : Phase) (run : Option Running)
    (script : List ℕ) (r : Reply) (received : List ℕ)
    → Keeps (client (at buffered q d) run script) r received
    (after_reply scripts worker (client (at buffered q d) run script) r received)
client-keeps scripts worker buffered q d None script r received =
    file-keeps buffered q d script r received (is_for_script scripts q)
client-keeps scripts worker buffered (serve w) d (Some y) script r received =
    run-keeps (client (at buffered (serve w) d) (Some y) script) y (running.after_reply worker w y r received)
    (is_over y)
    (is_over (running.after_reply worker w y r received))
client-keeps scripts worker buffered (refuse status head_only close) d (Some y) script r received = (refl, refl)

-- ---- the text that it holds

-- a conjunction whose last part is false
last-false : (a b : Bool) → (a && (b && false)) ≡ false
last-false false b = refl
last-false true false = refl
last-false true true = refl

inner-false : (a : Bool) → (a && false) ≡ false
inner-false false = refl
inner-false true = refl

module _ (scripts : Bool) (buffered : List ℕ) (q : Answer) (script : List ℕ) where
  abbrev plain : Phase → Client
  plain d = client (at buffered q d) None script

  -- if no script's text was read, the client holds none
  unheld : (d : Phase) → is_read d ≡ false → HoldsNoOther scripts (plain d) → script ≡ []
  unheld d unread holds =
      holds (ap (λ b. is_for_script scripts q && (not (is_head_only q) && b)) unread
      ∙ last-false (is_for_script scripts q) (not (is_head_only q)))

  -- a text that will not run is not held
  read-holds : (f n : ℕ) (received : List ℕ) (b h runs : Bool) → b ≡ true
      → (b && (not h && is_read (ClosingFile f (TextOf n runs)))) ≡ false → buffered_if h runs received ≡ []
  read-holds f n received b true runs is none = refl
  read-holds f n received b false false is none = refl
  read-holds f n received false false true is none = absurd (cc (is))
  read-holds f n received true false true is none = absurd (cc (none))

  reads-hold : (f : ℕ) (r : Reply) (received : List ℕ) → is_for_script scripts q ≡ true
      → HoldsNoOther scripts (plain (Reading f))
      → HoldsNoOther scripts (file_after_reply true (plain (Reading f)) r received)
  reads-hold f (reply.Agg n) received is holds =
      λ none. read-holds f n received (is_for_script scripts q) (is_head_only q) (can_run received) is none
  reads-hold f r received is holds = λ none. unheld (Reading f) refl holds

  spares-hold : (a : ℕ) (r : Reply) (received : List ℕ) (h : Bool) → is_head_only q ≡ h
      → HoldsNoOther scripts (plain (DroppingWhole a Script))
      → HoldsNoOther scripts (record {
        conn = conn.after_reply (at buffered q (DroppingWhole a Script)) r received;
        run = after_drop_whole h r;
        script = script;
      })
  spares-hold a r received true is holds =
      λ none. holds (ap (λ k. is_for_script scripts q && (not k && true)) is ∙ inner-false (is_for_script scripts q))
  spares-hold a reply.Done received false is holds = λ none. absurd (cc (none))
  spares-hold a r received false is holds = holds

  closed-holds : (f a : ℕ) (received : List ℕ) → HoldsNoOther scripts (plain (ClosingFile f (TextOf a true)))
      → HoldsNoOther scripts (file_after_reply true (plain (ClosingFile f (TextOf a true))) reply.Done received)
  closed-holds f a received holds = by q holds
    where
      by : (p : Answer) → HoldsNoOther scripts (client (at buffered p (ClosingFile f (TextOf a true))) None script)
          → HoldsNoOther scripts
          (file_after_reply true (client (at buffered p (ClosingFile f (TextOf a true))) None script)
          reply.Done received)
      by (serve w) holds = holds
      by (refuse status head_only close) holds = holds

  -- after a reply to a client without a run, no other text is held
  file-holds : (d : Phase) (r : Reply) (received : List ℕ) (b : Bool) → is_for_script scripts q ≡ b
      → HoldsNoOther scripts (plain d)
      → HoldsNoOther scripts (file_after_reply b (plain d) r received)
  file-holds d r received false is holds = λ none. holds (ap (λ b. b && (not (is_head_only q) && is_read d)) is)
  file-holds (Reading f) r received true is holds = reads-hold f r received is holds
  file-holds (DroppingWhole a Script) r received true is holds = spares-hold a r received (is_head_only q) refl holds
  file-holds (ClosingFile f (TextOf a true)) reply.Done received true is holds = closed-holds f a received holds
  file-holds (ClosingFile f (TextOf a true)) r received true is holds = holds
  file-holds d r received true is holds = λ none. unheld d refl holds

  stays-ready : (d : Phase) (y : Client) (ready : Conn) → HoldsNoOther scripts (plain d) → ready ≡ at buffered q d
      → y ≡ record { conn = ready; run = None; script = script } → HoldsNoOther scripts y
  stays-ready d y ready holds same is =
      subst (λ (x : Client). HoldsNoOther scripts x) (sym (is ∙ ap (λ (c : Conn). client c None script) same)) holds

  -- a client that was made ready holds no other text
  begun-holds : (d : Phase) (y : Client) (b : Bool) → is_read d ≡ b → HoldsNoOther scripts (plain d)
      → Readies (plain d) y → HoldsNoOther scripts y
  begun-holds d y false unread holds begun = λ none. ap (λ (z : Client). z.script) begun.2 ∙ unheld d unread holds
  begun-holds (ClosingFile f (TextOf a true)) y true read holds begun =
      stays-ready (ClosingFile f (TextOf a true)) y begun.0 holds begun.1 begun.2
  begun-holds (DroppingWhole a Script) y true read holds begun =
      stays-ready (DroppingWhole a Script) y begun.0 holds begun.1 begun.2
  begun-holds d y true read holds begun = absurd (cc (read))

-- a run that no longer needs the text does not hold it
text-holds : (script : List ℕ) (was now : Bool) → (was ≡ false → script ≡ []) → now ≡ false
    → text_on was now script ≡ []
text-holds script true false holds none = refl
text-holds script false false holds none = holds refl
text-holds script was true holds none = absurd (cc (none))

run-holds : (scripts : Bool) (c : Conn) (script : List ℕ) (y z : Running) (was over : Bool)
    → HoldsNoOther scripts (client c (Some y) script)
    → HoldsNoOther scripts (proceeds was over (client c (Some y) script) y z)
run-holds scripts c script y z was over holds = by was over
  where
    on : keeps_text z ≡ false → text_on (keeps_text y) (keeps_text z) script ≡ []
    on none = text-holds script (keeps_text y) (keeps_text z) holds none

    by : (was over : Bool) → HoldsNoOther scripts (proceeds was over (client c (Some y) script) y z)
    by false true = λ none. refl
    by false false = on
    by true true = on
    by true false = on

pub client-holds : (scripts : Bool) (worker : ℕ) (buffered : List ℕ) (q : Answer) (d : Phase) (run : Option Running)
    (script : List ℕ) (r : Reply) (received : List ℕ)
    → HoldsNoOther scripts (client (at buffered q d) run script)
    → HoldsNoOther scripts (after_reply scripts worker (client (at buffered q d) run script) r received)
client-holds scripts worker buffered q d None script r received holds =
    file-holds scripts buffered q script d r received (is_for_script scripts q) refl holds
client-holds scripts worker buffered (serve w) d (Some y) script r received holds =
    run-holds scripts (at buffered (serve w) d) script y (running.after_reply worker w y r received) (is_over y)
    (is_over (running.after_reply worker w y r received)) holds
client-holds scripts worker buffered (refuse status head_only close) d (Some y) script r received holds = holds

pub client-ready : (scripts : Bool) (buffered : List ℕ) (q : Answer) (d : Phase) (run : Option Running)
    (script : List ℕ)
    (y : Client)
    → HoldsNoOther scripts (client (at buffered q d) run script) → Readies (client (at buffered q d) run script) y
    → HoldsNoOther scripts y
client-ready scripts buffered q d None script y holds begun =
    begun-holds scripts buffered q script d y (is_read d) refl holds begun
client-ready scripts buffered q d (Some z) script y holds begun =
    subst (λ (x : Client). HoldsNoOther scripts x) (sym begun) holds

pub new-holds : (scripts : Bool) → HoldsNoOther scripts new_client
new-holds scripts = λ none. refl
