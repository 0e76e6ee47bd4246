-- The action of a client, by the action of its connection.
use Rattle.std.proofs.Common.{inl, inr, ◌≡◌, ◌≢◌, ℕ, ◌<◌, ◌==◌, ◌||◌, if◌then◌else◌, length, List, [], ◌∷◌, Option}
use Rattle.std.proofs.Common.{Some, None, Bool, true, false, refl, sym, ap, subst, arith, ◌∙◌}
use Rattle.std.specs.Prelude.{◌&&◌, is_some, nat_le, option_map}
use Rattle.std.specs.List.{slice_split}
use Rattle.std.proofs.lemmas.Bool.Decides.{nat_tests}
use Rattle.std.proofs.lemmas.Str.{is_utf8-from_IsUtf8, IsUtf8-nil}
use Rattle.flash_cgi.specs.Script.{is_utf8, is_line_feed, lines_in}
use Rattle.flash_cgi.specs.declared.script.TheConstants.{MAX_SCRIPT_BYTES}
use Rattle.iol_core.specs.declared.events.Call.{Call}
use Rattle.iol_core.specs.declared.events.Reply.{Reply}
use Rattle.iol_core.specs.declared.events.Reply.TheVariants as reply
use Rattle.flash_http.specs.Request.{Answer}
use Rattle.flash_http.specs.Window.{window_in}
use Rattle.flash_laws.specs.Client.{Client, Readies, has_answered, is_bare, can_run, buffered_if, conn_call}
use Rattle.flash_laws.specs.Client.{conn_after_reply, file_after_reply, after_drop_whole, is_for_script, left_over}
use Rattle.flash_laws.specs.Client.{next_call, awaits}
use Rattle.flash_laws.specs.Client.Wants.{Receives, ClientReceives, needs_memory, WantsOn}
use Rattle.flash_laws.specs.Conn as conn
use Rattle.flash_laws.specs.Conn.{Conn, is_head_only}
use Rattle.flash_laws.specs.Conn.Policy as policy
use Rattle.flash_laws.specs.Conn.Policy.{is_later}
use Rattle.flash_laws.specs.Run.{is_left}
use Rattle.flash_laws.specs.Serves.Rounds.{leaves_off}
use Rattle.flash_laws.specs.Site.OtherConns as consistent
use Rattle.flash_laws.specs.Conn.Wants as wanting
use Rattle.flash_laws.specs.declared.script_run.Running.{Running}
use Rattle.flash_laws.specs.declared.phase.Payload.TheVariants.{Script}
use Rattle.flash_laws.specs.declared.phase.Phase.{Phase}
use Rattle.flash_laws.specs.declared.phase.Phase.TheVariants.{Receiving, DroppingInput, Opening, Reading, ClosingFile}
use Rattle.flash_laws.specs.declared.phase.Phase.TheVariants.{Slicing, DroppingWhole, MakingHead}
use Rattle.flash_laws.specs.declared.phase.Phase.TheVariants.{Joining, SendingWhole, CuttingPiece, SendingPiece}
use Rattle.flash_laws.specs.declared.phase.Phase.TheVariants.{DroppingPiece, DroppingSent, AbortingPiece, Aborting}
use Rattle.flash_laws.specs.declared.phase.Phase.TheVariants.{Disconnecting, Closed}
use Rattle.flash_laws.proofs.Site.InPlaces.{left-map}
use Rattle.flash_lite.specs.Course.{whole, found, runs, text_received, ended, left_with, Proceeds, IsLeft, IsCourse}
use Rattle.flash_lite.specs.Onward as onward
use Rattle.flash_lite.specs.declared.client.Course.{Course}
use Rattle.flash_lite.specs.declared.client.Course.TheVariants.{Asks, Leaves}
use Rattle.flash_lite.specs.declared.client.Left.TheVariants.{Goes, Ends, Begins}
use Rattle.flash_lite.specs.declared.conn.Onward.TheVariants as going
use Rattle.flash_lite.specs.declared.client.scripts.Found.TheVariants as reports

abbrev at : List ℕ → Answer → Phase → Conn
at buffered q d = record { buffered = buffered; request = q; phase = d }

-- a client without a running script
abbrev pub plain : Conn → List ℕ → Client
plain c script = record { conn = c; run = None; script = script }

-- ---- its call

call-whole : (script : Bool) (fd : ℕ) (buffered : List ℕ) (q : Answer) (d : Phase)
    → whole script d (conn.next_call fd (at buffered q d)) ≡ conn_call script fd (at buffered q d)
call-whole false fd buffered q d = refl
call-whole true fd buffered q Receiving = refl
call-whole true fd buffered q (DroppingInput a) = refl
call-whole true fd buffered q Opening = refl
call-whole true fd buffered q (Reading f) = refl
call-whole true fd buffered q (ClosingFile f k) = refl
call-whole true fd buffered q (Slicing a from to len) = refl
call-whole true fd buffered q (DroppingWhole a k) = refl
call-whole true fd buffered q (MakingHead k) = refl
call-whole true fd buffered q (Joining a size body len) = refl
call-whole true fd buffered q (SendingWhole s) = refl
call-whole true fd buffered q (CuttingPiece s) = refl
call-whole true fd buffered q (SendingPiece s piece) = refl
call-whole true fd buffered q (DroppingPiece s piece) = refl
call-whole true fd buffered q (DroppingSent a taken more) = refl
call-whole true fd buffered q (AbortingPiece piece a more) = refl
call-whole true fd buffered q (Aborting a more) = refl
call-whole true fd buffered q Disconnecting = refl
call-whole true fd buffered q Closed = refl

pub whole_call : (script : Bool) (fd : ℕ) (x : Conn)
    → whole script x.phase (conn.next_call fd x) ≡ conn_call script fd x
whole_call script fd x = call-whole script fd x.buffered x.request x.phase

call-plain-of : (scripts : Bool) (fd : ℕ) (c : Conn) (run : Option Running) (script : List ℕ) → run ≡ None
    → conn_call (is_for_script scripts c.request) fd c
    ≡ next_call scripts fd (record { conn = c; run = run; script = script })
call-plain-of scripts fd c None script none = refl
call-plain-of scripts fd c (Some y) script none = absurd (cc (none))

call-plain : (scripts : Bool) (fd : ℕ) (y : Client) → y.run ≡ None
    → conn_call (is_for_script scripts y.conn.request) fd y.conn ≡ next_call scripts fd y
call-plain scripts fd y none = call-plain-of scripts fd y.conn y.run y.script none

-- ---- without a running script

leaves-map : (script : List ℕ) (o : Option Conn) (r : Reply)
    → leaves_off (option_map (λ (c : Conn). plain c script) o) r ≡ policy.leaves_off o r
leaves-map script None r = refl
leaves-map script (Some c) r = refl

pub leaves-plain : (c : Conn) (script : List ℕ) (r : Reply)
    → leaves_off (left_over (plain c script)) r ≡ policy.leaves_off (consistent.left_over c) r
leaves-plain c script r =
    ap (λ (o : Option Client). leaves_off o r) (sym (left-map (λ (z : Conn). plain z script) c.phase c))
    ∙ leaves-map script (consistent.left_over c) r

pub stays-plain : (c : Conn) (script : List ℕ) → consistent.left_over c ≡ Some c
    → left_over (plain c script) ≡ Some (plain c script)
stays-plain c script stays = sym (left-map (λ (z : Conn). plain z script) c.phase c)
    ∙ ap (λ (o : Option Conn). option_map (λ (z : Conn). plain z script) o) stays

asks-plain : (x : Client) (k : Conn) (r : Reply) (received : List ℕ) → onward.Proceeds x.conn r received k
    → Proceeds (conn_after_reply x r received) r (plain k x.script)
asks-plain x k r received g = record {
  on = leaves-plain (conn.after_reply x.conn r received) x.script r ∙ g.on;
  stays = stays-plain (conn.after_reply x.conn r received) x.script g.stays;
  readies = (k, g.readies, refl);
}

pub asks_alone : (scripts : Bool) (fd : ℕ) (x y : Client) (r : Reply) (received : List ℕ) (k : Call) → x.run ≡ None
    → onward.Proceeds x.conn r received y.conn
    → y.run ≡ None → y.script ≡ x.script → k ≡ conn_call (is_for_script scripts y.conn.request) fd y.conn
    → Proceeds (conn_after_reply x r received) r y × (k ≡ next_call scripts fd y)
asks_alone scripts fd x y r received k none g runs same is =
    let e : plain y.conn x.script ≡ y = ap (λ (l : List ℕ). plain y.conn l) (sym same)
    ∙ ap (λ (o : Option Running). record { conn = y.conn; run = o; script = y.script }) (sym runs) in (
      subst (λ (z : Client). Proceeds (conn_after_reply x r received) r z) e (asks-plain x y.conn r received g),
      is
          ∙ ap (λ (z : Client). next_call scripts fd z) e,
    )

pub leaves_alone : (x y : Client) (k : Conn) (r : Reply) (received : List ℕ) (d : Phase) → x.run ≡ None
    → onward.IsLeft x.conn r received d k → y ≡ record { conn = k; run = x.run; script = x.script }
    → IsLeft (conn_after_reply x r received) x r (Goes d) y
leaves_alone x y k r received d none l is = record {
  passed = leaves-plain (conn.after_reply x.conn r received) x.script r ∙ l.off;
  after_reply_is = ap (λ (c : Conn). plain c x.script) l.after_reply_is
      ∙ ap (λ (o : Option Running). record { conn = record x.conn { phase = d }; run = o; script = x.script })
      (sym none);
  remains_is =
      ap (λ (e : Phase). consistent.left_by e (conn_after_reply x r received))
      (ap (λ (c : Conn). c.phase) l.after_reply_is);
  can_rest = l.can_rest;
  unchanged = is ∙ ap (λ (c : Conn). record { conn = c; run = x.run; script = x.script }) l.unchanged;
}

-- ---- a reply after which it may continue

leaves-now : (o : Option Client) (r : Reply) → is_later r ≡ false → leaves_off o r ≡ leaves_off o reply.Done
leaves-now None r now = refl
leaves-now (Some x) r now = ap (λ (b : Bool). b || (awaits x || (has_answered x || is_bare x))) now

pub course_reply : (scripts : Bool) (fd : ℕ) (t x : Client) (r : Reply) (o : Course) (y : Client) → is_later r ≡ false
    → IsCourse scripts fd t x reply.Done o y → IsCourse scripts fd t x r o y
course_reply scripts fd t x r (Asks k) y now c =
    (record { on = leaves-now (left_over t) r now ∙ c.0.on; stays = c.0.stays; readies = c.0.readies }, c.1)
course_reply scripts fd t x r (Leaves l) y now c =
    record {
      passed = leaves-now (left_over t) r now ∙ c.passed;
      after_reply_is = c.after_reply_is;
      remains_is = c.remains_is;
      can_rest = c.can_rest;
      unchanged = c.unchanged;
    }

-- it continues with this call, and no script runs for it
pub goes_as : (scripts : Bool) (fd : ℕ) (t y : Client) (r : Reply) (k : Call) → Proceeds t r t → t.run ≡ None → y ≡ t
    → k ≡ conn_call (is_for_script scripts y.conn.request) fd y.conn → Proceeds t r y × (k ≡ next_call scripts fd y)
goes_as scripts fd t y r k goes none is asks = (
  subst (λ (z : Client). Proceeds t r z) (sym is) goes,
  asks
      ∙ call-plain scripts fd y (ap (λ (z : Client). z.run) is ∙ none),
)

-- ---- a script is found

abbrev of : List ℕ → Answer → Phase → Option Running → List ℕ → Client
of buffered q d run script = record { conn = at buffered q d; run = run; script = script }

never : (b : Bool) (f n : ℕ) → (if b then reports.Runs else reports.AsFile) ≡ reports.Text f n → ⊥
never true f n is = absurd (cc (is))
never false f n is = absurd (cc (is))

record IsText (b : Bool) (x : Client) (r : Reply) (received : List ℕ) (f n : ℕ) : Type 0 where
  after_reply : file_after_reply b x r received ≡ text_received x f n received
  now : is_later r ≡ false
  receives : 0 < length received → Receives b x.conn.phase r received

text-found : (b : Bool) (buffered : List ℕ) (q : Answer) (d : Phase) (run : Option Running) (script : List ℕ)
    (r : Reply)
    (received : List ℕ) (h : Bool) (f n : ℕ)
    → found b d r h ≡ reports.Text f n → IsText b (of buffered q d run script) r received f n
text-found false buffered q d run script r received h f n is = absurd (cc (is))
text-found true buffered q (Reading g) run script (reply.Agg m) received h f n is =
    let eg : g ≡ f = cc in
    let em : m ≡ n = cc in
    record {
      after_reply = ap (λ k. text_received (of buffered q (Reading g) run script) k m received) eg
          ∙ ap (λ k. text_received (of buffered q (Reading g) run script) f k received) em;
      now = refl;
      receives = λ some. some;
    }
text-found true buffered q (Reading g) run script r received h f n is = absurd (cc (is))
text-found true buffered q (DroppingWhole a Script) run script r received h f n is = absurd (never (runs r h) f n is)
text-found true buffered q d run script r received h f n is = absurd (cc (is))

record IsBegun (b : Bool) (x : Client) (r : Reply) (received : List ℕ) : Type 0 where
  after_reply : file_after_reply b x r received ≡ left_with x Begins

run-found : (b : Bool) (buffered : List ℕ) (q : Answer) (d : Phase) (run : Option Running) (script : List ℕ) (r : Reply)
    (received : List ℕ) (h : Bool)
    → is_head_only q ≡ h → found b d r h ≡ reports.Runs → IsBegun b (of buffered q d run script) r received
run-found false buffered q d run script r received h e is = absurd (cc (is))
run-found true buffered q (Reading g) run script (reply.Agg m) received h e is = absurd (cc (is))
run-found true buffered q (Reading g) run script r received h e is = absurd (cc (is))
run-found true buffered q (DroppingWhole a Script) run script reply.Done received true e is = absurd (cc (is))
run-found true buffered q (DroppingWhole a Script) run script reply.Done received false e is =
    record {
      after_reply =
          ap (λ b. record {
            conn = at buffered q (MakingHead Script);
            run = after_drop_whole b reply.Done;
            script = script;
          }) e;
    }
run-found true buffered q (DroppingWhole a Script) run script r received h e is = absurd (cc (is))
run-found true buffered q d run script r received h e is = absurd (cc (is))

file-found : (b : Bool) (buffered : List ℕ) (q : Answer) (d : Phase) (run : Option Running) (script : List ℕ)
    (r : Reply)
    (received : List ℕ) (h : Bool)
    → is_head_only q ≡ h → found b d r h ≡ reports.AsFile
    → file_after_reply b (of buffered q d run script) r received ≡ conn_after_reply (of buffered q d run script) r
    received
file-found false buffered q d run script r received h e is = refl
file-found true buffered q (Reading g) run script (reply.Agg m) received h e is = absurd (cc (is))
file-found true buffered q (Reading g) run script r received h e is = refl
file-found true buffered q (DroppingWhole a Script) run script reply.Done received true e is =
    ap (λ b. record { conn = at buffered q (MakingHead Script); run = after_drop_whole b reply.Done; script = script })
    e
file-found true buffered q (DroppingWhole a Script) run script reply.Done received false e is = absurd (cc (is))
file-found true buffered q (DroppingWhole a Script) run script r received true e is =
    ap (λ b. record { conn = at buffered q (DroppingWhole a Script); run = after_drop_whole b r; script = script }) e
file-found true buffered q (DroppingWhole a Script) run script r received false e is =
    ap (λ b. record { conn = at buffered q (DroppingWhole a Script); run = after_drop_whole b r; script = script }) e
file-found true buffered q d run script r received h e is = refl

-- a client whose run begins waits for a worker
begun-passes : (x : Client) (r : Reply) → leaves_off (left_over (left_with x Begins)) r ≡ true
begun-passes x r = by (is_later r)
  where
    by : (b : Bool) → (b || true) ≡ true
    by true = refl
    by false = refl

-- a text that is too long is no script
pub long_runs : (text : List ℕ) → MAX_SCRIPT_BYTES < length text → can_run text ≡ false
long_runs text long =
    let e : nat_le (length text) MAX_SCRIPT_BYTES ≡ false = grind (arith, nat_tests, long) in
    ap (λ b. is_some (if b && is_utf8 text then lines_in (slice_split is_line_feed text) else None)) e

-- the empty text is a script without lines
pub empty_runs : (text : List ℕ) → length text ≡ 0 → can_run text ≡ true
empty_runs [] none = ap (λ b. is_some (if b then lines_in [] else None)) (is_utf8-from_IsUtf8 [] IsUtf8-nil)
empty_runs (b ∷ text) none = absurd (omega (arith, none))

buffered-none : (h : Bool) (text : List ℕ) → buffered_if h false text ≡ []
buffered-none true text = refl
buffered-none false text = refl

pub long_buffered : (h : Bool) (text : List ℕ) → MAX_SCRIPT_BYTES < length text → buffered_if h (can_run text) text ≡ []
long_buffered h text long = ap (λ b. buffered_if h b text) (long_runs text long) ∙ buffered-none h text

pub received_goes : (scripts : Bool) (fd : ℕ) (x y : Client) (f n : ℕ) (received : List ℕ) (k : Call)
    → y ≡ text_received x f n received
    → k ≡ conn_call (is_for_script scripts y.conn.request) fd y.conn
    → Proceeds (text_received x f n received) reply.Done y
    × (k ≡ next_call scripts fd y)
received_goes scripts fd x y f n received k is asks =
    goes_as scripts fd (text_received x f n received) y reply.Done k
    (record { on = refl; stays = refl; readies = ((text_received x f n received).conn, refl, refl) }) refl is asks

pub file_receives : (scripts : Bool) (fd : ℕ) (x y : Client) (r : Reply) (received : List ℕ) (o : Course) (f n : ℕ)
    → reports.Text f n ≡ found (is_for_script scripts x.conn.request) x.conn.phase r (is_head_only x.conn.request)
    → IsCourse scripts fd (text_received x f n received) x reply.Done o y
    → IsCourse scripts fd (file_after_reply (is_for_script scripts x.conn.request) x r received) x r o y
file_receives scripts fd x y r received o f n is course =
    let t = text-found (is_for_script scripts x.conn.request) x.conn.buffered x.conn.request x.conn.phase x.run x.script
    r received
    (is_head_only x.conn.request) f n (sym is) in
    subst (λ (z : Client). IsCourse scripts fd z x r o y) (sym t.after_reply)
    (course_reply scripts fd (text_received x f n received) x r o y t.now course)

pub file_runs : (scripts : Bool) (x : Client) (r : Reply) (received : List ℕ)
    → reports.Runs ≡ found (is_for_script scripts x.conn.request) x.conn.phase r (is_head_only x.conn.request)
    → IsLeft (file_after_reply (is_for_script scripts x.conn.request) x r received) x r Begins x
file_runs scripts x r received is =
    let t = run-found (is_for_script scripts x.conn.request) x.conn.buffered x.conn.request x.conn.phase x.run x.script
    r received
    (is_head_only x.conn.request) refl (sym is) in
    record {
      passed = ap (λ (z : Client). leaves_off (left_over z) r) t.after_reply ∙ begun-passes x r;
      after_reply_is = t.after_reply;
      remains_is = ap (λ (z : Client). left_over z) t.after_reply ∙ ap (λ (z : Client). Some z) (sym t.after_reply);
      can_rest = tt;
      unchanged = refl;
    }

pub file_alone : (scripts : Bool) (fd : ℕ) (x y : Client) (r : Reply) (received : List ℕ) (o : Course)
    → reports.AsFile ≡ found (is_for_script scripts x.conn.request) x.conn.phase r (is_head_only x.conn.request)
    → IsCourse scripts fd (conn_after_reply x r received) x r o y
    → IsCourse scripts fd (file_after_reply (is_for_script scripts x.conn.request) x r received) x r o y
file_alone scripts fd x y r received o is course =
    let same = file-found (is_for_script scripts x.conn.request) x.conn.buffered x.conn.request x.conn.phase x.run
    x.script r received
    (is_head_only x.conn.request) refl (sym is) in
    subst (λ (z : Client). IsCourse scripts fd z x r o y) (sym same) course

-- ---- memory

receives-none : (scripts : Bool) (c : Conn) (run : Option Running) (script : List ℕ) (r : Reply) (received : List ℕ)
    → run ≡ None
    → Receives (is_for_script scripts c.request) c.phase r received
    → ClientReceives scripts (record { conn = c; run = run; script = script }) r received
receives-none scripts c None script r received none receives = receives
receives-none scripts c (Some y) script r received none receives = absurd (cc (none))

receives-more : (b : Bool) (d : Phase) (r : Reply) (received : List ℕ) → wanting.Receives d r received
    → Receives b d r received
receives-more false d r received receives = receives
receives-more true (Reading f) (reply.Agg n) received receives = absurd receives
receives-more true (Reading f) r received receives = absurd receives
receives-more true d r received receives = receives

pub receives_wants : (scripts : Bool) (x : Client) (r : Reply) (received : List ℕ) (f n : ℕ) → x.run ≡ None
    → reports.Text f n ≡ found (is_for_script scripts x.conn.request) x.conn.phase r (is_head_only x.conn.request)
    → 0 < length received
    → WantsOn scripts (file_after_reply (is_for_script scripts x.conn.request) x r received) x r received
receives_wants scripts x r received f n none is some =
    let t = text-found (is_for_script scripts x.conn.request) x.conn.buffered x.conn.request x.conn.phase x.run x.script
    r received
    (is_head_only x.conn.request) f n (sym is) in
    inl (receives-none scripts x.conn x.run x.script r received none (t.receives some))

pub alone_wants : (scripts : Bool) (x : Client) (r : Reply) (received : List ℕ) → x.run ≡ None
    → reports.AsFile ≡ found (is_for_script scripts x.conn.request) x.conn.phase r (is_head_only x.conn.request)
    → wanting.WantsOn x.conn r received
    → WantsOn scripts (file_after_reply (is_for_script scripts x.conn.request) x r received) x r received
alone_wants scripts x r received none is (inl here) =
    inl
    (receives-none scripts x.conn x.run x.script r received none
    (receives-more (is_for_script scripts x.conn.request) x.conn.phase r received here))
alone_wants scripts x r received none is (inr on) =
    let same = file-found (is_for_script scripts x.conn.request) x.conn.buffered x.conn.request x.conn.phase x.run
    x.script r received
    (is_head_only x.conn.request) refl (sym is) in
    inr (
      ap (λ (z : Client). leaves_off (left_over z) r) same
          ∙ (leaves-plain (conn.after_reply x.conn r received) x.script r ∙ on.0),
      ap (λ (z : Client). needs_memory z) same ∙ on.1,
    )

-- ---- a run is over

pub rests_asks : (scripts : Bool) (fd : ℕ) (x y : Client) (c : Conn) (k j : Call)
    → onward.Frees fd x.conn (going.Asks j) c
    → y ≡ plain c [] → k ≡ conn_call (is_for_script scripts y.conn.request) fd y.conn
    → Proceeds (ended x Receiving) reply.Done y × (k ≡ next_call scripts fd y)
rests_asks scripts fd x y c k j f is asks =
    let goes : Proceeds (ended x Receiving) reply.Done (plain c []) =
    record { on = f.0; stays = refl; readies = (c, f.1, refl) } in (
      subst (λ (z : Client). Proceeds (ended x Receiving) reply.Done z) (sym is) goes,
      asks
          ∙ call-plain scripts fd y (ap (λ (z : Client). z.run) is),
    )

pub rests_leaves : (fd : ℕ) (x y : Client) (c : Conn) (d : Phase) → onward.Frees fd x.conn (going.Leaves d) c
    → y ≡ record { conn = c; run = x.run; script = x.script } → IsLeft (ended x Receiving) x reply.Done (Ends d) y
rests_leaves fd x y c d f is =
    let none : (length x.conn.buffered == 0) ≡ true = ap (λ (l : List ℕ). length l == 0) f.1 in
    record {
      passed = none;
      after_reply_is = ap (λ (e : Phase). ended x e) (sym f.0);
      remains_is = ap (λ (e : Phase). consistent.left_by e (ended x Receiving)) (sym f.0);
      can_rest = subst (λ (e : Phase). onward.CanRest x.conn e) (sym f.0) (record {
        small = omega arith;
        awaits = ap (λ (l : List ℕ). window_in l) f.1;
      });
      unchanged = is ∙ ap (λ (z : Conn). record { conn = z; run = x.run; script = x.script }) f.2;
    }

pub rests_wants : (x : Client) → policy.is_bare (record x.conn { phase = Receiving }) ≡ false
    → wanting.can_begin (window_in x.conn.buffered) ≡ true
    → (leaves_off (left_over (ended x Receiving)) reply.Done ≡ false) × (needs_memory (ended x Receiving) ≡ true)
rests_wants x some begins = (some, begins)

goes-ended : (buffered : List ℕ) (q : Answer) (d : Phase) → d ≢ Receiving → d ≢ Closed → is_left d ≡ false
    → Proceeds (plain (at buffered q d) []) reply.Done (plain (at buffered q d) [])
goes-ended buffered q Receiving busy on over = absurd (busy refl)
goes-ended buffered q Closed busy on over = absurd (on refl)
goes-ended buffered q (DroppingSent a taken more) busy on over = absurd (cc (over))
goes-ended buffered q d busy on over = record { on = refl; stays = refl; readies = (at buffered q d, refl, refl) }

pub ends_asks : (scripts : Bool) (fd : ℕ) (x y : Client) (d : Phase) (k : Call) → d ≢ Receiving → d ≢ Closed
    → is_left d ≡ false → y ≡ ended x d
    → k ≡ conn_call (is_for_script scripts y.conn.request) fd y.conn → Proceeds (ended x d) reply.Done y
    × (k ≡ next_call scripts fd y)
ends_asks scripts fd x y d k busy on over is asks =
    goes_as scripts fd (ended x d) y reply.Done k (goes-ended x.conn.buffered x.conn.request d busy on over) refl is
    asks

pub ends_wants : (x : Client) (d : Phase) → d ≢ Receiving → d ≢ Closed → wanting.has_bytes d ≡ true
    → (leaves_off (left_over (ended x d)) reply.Done ≡ false) × (needs_memory (ended x d) ≡ true)
ends_wants x d busy on bytes = by d bytes
  where
    by : (d : Phase) → wanting.has_bytes d ≡ true → (leaves_off (left_over (ended x d)) reply.Done ≡ false)
        × (needs_memory (ended x d) ≡ true)
    by Opening is = (refl, refl)
    by (MakingHead k) is = (refl, refl)
    by d is = absurd (cc (is))

pub over_leaves : (x : Client) → IsLeft (ended x Closed) x reply.Done (Ends Closed) x
over_leaves x = record {
  passed = refl;
  after_reply_is = refl;
  remains_is = refl;
  can_rest = record { small = omega arith; awaits = tt };
  unchanged = refl;
}

-- ---- its next call

ready-plain : (c : Conn) (run : Option Running) (script : List ℕ) → conn.Readies c c
    → Readies (record { conn = c; run = run; script = script }) (record { conn = c; run = run; script = script })
ready-plain c None script ready = (c, ready, refl)
ready-plain c (Some y) script ready = refl

pub ready_alone : (x : Client) → conn.Readies x.conn x.conn → Readies x x
ready_alone x ready = ready-plain x.conn x.run x.script ready

-- rules for a client whose file was read

pub ruleset file_rules = (file_receives, file_runs, file_alone, receives_wants, alone_wants)

-- rules for a client whose run is over

pub ruleset rest_rules = (rests_asks, rests_leaves, rests_wants)
