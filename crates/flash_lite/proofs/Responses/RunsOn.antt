-- The action of a client after the reply to the call of its run.
use Rattle.std.proofs.Common.{inr, ◌≡◌, ℕ, ◌||◌, List, Option, Some, None, Bool, true, false, refl, sym, ap, subst, ◌∙◌}
use Rattle.std.specs.Prelude.{not, Result, Ok, Err, OnErr}
use Rattle.iol_core.specs.declared.events.Call.{Call}
use Rattle.iol_core.specs.declared.events.Reply.{Reply}
use Rattle.iol_core.specs.declared.events.Reply.TheVariants as reply
use Rattle.iol_core.specs.declared.refusals.Refusal.TheVariants as no
use Rattle.flash_http.specs.Request.{Answer, serve, refuse, Wanted}
use Rattle.flash_laws.proofs.Conn.Responses.{some-inj}
use Rattle.flash_laws.proofs.Run.OfferedBytes.{keeps}
use Rattle.flash_laws.specs.Client.{Client, has_answered, is_bare, keeps_text, text_on, after_run, proceeds}
use Rattle.flash_laws.specs.Client.{run_after_reply, run_call, next_call, left_over, awaits}
use Rattle.flash_laws.specs.Client.Wants.{needs_memory, WantsOn}
use Rattle.flash_laws.specs.Conn as conn
use Rattle.flash_laws.specs.Conn.Policy.{is_later}
use Rattle.flash_laws.specs.Run.OfferedBytes.{HasWorker}
use Rattle.flash_laws.specs.Serves.Rounds.{leaves_off}
use Rattle.flash_laws.specs.Run.Wants.{makes_any}
use Rattle.flash_laws.specs.Run as running
use Rattle.flash_laws.specs.Run.{is_over, is_left, in_phase, after_wait, after_sending, after_step}
use Rattle.flash_laws.specs.declared.phase.Phase.{Phase}
use Rattle.flash_laws.specs.declared.phase.Phase.TheVariants.{MakingHead, SendingWhole, CuttingPiece, SendingPiece}
use Rattle.flash_laws.specs.declared.phase.Phase.TheVariants.{DroppingPiece, DroppingSent, AbortingPiece, Aborting}
use Rattle.flash_laws.specs.declared.script_run.Run.{Run}
use Rattle.flash_laws.specs.declared.script_run.Step.{Step}
use Rattle.flash_laws.specs.declared.script_run.Step.TheVariants as act
use Rattle.flash_laws.specs.declared.script_run.Running.{Running}
use Rattle.flash_laws.specs.declared.script_run.Running.TheVariants.{AwaitingWorker, InProgress, Finishing}
use Rattle.flash_laws.specs.declared.script_run.Running.TheVariants.{Disconnecting as Finished}
use Rattle.flash_lite.specs.Course.{has_answered_by, left_with, run_after, ended, Proceeds, IsLeft, IsCourse}
use Rattle.flash_lite.specs.Runs.{IsSmallRunning, waits}
use Rattle.flash_lite.specs.declared.client.Course.{Course}
use Rattle.flash_lite.specs.declared.client.Left.TheVariants.{Continues, Stays}
use Rattle.flash_lite.proofs.Responses.Clients.{course_reply}

-- ---- if its call is to be retried later, a run is unchanged

-- after each of these replies
abbrev Later : {A : Type 0} → (Reply → A) → A → Type 0
Later f a = (f (reply.Refused no.WouldBlock) ≡ a) × (f (reply.Refused no.TooMany) ≡ a)
    × ((p : ℕ) → f (reply.Refused (no.PoolClosed p)) ≡ a) × ((p : ℕ) → f (reply.Refused (no.NoRoom p)) ≡ a)
    × (f (reply.Refused no.Memory) ≡ a)

by-later : {A : Type 0} (f : Reply → A) (a : A) (r : Reply) → Later f a → is_later r ≡ true → f r ≡ a
by-later f a (reply.Refused no.WouldBlock) same is = same.0
by-later f a (reply.Refused no.TooMany) same is = same.1
by-later f a (reply.Refused (no.PoolClosed p)) same is = same.2 p
by-later f a (reply.Refused (no.NoRoom p)) same is = same.3 p
by-later f a (reply.Refused no.Memory) same is = same.4
by-later f a r same is = absurd (cc (is))

part-later : (run : Run) (d : Phase) (frame : Option ℕ)
    → Later (λ r. after_sending run d frame r) (InProgress run (act.SendingPart d frame))
part-later run (DroppingSent a taken None) frame = (refl, refl, λ p. refl, λ p. refl, refl)
part-later run (DroppingSent a taken (Some x)) frame = (refl, refl, λ p. refl, λ p. refl, refl)
part-later run (Aborting a None) frame = (refl, refl, λ p. refl, λ p. refl, refl)
part-later run (Aborting a (Some x)) frame = (refl, refl, λ p. refl, λ p. refl, refl)
part-later run d frame = (refl, refl, λ p. refl, λ p. refl, refl)

step-later : (w : Wanted) (run : Run) (s : Step) (received : List ℕ)
    → Later (λ r. after_step w run s r received) (InProgress run s)
step-later w run (act.SendingPart d frame) received = part-later run d frame
step-later w run s received = (refl, refl, λ p. refl, λ p. refl, refl)

left-later : (w : Wanted) (d : Phase) (received : List ℕ) → is_left d ≡ true
    → Later (λ r. Finishing (conn.after_reply (in_phase w d) r received).phase) (Finishing d)
left-later w (MakingHead k) received left = (refl, refl, λ p. refl, λ p. refl, refl)
left-later w (SendingWhole s) received left = (refl, refl, λ p. refl, λ p. refl, refl)
left-later w (CuttingPiece s) received left = (refl, refl, λ p. refl, λ p. refl, refl)
left-later w (SendingPiece s piece) received left = (refl, refl, λ p. refl, λ p. refl, refl)
left-later w (DroppingPiece s piece) received left = (refl, refl, λ p. refl, λ p. refl, refl)
left-later w (DroppingSent a taken more) received left = (refl, refl, λ p. refl, λ p. refl, refl)
left-later w (AbortingPiece piece a more) received left = (refl, refl, λ p. refl, λ p. refl, refl)
left-later w (Aborting a more) received left = (refl, refl, λ p. refl, λ p. refl, refl)
left-later w d received left = absurd (cc (left))

still-left : (d : Phase) → not (is_left d) ≡ false → is_left d ≡ true
still-left d is = by (is_left d) is
  where
    by : (b : Bool) → not b ≡ false → b ≡ true
    by true is = refl
    by false is = absurd (cc (is))

run-later : (worker : ℕ) (w : Wanted) (y : Running) (received : List ℕ) → is_over y ≡ false
    → Later (λ r. running.after_reply worker w y r received) y
run-later worker w AwaitingWorker received going = (refl, refl, λ p. refl, λ p. refl, refl)
run-later worker w (InProgress run s) received going = step-later w run s received
run-later worker w (Finishing d) received going = left-later w d received (still-left d going)
run-later worker w Finished received going = absurd (cc (going))

after-later : (worker : ℕ) (q : Answer) (y : Running) (r : Reply) (received : List ℕ) → is_over y ≡ false
    → is_later r ≡ true → run_after worker q y r received ≡ y
after-later worker (serve w) y r received going later =
    by-later (λ z. running.after_reply worker w y z received) y r (run-later worker w y received going) later
after-later worker (refuse status head_only close) y r received going later = refl

-- ---- it continues, or is over

text-same : (b : Bool) (text : List ℕ) → text_on b b text ≡ text
text-same true text = refl
text-same false text = refl

-- a client whose run is unchanged is unchanged
stands : (x : Client) (y : Running) → x.run ≡ Some y → proceeds false false x y y ≡ x
stands x y is =
    ap (λ (l : List ℕ). record { conn = x.conn; run = Some y; script = l }) (text-same (keeps_text y) x.script)
    ∙ ap (λ (o : Option Running). record { conn = x.conn; run = o; script = x.script }) (sym is)

after_reply-is : (worker : ℕ) (q : Answer) (x : Client) (y : Running) (r : Reply) (received : List ℕ) → x.run ≡ Some y
    → is_over y ≡ false
    → run_after_reply worker q x y r received ≡ proceeds false (is_over (run_after worker q y r received)) x y
    (run_after worker q y r received)
after_reply-is worker (serve w) x y r received is going =
    ap (λ b. proceeds b (is_over (running.after_reply worker w y r received)) x y
    (running.after_reply worker w y r received)) going
after_reply-is worker (refuse status head_only close) x y r received is going =
    sym (ap (λ b. proceeds false b x y y) going ∙ stands x y is)

-- ---- it waits for a worker

waits-is : (c : conn.Conn) (y : Running) (script : List ℕ) → awaits (record { conn = c; run = Some y; script = script })
    ≡ waits y
waits-is c AwaitingWorker script = refl
waits-is c (InProgress run s) script = refl
waits-is c (Finishing d) script = refl
waits-is c Finished script = refl

answered-is : (c : conn.Conn) (y : Running) (script : List ℕ)
    → has_answered (record { conn = c; run = Some y; script = script }) ≡ has_answered_by c y
answered-is c AwaitingWorker script = refl
answered-is c (InProgress run s) script = refl
answered-is c (Finishing d) script = refl
answered-is c Finished script = refl

kept-runs : (worker : ℕ) (z : Running) → HasWorker worker z → waits z ≡ false
kept-runs worker AwaitingWorker has = absurd has
kept-runs worker (InProgress run s) has = refl
kept-runs worker (Finishing d) has = refl
kept-runs worker Finished has = refl

-- a run that waits for a worker after a reply is unchanged
still-waits : (worker : ℕ) (q : Answer) (y : Running) (r : Reply) (received : List ℕ)
    → waits (run_after worker q y r received) ≡ true → run_after worker q y r received ≡ y
still-waits worker (serve w) AwaitingWorker r received is = by r is
  where
    by : (r : Reply) → waits (after_wait worker r) ≡ true → after_wait worker r ≡ AwaitingWorker
    by (reply.Fds from write) is = absurd (cc (is))
    by r is = refl
still-waits worker (serve w) (InProgress run s) r received is =
    absurd (let no : waits (after_step w run s r received) ≡ false =
    kept-runs run.worker (after_step w run s r received) (keeps worker w run s r received) in
    let never : false ≡ true = sym no ∙ is in cc (never))
still-waits worker (serve w) (Finishing d) r received is = absurd (cc (is))
still-waits worker (serve w) Finished r received is = absurd (cc (is))
still-waits worker (refuse status head_only close) y r received is = refl

leaves-run : (c : conn.Conn) (run : Option Running) (script : List ℕ) (y : Running) (r : Reply) → run ≡ Some y
    → leaves_off (left_over (record { conn = c; run = run; script = script })) r ≡ is_later r
    || (waits y || (has_answered_by c y || false))
leaves-run c None script y r is = absurd (cc (is))
leaves-run c (Some z) script y r is =
    let same : z ≡ y = some-inj z y is in
    ap (λ b. is_later r || (b || (has_answered (record { conn = c; run = Some z; script = script }) || false)))
    (waits-is c z script ∙ ap (λ (v : Running). waits v) same)
    ∙ ap (λ b. is_later r || (waits y || (b || false))) (answered-is c z script
    ∙ ap (λ (v : Running). has_answered_by c v) same)

-- a client whose script runs is not removed
runs-on : (c : conn.Conn) (run : Option Running) (script : List ℕ) (y : Running) → run ≡ Some y
    → left_over (record { conn = c; run = run; script = script })
    ≡ Some (record { conn = c; run = run; script = script })
runs-on c None script y is = absurd (cc (is))
runs-on c (Some z) script y is = refl

or-true : (b c : Bool) → b ≡ true → b || c ≡ true
or-true b c is = ap (λ d. d || c) is

or-after : (b : Bool) → (b || true) ≡ true
or-after true = refl
or-after false = refl

stays-as : (worker : ℕ) (x : Client) (y : Running) (r : Reply) (received : List ℕ) → x.run ≡ Some y → is_over y ≡ false
    → run_after worker x.conn.request y r received ≡ y
    → (is_later r || (waits y || (has_answered_by x.conn y || false)))
    ≡ true → IsLeft (run_after_reply worker x.conn.request x y r received) x r Stays x
stays-as worker x y r received is going z passes =
    let same : run_after_reply worker x.conn.request x y r received ≡ x =
    after_reply-is worker x.conn.request x y r received is going
    ∙ (ap (λ (v : Running). proceeds false (is_over v) x y v) z
    ∙ (ap (λ b. proceeds false b x y y) going ∙ stands x y is)) in
    record {
      passed = ap (λ (t : Client). leaves_off (left_over t) r) same
          ∙ (leaves-run x.conn x.run x.script y r is ∙ passes);
      after_reply_is = same;
      remains_is = ap (λ (t : Client). left_over t) same
          ∙ (runs-on x.conn x.run x.script y is ∙ ap (λ (t : Client). Some t) (sym same));
      can_rest = tt;
      unchanged = refl;
    }

pub run_stays : (worker : ℕ) (x : Client) (y : Running) (r : Reply) (received : List ℕ) → x.run ≡ Some y
    → is_over y ≡ false → is_later r ≡ true
    → IsLeft (run_after_reply worker x.conn.request x y r received) x r Stays x
run_stays worker x y r received is going later =
    stays-as worker x y r received is going (after-later worker x.conn.request y r received going later)
    (or-true (is_later r) (waits y || (has_answered_by x.conn y || false)) later)

on-after_reply : (worker : ℕ) (x : Client) (y z : Running) (r : Reply) (received : List ℕ) → x.run ≡ Some y
    → is_over y ≡ false
    → z ≡ run_after worker x.conn.request y r received → is_over z ≡ false
    → run_after_reply worker x.conn.request x y r received ≡ proceeds false false x y z
on-after_reply worker x y z r received is going z_is on =
    after_reply-is worker x.conn.request x y r received is going
    ∙ (ap (λ (v : Running). proceeds false (is_over v) x y v) (sym z_is) ∙ ap (λ b. proceeds false b x y z) on)

over-after_reply : (worker : ℕ) (x : Client) (y z : Running) (r : Reply) (received : List ℕ) → x.run ≡ Some y
    → is_over y ≡ false
    → z ≡ run_after worker x.conn.request y r received → is_over z ≡ true
    → run_after_reply worker x.conn.request x y r received ≡ ended x (after_run z)
over-after_reply worker x y z r received is going z_is over =
    after_reply-is worker x.conn.request x y r received is going
    ∙ (ap (λ (v : Running). proceeds false (is_over v) x y v) (sym z_is) ∙ ap (λ b. proceeds false b x y z) over)

pub run_waits : (worker : ℕ) (x : Client) (y z : Running) (r : Reply) (received : List ℕ) → x.run ≡ Some y
    → is_over y ≡ false
    → z ≡ run_after worker x.conn.request y r received → waits z ≡ true
    → IsLeft (run_after_reply worker x.conn.request x y r received) x r Stays x
run_waits worker x y z r received is going z_is waiting =
    let still : run_after worker x.conn.request y r received ≡ y =
    still-waits worker x.conn.request y r received (ap (λ (v : Running). waits v) (sym z_is) ∙ waiting) in
    let waited : waits y ≡ true = ap (λ (v : Running). waits v) (sym (z_is ∙ still)) ∙ waiting in
    stays-as worker x y r received is going still
    (ap (λ b. is_later r || (b || (has_answered_by x.conn y || false))) waited ∙ or-after (is_later r))

-- ---- all of its response is taken, and more requests are buffered

-- a run that is finishing keeps no script text
no-text : (worker : ℕ) (q : Answer) (y : Running) (r : Reply) (received : List ℕ) (d : Phase)
    → run_after worker q y r received ≡ Finishing d → keeps_text y ≡ false
no-text worker (serve w) AwaitingWorker r received d is = by r is
  where
    by : (r : Reply) → after_wait worker r ≡ Finishing d → true ≡ false
    by (reply.Fds from write) is = absurd (cc (is))
    by r is = absurd (cc (is))
no-text worker (serve w) (InProgress run (act.GivingPipe write)) r received d is = absurd (cc (is))
no-text worker (serve w) (InProgress run (act.MakingJob f)) r received d is = absurd (cc (is))
no-text worker (serve w) (InProgress run s) r received d is = refl
no-text worker (serve w) (Finishing e) r received d is = refl
no-text worker (serve w) Finished r received d is = refl
no-text worker (refuse status head_only close) y r received d is = ap (λ (v : Running). keeps_text v) is

-- the bytes being sent are the rest of a response
answered-left : (c : conn.Conn) (d : Phase) → has_answered_by c (Finishing d) ≡ true → is_left d ≡ true
answered-left c (DroppingSent a taken more) has = refl
answered-left c d has = absurd (cc (has))

pub run_answers : (worker : ℕ) (x : Client) (y z : Running) (d : Phase) (r : Reply) (received : List ℕ) → x.run ≡ Some y
    → is_over y ≡ false
    → z ≡ run_after worker x.conn.request y r received → IsSmallRunning z → z ≡ Finishing d
    → has_answered_by x.conn z ≡ true
    → IsLeft (run_after_reply worker x.conn.request x y r received) x r (Continues d) x
run_answers worker x y z d r received is going z_is small phase has =
    let now : has_answered_by x.conn (Finishing d) ≡ true = ap (λ (v : Running). has_answered_by x.conn v) (sym phase)
    ∙ has in
    let on : is_over (Finishing d) ≡ false = ap (λ b. not b) (answered-left x.conn d now) in
    let text : keeps_text y ≡ false = no-text worker x.conn.request y r received d (sym z_is ∙ phase) in
    let same : run_after_reply worker x.conn.request x y r received ≡ left_with x (Continues d) =
    on-after_reply worker x y z r received is going z_is (ap (λ (v : Running). is_over v) phase ∙ on)
    ∙ (ap (λ (v : Running). proceeds false false x y v) phase
    ∙ ap (λ b. record { conn = x.conn; run = Some (Finishing d); script = text_on b false x.script }) text) in
    record {
      passed = ap (λ (t : Client). leaves_off (left_over t) r) same
          ∙ (leaves-run x.conn (Some (Finishing d)) x.script (Finishing d) r refl
          ∙ (ap (λ b. is_later r || (b || false)) now ∙ or-after (is_later r)));
      after_reply_is = same;
      remains_is = ap (λ (t : Client). left_over t) same ∙ ap (λ (t : Client). Some t) (sym same);
      can_rest = (subst (λ (v : Running). IsSmallRunning v) phase small, on);
      unchanged = refl;
    }

proceeds-on : (x : Client) (y z : Running) (r : Reply) → is_later r ≡ false → waits z ≡ false
    → has_answered_by x.conn z ≡ false
    → Proceeds (proceeds false false x y z) r (proceeds false false x y z)
proceeds-on x y z r now going more = record {
  on = leaves-run x.conn (Some z) (text_on (keeps_text y) (keeps_text z) x.script) z r refl
      ∙ (ap (λ b. b || (waits z || (has_answered_by x.conn z || false))) now
      ∙ (ap (λ b. b || (has_answered_by x.conn z || false)) going ∙ ap (λ b. b || false) more));
  stays = refl;
  readies = refl;
}

pub run_goes : (scripts : Bool) (fd worker : ℕ) (x n : Client) (y z : Running) (r : Reply) (received : List ℕ)
    (k : Call) → x.run ≡ Some y → is_over y ≡ false
    → is_later r ≡ false → z ≡ run_after worker x.conn.request y r received → waits z ≡ false
    → has_answered_by x.conn z ≡ false → is_over z ≡ false → n ≡ proceeds false false x y z
    → k ≡ run_call fd n.conn.request n.script z → Proceeds (run_after_reply worker x.conn.request x y r received) r n
    × (k ≡ next_call scripts fd n)
run_goes scripts fd worker x n y z r received k is going now z_is runs more on n_is asks =
    let after_reply = on-after_reply worker x y z r received is going z_is on in (
      subst (λ (t : Client). Proceeds t r n) (sym after_reply)
          (subst (λ (v : Client). Proceeds (proceeds false false x y z) r v) (sym n_is)
          (proceeds-on x y z r now runs more)),
      asks
          ∙ (ap (λ (v : Client). run_call fd v.conn.request v.script z) n_is
          ∙ ap (λ (v : Client). next_call scripts fd v) (sym n_is)),
    )

pub run_ends : (scripts : Bool) (fd worker : ℕ) (x n : Client) (y z : Running) (d : Phase) (r : Reply)
    (received : List ℕ) (o : Course) → x.run ≡ Some y → is_over y ≡ false
    → is_later r ≡ false → z ≡ run_after worker x.conn.request y r received → is_over z ≡ true → d ≡ after_run z
    → IsCourse scripts fd (ended x d) x reply.Done o n
    → IsCourse scripts fd (run_after_reply worker x.conn.request x y r received) x r o n
run_ends scripts fd worker x n y z d r received o is going now z_is over d_is course =
    let after_reply : run_after_reply worker x.conn.request x y r received ≡ ended x d =
    over-after_reply worker x y z r received is going z_is over ∙ ap (λ (e : Phase). ended x e) (sym d_is) in
    subst (λ (t : Client). IsCourse scripts fd t x r o n) (sym after_reply)
    (course_reply scripts fd (ended x d) x r o n now course)

-- ---- memory

pub on_err : {T E : Type 0} (r : Result T E) (P : Type 0) → P → OnErr r P
on_err (Ok x) P p = tt
on_err (Err e) P p = p

pub goes_wants : (scripts : Bool) (worker : ℕ) (x : Client) (y z : Running) (r : Reply) (received : List ℕ)
    → x.run ≡ Some y → is_over y ≡ false
    → is_later r ≡ false → z ≡ run_after worker x.conn.request y r received → waits z ≡ false
    → has_answered_by x.conn z ≡ false → is_over z ≡ false → makes_any z ≡ true
    → WantsOn scripts (run_after_reply worker x.conn.request x y r received) x r received
goes_wants scripts worker x y z r received is going now z_is runs more on makes =
    let after_reply = on-after_reply worker x y z r received is going z_is on in
    inr (
      ap (λ (t : Client). leaves_off (left_over t) r) after_reply ∙ (proceeds-on x y z r now runs more).on,
      ap (λ (t : Client). needs_memory t) after_reply ∙ makes,
    )

leaves-now : (o : Option Client) (r : Reply) → is_later r ≡ false → leaves_off o r ≡ leaves_off o reply.Done
leaves-now None r now = refl
leaves-now (Some x) r now = ap (λ (b : Bool). b || (awaits x || (has_answered x || is_bare x))) now

pub run_wants_on : (scripts : Bool) (worker : ℕ) (x : Client) (y z : Running) (d : Phase) (r : Reply)
    (received : List ℕ) → x.run ≡ Some y → is_over y ≡ false
    → is_later r ≡ false → z ≡ run_after worker x.conn.request y r received → is_over z ≡ true → d ≡ after_run z
    → (leaves_off (left_over (ended x d)) reply.Done ≡ false) × (needs_memory (ended x d) ≡ true)
    → WantsOn scripts (run_after_reply worker x.conn.request x y r received) x r received
run_wants_on scripts worker x y z d r received is going now z_is over d_is wants =
    let after_reply : run_after_reply worker x.conn.request x y r received ≡ ended x d =
    over-after_reply worker x y z r received is going z_is over ∙ ap (λ (e : Phase). ended x e) (sym d_is) in
    inr (
      ap (λ (t : Client). leaves_off (left_over t) r) after_reply
          ∙ (leaves-now (left_over (ended x d)) r now ∙ wants.0),
      ap (λ (t : Client). needs_memory t) after_reply
          ∙ wants.1,
    )

pub ruleset run_rules = (run_stays, run_waits, run_answers, run_goes, run_ends, goes_wants, run_wants_on)
