-- Fairness of turns: between two responses to one client, each other client that may take a turn takes one.
use Rattle.std.proofs.Common.{inl, inr, ◌≡◌, ◌≢◌, ℕ, ◌+◌, ◌==◌, ◌<◌, ◌≤◌, ◌⊎◌, List, [], ◌∷◌, ◌++◌, length, ap, ◌∙◌}
use Rattle.std.proofs.Common.{refl, sym, subst, arith, Option, Some, None, true, false, Bool, if◌then◌else◌}
use Rattle.std.specs.Prelude.{nat_lt, not, ◌||◌}
use Rattle.std.proofs.lemmas.Bool.{cases_lt, cases_order}
use Rattle.std.proofs.lemmas.Bool.Decides.{nat_tests}
use Rattle.iol_core.specs.NumberedLists.{in_place, taken}
use Rattle.iol_core.specs.declared.events.Reply.{Reply}
use Rattle.iol_core.specs.declared.events.Reply.TheVariants as reply
use Rattle.iol_proc.specs.declared.process.Turn.{Turn}
use Rattle.flash_http.specs.Request.{Answer, serve, refuse}
use Rattle.flash_laws.specs.Answers.{keeps}
use Rattle.flash_laws.specs.Client.{Client, Readies, file_after_reply, proceeds, is_for_script, left_over}
use Rattle.flash_laws.specs.Client.{run_after_reply, after_reply}
use Rattle.flash_laws.specs.Conn.{begins, after_disconnect, after_taken}
use Rattle.flash_laws.specs.Conn.Policy.{most_conns, is_later, accept_step, pending_call_past, pending_call_to}
use Rattle.flash_laws.specs.Run.{is_over}
use Rattle.flash_laws.specs.Serves.{Server, Picks, PicksAt, received_of, server_turns}
use Rattle.flash_laws.specs.Serves.FairTurns.{OneTurn, BeginsAt, Follow, GoesThroughout, HasATurn, TurnsAreFair}
use Rattle.flash_laws.specs.Serves.FairTurns.{clients_in, is_answered}
use Rattle.flash_laws.specs.Serves.Rounds.{leaves_off, place_after, goes_in, next_place, pending_call_from, in_rounds}
use Rattle.flash_laws.specs.Site.OtherConns.{left_by}
use Rattle.flash_laws.specs.Site.Places.{filed, first_free, has_free, may_go, runs_scripts, after_reply_at}
use Rattle.flash_laws.specs.declared.phase.Phase.{Phase}
use Rattle.flash_laws.specs.declared.phase.Phase.TheVariants.{Receiving, DroppingSent, Disconnecting}
use Rattle.flash_laws.specs.declared.phase.PendingCall.{PendingCall}
use Rattle.flash_laws.specs.declared.phase.PendingCall.TheVariants.{Nothing, Accepting, At}
use Rattle.flash_laws.specs.declared.script_run.Running.{Running}
use Rattle.flash_laws.specs.declared.script_run.Running.TheVariants.{Finishing}
use Rattle.flash_laws.proofs.Conn.Responses.{some-inj}
use Rattle.flash_laws.proofs.Forms.{at, of}
use Rattle.flash_laws.proofs.Lists.{bare-none, clash, neither, not-false}
use Rattle.flash_laws.proofs.Site.IdleMoments.{found}
use Rattle.flash_laws.proofs.Site.InPlaces.{at-same}
use Rattle.flash_laws.proofs.Site.Rounds.{from-there, no-earlier, no-later}

-- ---- the server does not skip a place whose client may take a turn

module _ (workers : ℕ) (clients : List (Option Client)) (gd : ℕ)
    (goes : goes_in (has_free workers clients) (in_place clients gd) ≡ true) where
  -- the place that is picked, from `from` on, is not after `gd`
  record Reaches (from : ℕ) : Type 0 where
    place : ℕ
    is : pending_call_from workers clients from ≡ At place
    low : from ≤ place
    high : place ≤ gd

  reaches : (from : ℕ) → from ≤ gd → Reaches from
  reaches from le = by (next_place workers clients from) refl
    where
      no-more : (k : ℕ) → next_place workers clients from ≡ Some k → k ≤ gd
      no-more k is = elim (cases_lt gd k) [
        | inl lt ↦
            absurd (clash (goes_in (has_free workers clients) (in_place clients gd)) goes
            ((found workers clients from).before k is gd le lt))
        | inr high ↦ high
      ]

      by : (o : Option ℕ) → next_place workers clients from ≡ o → Reaches from
      by None is =
          absurd (clash (goes_in (has_free workers clients) (in_place clients gd)) goes
          ((found workers clients from).none is gd le))
      by (Some k) is = record {
        place = k;
        is = ap (λ (o : Option ℕ). pending_call_to clients o) is;
        low = from-there (has_free workers clients) clients from k is;
        high = no-more k is;
      }

  -- `gd` is picked, or a place before it
  lands : (from : ℕ) (f : PendingCall) → f ≡ pending_call_from workers clients from → from ≤ gd
      → (f ≡ At gd) ⊎ ((k : ℕ) × (f ≡ At k) × (from ≤ k) × (k < gd))
  lands from f is le =
      let r = reaches from le in
      elim (cases_order r.place gd) [
        | inl same ↦ inl (is ∙ (r.is ∙ ap (λ k. At k) same))
        | inr rest ↦ elim rest [
          | inl lt ↦ inr (r.place, is ∙ r.is, r.low, lt)
          | inr gt ↦ absurd (let high = r.high in omega (arith, high, gt))
        ]
      ]

-- ---- between two turns of the client in place `fd`, the client in place `gd` has a turn

-- if `gd` comes after `fd`: the turn is between them
abbrev Up : (fd gd : ℕ) → PendingCall → Type 0
Up fd gd (At k) = (fd < k) × (k < gd)
Up fd gd w = ⊥

-- if `gd` comes before `fd`: the turn is after `fd`, or before `gd` in the next round
abbrev Down : (fd gd : ℕ) → PendingCall → Type 0
Down fd gd (At k) = (fd < k) ⊎ (k < gd)
Down fd gd w = Unit {0}

abbrev Away : (fd gd : ℕ) → PendingCall → Type 0
Away fd gd w = ((fd < gd) × Up fd gd w) ⊎ ((gd < fd) × Down fd gd w)

not-home : (fd gd : ℕ) → Away fd gd (At fd) → ⊥
not-home fd gd (inl up) = let lt = up.1 in omega (arith, lt)
not-home fd gd (inr (lt, inl after)) = omega (arith, after)
not-home fd gd (inr (lt, inr before)) = omega (arith, lt, before)

module _ (workers : ℕ) (clients : List (Option Client)) (fd gd : ℕ)
    (goes : goes_in (has_free workers clients) (in_place clients gd) ≡ true) where
  -- if `gd` comes after `fd`: the search begins after `fd`, and not after `gd`
  climbs : (from : ℕ) (f : PendingCall) → f ≡ pending_call_from workers clients from → fd < gd → fd < from → from ≤ gd
      → (f ≡ At gd) ⊎ Away fd gd f
  climbs from f is before past le = elim (lands workers clients gd goes from f is le) [
    | inl there ↦ inl there
    | inr r ↦
        inr (subst (λ (w : PendingCall). Away fd gd w) (sym r.1) (let low = r.2 in
        inl (before, (omega (arith, low, past), r.3))))
  ]

  -- if `gd` comes before `fd`: the search begins in the next round, and not after `gd`
  returns : (from : ℕ) (f : PendingCall) → f ≡ pending_call_from workers clients from → gd < fd → from ≤ gd
      → (f ≡ At gd) ⊎ Away fd gd f
  returns from f is behind le = elim (lands workers clients gd goes from f is le) [
    | inl there ↦ inl there
    | inr r ↦ inr (subst (λ (w : PendingCall). Away fd gd w) (sym r.1) (inr (behind, inr r.3)))
  ]

  at-accept_step : gd < fd → Away fd gd (accept_step clients)
  at-accept_step behind = by (nat_lt (taken clients) most_conns)
    where
      by : (b : Bool) → Away fd gd (if b then Accepting else Nothing)
      by true = inr (behind, tt)
      by false = inr (behind, tt)

  -- if `gd` comes before `fd`: the search begins after `fd`
  passes-on : (from : ℕ) (f : PendingCall) → f ≡ pending_call_from workers clients from → gd < fd → fd < from
      → Away fd gd f
  passes-on from f is behind past =
      subst (λ (w : PendingCall). Away fd gd w) (sym is)
      (by (next_place workers clients from) (λ k at. from-there (has_free workers clients) clients from k at))
    where
      by : (o : Option ℕ) → ((k : ℕ) → o ≡ Some k → from ≤ k) → Away fd gd (pending_call_to clients o)
      by (Some k) later = let low = later k refl in inr (behind, inl (omega (arith, low, past)))
      by None later = at-accept_step behind

  -- after the turn of `fd`
  departs : (f : PendingCall) → f ≡ pending_call_from workers clients (fd + 1) → fd ≢ gd → (f ≡ At gd) ⊎ Away fd gd f
  departs f is other = elim (cases_order fd gd) [
    | inl same ↦ absurd (other same)
    | inr rest ↦ elim rest [
      | inl lt ↦ climbs (fd + 1) f is lt (omega arith) (omega (arith, lt))
      | inr gt ↦ inr (passes-on (fd + 1) f is gt (omega arith))
    ]
  ]

  -- after a turn of another place
  walks : (w f : PendingCall) (r : Reply) → in_rounds workers clients w r f → Away fd gd w → (f ≡ At gd) ⊎ Away fd gd f
  walks (At k) f r is (inl (lt, (low, high))) =
      let from = no-earlier k (in_place clients k) r in
      climbs (place_after k (in_place clients k) r) f is lt (omega (arith, from, low))
      (no-later gd k (in_place clients k) r high)
  walks (At k) f r is (inr (gt, inl low)) =
      let from = no-earlier k (in_place clients k) r in
      inr (passes-on (place_after k (in_place clients k) r) f is gt (omega (arith, from, low)))
  walks (At k) f r is (inr (gt, inr high)) =
      returns (place_after k (in_place clients k) r) f is gt (no-later gd k (in_place clients k) r high)
  walks Accepting f r is (inl (lt, up)) = absurd up
  walks Accepting f r is (inr (gt, down)) = inr (subst (λ (w : PendingCall). Away fd gd w) (sym is) (by r))
    where
      by : (r : Reply) → Away fd gd (pending_call_past clients r)
      by (reply.Fd n) = at-accept_step gt
      by r = inr (gt, tt)
  walks Nothing f r is (inl (lt, up)) = absurd up
  walks Nothing f r is (inr (gt, down)) = returns 0 f is gt (omega arith)

-- before the next turn of `fd`, `gd` has a turn
comes : (s : Server) (xs : List OneTurn) (y : OneTurn) (fd gd : ℕ) → Follow s (xs ++ y ∷ [])
    → y.after.pending_call ≡ At fd
    → GoesThroughout gd s (xs ++ y ∷ []) → fd ≢ gd → Away fd gd s.pending_call → HasATurn gd xs
comes s [] y fd gd turns home goes other away =
    elim (walks s.workers (clients_in s y) fd gd goes.0 s.pending_call y.after.pending_call y.last turns.0.0 away) [
      | inl there ↦ absurd (let same : At fd ≡ At gd = sym home ∙ there in let e : fd ≡ gd = cc (same) in other e)
      | inr still ↦ absurd (not-home fd gd (subst (λ (w : PendingCall). Away fd gd w) home still))
    ]
comes s (x ∷ xs) y fd gd turns home goes other away =
    elim (walks s.workers (clients_in s x) fd gd goes.0 s.pending_call x.after.pending_call x.last turns.0.0 away) [
      | inl there ↦ inl there
      | inr still ↦ inr (comes x.after xs y fd gd turns.1 home goes.1 other still)
    ]

-- ---- after a response the turn of the client ends before its next request begins

-- no further request is in progress
abbrev Still : List ℕ → Phase → Option Running → Type 0
Still buffered (DroppingSent a taken None) None = Unit {0}
Still buffered Disconnecting None = Unit {0}
Still buffered Receiving None = buffered ≡ []
Still buffered d None = ⊥
Still buffered d (Some (Finishing (DroppingSent a taken None))) = Unit {0}
Still buffered d (Some y) = ⊥

abbrev IsStill : Option Client → Type 0
IsStill None = Unit {0}
IsStill (Some x) = Still x.conn.buffered x.conn.phase x.run

-- its call is pending, and its turn continues
abbrev Busy : List ℕ → Phase → Option Running → Type 0
Busy buffered (DroppingSent a taken None) None = buffered ≡ []
Busy buffered Disconnecting None = Unit {0}
Busy buffered d None = ⊥
Busy buffered d (Some (Finishing (DroppingSent a taken None))) = buffered ≡ []
Busy buffered d (Some y) = ⊥

answered-still : (buffered : List ℕ) (q : Answer) (d : Phase) (run : Option Running) (script : List ℕ)
    → is_answered (of (at buffered q d) run script) ≡ true → Still buffered d run
answered-still buffered q (DroppingSent a taken None) None script is = tt
answered-still buffered q (DroppingSent a taken (Some x)) None script is = absurd (cc (is))
answered-still buffered q d None script is = absurd (cc (is))
answered-still buffered q d (Some (Finishing (DroppingSent a taken None))) script is = tt
answered-still buffered q d (Some (Finishing (DroppingSent a taken (Some x)))) script is = absurd (cc (is))
answered-still buffered q d (Some (Finishing e)) script is = absurd (cc (is))
answered-still buffered q d (Some y) script is = absurd (cc (is))

none-buffered : (buffered : List ℕ) → (length buffered == 0) ≡ true → buffered ≡ []
none-buffered [] is = refl
none-buffered (b ∷ buffered) is = let e : length (b ∷ buffered) ≡ 0 = grind (arith, nat_tests, is) in
    absurd (omega (arith, e))

-- if its turn continues, it has no buffered bytes
on-sent : (buffered : List ℕ) (later : Bool) → (later || (not (length buffered == 0) || false)) ≡ false → buffered ≡ []
on-sent buffered later on =
    none-buffered buffered
    (not-false (length buffered == 0)
    (bare-none (not (length buffered == 0)) (neither later (not (length buffered == 0) || false) on).1))

on-busy : (buffered : List ℕ) (q : Answer) (d : Phase) (run : Option Running) (script : List ℕ) (r : Reply)
    → leaves_off (Some (of (at buffered q d) run script)) r ≡ false
    → Still buffered d run → Busy buffered d run
on-busy buffered q (DroppingSent a taken None) None script r on still = on-sent buffered (is_later r) on
on-busy buffered q (DroppingSent a taken (Some x)) None script r on still = absurd still
on-busy buffered q Disconnecting None script r on still = tt
on-busy buffered q Receiving None script r on still =
    absurd
    (clash (length buffered == 0) (ap (λ (l : List ℕ). length l == 0) still)
    (neither (is_later r) (length buffered == 0) on).1)
on-busy buffered q d None script r on still = absurd still
on-busy buffered q d (Some (Finishing (DroppingSent a taken None))) script r on still = on-sent buffered (is_later r) on
on-busy buffered q d (Some (Finishing (DroppingSent a taken (Some x)))) script r on still = absurd still
on-busy buffered q d (Some (Finishing e)) script r on still = absurd still
on-busy buffered q d (Some y) script r on still = absurd still

-- a busy client may take the next turn
or-true : (b : Bool) → (b || true) ≡ true
or-true true = refl
or-true false = refl

busy-goes : (free : Bool) (buffered : List ℕ) (q : Answer) (d : Phase) (run : Option Running) (script : List ℕ)
    → Busy buffered d run → may_go free (of (at buffered q d) run script) ≡ true
busy-goes free buffered q d None script busy = or-true free
busy-goes free buffered q d (Some (Finishing e)) script busy = or-true free
busy-goes free buffered q d (Some y) script busy = absurd busy

-- a busy client that is made ready is unchanged
busy-ready : (buffered : List ℕ) (q : Answer) (d : Phase) (run : Option Running) (script : List ℕ) (y : Client)
    → Busy buffered d run → Readies (of (at buffered q d) run script) y
    → y ≡ of (at buffered q d) run script
busy-ready buffered q (DroppingSent a taken None) None script y busy ready =
    ready.2 ∙ ap (λ c. of c None script) ready.1
busy-ready buffered q (DroppingSent a taken (Some x)) None script y busy ready = absurd busy
busy-ready buffered q Disconnecting None script y busy ready = ready.2 ∙ ap (λ c. of c None script) ready.1
busy-ready buffered q d None script y busy ready = absurd busy
busy-ready buffered q d (Some z) script y busy ready = ready

-- a busy client does not begin a request
busy-begins : (buffered : List ℕ) (q : Answer) (d : Phase) (run : Option Running) → Busy buffered d run → d ≡ begins q
    → run ≡ None → ⊥
busy-begins buffered (serve w) (DroppingSent a taken None) None busy is none = cc (is)
busy-begins buffered (refuse status head_only close) (DroppingSent a taken None) None busy is none = cc (is)
busy-begins buffered q (DroppingSent a taken (Some x)) None busy is none = busy
busy-begins buffered (serve w) Disconnecting None busy is none = cc (is)
busy-begins buffered (refuse status head_only close) Disconnecting None busy is none = cc (is)
busy-begins buffered q d None busy is none = busy
busy-begins buffered q d (Some y) busy is none = cc (none)

-- after a response the connection waits for input, or is closed
ends-still : (b : Bool) (buffered : List ℕ) (q : Answer) (script : List ℕ) → buffered ≡ []
    → IsStill
    (left_by (if b then Receiving else Disconnecting)
    (of (at buffered q (if b then Receiving else Disconnecting)) None script))
ends-still true buffered q script none = none
ends-still false buffered q script none = tt

sent-still : (buffered : List ℕ) (q : Answer) (a taken : ℕ) (script : List ℕ) (r : Reply) → buffered ≡ []
    → IsStill (left_by (after_taken q a taken None r) (of (at buffered q (after_taken q a taken None r)) None script))
sent-still buffered q a taken script reply.Done none = ends-still (keeps q) buffered q script none
sent-still buffered q a taken script r none = tt

closes-still : (buffered : List ℕ) (q : Answer) (script : List ℕ) (r : Reply)
    → IsStill (left_by (after_disconnect r) (of (at buffered q (after_disconnect r)) None script))
closes-still buffered q script reply.Done = tt
closes-still buffered q script r = tt

run-ends : (b : Bool) (buffered : List ℕ) (q : Answer) (d : Phase) (a taken : ℕ) (script : List ℕ) → buffered ≡ []
    → IsStill
    (left_over
    (proceeds false (is_over (Finishing (if b then Receiving else Disconnecting)))
    (of (at buffered q d) (Some (Finishing (DroppingSent a taken None))) script) (Finishing (DroppingSent a taken None))
    (Finishing (if b then Receiving else Disconnecting))))
run-ends true buffered q d a taken script none = none
run-ends false buffered q d a taken script none = tt

run-still : (worker : ℕ) (buffered : List ℕ) (q : Answer) (d : Phase) (a taken : ℕ) (script : List ℕ) (r : Reply)
    (received : List ℕ) → buffered ≡ []
    → IsStill
    (left_over (run_after_reply worker q (of (at buffered q d) (Some (Finishing (DroppingSent a taken None))) script)
    (Finishing (DroppingSent a taken None)) r received))
run-still worker buffered (serve w) d a taken script reply.Done received none =
    run-ends (keeps (serve w)) buffered (serve w) d a taken script none
run-still worker buffered (serve w) d a taken script r received none = tt
run-still worker buffered (refuse status head_only close) d a taken script r received none = tt

after_reply-sent : (b : Bool) (buffered : List ℕ) (q : Answer) (a taken : ℕ) (script : List ℕ) (r : Reply)
    (received : List ℕ) → buffered ≡ []
    → IsStill (left_over (file_after_reply b (of (at buffered q (DroppingSent a taken None)) None script) r received))
after_reply-sent true buffered q a taken script r received none = sent-still buffered q a taken script r none
after_reply-sent false buffered q a taken script r received none = sent-still buffered q a taken script r none

after_reply-closed : (b : Bool) (buffered : List ℕ) (q : Answer) (script : List ℕ) (r : Reply) (received : List ℕ)
    → IsStill (left_over (file_after_reply b (of (at buffered q Disconnecting) None script) r received))
after_reply-closed true buffered q script r received = closes-still buffered q script r
after_reply-closed false buffered q script r received = closes-still buffered q script r

busy-after_reply : (scripts : Bool) (worker : ℕ) (buffered : List ℕ) (q : Answer) (d : Phase) (run : Option Running)
    (script : List ℕ) (r : Reply) (received : List ℕ) → Busy buffered d run
    → IsStill (left_over (after_reply scripts worker (of (at buffered q d) run script) r received))
busy-after_reply scripts worker buffered q (DroppingSent a taken None) None script r received busy =
    after_reply-sent (is_for_script scripts q) buffered q a taken script r received busy
busy-after_reply scripts worker buffered q (DroppingSent a taken (Some x)) None script r received busy = absurd busy
busy-after_reply scripts worker buffered q Disconnecting None script r received busy =
    after_reply-closed (is_for_script scripts q) buffered q script r received
busy-after_reply scripts worker buffered q d None script r received busy = absurd busy
busy-after_reply scripts worker buffered q d (Some (Finishing (DroppingSent a taken None))) script r received busy =
    run-still worker buffered q d a taken script r received busy
busy-after_reply scripts worker buffered q d (Some (Finishing (DroppingSent a taken (Some x)))) script r received busy =
    absurd busy
busy-after_reply scripts worker buffered q d (Some (Finishing e)) script r received busy = absurd busy
busy-after_reply scripts worker buffered q d (Some y) script r received busy = absurd busy

-- ---- turns

-- the turn of the client continues
record Stays (fd : ℕ) (t : Server) : Type 0 where
  client : Client
  turn : t.pending_call ≡ At fd
  there : in_place t.clients fd ≡ Some client
  busy : Busy client.conn.buffered client.conn.phase client.run

stays-filed : (fd : ℕ) (s : Server) (x : OneTurn) → Stays fd s → IsStill (in_place (clients_in s x) fd)
stays-filed fd s x stays =
    let c = stays.client in
    let received = received_of x.last x.readable in
    let after =
    left_over (after_reply (runs_scripts s.workers) (first_free s.workers s.clients) stays.client x.last
    (received_of x.last x.readable)) in
    let is : in_place (clients_in s x) fd
    ≡ left_over (after_reply (runs_scripts s.workers) (first_free s.workers s.clients) stays.client x.last
    (received_of x.last x.readable)) =
    ap (λ (w : PendingCall). in_place (filed s.workers s.clients w x.last received) fd) stays.turn
    ∙ (ap (λ (o : Option Client). in_place (after_reply_at s.workers s.clients fd o x.last received) fd) stays.there
    ∙ at-same s.clients fd after) in
    subst (λ (o : Option Client). IsStill o) (sym is)
    (busy-after_reply (runs_scripts s.workers) (first_free s.workers s.clients) c.conn.buffered c.conn.request
    c.conn.phase c.run
    c.script x.last received stays.busy)

picked-stays : (workers : ℕ) (clients : List (Option Client)) (fd : ℕ) (made : Turn) (t : Server) (c : Client)
    → in_place clients fd ≡ Some c
    → Busy c.conn.buffered c.conn.phase c.run → t.pending_call ≡ At fd → PicksAt workers clients fd made t.clients
    → Stays fd t
picked-stays workers clients fd made t c there busy turn picks =
    let same : picks.was ≡ c = some-inj picks.was c (sym picks.there ∙ there) in
    let ready : picks.ready ≡ c =
    busy-ready c.conn.buffered c.conn.request c.conn.phase c.run c.script picks.ready busy
    (subst (λ (z : Client). Readies z picks.ready) same picks.readies) in
    record {
      client = c;
      turn = turn;
      there = ap (λ (l : List (Option Client)). in_place l fd) picks.after_is
          ∙ (at-same clients fd (Some picks.ready) ∙ ap (λ (z : Client). Some z) ready);
      busy = busy;
    }

-- The turn is at `gd`, or between `fd` and `gd`, or still at `fd`.
abbrev Goes : (fd gd : ℕ) → Server → Type 0
Goes fd gd t = (t.pending_call ≡ At gd) ⊎ (Away fd gd t.pending_call ⊎ Stays fd t)

turns-pass : (s : Server) (x : OneTurn) (fd gd : ℕ) → fd ≢ gd → s.pending_call ≡ At fd
    → IsStill (in_place (clients_in s x) fd)
    → goes_in (has_free s.workers (clients_in s x)) (in_place (clients_in s x) gd) ≡ true
    → server_turns in_rounds s x.last x.readable x.made x.after
    → Goes fd gd x.after
turns-pass s x fd gd other turn still goes did = by (in_place (clients_in s x) fd) refl still
  where
    next : in_rounds s.workers (clients_in s x) (At fd) x.last x.after.pending_call
    next = subst (λ (w : PendingCall). in_rounds s.workers (clients_in s x) w x.last x.after.pending_call) turn did.0

    leaves : (from : ℕ) → place_after fd (in_place (clients_in s x) fd) x.last ≡ from
        → x.after.pending_call ≡ pending_call_from s.workers (clients_in s x) from
    leaves from is = next ∙ ap (λ k. pending_call_from s.workers (clients_in s x) k) is

    off : (o : Option Client) → in_place (clients_in s x) fd ≡ o → leaves_off o x.last ≡ true → Goes fd gd x.after
    off o is passed =
        elim (departs s.workers (clients_in s x) fd gd goes x.after.pending_call
        (leaves (fd + 1) (ap (λ (z : Option Client). place_after fd z x.last) is
        ∙ ap (λ b. if b then fd + 1 else fd) passed)) other) [
          | inl there ↦ inl there
          | inr away ↦ inr (inl away)
        ]

    on : (c : Client) → in_place (clients_in s x) fd ≡ Some c → leaves_off (Some c) x.last ≡ false → IsStill (Some c)
        → Goes fd gd x.after
    on c is stays undisturbed =
        let busy = on-busy c.conn.buffered c.conn.request c.conn.phase c.run c.script x.last stays undisturbed in
        let may : goes_in (has_free s.workers (clients_in s x)) (in_place (clients_in s x) fd) ≡ true =
        ap (λ (o : Option Client). goes_in (has_free s.workers (clients_in s x)) o) is
        ∙ busy-goes (has_free s.workers (clients_in s x)) c.conn.buffered c.conn.request c.conn.phase c.run c.script
        busy in
        let r = reaches s.workers (clients_in s x) fd may fd (omega arith) in
        let low = r.low in
        let high = r.high in
        let same : r.place ≡ fd = omega (arith, low, high) in
        let flies : x.after.pending_call ≡ At fd =
        leaves fd (ap (λ (z : Option Client). place_after fd z x.last) is ∙ ap (λ b. if b then fd + 1 else fd) stays)
        ∙ (r.is ∙ ap (λ k. At k) same) in
        inr (inr (picked-stays s.workers (clients_in s x) fd x.made x.after c is busy flies
        (subst (λ (w : PendingCall). Picks s.workers (clients_in s x) w x.made x.after.clients) flies did.1)))

    which : (b : Bool) (c : Client) → leaves_off (Some c) x.last ≡ b → in_place (clients_in s x) fd ≡ Some c
        → IsStill (Some c) → Goes fd gd x.after
    which true c passed is undisturbed = off (Some c) is passed
    which false c stays is undisturbed = on c is stays undisturbed

    by : (o : Option Client) → in_place (clients_in s x) fd ≡ o → IsStill (in_place (clients_in s x) fd)
        → Goes fd gd x.after
    by None is undisturbed = off None is refl
    by (Some c) is undisturbed =
        which (leaves_off (Some c) x.last) c refl is (subst (λ (o : Option Client). IsStill o) is undisturbed)

-- a client whose turn continues does not begin a request
never-begins : (fd : ℕ) (t : Server) → Stays fd t → BeginsAt fd t → ⊥
never-begins fd t stays begun =
    let same : stays.client ≡ begun.client = some-inj stays.client begun.client (sym stays.there ∙ begun.there) in
    let c = begun.client in
    busy-begins c.conn.buffered c.conn.request c.conn.phase c.run
    (subst (λ (z : Client). Busy z.conn.buffered z.conn.phase z.run) same stays.busy) begun.begins begun.no_script

module _ (y : OneTurn) (fd gd : ℕ) (other : fd ≢ gd) (begun : BeginsAt fd y.after) where
  at-end : Goes fd gd y.after → ⊥
  at-end (inl there) = let same : At fd ≡ At gd = sym begun.turn ∙ there in let e : fd ≡ gd = cc (same) in other e
  at-end (inr (inl away)) = not-home fd gd (subst (λ (w : PendingCall). Away fd gd w) begun.turn away)
  at-end (inr (inr stays)) = never-begins fd y.after stays begun

  fair-on : (s : Server) (xs : List OneTurn) → Follow s (xs ++ y ∷ []) → GoesThroughout gd s (xs ++ y ∷ []) → Stays fd s
      → HasATurn gd xs
  fair-on s [] turns goes stays =
      absurd (at-end (turns-pass s y fd gd other stays.turn (stays-filed fd s y stays) goes.0 turns.0))
  fair-on s (x ∷ xs) turns goes stays =
      elim (turns-pass s x fd gd other stays.turn (stays-filed fd s x stays) goes.0 turns.0) [
        | inl there ↦ inl there
        | inr rest ↦ elim rest [
          | inl away ↦ inr (comes x.after xs y fd gd turns.1 begun.turn goes.1 other away)
          | inr still ↦ inr (fair-on x.after xs turns.1 goes.1 still)
        ]
      ]

pub turns_fair : TurnsAreFair
turns_fair s x xs y fd gd turns answered begun other goes =
    let c = answered.client in
    let still =
    subst (λ (o : Option Client). IsStill o) (sym answered.there)
    (answered-still c.conn.buffered c.conn.request c.conn.phase c.run c.script answered.answered) in
    elim (turns-pass s x fd gd other answered.turn still goes.0 turns.0) [
      | inl there ↦ inl there
      | inr rest ↦ elim rest [
        | inl away ↦ inr (comes x.after xs y fd gd turns.1 begun.turn goes.1 other away)
        | inr stays ↦ inr (fair-on y fd gd other begun x.after xs turns.1 goes.1 stays)
      ]
    ]
