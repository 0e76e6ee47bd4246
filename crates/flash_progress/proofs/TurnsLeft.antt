-- The measure of a world of files: each call for a client that is not retried later decreases it, and so does accepting
-- a connection.
use Rattle.std.proofs.Common.{inl, inr, ◌≡◌, ◌≢◌, ℕ, zero, suc, ◌+◌, ◌<◌, ◌≤◌, List, [], ◌∷◌, length, ap, ◌∙◌, refl}
use Rattle.std.proofs.Common.{sym, subst, arith, Option, Some, None, true, false, Bool, if◌then◌else◌}
use Rattle.std.proofs.lemmas.Bool.{cases_eq}
use Rattle.iol_core.specs.NumberedLists.{in_place}
use Rattle.iol_core.specs.State.{State, Connection, descriptor, conn_at}
use Rattle.iol_core.specs.Run.{StepsTo}
use Rattle.iol_core.specs.declared.descriptors.Descriptor.{Descriptor}
use Rattle.iol_core.specs.declared.descriptors.Descriptor.TheVariants as on
use Rattle.iol_core.specs.declared.events.Call.{Call}
use Rattle.iol_core.specs.declared.events.Call.TheVariants as call
use Rattle.iol_core.specs.declared.events.Event.TheVariants as event
use Rattle.iol_core.specs.declared.events.Reply.{Reply}
use Rattle.iol_core.specs.declared.events.Reply.TheVariants as reply
use Rattle.iol_laws.specs.Caller as o
use Rattle.iol_laws.specs.Frame.{touches_conn, touches_fd}
use Rattle.iol_laws.specs.Order.{IsOrderly}
use Rattle.iol_laws.specs.Reasons.{IsHidden}
use Rattle.iol_proc.specs.declared.process_slot.ProcessSlot.{ProcessSlot}
use Rattle.flash_http.specs.Request.{Answer, serve, refuse}
use Rattle.flash_laws.specs.Client as client
use Rattle.flash_laws.specs.Client.{Client, new_client, next_call, Readies, is_for_script, after_reply, left_over}
use Rattle.flash_laws.specs.Client.{IsAwaiting}
use Rattle.flash_laws.specs.Client.Fits.{IsProper, Finds, FitsAlone, Fits, expected_in}
use Rattle.flash_laws.specs.Client.Holdings.{has_fd}
use Rattle.flash_laws.specs.Client.ResponseState.{is_read}
use Rattle.flash_laws.specs.Conn as conn
use Rattle.flash_laws.specs.Conn.{Conn, text_of}
use Rattle.flash_laws.specs.Conn.Fits.{Names, Has, is_closing}
use Rattle.flash_laws.specs.Conn.ShortHeads.{ContentIsShort}
use Rattle.flash_laws.specs.Conn.Policy.{is_later}
use Rattle.flash_laws.specs.Conn.Progress.{HasPlaceFor, CanMake}
use Rattle.flash_laws.specs.SiteContents.{SiteContents, MayBeExpected, IsAmong}
use Rattle.flash_laws.specs.Site.{server}
use Rattle.flash_laws.specs.Site.ClientConsistency.{AllFit}
use Rattle.flash_laws.specs.Site.OtherConns.{with_at, left_by}
use Rattle.flash_laws.specs.Site.Past.{Past}
use Rattle.flash_laws.specs.Workers.WorkerSet.{WorkerSet, IsFixedFor}
use Rattle.flash_laws.specs.declared.phase.Payload.{Payload}
use Rattle.flash_laws.specs.declared.phase.Payload.TheVariants.{Script}
use Rattle.flash_laws.specs.declared.phase.Phase.{Phase}
use Rattle.flash_laws.specs.declared.phase.Phase.TheVariants as phase
use Rattle.flash_laws.proofs.Forms.{at, of}
use Rattle.flash_progress.specs.Bound.{conn_of, unread_at, sum_to}
use Rattle.flash_progress.proofs.Measure.{unread_turns}
use Rattle.flash_progress.proofs.RequestProgress.{conn_turns, IsShort, readies-falls, turn-falls}
use Rattle.flash_laws.proofs.Site.InPlaces.{at-same, at-other}
use Rattle.flash_laws.proofs.Site.OpenDescriptors.{no-true, held-open}
use Rattle.flash_laws.proofs.World.AllLaws.{AllLaws}
use Rattle.flash_laws.proofs.World.Calls.{CallsAlone, calls-alone, opens-on, there-fd}
use Rattle.flash_laws.proofs.World.OwnAlone.{alone_step}
use Rattle.flash_laws.proofs.Moves.{either-way}

-- ---- sums

pub no_more : (most : ℕ) (f g : ℕ → ℕ) → ((i : ℕ) → g i ≤ f i) → sum_to most g ≤ sum_to most f
unfolding sum_to
no_more zero f g each = omega arith
no_more (suc k) f g each = let here = each k in let rest = no_more k f g each in omega (arith, here, rest)

-- if one term is less by this number, and no term is greater, the sum is less by it
pub less_at : (most j by : ℕ) (f g : ℕ → ℕ) → j < most → g j + by ≤ f j → ((i : ℕ) → g i ≤ f i)
    → sum_to most g + by ≤ sum_to most f
unfolding sum_to
less_at zero j by f g lt less each = absurd (omega (arith, lt))
less_at (suc k) j by f g lt less each = elim (cases_eq j k) [
  | inl same ↦
      (let here : g k + by ≤ f k = subst (λ (i : ℕ). g i + by ≤ f i) same less in
      let rest = no_more k f g each in omega (arith, here, rest))
  | inr differ ↦
      (let here = each k in
      let rest = less_at k j by f g (omega (arith, lt, differ)) less each in omega (arith, here, rest))
]

-- if no term except the k-th is more, the sum of the terms before it is not more
below-less : (b k : ℕ) (f g : ℕ → ℕ) → b ≤ k → ((i : ℕ) → k ≢ i → g i ≤ f i) → sum_to b g ≤ sum_to b f
unfolding sum_to
below-less zero k f g le each = omega arith
below-less (suc b) k f g le each = let here = each b (λ is. omega (arith, is, le)) in let rest =
    below-less b k f g (omega (arith, le)) each in omega (arith, here, rest)

-- if one term is more by at most this number, and no other is more, the sum is more by at most this number
pub more_at : (most j by : ℕ) (f g : ℕ → ℕ) → g j ≤ f j + by → ((i : ℕ) → j ≢ i → g i ≤ f i)
    → sum_to most g ≤ sum_to most f + by
unfolding sum_to
more_at zero j by f g more each = omega arith
more_at (suc k) j by f g more each = elim (cases_eq j k) [
  | inl same ↦
      (let here : g k ≤ f k + by = subst (λ (i : ℕ). g i ≤ f i + by) same more in
      let rest = below-less k k f g (omega arith) (λ i differ. each i (λ is. differ (sym same ∙ is))) in
      omega (arith, here, rest))
  | inr differ ↦ (let here = each k differ in let rest = more_at k j by f g more each in omega (arith, here, rest))
]

-- ---- the turns left

-- for a client, if there is one
abbrev pub of_place : (longest unread : ℕ) → Option Client → ℕ
of_place longest unread None = 0
of_place longest unread (Some x) = conn_turns longest unread x.conn

-- for the client at an index
abbrev pub place_turns : (longest : ℕ) → State → List (Option Client) → (fd : ℕ) → ℕ
place_turns longest m clients fd = of_place longest (unread_at m fd) (in_place clients fd)

-- for a connection that waits to be accepted
abbrev pub accept_step_turns : (longest : ℕ) → State → (c : ℕ) → ℕ
accept_step_turns longest m c =
    if (conn_at m c).accepted then 0 else unread_turns longest (length (conn_at m c).incoming) + 7

-- for all indices and connections below these numbers
abbrev pub all_left : (longest places conns : ℕ) → State → List (Option Client) → ℕ
all_left longest places conns m clients =
    sum_to places (place_turns longest m clients) + sum_to conns (accept_step_turns longest m)

-- ---- sites of files

pub no-script : (scripts : Bool) (q : Answer) → scripts ≡ false → is_for_script scripts q ≡ false
no-script false (serve w) is = refl
no-script false (refuse status head_only close) is = refl
no-script true q is = absurd (cc (is))

-- No response to a proper request is longer than `longest`.
pub record AreShort (site_contents : SiteContents) (longest : ℕ) : Type 0 where
  pub short : (q : Answer) (expected : List ℕ) → IsProper q → MayBeExpected site_contents q expected
      → length expected ≤ longest
  pub errors : IsShort longest
  pub heads : (q : Answer) → IsProper q → length (text_of q Script) ≤ longest

-- The server has an open pool for heads, and no head is longer than an aggregate.
abbrev pub HasRoom : State → Type 0
HasRoom m = (q : Answer) (k : Payload) → IsProper q → ContentIsShort k → HasPlaceFor m (text_of q k)

pub can-make : (site_contents : SiteContents) (m : State) (fd : ℕ) (buffered : List ℕ) (q : Answer) (script : List ℕ)
    (d : Phase) → IsProper q → Finds site_contents m q script d
    → HasRoom m → CanMake m (conn.next_call fd (at buffered q d))
can-make site_contents m fd buffered q script (phase.MakingHead k) fine finds room = room q k fine finds
can-make site_contents m fd buffered q script (phase.Reading f) fine finds room =
    either-way (λ (k : Call). CanMake m k) (conn.is_head_only q) tt tt
can-make site_contents m fd buffered q script d fine finds room = tt

pub expected-short : (site_contents : SiteContents) (longest : ℕ) (q : Answer) (expected : List ℕ) (d : Phase)
    → IsProper q → AreShort site_contents longest → MayBeExpected site_contents q expected
    → length (expected_in expected q d) ≤ longest
expected-short site_contents longest q expected d fine short may = by (is_read d)
  where
    by : (b : Bool) → length (if b then text_of q Script else expected) ≤ longest
    by true = short.heads q fine
    by false = short.short q expected fine may

-- the request is unchanged
same-request : (buffered : List ℕ) (q : Answer) (d : Phase) (r : Reply) (received : List ℕ)
    → (conn.after_reply (at buffered q d) r received).request ≡ q
same-request buffered q phase.Receiving (reply.Agg a) [] = refl
same-request buffered q phase.Receiving (reply.Agg a) (b ∷ received) = refl
same-request buffered q phase.Receiving r received = refl
same-request buffered q d r received = refl

-- a closed client is removed, and no turns are left for it
pub left-most : (longest unread : ℕ) (d : Phase) (x : Client)
    → of_place longest unread (left_by d x) ≤ conn_turns longest unread x.conn
left-most longest unread phase.Closed x = omega arith
left-most longest unread d x = omega arith

-- ---- the server's own call for a client

module _ (site_contents : SiteContents) (worker_set : WorkerSet) (laws : AllLaws worker_set)
    (files : site_contents.scripts ≡ false) (longest places conns : ℕ) (m n : State) (p : Past)
    (clients : List (Option Client)) (fd : ℕ)
    (cn : Conn) (script : List ℕ) (r : Reply) (received : List ℕ) (process_slots : List (ProcessSlot worker_set.Worker))
    (order : IsOrderly m) (fixed : IsFixedFor site_contents worker_set m)
    (fit : AllFit site_contents worker_set m p clients process_slots)
    (there : in_place clients fd ≡ Some (of cn None script)) (waits : IsAwaiting (of cn None script))
    (among : IsAmong site_contents.refuses.of_server r)
    (step : StepsTo m (event.Call server (next_call site_contents.scripts fd (of cn None script))) r n)
    (names : Names n r received) where
  abbrev c : ℕ
  c = (fit.each fd (of cn None script) there).conn

  f : FitsAlone site_contents m (p.came (fit.each fd (of cn None script) there).conn)
      (p.sent (fit.each fd (of cn None script) there).conn) fd (fit.each fd (of cn None script) there).conn
      (of cn None script)
  f = (fit.each fd (of cn None script) there).fits

  plain : is_for_script site_contents.scripts cn.request ≡ false
  plain = no-script site_contents.scripts cn.request files

  calls : next_call site_contents.scripts fd (of cn None script) ≡ conn.next_call fd cn
  calls = ap (λ (b : Bool). client.conn_call b fd cn) plain

  reports : (worker : ℕ) → after_reply site_contents.scripts worker (of cn None script) r received
      ≡ of (conn.after_reply cn r received) None script
  reports worker = ap (λ (b : Bool). client.file_after_reply b (of cn None script) r received) plain

  step_is : StepsTo m (event.Call server (conn.next_call fd cn)) r n
  step_is = subst (λ (k : Call). StepsTo m (event.Call server k) r n) calls step

  after-fits : is_closing cn.phase ≡ false
      → FitsAlone site_contents n (p.came c) (p.sent c) fd c (of (conn.after_reply cn r received) None script)
  after-fits going = subst (λ (x : Client). Fits site_contents worker_set n (p.came c) (p.sent c) fd c x process_slots)
      (reports 0)
      (alone_step site_contents worker_set laws m n (p.came c) (p.sent c) fd c 0 (of cn None script) r received
      process_slots order fixed refl f waits going among step names)

  open_on : descriptor m server fd ≡ Some (on.Connection c)
  open_on = f.open_on

  abbrev after : Client
  after = of (conn.after_reply cn r received) None script

  abbrev later : List (Option Client)
  later = with_at clients fd (left_over after)

  -- the call that closes its connection moves it to the phase `Closed`
  closed : cn.phase ≡ phase.Disconnecting → (conn.after_reply cn r received).phase ≡ phase.Closed
  closed is = ap (λ (d : Phase). (conn.after_reply (record cn { phase = d }) r received).phase) is
      ∙ by r (laws.the.own.closes_conn m n server fd c r order open_on did) did
    where
      did : StepsTo m (event.Call server (call.Close fd)) r n
      did = subst (λ (d : Phase). StepsTo m (event.Call server (conn.next_call fd (record cn { phase = d }))) r n) is
          step_is

      by : (r : Reply) → o.ClosesConn m c r n → StepsTo m (event.Call server (call.Close fd)) r n
          → conn.after_disconnect r ≡ phase.Closed
      by reply.Done did step = refl
      by (reply.Refused z) did step =
          absurd (laws.left.closes m n server fd (on.Connection c) z fixed.site.lives open_on step)
      by r did step = absurd did

  alone : CallsAlone m fd c (of cn None script) (next_call site_contents.scripts fd (of cn None script))
  alone = calls-alone site_contents worker_set laws m (p.came c) (p.sent c) fd c process_slots cn None script f

  -- a descriptor on another connection stays
  untouched : (gd k : ℕ) → fd ≢ gd → descriptor m server gd ≡ Some (on.Connection k)
      → touches_fd m (event.Call server (next_call site_contents.scripts fd (of cn None script))) server gd ≡ false
  untouched gd k differ opened =
      no-true (touches_fd m (event.Call server (next_call site_contents.scripts fd (of cn None script))) server gd)
      (λ u. elim (alone.fds gd u) [
        | inl has ↦ not-conn has
        | inr here ↦ differ here
      ])
    where
      not-conn : has_fd (of cn None script) gd ≡ true → ⊥
      not-conn has =
          elim (there-fd site_contents worker_set laws m (p.came c) (p.sent c) fd c process_slots cn None script gd f
          has) [
            | inl file ↦ (let h = file.2 in cc (h, opened))
            | inr end ↦ elim end.1 [ inl read ↦ cc (read, opened) | inr write ↦ cc (write, opened) ]
          ]

  stays-open : (gd k : ℕ) → fd ≢ gd → descriptor m server gd ≡ Some (on.Connection k)
      → descriptor n server gd ≡ Some (on.Connection k)
  stays-open gd k differ opened =
      (laws.the.steps.leaves m n (event.Call server (next_call site_contents.scripts fd (of cn None script))) r
      step).fds
      server gd (on.Connection k) opened (untouched gd k differ opened)

  module _ (sure : is_later r ≡ false)
      (short : AreShort site_contents longest) (room : HasRoom m) (low : fd < places)
      -- premises about the machine: a call adds no unread bytes, and the server may read those of the connection
      (none_come : (c : ℕ) → length (conn_at n c).incoming ≤ length (conn_at m c).incoming)
      (seen : (c q : ℕ) → descriptor m server fd ≡ Some (on.Connection c) → IsHidden m server q (conn_at m c).incoming
      → ⊥) where
    expected-after : (b : Bool) → is_closing cn.phase ≡ b → (expected : List ℕ) × (length expected ≤ longest)
        × (is_closing cn.phase ≡ false → Has n cn.request expected (conn.after_reply cn r received).phase)
    expected-after true is = ([], omega arith, λ going. absurd (let e = sym is ∙ going in cc (e)))
    expected-after false is =
        let g = after-fits is in (
          expected_in g.expected (conn.after_reply cn r received).request (conn.after_reply cn r received).phase,
          expected-short site_contents longest (conn.after_reply cn r received).request g.expected
              (conn.after_reply cn r received).phase
              (subst (λ (q : Answer). IsProper q) (sym (same-request cn.buffered cn.request cn.phase r received))
              f.proper) short
              g.may,
          λ going.
              subst
              (λ (q : Answer).
              Has n q
              (expected_in g.expected (conn.after_reply cn r received).request
              (conn.after_reply cn r received).phase)
              (conn.after_reply cn r received).phase) (same-request cn.buffered cn.request cn.phase r received) g.has,
        )

    abbrev before : ℕ
    before = length (conn_at m c).incoming

    abbrev now : ℕ
    now = length (conn_at n c).incoming

    -- fewer turns are left for the connection
    falls : conn_turns longest now (conn.after_reply cn r received) < conn_turns longest before cn
    falls =
        let expected = expected-after (is_closing cn.phase) refl in
        turn-falls laws.the.own laws.left laws.the.reasons laws.the.windows m n longest fd c order fixed.site.lives
        open_on cn.buffered cn.request cn.phase (expected_in f.expected cn.request cn.phase) expected.0 r received
        expected.1
        (none_come c)
        (λ q. seen c q open_on) f.has expected.2
        (can-make site_contents m fd cn.buffered cn.request script cn.phase f.proper f.finds room) step_is names sure

    -- those at its index, before the call
    here-before : place_turns longest m clients fd ≡ conn_turns longest before cn
    here-before = ap (λ (x : Option Client). of_place longest (unread_at m fd) x) there
        ∙ ap (λ (x : Option Descriptor). conn_turns longest (length (conn_at m (conn_of x)).incoming) cn) open_on

    here-later : place_turns longest n later fd ≤ conn_turns longest now (conn.after_reply cn r received)
    here-later =
        subst (λ (x : Option Client). of_place longest (unread_at n fd) x ≤ conn_turns longest now
        (conn.after_reply cn r received)) (sym (at-same clients fd (left_over after)))
        (which (is_closing cn.phase) refl)
      where
        gone : (d : Phase) → (conn.after_reply cn r received).phase ≡ d → d ≡ phase.Closed
            → of_place longest (unread_at n fd) (left_by (conn.after_reply cn r received).phase after)
            ≤ conn_turns longest now (conn.after_reply cn r received)
        gone d is over =
            subst (λ (e : Phase). of_place longest (unread_at n fd) (left_by e after) ≤ conn_turns longest now
            (conn.after_reply cn r received)) (sym (is ∙ over)) (omega arith)

        closes : (d : Phase) → cn.phase ≡ d → is_closing d ≡ true
            → of_place longest (unread_at n fd) (left_over after) ≤ conn_turns longest now
            (conn.after_reply cn r received)
        closes phase.Disconnecting is closing = gone (conn.after_reply cn r received).phase refl (closed is)
        closes phase.Closed is closing =
            absurd (subst (λ (d : Phase). Has m cn.request (expected_in f.expected cn.request d) d) is f.has)
        closes d is closing = absurd (cc (closing))

        which : (b : Bool) → is_closing cn.phase ≡ b
            → of_place longest (unread_at n fd) (left_over after) ≤ conn_turns longest now
            (conn.after_reply cn r received)
        which true is = closes cn.phase refl is
        which false is =
            let open_still =
            ap (λ (x : Option Descriptor). length (conn_at n (conn_of x)).incoming) (after-fits is).open_on in
            subst (λ (u : ℕ). of_place longest u (left_over after) ≤ conn_turns longest now
            (conn.after_reply cn r received)) (sym open_still)
            (left-most longest now (conn.after_reply cn r received).phase after)

    -- at another index no more are left
    elsewhere : (gd : ℕ) → fd ≢ gd → place_turns longest n later gd ≤ place_turns longest m clients gd
    elsewhere gd differ =
        subst (λ (x : Option Client). of_place longest (unread_at n gd) x ≤ place_turns longest m clients gd)
        (sym (at-other clients fd gd (left_over after) differ)) (by (in_place clients gd) refl)
      where
        same : (y : Client) → in_place clients gd ≡ Some y → unread_at n gd ≡ unread_at m gd
        same y is =
            let at_y = fit.each gd y is in
            let k = at_y.conn in
            let opened : descriptor m server gd ≡ Some (on.Connection k) =
            opens-on site_contents worker_set laws m (p.came k) (p.sent k) gd k process_slots y.conn y.run y.script
            at_y.fits in
            let buffered : descriptor n server gd ≡ Some (on.Connection k) = stays-open gd k differ opened in
            let other : c ≢ k =
            (λ e.
            differ
            (order.one server server fd gd (on.Connection k) refl (open_on
            ∙ ap (λ (z : ℕ). Some (on.Connection z)) e) opened).1) in
            ap (λ (x : Option Descriptor). length (conn_at n (conn_of x)).incoming) buffered
            ∙ (ap (λ (z : Connection). length z.incoming)
            ((laws.the.steps.leaves m n (event.Call server (next_call site_contents.scripts fd (of cn None script))) r
            step).conns k
            (no-true (touches_conn m (event.Call server (next_call site_contents.scripts fd (of cn None script))) k)
            (λ u. other (alone.conns k u))))
            ∙ sym (ap (λ (x : Option Descriptor). length (conn_at m (conn_of x)).incoming) opened))

        by : (x : Option Client) → in_place clients gd ≡ x
            → of_place longest (unread_at n gd) x ≤ place_turns longest m clients gd
        by None is = omega arith
        by (Some y) is =
            let e = same y is in
            let was = ap (λ (x : Option Client). of_place longest (unread_at m gd) x) is in
            let now_is = ap (λ (u : ℕ). of_place longest u (Some y)) e in
            omega (arith, was, now_is)

    each-place : (gd : ℕ) → place_turns longest n later gd ≤ place_turns longest m clients gd
    each-place gd = elim (cases_eq fd gd) [
      | inl same ↦ subst (λ (g : ℕ). place_turns longest n later g ≤ place_turns longest m clients g) same (let one =
          here-later in let two = here-before in let less = falls in omega (arith, one, two, less))
      | inr differ ↦ elsewhere gd differ
    ]

    -- for waiting connections no more are left
    each-accept_step : (k : ℕ) → accept_step_turns longest n k ≤ accept_step_turns longest m k
    each-accept_step k = elim (cases_eq c k) [
      | inl same ↦ subst (λ (z : ℕ). accept_step_turns longest n z ≤ accept_step_turns longest m z) same
          (subst (λ (b : Bool). (if b then 0 else unread_turns longest (length (conn_at n c).incoming) + 7)
          ≤ accept_step_turns longest m c)
          (sym (laws.the.other.accepted m n server (next_call site_contents.scripts fd (of cn None script)) r c order
          step
          (held-open m fd c order open_on).0)) (omega arith))
      | inr differ ↦
          (let is =
          (laws.the.steps.leaves m n (event.Call server (next_call site_contents.scripts fd (of cn None script))) r
          step).conns k
          (no-true (touches_conn m (event.Call server (next_call site_contents.scripts fd (of cn None script))) k)
          (λ u. differ (alone.conns k u))) in
          let e = ap (λ (z : Connection). if z.accepted then 0 else unread_turns longest (length z.incoming) + 7) is in
          omega (arith, e))
    ]

    -- So fewer turns are left in all.
    pub call-falls : (worker : ℕ)
        → all_left longest places conns n
        (with_at clients fd (left_over (after_reply site_contents.scripts worker (of cn None script) r received)))
        < all_left longest places conns m clients
    call-falls worker =
        subst (λ (x : Client). all_left longest places conns n (with_at clients fd (left_over x)) < all_left longest
        places conns m clients) (sym (reports worker))
        (let one = here-later in let two = here-before in let less = falls in
        let sums = less_at places fd 1 (place_turns longest m clients) (place_turns longest n later) low
        (omega (arith, one, two, less)) each-place in
        let accept_steps = no_more conns (accept_step_turns longest m) (accept_step_turns longest n) each-accept_step in
        omega (arith, sums, accept_steps))

-- ---- a client is made ready

module _ (site_contents : SiteContents) (worker_set : WorkerSet) (laws : AllLaws worker_set) (longest places conns : ℕ)
    (m : State) (p : Past) (clients : List (Option Client)) (fd : ℕ)
    (cn : Conn) (script : List ℕ) (y : Client) (process_slots : List (ProcessSlot worker_set.Worker))
    (order : IsOrderly m) (fixed : IsFixedFor site_contents worker_set m)
    (fit : AllFit site_contents worker_set m p clients process_slots)
    (there : in_place clients fd ≡ Some (of cn None script)) (ready : Readies (of cn None script) y)
    (short : AreShort site_contents longest) where
  abbrev mine : ℕ
  mine = (fit.each fd (of cn None script) there).conn

  opened : descriptor m server fd ≡ Some (on.Connection mine)
  opened = (fit.each fd (of cn None script) there).fits.open_on

  ready-here : place_turns longest m (with_at clients fd (Some y)) fd ≤ place_turns longest m clients fd
  ready-here =
      let less = readies-falls laws.the.own laws.left laws.the.reasons laws.the.windows m m longest fd mine order
      fixed.site.lives opened cn ready.0 short.errors ready.1 in
      let reads = ap (λ (x : Option Descriptor). length (conn_at m (conn_of x)).incoming) opened in
      let was = ap (λ (x : Option Client). of_place longest (unread_at m fd) x) there
      ∙ ap (λ (u : ℕ). conn_turns longest u cn) reads in
      let now_is = ap (λ (x : Option Client). of_place longest (unread_at m fd) x) (at-same clients fd (Some y)
      ∙ ap (λ (z : Client). Some z) ready.2) ∙ ap (λ (u : ℕ). conn_turns longest u ready.0) reads in
      omega (arith, less, was, now_is)

  -- this leaves no more turns in all
  pub ready-left : all_left longest places conns m (with_at clients fd (Some y)) ≤ all_left longest places conns m
      clients
  ready-left =
      let sums = no_more places (place_turns longest m clients) (place_turns longest m (with_at clients fd (Some y)))
      each in
      omega (arith, sums)
    where
      each : (gd : ℕ) → place_turns longest m (with_at clients fd (Some y)) gd ≤ place_turns longest m clients gd
      each gd = elim (cases_eq fd gd) [
        | inl same ↦
            subst (λ (g : ℕ). place_turns longest m (with_at clients fd (Some y)) g ≤ place_turns longest m clients g)
            same ready-here
        | inr differ ↦
            (let e =
            ap (λ (x : Option Client). of_place longest (unread_at m gd) x) (at-other clients fd gd (Some y) differ) in
            omega (arith, e))
      ]

-- ---- a connection is accepted

module _ (site_contents : SiteContents) (worker_set : WorkerSet) (laws : AllLaws worker_set) (longest places conns : ℕ)
    (m n : State) (p : Past) (clients : List (Option Client)) (fd : ℕ)
    (process_slots : List (ProcessSlot worker_set.Worker)) (order : IsOrderly m)
    (fit : AllFit site_contents worker_set m p clients process_slots)
    (step : StepsTo m (event.Call server call.Accept) (reply.Fd fd) n) (takes : o.TakesConn m server fd n)
    (low : takes.conn < conns) where
  abbrev came : ℕ
  came = length (conn_at m takes.conn).incoming

  same-came : length (conn_at n takes.conn).incoming ≡ came
  same-came = ap (λ (k : Connection). length k.incoming) takes.conn_is

  abbrev entered : List (Option Client)
  entered = with_at clients fd (Some new_client)

  -- those at its index, by the bytes received on it
  here-entered : place_turns longest n entered fd ≡ conn_turns longest came conn.new_connection
  here-entered = ap (λ (x : Option Client). of_place longest (unread_at n fd) x) (at-same clients fd (Some new_client))
      ∙ (ap (λ (x : Option Descriptor). conn_turns longest (length (conn_at n (conn_of x)).incoming)
      conn.new_connection) takes.open_on ∙ ap (λ (u : ℕ). conn_turns longest u conn.new_connection) same-came)

  beside : (gd : ℕ) → fd ≢ gd → place_turns longest n entered gd ≤ place_turns longest m clients gd
  beside gd differ =
      subst (λ (x : Option Client). of_place longest (unread_at n gd) x ≤ place_turns longest m clients gd)
      (sym (at-other clients fd gd (Some new_client) differ)) (by (in_place clients gd) refl)
    where
      same : (y : Client) → in_place clients gd ≡ Some y → unread_at n gd ≡ unread_at m gd
      same y is =
          let at_y = fit.each gd y is in
          let k = at_y.conn in
          let opened : descriptor m server gd ≡ Some (on.Connection k) =
          opens-on site_contents worker_set laws m (p.came k) (p.sent k) gd k process_slots y.conn y.run y.script
          at_y.fits in
          let buffered : descriptor n server gd ≡ Some (on.Connection k) =
          (laws.the.steps.leaves m n (event.Call server call.Accept) (reply.Fd fd) step).fds server gd
          (on.Connection k) opened refl in
          let other : takes.conn ≢ k = (λ e. let w = ap (λ (z : ℕ). (conn_at m z).accepted) (sym e) ∙ takes.waited in
          let a = (held-open m gd k order opened).0 in cc (w, a)) in
          ap (λ (x : Option Descriptor). length (conn_at n (conn_of x)).incoming) buffered
          ∙ (ap (λ (z : Connection). length z.incoming) (takes.others k other)
          ∙ sym (ap (λ (x : Option Descriptor). length (conn_at m (conn_of x)).incoming) opened))

      by : (x : Option Client) → in_place clients gd ≡ x
          → of_place longest (unread_at n gd) x ≤ place_turns longest m clients gd
      by None is = omega arith
      by (Some y) is =
          let e = same y is in
          let was = ap (λ (x : Option Client). of_place longest (unread_at m gd) x) is in
          let now_is = ap (λ (u : ℕ). of_place longest u (Some y)) e in
          omega (arith, was, now_is)

  -- no more are left for waiting connections
  each-accept_step-then : (k : ℕ) → accept_step_turns longest n k ≤ accept_step_turns longest m k
  each-accept_step-then k = elim (cases_eq takes.conn k) [
    | inl same ↦ subst (λ (z : ℕ). accept_step_turns longest n z ≤ accept_step_turns longest m z) same (let e =
        entered-accept_step in omega (arith, e))
    | inr differ ↦
        (let e = ap (λ (z : Connection). if z.accepted then 0 else unread_turns longest (length z.incoming) + 7)
        (takes.others k differ) in omega (arith, e))
  ]
    where
      entered-accept_step : accept_step_turns longest n takes.conn ≡ 0
      entered-accept_step =
          ap (λ (z : Connection). if z.accepted then 0 else unread_turns longest (length z.incoming) + 7) takes.conn_is

  -- So fewer turns are left in all.
  pub accept-falls : all_left longest places conns n (with_at clients fd (Some new_client)) < all_left longest places
      conns m clients
  accept-falls =
      let here = here-entered in
      let none : conn_turns longest came conn.new_connection ≡ 6 + unread_turns longest came = omega arith in
      let sums =
      more_at places fd (6 + unread_turns longest came) (place_turns longest m clients)
      (place_turns longest n entered) (omega (arith, here, none)) beside in
      let gone : accept_step_turns longest n takes.conn ≡ 0 =
      ap (λ (z : Connection). if z.accepted then 0 else unread_turns longest (length z.incoming) + 7)
      takes.conn_is in
      let was : accept_step_turns longest m takes.conn ≡ unread_turns longest came + 7 =
      ap (λ (b : Bool). if b then 0 else unread_turns longest came + 7) takes.waited in
      let accept_steps = less_at conns takes.conn (unread_turns longest came + 7) (accept_step_turns longest m)
      (accept_step_turns longest n) low (omega (arith, gone, was)) each-accept_step-then in
      omega (arith, sums, accept_steps)
