-- A call of the server that is not retried later decreases the measure.
use Rattle.std.proofs.Common.{inl, inr, ◌≡◌, ℕ, ◌<◌, ◌≤◌, List, ap, ◌∙◌, refl, sym, subst, arith, Option, Some, None}
use Rattle.std.proofs.Common.{true, false, Bool, length}
use Rattle.iol_core.specs.NumberedLists.{in_place}
use Rattle.iol_core.specs.State.{State, descriptor, conn_at}
use Rattle.iol_core.specs.Run.{StepsTo}
use Rattle.iol_core.specs.declared.descriptors.Descriptor.TheVariants as on
use Rattle.iol_core.specs.declared.refusals.Refusal.{Refusal}
use Rattle.iol_core.specs.declared.refusals.Refusal.TheVariants as no
use Rattle.iol_core.specs.declared.events.Call.{Call}
use Rattle.iol_core.specs.declared.events.Call.TheVariants as call
use Rattle.iol_core.specs.declared.events.Event.TheVariants as event
use Rattle.iol_core.specs.declared.events.Reply.{Reply}
use Rattle.iol_core.specs.declared.events.Reply.TheVariants as reply
use Rattle.iol_laws.specs.Caller as o
use Rattle.iol_laws.specs.Frame.{closes_pool}
use Rattle.iol_laws.specs.Order.{IsOrderly}
use Rattle.iol_laws.specs.Reasons.{IsHidden}
use Rattle.iol_laws.specs.RefusalsLeft.{LacksNumbersOrWaits}
use Rattle.iol_proc.specs.declared.process.Turn.{Turn}
use Rattle.iol_proc.specs.declared.process.Turn.TheVariants as turn
use Rattle.iol_proc.specs.declared.process_slot.ProcessSlot.{ProcessSlot}
use Rattle.flash_http.specs.Request.{Answer, serve}
use Rattle.flash_laws.specs.Conn as conn
use Rattle.flash_laws.specs.declared.phase.Phase.{Phase}
use Rattle.flash_laws.specs.declared.phase.Phase.TheVariants as phase
use Rattle.std.proofs.lemmas.Bool.{cases_eq}
use Rattle.flash_laws.specs.Client as client
use Rattle.flash_laws.specs.Client.{Client, next_call, after_reply, file_after_reply, left_over, Readies, is_for_script}
use Rattle.flash_laws.specs.Client.Fits.{FitsBy, FitsAlone}
use Rattle.flash_laws.specs.Conn.{Conn}
use Rattle.flash_laws.specs.Conn.Fits.{Names}
use Rattle.flash_laws.specs.Conn.Policy.{is_later}
use Rattle.flash_laws.specs.Serves.{Picks, PicksAt, Made}
use Rattle.flash_laws.specs.SiteContents.{SiteContents, IsAmong}
use Rattle.flash_laws.specs.Site.{server}
use Rattle.flash_laws.specs.Site.ClientConsistency.{AllFit}
use Rattle.flash_laws.specs.Site.OtherConns.{with_at}
use Rattle.flash_laws.specs.Site.Past.{Past}
use Rattle.flash_laws.specs.Site.Places.{EachHasItsOwn, first_free, filed, after_reply_at, accepted, runs_scripts}
use Rattle.flash_laws.specs.Workers.WorkerSet.{WorkerSet, IsFixedFor}
use Rattle.flash_laws.specs.declared.phase.PendingCall.{PendingCall}
use Rattle.flash_laws.specs.declared.phase.PendingCall.TheVariants.{Nothing, Accepting, At}
use Rattle.flash_laws.specs.declared.script_run.Running.{Running}
use Rattle.flash_laws.proofs.Forms.{of, at as conn-at}
use Rattle.flash_progress.specs.Bound.{unread_at}
use Rattle.flash_progress.proofs.OpenPools.{never-closed}
use Rattle.flash_progress.proofs.TurnsLeft.{AreShort, HasRoom, can-make, all_left, place_turns, of_place, no_more}
use Rattle.flash_progress.proofs.TurnsLeft.{left-most, no-script, ready-left, call-falls, accept-falls}
use Rattle.flash_laws.proofs.Lists.{clash}
use Rattle.flash_laws.proofs.Site.InPlaces.{at-same, at-other}
use Rattle.flash_laws.proofs.Site.OwnWorkers.{own-picked}
use Rattle.flash_laws.proofs.World.Accept.{ready_turn}
use Rattle.flash_laws.proofs.World.AllLaws.{AllLaws}
use Rattle.flash_laws.proofs.World.Calls.{is_client_call, calls-alone}
use Rattle.flash_laws.proofs.World.ServerTurn.{client-awaits}
use Rattle.flash_laws.proofs.Moves.{either-way}

-- Premises about the machine: heads can be made, the server may read the unread bytes of its connections, the numbers
-- of descriptors and of waiting connections are bounded, and a call adds no unread bytes.
pub record IsKnown (places conns : ℕ) (m : State) : Type 0 where
  pub room : HasRoom m
  pub seen : (fd c q : ℕ) → descriptor m server fd ≡ Some (on.Connection c) → IsHidden m server q (conn_at m c).incoming
      → ⊥
  pub low : (fd c : ℕ) → descriptor m server fd ≡ Some (on.Connection c) → fd < places
  pub few : (c : ℕ) → (conn_at m c).accepted ≡ false → c < conns
  pub none_come : (n : State) (k : Call) (r : Reply) (c : ℕ) → StepsTo m (event.Call server k) r n
      → length (conn_at n c).incoming ≤ length (conn_at m c).incoming

-- the call of a turn
abbrev made-call : Turn → Call
made-call (turn.Make k) = k
made-call turn.Yield = call.Accept

-- a connection's call closes no pool
closes-none : (fd : ℕ) (buffered : List ℕ) (q : Answer) (d : Phase) (p : ℕ)
    → closes_pool (event.Call server (conn.next_call fd (conn-at buffered q d))) p ≡ false
closes-none fd buffered q (phase.Reading f) p =
    either-way (λ (k : Call). closes_pool (event.Call server k) p ≡ false) (conn.is_head_only q) refl refl
closes-none fd buffered q d p = refl

module _ (site_contents : SiteContents) (worker_set : WorkerSet) (laws : AllLaws worker_set)
    (files : site_contents.scripts ≡ false) (longest : ℕ) (short : AreShort site_contents longest) (places conns : ℕ)
    (m n : State) (p : Past) (clients after : List (Option Client))
    (next : PendingCall) (r : Reply) (k : Call) (process_slots : List (ProcessSlot worker_set.Worker))
    (order : IsOrderly m) (fixed : IsFixedFor site_contents worker_set m)
    (fit : AllFit site_contents worker_set m p clients process_slots)
    (known : IsKnown places conns m) (among : IsAmong site_contents.refuses.of_server r)
    (did : Made m (turn.Make k) r n) where
  -- the measure is less once the reply is filed
  abbrev Falls : (received : List ℕ) → Type 0
  Falls received = all_left longest places conns n (filed worker_set.count after next r received) < all_left longest
      places conns m clients

  accepting : is_later r ≡ false → after ≡ clients → next ≡ Accepting → StepsTo m (event.Call server call.Accept) r n
      → (received : List ℕ) → Falls received
  accepting sure same is step received =
      subst (λ (w : PendingCall). all_left longest places conns n (filed worker_set.count after w r received)
      < all_left longest places conns m clients) (sym is)
      (subst
      (λ (xs : List (Option Client)). all_left longest places conns n
      (filed worker_set.count xs Accepting r received) < all_left longest places conns m clients) (sym same)
      (by r (laws.the.own.accepts m n server r order step) step sure))
    where
      refused : (z : Refusal) → LacksNumbersOrWaits z → is_later (reply.Refused z) ≡ false → ⊥
      refused no.TooMany left sure = cc (sure)
      refused no.WouldBlock left sure = cc (sure)
      refused no.Memory left sure = cc (sure)
      refused z left sure = left

      by : (r : Reply) → o.Accepts m server r n → StepsTo m (event.Call server call.Accept) r n → is_later r ≡ false
          → all_left longest places conns n (filed worker_set.count clients Accepting r received) < all_left longest
          places conns m clients
      by (reply.Fd fd) takes step sure =
          accept-falls site_contents worker_set laws longest places conns m n p clients fd process_slots order fit step
          takes (known.few takes.conn takes.waited)
      by (reply.Refused z) did step sure =
          absurd (refused z (laws.left.accepts m n server z fixed.site.lives step) sure)
      by r did step sure = absurd did

  module _ (fd : ℕ) (picks : PicksAt worker_set.count clients fd (turn.Make k) after) (is : next ≡ At fd)
      (received : List ℕ) (names : Names n r received) where
    abbrev number : ℕ
    number = (fit.each fd picks.was picks.there).conn

    -- no script runs
    none-runs : (run : Option Running) → picks.was.run ≡ run → run ≡ None
    none-runs None same = refl
    none-runs (Some y) same =
        absurd
        (none
        (subst (λ (o : Option Running). FitsBy site_contents worker_set o m (p.came number) (p.sent number) fd number
        picks.was process_slots) same (fit.each fd picks.was picks.there).fits))
      where
        none : FitsBy site_contents worker_set (Some y) m (p.came number) (p.sent number) fd number picks.was
            process_slots → ⊥
        none f =
            clash (is_for_script site_contents.scripts (serve f.wanted)) f.script.is_for
            (no-script site_contents.scripts (serve f.wanted) files)

    abbrev cn : Conn
    cn = picks.was.conn

    abbrev script : List ℕ
    script = picks.was.script

    was_is : picks.was ≡ of cn None script
    was_is = ap (λ (o : Option Running). of cn o script) (none-runs picks.was.run refl)

    there : in_place clients fd ≡ Some (of cn None script)
    there = picks.there ∙ ap (λ (x : Client). Some x) was_is

    ready : Readies (of cn None script) picks.ready
    ready = subst (λ (x : Client). Readies x picks.ready) was_is picks.readies

    abbrev readied : List (Option Client)
    readied = with_at clients fd (Some picks.ready)

    fit-ready : AllFit site_contents worker_set m p readied process_slots
    fit-ready = ready_turn site_contents worker_set laws m p clients fd picks.was picks.ready process_slots fit
        picks.there picks.readies
        (subst (λ (xs : List (Option Client)). EachHasItsOwn worker_set.count xs) picks.after_is
        (own-picked worker_set.count clients fit.own (turn.Make k) after (At fd) picks))

    there-ready : in_place readied fd ≡ Some (of ready.0 None script)
    there-ready = at-same clients fd (Some picks.ready) ∙ ap (λ (x : Client). Some x) ready.2

    call_is : turn.Make k ≡ turn.Make (next_call site_contents.scripts fd (of ready.0 None script))
    call_is =
        picks.call_is
        ∙ (ap (λ b. turn.Make (next_call b fd picks.ready)) (sym fixed.scripts)
        ∙ ap (λ (x : Client). turn.Make (next_call site_contents.scripts fd x)) ready.2)

    step : StepsTo m (event.Call server (next_call site_contents.scripts fd (of ready.0 None script))) r n
    step = subst (λ (z : Turn). Made m z r n) call_is did

    called : is_later r ≡ false → (worker : ℕ)
        → all_left longest places conns n
        (with_at readied fd (left_over (after_reply site_contents.scripts worker (of ready.0 None script) r received)))
        < all_left longest places conns m clients
    called sure worker =
        let less = call-falls site_contents worker_set laws files longest places conns m n p readied fd ready.0 script r
        received process_slots order fixed fit-ready there-ready
        (client-awaits cn None script (of ready.0 None script)
        (subst (λ (x : Client). Readies (of cn None script) x) ready.2 ready)) among step names sure short
        known.room
        (known.low fd (fit.each fd (of cn None script) there).conn (fit.each fd (of cn None script) there).fits.open_on)
        (λ c. known.none_come n (next_call site_contents.scripts fd (of ready.0 None script)) r c step)
        (λ c q opened. known.seen fd c q opened) worker in
        let most = ready-left site_contents worker_set laws longest places conns m p clients fd cn script picks.ready
        process_slots order fixed fit there ready short in
        omega (arith, less, most)

    at : is_later r ≡ false → all_left longest places conns n (filed worker_set.count after next r received)
        < all_left longest places conns m clients
    at sure =
        subst (λ (w : PendingCall). all_left longest places conns n (filed worker_set.count after w r received)
        < all_left longest places conns m clients) (sym is)
        (subst
        (λ (xs : List (Option Client)). all_left longest places conns n
        (filed worker_set.count xs (At fd) r received) < all_left longest places conns m clients)
        (sym picks.after_is)
        (subst
        (λ (o : Option Client). all_left longest places conns n
        (after_reply_at worker_set.count readied fd o r received) < all_left longest places conns m clients)
        (sym there-ready)
        (subst
        (λ b. all_left longest places conns n
        (with_at readied fd
        (left_over (after_reply b (first_free worker_set.count readied) (of ready.0 None script) r received)))
        < all_left longest places conns m clients) fixed.scripts
        (called sure (first_free worker_set.count readied)))))

    -- the call is one for a client, and closes no pool
    kind-at : (is_client_call k ≡ true) × ((q : ℕ) → closes_pool (event.Call server k) q ≡ false)
    kind-at =
        subst (λ (z : Turn). (is_client_call (made-call z) ≡ true)
        × ((q : ℕ) → closes_pool (event.Call server (made-call z)) q ≡ false)) (sym call_is) (
          (calls-alone site_contents worker_set laws m
              (p.came (fit-ready.each fd (of ready.0 None script) there-ready).conn)
              (p.sent (fit-ready.each fd (of ready.0 None script) there-ready).conn) fd
              (fit-ready.each fd (of ready.0 None script) there-ready).conn process_slots ready.0 None script
              (fit-ready.each fd (of ready.0 None script) there-ready).fits).kind,
          λ q. subst (λ (z : Call). closes_pool (event.Call server z) q ≡ false)
              (sym
              (ap (λ (b : Bool). client.conn_call b fd ready.0)
              (no-script site_contents.scripts ready.0.request files)))
              (closes-none fd ready.0.buffered ready.0.request ready.0.phase q),
        )

    -- its call meets no closed pool
    open-at : (q : ℕ) → r ≡ reply.Refused (no.PoolClosed q) → ⊥
    open-at q closed =
        let g : FitsAlone site_contents m (p.came (fit-ready.each fd (of ready.0 None script) there-ready).conn)
        (p.sent (fit-ready.each fd (of ready.0 None script) there-ready).conn) fd
        (fit-ready.each fd (of ready.0 None script) there-ready).conn (of ready.0 None script) =
        (fit-ready.each fd (of ready.0 None script) there-ready).fits in
        never-closed site_contents worker_set laws m n fd (fit-ready.each fd (of ready.0 None script) there-ready).conn
        ready.0.buffered script g.expected order fixed.site.lives g.open_on q ready.0.request ready.0.phase g.has
        g.finds
        (can-make site_contents m fd ready.0.buffered ready.0.request script ready.0.phase g.proper g.finds known.room)
        (subst (λ (z : Reply). StepsTo m (event.Call server (conn.next_call fd ready.0)) z n) closed
        (subst (λ (z : Call). StepsTo m (event.Call server z) r n)
        (ap (λ (b : Bool). client.conn_call b fd ready.0) (no-script site_contents.scripts ready.0.request files))
        step))

    -- if a call would block, its connection is unchanged
    after_reply-blocked : (buffered : List ℕ) (q : Answer) (d : Phase) (l : List ℕ)
        → conn.after_reply (conn-at buffered q d) (reply.Refused no.WouldBlock) l ≡ conn-at buffered q d
    after_reply-blocked buffered q phase.Receiving l = refl
    after_reply-blocked buffered q d l = refl

    blocked : r ≡ reply.Refused no.WouldBlock → n ≡ m
        → all_left longest places conns n (filed worker_set.count after next r received) ≤ all_left longest places conns
        m clients
    blocked blocks same =
        subst (λ (s : State). all_left longest places conns s (filed worker_set.count after next r received)
        ≤ all_left longest places conns m clients) (sym same)
        (subst (λ (w : PendingCall). all_left longest places conns m (filed worker_set.count after w r received)
        ≤ all_left longest places conns m clients) (sym is)
        (subst
        (λ (xs : List (Option Client)). all_left longest places conns m
        (filed worker_set.count xs (At fd) r received) ≤ all_left longest places conns m clients)
        (sym picks.after_is)
        (subst
        (λ (o : Option Client). all_left longest places conns m
        (after_reply_at worker_set.count readied fd o r received) ≤ all_left longest places conns m clients)
        (sym there-ready)
        (subst (λ (x : Client). all_left longest places conns m (with_at readied fd (left_over x)) ≤ all_left longest
        places conns m clients) (sym unchanged) still))))
      where
        unchanged : after_reply (runs_scripts worker_set.count) (first_free worker_set.count readied)
            (of ready.0 None script) r received ≡ of ready.0 None script
        unchanged =
            ap (λ (b : Bool). after_reply b (first_free worker_set.count readied) (of ready.0 None script) r received)
            (sym fixed.scripts)
            ∙ (ap (λ (b : Bool). file_after_reply b (of ready.0 None script) r received)
            (no-script site_contents.scripts ready.0.request files)
            ∙ (ap (λ (z : Reply). of (conn.after_reply ready.0 z received) None script) blocks
            ∙ ap (λ (z : Conn). of z None script)
            (after_reply-blocked ready.0.buffered ready.0.request ready.0.phase received)))

        each : (gd : ℕ) → place_turns longest m (with_at readied fd (left_over (of ready.0 None script))) gd
            ≤ place_turns longest m readied gd
        each gd = elim (cases_eq fd gd) [
          | inl here ↦
              subst (λ (g : ℕ). place_turns longest m (with_at readied fd (left_over (of ready.0 None script))) g
              ≤ place_turns longest m readied g) here
              (let now =
              ap (λ (x : Option Client). of_place longest (unread_at m fd) x)
              (at-same readied fd (left_over (of ready.0 None script))) in
              let was = ap (λ (x : Option Client). of_place longest (unread_at m fd) x) there-ready in
              let most = left-most longest (unread_at m fd) ready.0.phase (of ready.0 None script) in
              omega (arith, now, was, most))
          | inr differ ↦
              (let e =
              ap (λ (x : Option Client). of_place longest (unread_at m gd) x)
              (at-other readied fd gd (left_over (of ready.0 None script)) differ) in omega (arith, e))
        ]

        still : all_left longest places conns m (with_at readied fd (left_over (of ready.0 None script)))
            ≤ all_left longest places conns m clients
        still =
            let sums =
            no_more places (place_turns longest m readied)
            (place_turns longest m (with_at readied fd (left_over (of ready.0 None script)))) each in
            let most = ready-left site_contents worker_set laws longest places conns m p clients fd cn script
            picks.ready process_slots order fixed fit there ready short in
            omega (arith, sums, most)

  -- If the call would block, the measure does not increase.
  pub server-waits : r ≡ reply.Refused no.WouldBlock → n ≡ m → Picks worker_set.count clients next (turn.Make k) after
      → (received : List ℕ) → Names n r received
      → all_left longest places conns n (filed worker_set.count after next r received) ≤ all_left longest places conns m
      clients
  server-waits blocks same picks received names = by next refl picks
    where
      by : (w : PendingCall) → next ≡ w → Picks worker_set.count clients w (turn.Make k) after
          → all_left longest places conns n (filed worker_set.count after next r received) ≤ all_left longest places
          conns m clients
      by Nothing is picks = absurd (let bad = picks.1 in cc (bad))
      by Accepting is picks =
          let here = ap (λ (s : State). all_left longest places conns s (filed worker_set.count after next r received))
          same in
          let one =
          ap (λ (w : PendingCall). all_left longest places conns m (filed worker_set.count after w r received))
          is in
          let two = ap (λ (z : Reply). all_left longest places conns m (accepted after z)) blocks in
          let three = ap (λ (l : List (Option Client)). all_left longest places conns m l) picks.0 in
          omega (arith, here, one, two, three)
      by (At fd) is picks = blocked fd picks is received names blocks same

  -- No call of the server meets a closed pool.
  pub server-open : Picks worker_set.count clients next (turn.Make k) after → (received : List ℕ) → Names n r received
      → (q : ℕ) → r ≡ reply.Refused (no.PoolClosed q) → ⊥
  server-open picks received names q closed = by next refl picks
    where
      by : (w : PendingCall) → next ≡ w → Picks worker_set.count clients w (turn.Make k) after → ⊥
      by Nothing is picks = let bad = picks.1 in cc (bad)
      by Accepting is picks =
          laws.left.accepts m n server (no.PoolClosed q) fixed.site.lives
          (subst (λ (z : Reply). StepsTo m (event.Call server call.Accept) z n) closed
          (subst (λ (z : Turn). Made m z r n) picks.1 did))
      by (At fd) is picks = open-at fd picks is received names q closed

  -- Its call is one for a client, and closes no pool.
  pub server-kind : Picks worker_set.count clients next (turn.Make k) after → (received : List ℕ) → Names n r received
      → (is_client_call k ≡ true) × ((q : ℕ) → closes_pool (event.Call server k) q ≡ false)
  server-kind picks received names = by next refl picks
    where
      by : (w : PendingCall) → next ≡ w → Picks worker_set.count clients w (turn.Make k) after
          → (is_client_call k ≡ true) × ((q : ℕ) → closes_pool (event.Call server k) q ≡ false)
      by Nothing is picks = absurd (let bad = picks.1 in cc (bad))
      by Accepting is picks =
          subst (λ (z : Turn). (is_client_call (made-call z) ≡ true)
          × ((q : ℕ) → closes_pool (event.Call server (made-call z)) q ≡ false)) (sym picks.1) (refl, λ q. refl)
      by (At fd) is picks = kind-at fd picks is received names

  -- The call of each pick decreases the measure, if it is not retried later.
  pub server-falls : is_later r ≡ false → Picks worker_set.count clients next (turn.Make k) after → (received : List ℕ)
      → Names n r received → Falls received
  server-falls sure picks received names = by next refl picks
    where
      by : (w : PendingCall) → next ≡ w → Picks worker_set.count clients w (turn.Make k) after → Falls received
      by Nothing is picks = absurd (let bad = picks.1 in cc (bad))
      by Accepting is picks = accepting sure picks.0 is (subst (λ (z : Turn). Made m z r n) picks.1 did) received
      by (At fd) is picks = at fd picks is received names sure
