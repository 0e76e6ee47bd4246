-- A world of files becomes idle: turns in rounds without lack of a resource end with all idle, if their number
-- suffices.
use Rattle.std.proofs.Common.{inl, inr, ◌≡◌, ℕ, ◌+◌, ◌-◌, ◌<◌, ◌≤◌, List, [], ◌∷◌, ◌++◌, length, ap, ◌∙◌, refl, sym}
use Rattle.std.proofs.Common.{subst, arith, Option, Some, None, true, false, Bool, slice_get, slice_set, if◌then◌else◌}
use Rattle.std.specs.Prelude.{nat_lt}
use Rattle.std.specs.List.{AllByRecursion}
use Rattle.iol_core.specs.NumberedLists.{in_place, taken}
use Rattle.iol_core.specs.State.{State}
use Rattle.iol_core.specs.declared.limits.TheConstants.{MAX_OPEN}
use Rattle.iol_core.specs.declared.refusals.Refusal.{Refusal}
use Rattle.iol_core.specs.declared.refusals.Refusal.TheVariants as no
use Rattle.iol_core.specs.declared.events.Call.{Call}
use Rattle.iol_core.specs.declared.events.Event.TheVariants as event
use Rattle.iol_core.specs.declared.events.Reply.{Reply}
use Rattle.iol_core.specs.declared.events.Reply.TheVariants as reply
use Rattle.iol_proc.specs.Idle.{Went, RoundRun}
use Rattle.iol_proc.specs.ReadableBytes.{readable_to}
use Rattle.iol_proc.specs.Turns.{Comes, ProcessSlotTurn, is_would_block}
use Rattle.iol_proc.specs.World.{WorldState, copying, PlaceTurn}
use Rattle.iol_proc.specs.declared.choice.Choice.{Choice}
use Rattle.iol_proc.specs.declared.choice.Choice.TheVariants as choice
use Rattle.iol_proc.specs.declared.process.Turn.{Turn}
use Rattle.iol_proc.specs.declared.process.Turn.TheVariants as turn
use Rattle.iol_proc.specs.declared.process_slot.ProcessSlot.{ProcessSlot}
use Rattle.flash_laws.specs.Client.{Client}
use Rattle.flash_laws.specs.Conn.Policy.{most_conns, is_later, pending_call_to}
use Rattle.flash_laws.specs.Serves.{Server, Picks, filed_in, received_of, server_turns, Made}
use Rattle.flash_laws.specs.Serves.Rounds.{in_rounds, leaves_off, next_pending_call, next_place, pending_call_from}
use Rattle.flash_laws.specs.SiteContents.{SiteContents, IsAmong}
use Rattle.flash_laws.specs.Site.{server}
use Rattle.flash_laws.specs.Site.ClientConsistency.{AllFit, AreAtJobQueues}
use Rattle.flash_laws.specs.Site.Places.{filed, has_free}
use Rattle.flash_laws.specs.Workers.WorkerSet.{WorkerSet}
use Rattle.flash_laws.specs.World.{AreInSlots, Consistent, process_slots_of}
use Rattle.flash_laws.specs.World.Consistency.{Actor, Serving, Working, actor_goes, actor_turns, past_of}
use Rattle.flash_laws.specs.declared.phase.PendingCall.{PendingCall}
use Rattle.flash_laws.specs.declared.phase.PendingCall.TheVariants.{Nothing, Accepting, At}
use Rattle.flash_laws.proofs.Conn.Responses.{some-inj}
use Rattle.flash_progress.specs.Bound.{sum_to, turns_at, turns_of_waiting}
use Rattle.flash_progress.specs.Served.{lacks_resource, CanPlace, CanRead, clients_by, clients_in}
use Rattle.flash_progress.proofs.TurnsLeft.{AreShort, all_left}
use Rattle.flash_progress.proofs.Decrease.{Decreases, IdleComes}
use Rattle.flash_progress.proofs.BoundProof.{left-within}
use Rattle.flash_progress.proofs.Idleness.{idle_comes, holds-after}
use Rattle.flash_progress.proofs.ServerTurns.{IsKnown, server-falls, server-waits, server-open, server-kind}
use Rattle.flash_progress.proofs.Invariant.{MoreLaws, AreFew, known-of, read-step, places-on, few-calls}
use Rattle.flash_laws.proofs.World.Calls.{opens-on}
use Rattle.flash_laws.proofs.Site.Rounds.{from-there}
use Rattle.flash_laws.proofs.World.AllLaws.{AllLaws}
use Rattle.flash_laws.proofs.World.Fair.{among-server}
use Rattle.flash_laws.proofs.World.FixedState.{fixed-on}
use Rattle.flash_laws.proofs.World.ServerTurn.{received-is, server_turn}
use Rattle.flash_laws.proofs.World.Steps.{step_keeps}

-- a call that lacks no resource, and meets no closed pool, is retried later only if it would block
not-later : (r : Reply) → lacks_resource r ≡ false → is_would_block r ≡ false
    → ((p : ℕ) → r ≡ reply.Refused (no.PoolClosed p) → ⊥) → is_later r ≡ false
not-later (reply.Refused no.WouldBlock) failure_free on opened = absurd (cc (on))
not-later (reply.Refused no.TooMany) failure_free on opened = absurd (cc (failure_free))
not-later (reply.Refused (no.PoolClosed p)) failure_free on opened = absurd (opened p refl)
not-later (reply.Refused (no.NoRoom p)) failure_free on opened = absurd (cc (failure_free))
not-later (reply.Refused no.Memory) failure_free on opened = absurd (cc (failure_free))
not-later r failure_free on opened = refl

-- a call that would block is allowed
blocks-among : (refuses : Refusal → Bool) → IsAmong refuses (reply.Refused no.WouldBlock)
blocks-among refuses resource_failure = absurd (cc (resource_failure))

-- the allowed replies: none lacks a resource, and the site contents permit each
abbrev pub Allowed : SiteContents → Reply → Type 0
Allowed site_contents r = (lacks_resource r ≡ false) × IsAmong site_contents.refuses.of_server r

-- the number of polls left in this round, by the next poll
abbrev asks : (places : ℕ) → PendingCall → ℕ
asks places Nothing = 0
asks places Accepting = 1
asks places (At fd) = places - fd + 2

-- at most the polls from an index on are left, if the next poll is searched from there
asks-on : (places from : ℕ) (free : Bool) (clients : List (Option Client)) (workers : ℕ) → from ≤ places
    → asks places (pending_call_from workers clients from) ≤ places - from + 2
asks-on places from free clients workers low =
    by (next_place workers clients from) (λ fd is. from-there (has_free workers clients) clients from fd is)
  where
    accept_step : (b : Bool) → asks places (if b then Accepting else Nothing) ≤ places - from + 2
    accept_step true = omega arith
    accept_step false = omega arith

    by : (o : Option ℕ) → ((fd : ℕ) → o ≡ Some fd → from ≤ fd)
        → asks places (pending_call_to clients o) ≤ places - from + 2
    by (Some fd) later = let le = later fd refl in omega (arith, le)
    by None later = accept_step (nat_lt (taken clients) most_conns)

module _ (site_contents : SiteContents) (worker_set : WorkerSet) (laws : AllLaws worker_set) (more : MoreLaws)
    (files : site_contents.scripts ≡ false) (none : worker_set.count ≡ 0)
    (longest : ℕ) (short : AreShort site_contents longest) (conns : ℕ) where
  -- the invariant
  pub record IsFileServer (w : WorldState State (Actor worker_set.Worker)) : Type 0 where
    pub xs : List Choice
    pub rs : List Reply
    pub consistent : Consistent site_contents worker_set xs rs w
    pub reads : CanRead w.machine
    pub places : CanPlace w.machine
    pub few : AreFew conns w.machine

  abbrev turns_left_by : State → Actor worker_set.Worker → Reply → ℕ
  turns_left_by m (Serving s) last = all_left longest MAX_OPEN conns m (filed_in s last (λ a. readable_to m server a))
  turns_left_by m (Working v) last = 0

  abbrev asks_by : State → Actor worker_set.Worker → Reply → ℕ
  asks_by m (Serving s) last =
      asks MAX_OPEN (next_pending_call s.workers (filed_in s last (λ a. readable_to m server a)) s.pending_call last)
  asks_by m (Working v) last = 0

  abbrev first_of : (State → Actor worker_set.Worker → Reply → ℕ) → State → List (ProcessSlot (Actor worker_set.Worker))
      → ℕ
  first_of f m [] = 0
  first_of f m (process_slot ∷ process_slots) = f m process_slot.process process_slot.last

  -- the measure, and the number of polls left in this round
  abbrev pub left : WorldState State (Actor worker_set.Worker) → ℕ
  left w = first_of turns_left_by w.machine w.process_slots

  abbrev pub polls : WorldState State (Actor worker_set.Worker) → ℕ
  polls w = first_of asks_by w.machine w.process_slots

  no-workers : (m : State) (process_slots : List (ProcessSlot worker_set.Worker))
      → AreAtJobQueues worker_set m process_slots → process_slots ≡ []
  no-workers m [] job_queues = refl
  no-workers m (process_slot ∷ process_slots) job_queues =
      absurd (let lt = (job_queues.by 0 process_slot refl).0 in omega (arith, lt, none))

  module _ (w : WorldState State (Actor worker_set.Worker)) (q : IsFileServer w) where
    s : AreInSlots site_contents worker_set w (past_of q.xs q.rs)
    s = q.consistent.in_slots

    abbrev first : ProcessSlot (Actor worker_set.Worker)
    first = record { by = server; process = Serving q.consistent.in_slots.state; last = q.consistent.in_slots.last }

    pub alone : w.process_slots ≡ first ∷ []
    alone = q.consistent.in_slots.process_slots
        ∙ ap (λ (l : List (ProcessSlot worker_set.Worker)). process_slots_of q.consistent.in_slots.state
        q.consistent.in_slots.last l)
        (no-workers w.machine q.consistent.in_slots.workers q.consistent.in_slots.serves.fit.job_queues)

    abbrev clients : List (Option Client)
    clients = filed_in q.consistent.in_slots.state q.consistent.in_slots.last (λ a. readable_to w.machine server a)

    known : IsKnown MAX_OPEN conns w.machine
    known = known-of more conns w.machine q.consistent.order q.consistent.fixed.low q.reads q.places q.few

    left-is : left w ≡ all_left longest MAX_OPEN conns w.machine clients
    left-is = ap (λ (l : List (ProcessSlot (Actor worker_set.Worker))). first_of turns_left_by w.machine l) alone

    polls-is : polls w
        ≡ asks MAX_OPEN
        (next_pending_call q.consistent.in_slots.state.workers clients q.consistent.in_slots.state.pending_call
        q.consistent.in_slots.last)
    polls-is = ap (λ (l : List (ProcessSlot (Actor worker_set.Worker))). first_of asks_by w.machine l) alone

    fit : AllFit site_contents worker_set w.machine (past_of q.xs q.rs) clients q.consistent.in_slots.workers
    fit =
        subst (λ (l : List (Option Client)). AllFit site_contents worker_set w.machine (past_of q.xs q.rs) l
        q.consistent.in_slots.workers)
        (sym (received-is site_contents worker_set laws w.machine q.consistent.in_slots.last
        q.consistent.in_slots.serves.received q.consistent.fixed.site.lives q.consistent.in_slots.serves.names
        q.consistent.in_slots.state.workers q.consistent.in_slots.state.clients
        q.consistent.in_slots.state.pending_call))
        q.consistent.in_slots.serves.fit

    -- the server's turn
    record Turned (after : WorldState State (Actor worker_set.Worker)) (yields : Bool) (r : Reply) : Type 0 where
      pub state : Server
      pub made : Turn
      pub goes : server_turns in_rounds q.consistent.in_slots.state q.consistent.in_slots.last
          (λ a. readable_to w.machine server a) made state
      pub comes : Comes copying (actor_turns in_rounds worker_set.turns) w.machine server made yields r after.machine
      pub now : after.process_slots ≡ record { by = server; process = Serving state; last = r } ∷ []

    turned : (after : WorldState State (Actor worker_set.Worker)) (yields : Bool) (r : Reply)
        → PlaceTurn copying (actor_turns in_rounds worker_set.turns) w 0 yields r after → lacks_resource r ≡ false
        → Turned after yields r
    turned after yields r place failure_free =
        by place.next
        (subst (λ (z : ProcessSlot (Actor worker_set.Worker)). ProcessSlotTurn copying
        (actor_turns in_rounds worker_set.turns) w.machine z yields r after.machine place.next) (sym here)
        place.turn)
        (place.others_stay ∙ ap (λ (l : List (ProcessSlot (Actor worker_set.Worker))). slice_set l 0 place.next) alone)
      where
        here : first ≡ place.process_slot
        here =
            some-inj first place.process_slot
            (sym (ap (λ (l : List (ProcessSlot (Actor worker_set.Worker))). slice_get l 0) alone) ∙ place.sits)

        by : (next : ProcessSlot (Actor worker_set.Worker))
            → ProcessSlotTurn copying (actor_turns in_rounds worker_set.turns) w.machine first yields r after.machine
            next → after.process_slots ≡ next ∷ []
            → Turned after yields r
        by next (inl starves) process_slots = absurd (let e = ap lacks_resource (sym starves.answer) ∙ failure_free in
            cc (e))
        by next (inr moves) process_slots = which next.process refl moves.proceeds
          where
            which : (x : Actor worker_set.Worker) → next.process ≡ x
                → actor_goes in_rounds worker_set.turns (Serving q.consistent.in_slots.state) q.consistent.in_slots.last
                (λ a. readable_to w.machine server a) moves.turn x → Turned after yields r
            which (Working v) is goes = absurd goes
            which (Serving t) is goes = record {
              state = t;
              made = moves.turn;
              goes = goes;
              comes = moves.comes;
              now = process_slots
                  ∙ ap (λ (z : ProcessSlot (Actor worker_set.Worker)). z ∷ [])
                  (ap (λ z. record { by = z; process = next.process; last = next.last }) moves.domain_stays
                  ∙ (ap (λ (x : Actor worker_set.Worker). record { by = server; process = x; last = next.last }) is
                  ∙ ap (λ (z : Reply). record { by = server; process = Serving t; last = z }) moves.reported));
            }

    abbrev number : ℕ
    number = q.consistent.in_slots.state.workers

    workers-is : q.consistent.in_slots.state.workers ≡ worker_set.count
    workers-is = q.consistent.in_slots.serves.count

    -- the measure after the turn
    after-left : (after : WorldState State (Actor worker_set.Worker)) (yields : Bool) (r : Reply)
        (d : Turned after yields r)
        → left after ≡ all_left longest MAX_OPEN conns after.machine
        (filed d.state.workers d.state.clients d.state.pending_call r
        (received_of r (λ a. readable_to after.machine server a)))
    after-left after yields r d =
        ap (λ (l : List (ProcessSlot (Actor worker_set.Worker))). first_of turns_left_by after.machine l) d.now

    -- a call that returns another reply than WouldBlock
    falls : (after : WorldState State (Actor worker_set.Worker)) (r : Reply)
        → PlaceTurn copying (actor_turns in_rounds worker_set.turns) w 0 false r after → Allowed site_contents r
        → is_would_block r ≡ false
        → left after < left w
    falls after r place allowed on = called d.made refl d.comes
      where
        d : Turned after false r
        d = turned after false r place allowed.0

        called : (made : Turn) → d.made ≡ made
            → Comes copying (actor_turns in_rounds worker_set.turns) w.machine server made false r after.machine
            → left after < left w
        called turn.Yield is comes = absurd (let bad = comes.0 in cc (bad))
        called (turn.Make k) is comes =
            let did : Made w.machine (turn.Make k) r after.machine = comes.1 in
            let picks : Picks q.consistent.in_slots.state.workers clients d.state.pending_call (turn.Make k)
            d.state.clients =
            subst (λ (z : Turn). Picks q.consistent.in_slots.state.workers clients d.state.pending_call z
            d.state.clients) is d.goes.1 in
            let went = server_turn site_contents worker_set laws w.machine after.machine (past_of q.xs q.rs)
            q.consistent.in_slots.state d.state q.consistent.in_slots.last r (turn.Make k)
            q.consistent.in_slots.workers q.consistent.order q.consistent.fixed
            q.consistent.in_slots.serves picks d.goes.2 allowed.1 did in
            let lives =
            (fixed-on site_contents worker_set laws w.machine after.machine went.0 q.consistent.fixed).site.lives in
            let same = received-is site_contents worker_set laws after.machine r went.1.received lives went.1.names
            d.state.workers d.state.clients d.state.pending_call in
            let picked : Picks worker_set.count clients d.state.pending_call (turn.Make k) d.state.clients =
            subst (λ j. Picks j clients d.state.pending_call (turn.Make k) d.state.clients) workers-is picks in
            let opened = server-open site_contents worker_set laws files longest short MAX_OPEN conns w.machine
            after.machine (past_of q.xs q.rs) clients d.state.clients d.state.pending_call r k
            q.consistent.in_slots.workers q.consistent.order q.consistent.fixed fit
            known allowed.1 did picked went.1.received went.1.names in
            let fell = server-falls site_contents worker_set laws files longest short MAX_OPEN conns w.machine
            after.machine (past_of q.xs q.rs) clients d.state.clients d.state.pending_call r k
            q.consistent.in_slots.workers q.consistent.order q.consistent.fixed fit
            known allowed.1 did (not-later r allowed.0 on opened) picked went.1.received went.1.names in
            let here = after-left after false r d in
            let one = ap (λ (l : List (Option Client)). all_left longest MAX_OPEN conns after.machine l) same in
            let two =
            ap
            (λ j. all_left longest MAX_OPEN conns after.machine
            (filed j d.state.clients d.state.pending_call r went.1.received)) (d.goes.2 ∙ workers-is) in
            let was = left-is in
            omega (arith, fell, here, one, two, was)

    -- a yield
    yields : (after : WorldState State (Actor worker_set.Worker)) (r : Reply)
        → PlaceTurn copying (actor_turns in_rounds worker_set.turns) w 0 true r after → Allowed site_contents r
        → left after ≤ left w
    yields after r place allowed = yielded d.made refl d.comes
      where
        d : Turned after true r
        d = turned after true r place allowed.0

        nothing : (f : PendingCall) → d.state.pending_call ≡ f
            → Picks q.consistent.in_slots.state.workers clients f turn.Yield d.state.clients
            → (d.state.pending_call ≡ Nothing) × (d.state.clients ≡ clients)
        nothing Nothing is picks = (is, picks.0)
        nothing Accepting is picks = absurd (let bad = picks.1 in cc (bad))
        nothing (At fd) is picks = absurd (let bad = picks.call_is in cc (bad))

        yielded : (made : Turn) → d.made ≡ made
            → Comes copying (actor_turns in_rounds worker_set.turns) w.machine server made true r after.machine
            → left after ≤ left w
        yielded turn.Yield is comes =
            let picks =
            nothing d.state.pending_call refl
            (subst (λ (z : Turn). Picks q.consistent.in_slots.state.workers clients d.state.pending_call z
            d.state.clients) is d.goes.1) in
            let received = received_of r (λ a. readable_to after.machine server a) in
            let here = after-left after true r d in
            let one =
            ap (λ (f : PendingCall). all_left longest MAX_OPEN conns after.machine
            (filed d.state.workers d.state.clients f r received)) picks.0 in
            let two = ap (λ (l : List (Option Client)). all_left longest MAX_OPEN conns after.machine l) picks.1 in
            let three = ap (λ (m : State). all_left longest MAX_OPEN conns m clients) comes.2 in
            let was = left-is in
            omega (arith, here, one, two, three, was)
        yielded (turn.Make k) is comes = absurd (let bad = comes.0 in cc (bad))

    -- a call that would block
    waits : (after : WorldState State (Actor worker_set.Worker))
        → PlaceTurn copying (actor_turns in_rounds worker_set.turns) w 0 false (reply.Refused no.WouldBlock) after
        → (left after ≤ left w) × (polls after < polls w)
    waits after place = called d.made refl d.comes
      where
        d : Turned after false (reply.Refused no.WouldBlock)
        d = turned after false (reply.Refused no.WouldBlock) place refl

        -- the next poll is of a later index
        fewer : (f : PendingCall) → d.state.pending_call ≡ f → (k : Call)
            → Picks q.consistent.in_slots.state.workers clients f (turn.Make k) d.state.clients
            → (l : List (Option Client))
            → asks MAX_OPEN (next_pending_call d.state.workers l f (reply.Refused no.WouldBlock)) < asks MAX_OPEN f
        fewer Nothing is k picks l = absurd (let bad = picks.1 in cc (bad))
        fewer Accepting is k picks l = omega arith
        fewer (At fd) is k picks l =
            let passes = leaves (in_place l fd) in
            let far = asks-on MAX_OPEN (fd + 1) true l d.state.workers (omega (arith, low)) in
            subst (λ (b : Bool). asks MAX_OPEN (pending_call_from d.state.workers l (if b then fd + 1 else fd))
            < MAX_OPEN - fd + 2) (sym passes) (omega (arith, far, low))
          where
            leaves : (o : Option Client) → leaves_off o (reply.Refused no.WouldBlock) ≡ true
            leaves None = refl
            leaves (Some x) = refl

            low : fd < MAX_OPEN
            low =
                let there = fit.each fd picks.was picks.there in
                known.low fd there.conn
                (opens-on site_contents worker_set laws w.machine ((past_of q.xs q.rs).came there.conn)
                ((past_of q.xs q.rs).sent there.conn) fd there.conn q.consistent.in_slots.workers picks.was.conn
                picks.was.run picks.was.script there.fits)

        called : (made : Turn) → d.made ≡ made
            → Comes copying (actor_turns in_rounds worker_set.turns) w.machine server made false
            (reply.Refused no.WouldBlock) after.machine
            → (left after ≤ left w) × (polls after < polls w)
        called turn.Yield is comes = absurd (let bad = comes.0 in cc (bad))
        called (turn.Make k) is comes =
            let did : Made w.machine (turn.Make k) (reply.Refused no.WouldBlock) after.machine = comes.1 in
            let picks : Picks q.consistent.in_slots.state.workers clients d.state.pending_call (turn.Make k)
            d.state.clients =
            subst (λ (z : Turn). Picks q.consistent.in_slots.state.workers clients d.state.pending_call z
            d.state.clients) is d.goes.1 in
            let went = server_turn site_contents worker_set laws w.machine after.machine (past_of q.xs q.rs)
            q.consistent.in_slots.state d.state q.consistent.in_slots.last (reply.Refused no.WouldBlock)
            (turn.Make k) q.consistent.in_slots.workers q.consistent.order q.consistent.fixed
            q.consistent.in_slots.serves picks d.goes.2 (blocks-among site_contents.refuses.of_server) did in
            let lives =
            (fixed-on site_contents worker_set laws w.machine after.machine went.0 q.consistent.fixed).site.lives in
            let same = received-is site_contents worker_set laws after.machine (reply.Refused no.WouldBlock)
            went.1.received lives went.1.names d.state.workers d.state.clients d.state.pending_call in
            let buffered_left = server-waits site_contents worker_set laws files longest short MAX_OPEN conns w.machine
            after.machine (past_of q.xs q.rs) clients d.state.clients d.state.pending_call
            (reply.Refused no.WouldBlock) k q.consistent.in_slots.workers q.consistent.order q.consistent.fixed fit
            known (blocks-among site_contents.refuses.of_server) did refl did.1
            (subst (λ j. Picks j clients d.state.pending_call (turn.Make k) d.state.clients) workers-is picks)
            went.1.received went.1.names in
            let here = after-left after false (reply.Refused no.WouldBlock) d in
            let one = ap (λ (l : List (Option Client)). all_left longest MAX_OPEN conns after.machine l) same in
            let two =
            ap
            (λ j. all_left longest MAX_OPEN conns after.machine
            (filed j d.state.clients d.state.pending_call (reply.Refused no.WouldBlock) went.1.received)) (d.goes.2
            ∙ workers-is) in
            let was = left-is in
            let asked = ap (λ (l : List (ProcessSlot (Actor worker_set.Worker))). first_of asks_by after.machine l)
            d.now in
            let next = polls-is ∙ sym (ap (λ (f : PendingCall). asks MAX_OPEN f) d.goes.0) in
            let less =
            fewer d.state.pending_call refl k picks
            (filed_in d.state (reply.Refused no.WouldBlock) (λ a. readable_to after.machine server a)) in
            (omega (arith, buffered_left, here, one, two, was), omega (arith, asked, next, less))

    -- the polls of a round are bounded
    most : polls w ≤ MAX_OPEN + 2
    most = let is = polls-is in let few =
        few-asked
        (next_pending_call q.consistent.in_slots.state.workers clients q.consistent.in_slots.state.pending_call
        q.consistent.in_slots.last) in omega (arith, is, few)
      where
        few-asked : (f : PendingCall) → asks MAX_OPEN f ≤ MAX_OPEN + 2
        few-asked Nothing = omega arith
        few-asked Accepting = omega arith
        few-asked (At fd) = omega arith

    -- a turn with an allowed reply keeps the invariant
    next-known : (after : WorldState State (Actor worker_set.Worker)) (yields : Bool) (r : Reply)
        → IsAmong site_contents.refuses.of_server r → Turned after yields r
        → CanRead after.machine × CanPlace after.machine × AreFew conns after.machine
    next-known after yields r among d = of d.made refl d.comes
      where
        of : (made : Turn) → d.made ≡ made
            → Comes copying (actor_turns in_rounds worker_set.turns) w.machine server made yields r after.machine
            → CanRead after.machine × CanPlace after.machine × AreFew conns after.machine
        of turn.Yield is comes = (
          subst CanRead (sym comes.2) q.reads,
          subst CanPlace (sym comes.2) q.places,
          subst (λ (m : State). AreFew conns m) (sym comes.2) q.few,
        )
        of (turn.Make k) is comes =
            let did : Made w.machine (turn.Make k) r after.machine = comes.1 in
            let picks : Picks q.consistent.in_slots.state.workers clients d.state.pending_call (turn.Make k)
            d.state.clients =
            subst (λ (z : Turn). Picks q.consistent.in_slots.state.workers clients d.state.pending_call z
            d.state.clients) is d.goes.1 in
            let picked : Picks worker_set.count clients d.state.pending_call (turn.Make k) d.state.clients =
            subst (λ j. Picks j clients d.state.pending_call (turn.Make k) d.state.clients) workers-is picks in
            let went = server_turn site_contents worker_set laws w.machine after.machine (past_of q.xs q.rs)
            q.consistent.in_slots.state d.state q.consistent.in_slots.last r (turn.Make k)
            q.consistent.in_slots.workers q.consistent.order q.consistent.fixed
            q.consistent.in_slots.serves picks d.goes.2 among did in
            let kind = server-kind site_contents worker_set laws files longest short MAX_OPEN conns w.machine
            after.machine (past_of q.xs q.rs) clients d.state.clients d.state.pending_call r k
            q.consistent.in_slots.workers q.consistent.order q.consistent.fixed fit
            known among did picked went.1.received went.1.names in (
              read-step more.homes laws.the.steps laws.the.orders w.machine after.machine (event.Call server k) r
                  q.consistent.order q.reads did,
              places-on site_contents worker_set laws w.machine after.machine k r q.consistent.order q.consistent.fixed
                  did q.places kind.0 kind.1,
              few-calls site_contents worker_set laws w.machine after.machine k r q.consistent.order q.consistent.fixed
                  did conns q.few,
            )

    file-server-on : (after : WorldState State (Actor worker_set.Worker)) (yields : Bool) (r : Reply)
        → PlaceTurn copying (actor_turns in_rounds worker_set.turns) w 0 yields r after → Allowed site_contents r
        → IsFileServer after
    file-server-on after yields r place allowed = record {
      xs = q.xs ++ choice.Turn place.process_slot.by ∷ [];
      rs = q.rs ++ r ∷ [];
      consistent = step_keeps in_rounds site_contents worker_set laws q.xs q.rs (choice.Turn place.process_slot.by) r w
          after (inr (record { place = 0; yields = yields; turn = place; domain = refl })) tt
          (among-server site_contents.refuses place.process_slot.by r by-server allowed.1, tt) q.consistent;
      reads = (next-known after yields r allowed.1 (turned after yields r place allowed.0)).0;
      places = (next-known after yields r allowed.1 (turned after yields r place allowed.0)).1;
      few = (next-known after yields r allowed.1 (turned after yields r place allowed.0)).2;
    }
      where
        by-server : place.process_slot.by ≡ server
        by-server =
            ap (λ (z : ProcessSlot (Actor worker_set.Worker)). z.by)
            (sym
            (some-inj first place.process_slot
            (sym (ap (λ (l : List (ProcessSlot (Actor worker_set.Worker))). slice_get l 0) alone) ∙ place.sits)))

  decreases : Decreases (actor_turns in_rounds worker_set.turns) IsFileServer (Allowed site_contents) left polls
      (MAX_OPEN + 2)
  decreases = record {
    one = λ w q. ap (λ (l : List (ProcessSlot (Actor worker_set.Worker))). length l) (alone w q);
    keeps = λ w after yields r q place allowed. file-server-on w q after yields r place allowed;
    falls = λ w after r q place allowed on. falls w q after r place allowed on;
    waits = λ w after q place. waits w q after place;
    yields = λ w after r q place allowed. yields w q after r place allowed;
    most = λ w q. most w q;
  }

  -- Turns in rounds with allowed replies end with all idle, if their number suffices for the measure.
  pub file_server_becomes_idle : IdleComes (actor_turns in_rounds worker_set.turns) IsFileServer (Allowed site_contents)
      left
      (MAX_OPEN + 2)
  file_server_becomes_idle =
      idle_comes (actor_turns in_rounds worker_set.turns) IsFileServer (Allowed site_contents) left polls (MAX_OPEN + 2)
      decreases

  -- The invariant holds afterwards.
  pub file_server_after : (w after : WorldState State (Actor worker_set.Worker)) (i : ℕ) (ts : List Went)
      → IsFileServer w
      → RoundRun copying (actor_turns in_rounds worker_set.turns) w i ts after
      → AllByRecursion (λ t. Allowed site_contents t.1) ts → IsFileServer after
  file_server_after = holds-after (actor_turns in_rounds worker_set.turns) IsFileServer (Allowed site_contents) left
      polls
      (MAX_OPEN + 2) decreases

  -- The measure is at most the bound.
  pub left-most-of : (w : WorldState State (Actor worker_set.Worker)) → IsFileServer w
      → left w ≤ sum_to MAX_OPEN (turns_at longest w.machine (clients_in w)) + sum_to conns
      (turns_of_waiting longest w.machine)
  left-most-of w q =
      let is = left-is w q in
      let most = left-within site_contents worker_set files longest short w.machine (past_of q.xs q.rs) (clients w q)
      q.consistent.in_slots.workers (fit w q) conns in
      let same : clients_in w ≡ clients w q =
      ap (λ (l : List (ProcessSlot (Actor worker_set.Worker))). clients_by w.machine l) (alone w q) in
      let sums = ap (λ (l : List (Option Client)). sum_to MAX_OPEN (turns_at longest w.machine l)) same in
      omega (arith, is, most, sums)
