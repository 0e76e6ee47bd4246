-- Each step that is site-preserving and fair preserves the invariant of a world with workers.
use Rattle.std.proofs.Common.{inl, inr, ◌≡◌, ◌≢◌, ◌<◌, ℕ, zero, suc, ◌≤◌, List, [], ◌∷◌, ◌++◌, map, ap, ◌∙◌, refl, sym}
use Rattle.std.proofs.Common.{subst, arith, Option, Some, false, Bool, append-nil, append_assoc, slice_get, slice_set}
use Rattle.iol_core.specs.Run.{StepsTo}
use Rattle.iol_core.specs.State.{State}
use Rattle.iol_core.specs.Values.{gives_up}
use Rattle.iol_core.specs.declared.events.Event.{Event}
use Rattle.iol_core.specs.declared.events.Event.TheVariants as event
use Rattle.iol_core.specs.declared.events.Reply.{Reply}
use Rattle.iol_core.specs.declared.events.Reply.TheVariants as reply
use Rattle.iol_laws.specs.Frame.{EachStepLeavesTheRest, changes_files, admits_to, ends, sets_default}
use Rattle.iol_laws.specs.Order.{IsOrderly}
use Rattle.iol_proc.specs.ReadableBytes.{readable_to}
use Rattle.iol_proc.specs.Turns.{Comes, ProcessSlotTurn}
use Rattle.iol_proc.specs.World.{WorldState, copying, PlaceTurn, WorldStep, WorldRun}
use Rattle.iol_proc.specs.declared.choice.Choice.{Choice}
use Rattle.iol_proc.specs.declared.choice.Choice.TheVariants as choice
use Rattle.iol_proc.specs.declared.process.Turn.{Turn}
use Rattle.iol_proc.specs.declared.process.Turn.TheVariants as turn
use Rattle.iol_proc.specs.declared.process_slot.ProcessSlot.{ProcessSlot}
use Rattle.flash_laws.specs.Client.{Client}
use Rattle.flash_laws.specs.World.Undisturbed.{IsSitePreserving, AreSitePreserving}
use Rattle.flash_laws.specs.Workers.WorkerSet.{WorkerSet, IsFixedFor}
use Rattle.flash_laws.specs.Conn.Fits.{Names}
use Rattle.flash_laws.specs.Site.Past.{Past, and_then, IsAct}
use Rattle.flash_laws.specs.Site.Places.{filed}
use Rattle.flash_laws.specs.Run.{worker_domain}
use Rattle.flash_laws.specs.Site.ClientConsistency.{AllFit, AreOwned}
use Rattle.flash_laws.specs.Serves.{Policy, Made}
use Rattle.flash_laws.specs.SiteContents.{SiteContents, Refusals, IsAmong}
use Rattle.flash_laws.specs.Site.{server, KeepsSite}
use Rattle.flash_laws.specs.World.Consistency.{past_of, Actor, Serving, Working, actor_goes, actor_turns}
use Rattle.flash_laws.specs.World.{as_actor, IsServing, AreInSlots, Consistent, AreFair, may_refuse}
use Rattle.flash_laws.proofs.Conn.Responses.{some-inj}
use Rattle.flash_laws.proofs.Conn.ReadableBytes.{readable-stays}
use Rattle.flash_laws.proofs.World.Fair.{server-among, worker-among}
use Rattle.flash_laws.proofs.Site.Others.{other-gives, other-ends, site-stays}
use Rattle.flash_laws.proofs.Site.Pasts.{past-called, past-outside, past-turn, even-more}
use Rattle.flash_laws.proofs.World.AllLaws.{AllLaws}
use Rattle.flash_laws.proofs.World.FixedState.{Goes, other-default, fixed-on, order-on}
use Rattle.flash_laws.proofs.World.Outside.Whole.{others_call, acts}
use Rattle.flash_laws.proofs.World.Owners.{fit-called, call-brings, act-brings, owned-outside, owned-same}
use Rattle.flash_laws.proofs.World.ServerTurn.{server_turn}
use Rattle.flash_laws.proofs.World.TurnLeaves.{IsCallOf, what-came, keeps-site}
use Rattle.flash_laws.proofs.World.WorkerTurn.{IsCopyFree, worker_turn}

-- ---- process slots

-- a process slot of the world is that of the worker in the same place
map-get : {W : Type 0} (process_slots : List (ProcessSlot W)) (i : ℕ) (s : ProcessSlot (Actor W))
    → slice_get (map (λ w. as_actor w) process_slots) i ≡ Some s
    → (process_slot : ProcessSlot W) × (slice_get process_slots i ≡ Some process_slot) × (s ≡ as_actor process_slot)
map-get [] i s is = absurd (cc (is))
map-get (x ∷ xs) zero s is = (x, refl, sym (some-inj (as_actor x) s is))
map-get (x ∷ xs) (suc i) s is = map-get xs i s is

map-there : {W : Type 0} (process_slots : List (ProcessSlot W)) (i : ℕ) (process_slot : ProcessSlot W)
    → slice_get process_slots i ≡ Some process_slot
    → slice_get (map (λ w. as_actor w) process_slots) i ≡ Some (as_actor process_slot)
map-there [] i process_slot is = absurd (cc (is))
map-there (x ∷ xs) zero process_slot is = ap (λ z. Some (as_actor z)) (some-inj x process_slot is)
map-there (x ∷ xs) (suc i) process_slot is = map-there xs i process_slot is

map-set : {W : Type 0} (process_slots : List (ProcessSlot W)) (i : ℕ) (process_slot : ProcessSlot W)
    → slice_set (map (λ w. as_actor w) process_slots) i (as_actor process_slot)
    ≡ map (λ w. as_actor w) (slice_set process_slots i process_slot)
map-set {W = W} [] i process_slot = refl
map-set {W = W} (x ∷ xs) zero process_slot = refl
map-set {W = W} (x ∷ xs) (suc i) process_slot =
    ap (λ (l : List (ProcessSlot (Actor W))). as_actor x ∷ l) (map-set xs i process_slot)

-- ---- external events

-- an external event gives up no aggregate, changes no file, admits no domain, ends no domain, and sets no default pool
act-gives : (e : Event) (a : ℕ) → IsAct e → gives_up e server a ≡ false
act-gives (event.Call d k) a act = absurd act
act-gives e a act = refl

act-files : (m : State) (e : Event) → IsAct e → changes_files m e ≡ false
act-files m (event.Call d k) act = absurd act
act-files m e act = refl

act-admits : (e : Event) (p : ℕ) → IsAct e → admits_to e p ≡ false
act-admits (event.Call d k) p act = absurd act
act-admits e p act = refl

act-ends : (e : Event) → IsAct e → ends e server ≡ false
act-ends (event.Call d k) act = absurd act
act-ends e act = refl

act-default : (e : Event) → IsAct e → sets_default e server ≡ false
act-default (event.Call d k) act = absurd act
act-default e act = refl

names-stay : (steps : EachStepLeavesTheRest) (m n : State) (e : Event) (r last : Reply) (received : List ℕ)
    → StepsTo m e r n → ((a : ℕ) → gives_up e server a ≡ false) → Names m last received → Names n last received
names-stay steps m n e r (reply.Agg a) received step un names =
    readable-stays steps m n e r step a received names (un a)
names-stay steps m n e r last received step un names = names

fair-parts : (refuses : Refusals) (x : Choice) (r : Reply) (xs : List Choice) (rs : List Reply)
    → AreFair refuses (x ∷ xs) (r ∷ rs) → AreFair refuses (x ∷ []) (r ∷ []) × AreFair refuses xs rs
fair-parts refuses (choice.Turn by) r xs rs fair = ((fair.0, tt), fair.1)
fair-parts refuses (choice.Outside e) r xs rs fair = (tt, fair)

module _ (may : Policy) (site_contents : SiteContents) (worker_set : WorkerSet) (laws : AllLaws worker_set) where
  -- the effect of the server's turn
  made-of : (m n : State) (t : Turn) (yields : Bool) (r : Reply)
      → Comes copying (actor_turns may worker_set.turns) m server t yields r n → Made m t r n
  made-of m n turn.Yield yields r comes = (comes.1, comes.2)
  made-of m n (turn.Make k) yields r comes = comes.1

  -- a worker's turn in the world is a turn of the worker set
  comes-alone : (m n : State) (by : ℕ) (t : Turn) (yields : Bool) (r : Reply)
      → Comes copying (actor_turns may worker_set.turns) m by t yields r n
      → Comes copying worker_set.turns m by t yields r n
  comes-alone m n by turn.Yield yields r comes = comes
  comes-alone m n by (turn.Make k) yields r comes = comes

  -- the invariant after a step, by its effect on the machine and on the process slots
  consistent-on : (xs : List Choice) (rs : List Reply) (x : Choice) (r : Reply)
      (w after : WorldState State (Actor worker_set.Worker)) (q : Past)
      → Consistent site_contents worker_set xs rs w → Goes w.machine after.machine
      → past_of (xs ++ x ∷ []) (rs ++ r ∷ []) ≡ q → AreInSlots site_contents worker_set after q
      → Consistent site_contents worker_set (xs ++ x ∷ []) (rs ++ r ∷ []) after
  consistent-on xs rs x r w after q consistent goes past in_slots = record {
    even = even-more xs rs x r consistent.even;
    order = order-on site_contents worker_set laws w.machine after.machine goes consistent.order;
    fixed = fixed-on site_contents worker_set laws w.machine after.machine goes consistent.fixed;
    in_slots = subst (λ (z : Past). AreInSlots site_contents worker_set after z) (sym past) in_slots;
  }

  module _ (w after : WorldState State (Actor worker_set.Worker)) (p : Past) (order : IsOrderly w.machine)
      (fixed : IsFixedFor site_contents worker_set w.machine) (s : AreInSlots site_contents worker_set w p) where
    abbrev pub first : ProcessSlot (Actor worker_set.Worker)
    first = record { by = server; process = Serving s.state; last = s.last }

    abbrev others : List (ProcessSlot (Actor worker_set.Worker))
    others = map (λ v. as_actor v) s.workers

    abbrev clients : List (Option Client)
    clients = filed s.state.workers s.state.clients s.state.pending_call s.last s.serves.received

    -- the result of a step
    abbrev Leads : Past → Type 0
    Leads q = Goes w.machine after.machine × AreInSlots site_contents worker_set after q

    -- The server's turn.
    server_step : (yields : Bool) (r : Reply) (next : ProcessSlot (Actor worker_set.Worker))
        → ProcessSlotTurn copying (actor_turns may worker_set.turns) w.machine first yields r after.machine next
        → after.process_slots ≡ next ∷ others → IsAmong site_contents.refuses.of_server r
        → Leads p
    server_step yields r next (inl starves) process_slots undisturbed = (
      inl starves.machine_stays,
      record {
        state = s.state;
        last = s.last;
        workers = s.workers;
        process_slots = process_slots
            ∙ ap (λ (z : ProcessSlot (Actor worker_set.Worker)). z ∷ others) starves.process_slot_stays;
        serves = subst (λ (m : State). IsServing site_contents worker_set m p s.state s.last s.workers)
            (sym starves.machine_stays) s.serves;
      },
    )
    server_step yields r next (inr moves) process_slots undisturbed = by next.process refl moves.proceeds
      where
        by : (x : Actor worker_set.Worker) → next.process ≡ x
            → actor_goes may worker_set.turns (Serving s.state) s.last (λ a. readable_to w.machine server a) moves.turn
            x → Leads p
        by (Working v) is proceeds = absurd proceeds
        by (Serving t) is proceeds =
            let did = server_turn site_contents worker_set laws w.machine after.machine p s.state t s.last r moves.turn
            s.workers order fixed s.serves proceeds.1 proceeds.2 undisturbed
            (made-of w.machine after.machine moves.turn yields r moves.comes) in (
              did.0,
              record {
                state = t;
                last = r;
                workers = s.workers;
                process_slots = process_slots ∙ ap (λ (z : ProcessSlot (Actor worker_set.Worker)). z ∷ others) next_is;
                serves = did.1;
              },
            )
          where
            next_is : next ≡ record { by = server; process = Serving t; last = r }
            next_is = ap (λ z. record { by = z; process = next.process; last = next.last }) moves.domain_stays
                ∙ (ap (λ (z : Actor worker_set.Worker). record { by = server; process = z; last = next.last }) is
                ∙ ap (λ (z : Reply). record { by = server; process = Serving t; last = z }) moves.reported)

    -- A worker's turn.
    module _ (r : Reply) (i : ℕ) (process_slot : ProcessSlot worker_set.Worker)
        (sits : slice_get s.workers i ≡ Some process_slot) (among : IsAmong site_contents.refuses.of_workers r) where
      in-place : (i < worker_set.count) × (process_slot.by ≡ worker_domain i)
      in-place = s.serves.fit.job_queues.by i process_slot sits

      not-server : process_slot.by ≢ server
      not-server same = (let is = in-place.1 in omega (arith, same, is))

      worker-goes : (yields : Bool) (next : ProcessSlot worker_set.Worker)
          → ProcessSlotTurn copying worker_set.turns w.machine process_slot yields r after.machine next
          → after.process_slots ≡ first ∷ map (λ v. as_actor v) (slice_set s.workers i next) → Leads p
      worker-goes yields next did process_slots =
          let went = worker_turn site_contents worker_set laws w.machine after.machine p clients s.workers i
          process_slot next yields r order order-then fixed s.serves.fit sits did among rises in (
            goes came.0 went.0,
            record {
              state = s.state;
              last = s.last;
              workers = slice_set s.workers i next;
              process_slots = process_slots;
              serves = record {
                count = s.serves.count;
                received = s.serves.received;
                names = names came.0;
                fit = went.1;
                owned = owned went.0;
              };
            },
          )
        where
          came : IsCallOf w.machine process_slot.by r after.machine × (next.by ≡ process_slot.by)
          came = what-came worker_set.turns w.machine after.machine process_slot next yields r did

          order-then : IsOrderly after.machine
          order-then = by came.0
            where
              by : IsCallOf w.machine process_slot.by r after.machine → IsOrderly after.machine
              by (inl same) = subst (λ (z : State). IsOrderly z) (sym same) order
              by (inr called) = laws.the.orders.step w.machine after.machine (event.Call process_slot.by called.0) r
                  order called.1

          rises : w.machine.next_conn ≤ after.machine.next_conn
          rises = by came.0
            where
              by : IsCallOf w.machine process_slot.by r after.machine → w.machine.next_conn ≤ after.machine.next_conn
              by (inl same) = subst (λ (z : State). w.machine.next_conn ≤ z.next_conn) (sym same) (omega arith)
              by (inr called) = laws.the.rises w.machine after.machine (event.Call process_slot.by called.0) r called.1

          goes : IsCallOf w.machine process_slot.by r after.machine → IsCopyFree w.machine process_slot.by after.machine
              → Goes w.machine after.machine
          goes (inl same) copies = inl same
          goes (inr called) (inl same) = inl same
          goes (inr called) (inr left) = inr (record {
            e = event.Call process_slot.by called.0;
            r = r;
            step = called.1;
            site = keeps-site site_contents.finds w.machine after.machine process_slot.by left.0 fixed.site left.1;
            lives = other-ends process_slot.by called.0 not-server;
            default = other-default process_slot.by called.0 not-server;
          })

          owned : IsCopyFree w.machine process_slot.by after.machine → AreOwned after.machine p clients
          owned (inl same) = subst (λ (z : State). AreOwned z p clients) (sym same) s.serves.owned
          owned (inr left) =
              owned-same w.machine after.machine p clients (λ a. left.1.aggs server a (λ is. not-server (sym is)))
              s.serves.owned

          names : IsCallOf w.machine process_slot.by r after.machine → Names after.machine s.last s.serves.received
          names (inl same) = subst (λ (z : State). Names z s.last s.serves.received) (sym same) s.serves.names
          names (inr called) = names-stay laws.the.steps w.machine after.machine (event.Call process_slot.by called.0) r
              s.last s.serves.received called.1 (λ a. other-gives process_slot.by called.0 a not-server) s.serves.names

      worker_step : (yields : Bool) (next : ProcessSlot (Actor worker_set.Worker))
          → ProcessSlotTurn copying (actor_turns may worker_set.turns) w.machine (as_actor process_slot) yields r
          after.machine next
          → after.process_slots ≡ first ∷ slice_set others i next → Leads p
      worker_step yields next (inl starves) process_slots =
          worker-goes yields process_slot
          (inl (record {
            wanted = starves.wanted;
            no_yield = starves.no_yield;
            answer = starves.answer;
            machine_stays = starves.machine_stays;
            process_slot_stays = refl;
          }))
          (process_slots
          ∙ (ap (λ (z : ProcessSlot (Actor worker_set.Worker)). first ∷ slice_set others i z)
          starves.process_slot_stays ∙ ap (λ (l : List (ProcessSlot (Actor worker_set.Worker))). first ∷ l)
          (map-set s.workers i process_slot)))
      worker_step yields next (inr moves) process_slots = by next.process refl moves.proceeds
        where
          by : (x : Actor worker_set.Worker) → next.process ≡ x
              → actor_goes may worker_set.turns (Working process_slot.process) process_slot.last
              (λ a. readable_to w.machine process_slot.by a) moves.turn x → Leads p
          by (Serving t) is proceeds = absurd proceeds
          by (Working u) is proceeds =
              worker-goes yields after-process_slot
              (inr (record {
                turn = moves.turn;
                proceeds = proceeds;
                comes = comes-alone w.machine after.machine process_slot.by moves.turn yields r moves.comes;
                reported = moves.reported;
                domain_stays = moves.domain_stays;
              }))
              (process_slots ∙ (ap (λ (z : ProcessSlot (Actor worker_set.Worker)). first ∷ slice_set others i z) next_is
              ∙ ap (λ (l : List (ProcessSlot (Actor worker_set.Worker))). first ∷ l)
              (map-set s.workers i after-process_slot)))
            where
              after-process_slot : ProcessSlot worker_set.Worker
              after-process_slot = record { by = next.by; process = u; last = next.last }

              next_is : next ≡ as_actor (record { by = next.by; process = u; last = next.last })
              next_is = ap (λ (z : Actor worker_set.Worker). record { by = next.by; process = z; last = next.last }) is

    not-server-by : (i : ℕ) (process_slot : ProcessSlot worker_set.Worker) → slice_get s.workers i ≡ Some process_slot
        → process_slot.by ≡ server → ⊥
    not-server-by i process_slot sits same =
        (let is = (s.serves.fit.job_queues.by i process_slot sits).1 in omega (arith, same, is))

    -- A turn of the process in a place.
    place_step : (place : ℕ) (yields : Bool) (r : Reply)
        → (t : PlaceTurn copying (actor_turns may worker_set.turns) w place yields r after)
        → IsAmong (may_refuse site_contents.refuses t.process_slot.by) r → Leads p
    place_step place yields r t among =
        by place (subst (λ (l : List (ProcessSlot (Actor worker_set.Worker))). slice_get l place ≡ Some t.process_slot)
        s.process_slots t.sits) (t.others_stay
        ∙ ap (λ (l : List (ProcessSlot (Actor worker_set.Worker))). slice_set l place t.next) s.process_slots)
      where
        by : (place : ℕ) → slice_get (first ∷ others) place ≡ Some t.process_slot
            → after.process_slots ≡ slice_set (first ∷ others) place t.next → Leads p
        by zero sits process_slots =
            let is : first ≡ t.process_slot = some-inj first t.process_slot sits in
            server_step yields r t.next
            (subst (λ (z : ProcessSlot (Actor worker_set.Worker)). ProcessSlotTurn copying
            (actor_turns may worker_set.turns) w.machine z yields r after.machine t.next) (sym is) t.turn)
            process_slots
            (server-among site_contents.refuses t.process_slot.by r
            (ap (λ (z : ProcessSlot (Actor worker_set.Worker)). z.by) (sym is)) among)
        by (suc i) sits process_slots =
            let one = map-get s.workers i t.process_slot sits in
            worker_step r i one.0 one.1
            (worker-among site_contents.refuses t.process_slot.by r
            (λ same. not-server-by i one.0 one.1
            (sym (ap (λ (z : ProcessSlot (Actor worker_set.Worker)). z.by) one.2) ∙ same)) among) yields t.next
            (subst (λ (z : ProcessSlot (Actor worker_set.Worker)). ProcessSlotTurn copying
            (actor_turns may worker_set.turns) w.machine z yields r after.machine t.next) one.2 t.turn)
            process_slots

    -- the process slots and the clients are unchanged, and their invariants hold
    still : (q : Past) → after.process_slots ≡ w.process_slots → Names after.machine s.last s.serves.received
        → AllFit site_contents worker_set after.machine q clients s.workers
        → AreOwned after.machine q clients → AreInSlots site_contents worker_set after q
    still q process_slots names fit owned = record {
      state = s.state;
      last = s.last;
      workers = s.workers;
      process_slots = process_slots ∙ s.process_slots;
      serves = record { count = s.serves.count; received = s.serves.received; names = names; fit = fit; owned = owned };
    }

    -- An event outside the processes of the world.
    outside_step : (e : Event) (r : Reply) → StepsTo w.machine e r after.machine → after.process_slots ≡ w.process_slots
        → IsSitePreserving w (choice.Outside e) after
        → Leads (and_then p e r)
    outside_step (event.Call d k) r step process_slots undisturbed = (
      inr (record {
        e = event.Call d k;
        r = r;
        step = step;
        site = undisturbed.1;
        lives = other-ends d k not_one;
        default = other-default d k not_one;
      }),
      still (and_then p (event.Call d k) r) process_slots
          (names-stay laws.the.steps w.machine after.machine (event.Call d k) r s.last s.serves.received step
          (λ a. other-gives d k a not_one) s.serves.names)
          (subst (λ (q : Past). AllFit site_contents worker_set after.machine q clients s.workers)
          (sym (past-called p d k r))
          (fit-called site_contents worker_set after.machine p clients s.workers d k r
          (others_call site_contents worker_set laws w.machine after.machine p clients s.workers d k r order
          (laws.the.orders.step w.machine after.machine (event.Call d k) r order step) fixed not_one no_worker
          undisturbed.1 step s.serves.fit)))
          (owned-outside laws.aggs w.machine after.machine p clients (event.Call d k) r step
          (λ a. call-brings d k r a not_one) s.serves.owned),
    )
      where
        not_one : d ≢ server
        not_one is =
            undisturbed.0 0 first (ap (λ (l : List (ProcessSlot (Actor worker_set.Worker))). slice_get l 0)
            s.process_slots) (sym is)

        no_worker : (j : ℕ) → j < worker_set.count → d ≢ worker_domain j
        no_worker j lt is =
            let one = s.serves.fit.job_queues.in_slots j lt in
            let place = s.serves.fit.job_queues.by j one.0 one.1 in
            undisturbed.0 (suc j) (as_actor one.0)
            (ap (λ (l : List (ProcessSlot (Actor worker_set.Worker))). slice_get l (suc j)) s.process_slots
            ∙ map-there s.workers j one.0 one.1) (place.1 ∙ sym is)
    outside_step e r step process_slots undisturbed = acted e refl step tt
      where
        acted : (f : Event) → e ≡ f → StepsTo w.machine f r after.machine → IsAct f → Leads (and_then p e r)
        acted f is step act =
            let same : KeepsSite w.machine after.machine =
            site-stays site_contents.finds w.machine after.machine f
            (laws.the.steps.leaves w.machine after.machine f r step) fixed.site (act-files w.machine f act)
            (λ q. act-admits f q act) in (
              inr (record {
                e = f;
                r = r;
                step = step;
                site = same;
                lives = act-ends f act;
                default = act-default f act;
              }),
              still (and_then p e r) process_slots
                  (names-stay laws.the.steps w.machine after.machine f r s.last s.serves.received step
                  (λ a. act-gives f a act) s.serves.names)
                  (subst (λ (g : Event). AllFit site_contents worker_set after.machine (and_then p g r) clients
                  s.workers) (sym is)
                  (acts site_contents worker_set laws w.machine after.machine p clients s.workers f r order
                  (laws.the.orders.step w.machine after.machine f r order step) fixed act same step s.serves.fit))
                  (subst (λ (g : Event). AreOwned after.machine (and_then p g r) clients) (sym is)
                  (owned-outside laws.aggs w.machine after.machine p clients f r step (λ a. act-brings f r a act)
                  s.serves.owned)),
            )

  -- Each step that is site-preserving and fair preserves the invariant.
  pub step_keeps : (xs : List Choice) (rs : List Reply) (x : Choice) (r : Reply)
      (w after : WorldState State (Actor worker_set.Worker))
      → WorldStep copying (actor_turns may worker_set.turns) w x r after → IsSitePreserving w x after
      → AreFair site_contents.refuses (x ∷ []) (r ∷ []) → Consistent site_contents worker_set xs rs w
      → Consistent site_contents worker_set (xs ++ x ∷ []) (rs ++ r ∷ []) after
  step_keeps xs rs (choice.Turn by) r w after (inl absent) site_preserving fair consistent =
      let same : after.machine ≡ w.machine =
      ap (λ (v : WorldState State (Actor worker_set.Worker)). v.machine) absent.stays in
      consistent-on xs rs (choice.Turn by) r w after (past_of xs rs) consistent (inl same)
      (past-turn xs rs by r consistent.even)
      (subst (λ (v : WorldState State (Actor worker_set.Worker)). AreInSlots site_contents worker_set v (past_of xs rs))
      (sym absent.stays) consistent.in_slots)
  step_keeps xs rs (choice.Turn by) r w after (inr present) site_preserving fair consistent =
      let did = place_step w after (past_of xs rs) consistent.order consistent.fixed consistent.in_slots present.place
      present.yields r present.turn
      (subst (λ d. IsAmong (may_refuse site_contents.refuses d) r) (sym present.domain) fair.0) in
      consistent-on xs rs (choice.Turn by) r w after (past_of xs rs) consistent did.0
      (past-turn xs rs by r consistent.even) did.1
  step_keeps xs rs (choice.Outside e) r w after outside site_preserving fair consistent =
      let did = outside_step w after (past_of xs rs) consistent.order consistent.fixed consistent.in_slots e r
      outside.step outside.process_slots_stay site_preserving in
      consistent-on xs rs (choice.Outside e) r w after (and_then (past_of xs rs) e r) consistent did.0
      (past-outside xs rs e r consistent.even) did.1

  -- and so does a run of such steps
  pub run_keeps : (xs : List Choice) (rs : List Reply) (w after : WorldState State (Actor worker_set.Worker))
      (past : List Choice) (ps : List Reply)
      → (run : WorldRun copying (actor_turns may worker_set.turns) w xs rs after)
      → AreSitePreserving (actor_turns may worker_set.turns) w xs rs after run → AreFair site_contents.refuses xs rs
      → Consistent site_contents worker_set past ps w
      → Consistent site_contents worker_set (past ++ xs) (ps ++ rs) after
  run_keeps [] [] w after past ps run site_preserving fair consistent =
      subst (λ (l : List Choice). Consistent site_contents worker_set l (ps ++ []) after) (sym (append-nil past))
      (subst (λ (l : List Reply). Consistent site_contents worker_set past l after) (sym (append-nil ps))
      (subst (λ (v : WorldState State (Actor worker_set.Worker)). Consistent site_contents worker_set past ps v)
      (sym run)
      consistent))
  run_keeps (x ∷ xs) (r ∷ rs) w after past ps run site_preserving fair consistent =
      let both = fair-parts site_contents.refuses x r xs rs fair in
      let on_consistent = run_keeps xs rs run.0 after (past ++ x ∷ []) (ps ++ r ∷ []) run.2 site_preserving.1 both.1
      (step_keeps past ps x r w run.0 run.1 site_preserving.0 both.0 consistent) in
      subst (λ (l : List Choice). Consistent site_contents worker_set l (ps ++ r ∷ rs) after)
      (append_assoc past (x ∷ []) xs)
      (subst (λ (l : List Reply). Consistent site_contents worker_set ((past ++ x ∷ []) ++ xs) l after)
      (append_assoc ps (r ∷ []) rs) on_consistent)
  run_keeps [] (r ∷ rs) w after past ps run site_preserving fair consistent = absurd run
  run_keeps (x ∷ xs) [] w after past ps run site_preserving fair consistent = absurd run
