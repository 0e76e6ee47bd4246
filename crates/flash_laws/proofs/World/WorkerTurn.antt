-- A worker's turn preserves the invariants of all clients.
use Rattle.std.proofs.Common.{inl, inr, ◌≡◌, ◌≢◌, ◌<◌, ◌⊎◌, ◌≤◌, ℕ, List, ap, ◌∙◌, refl, sym, subst, arith, Option}
use Rattle.std.proofs.Common.{Some, true, false, Bool, slice_get, slice_set}
use Rattle.std.proofs.lemmas.Bool.{cases_eq}
use Rattle.iol_core.specs.NumberedLists.{in_place}
use Rattle.iol_core.specs.State.{State, Connection, descriptor, conn_at, is_gone}
use Rattle.iol_core.specs.declared.events.Event.TheVariants as event
use Rattle.iol_core.specs.declared.events.Reply.{Reply}
use Rattle.iol_laws.specs.Order.{IsOrderly}
use Rattle.iol_proc.specs.Turns.{ProcessSlotTurn}
use Rattle.iol_proc.specs.World.{copying}
use Rattle.iol_proc.specs.declared.process_slot.ProcessSlot.{ProcessSlot}
use Rattle.flash_cgi.specs.Frame.{LeavesAllBut}
use Rattle.flash_laws.specs.Client.{Client}
use Rattle.flash_laws.specs.Workers.WorkerSet.{WorkerSet, IsFixedFor}
use Rattle.flash_laws.specs.Site.Past.{Past}
use Rattle.flash_laws.specs.Site.Places.{is_run_by, is_free}
use Rattle.flash_laws.specs.Run.{worker_domain, job_pipe}
use Rattle.flash_laws.specs.Site.ClientConsistency.{Held, Aside, AreAtJobQueues, FitsAt, AllFit}
use Rattle.flash_laws.specs.SiteContents.{SiteContents, IsAmong}
use Rattle.flash_laws.specs.Site.{server}
use Rattle.flash_laws.proofs.Conn.Responses.{some-inj}
use Rattle.flash_laws.proofs.World.AllLaws.{AllLaws}
use Rattle.flash_laws.proofs.Site.OwnWorkers.{runs-for}
use Rattle.flash_laws.proofs.World.JobQueue.WorkerTurn.{rests, client-touches, own-fits}
use Rattle.flash_laws.proofs.World.TurnLeaves.{IsCallOf, what-came, IsTurn, IsItsOwn, Touches, set-same, set-other}
use Rattle.flash_laws.proofs.World.TurnLeaves.{sits-in, not-server, other-worker, beside-fits}

-- a turn changes nothing, or only its own domain and one pipe
abbrev pub IsCopyFree : State → (d : ℕ) → State → Type 0
IsCopyFree m d n = (n ≡ m) ⊎ ((q : ℕ) × LeavesAllBut m d q n)

module _ (site_contents : SiteContents) (worker_set : WorkerSet) (laws : AllLaws worker_set) (m n : State) (p : Past)
    (clients : List (Option Client)) (process_slots : List (ProcessSlot worker_set.Worker)) (k : ℕ)
    (process_slot next : ProcessSlot worker_set.Worker) (yields : Bool) (r : Reply)
    (turn : IsTurn site_contents worker_set m n p clients process_slots k process_slot next yields r) where
  in_process_slot : (k < worker_set.count) × (process_slot.by ≡ worker_domain k)
  in_process_slot = sits-in site_contents worker_set laws m n p clients process_slots k process_slot next yields r turn

  came : IsCallOf m process_slot.by r n × (next.by ≡ process_slot.by)
  came = what-came worker_set.turns m n process_slot next yields r turn.did

  -- the process slot in place k after the turn
  here-sits : (l : ℕ) (t : ProcessSlot worker_set.Worker) → k ≡ l
      → slice_get (slice_set process_slots k next) l ≡ Some t → next ≡ t
  here-sits l t here sits =
      some-inj next t (sym (set-same process_slots k process_slot next turn.sits)
      ∙ subst (λ z. slice_get (slice_set process_slots k next) z ≡ Some t) (sym here) sits)

  there-sits : (l : ℕ) (t : ProcessSlot worker_set.Worker) → k ≢ l
      → slice_get (slice_set process_slots k next) l ≡ Some t → slice_get process_slots l ≡ Some t
  there-sits l t apart sits = sym (set-other process_slots k l next apart) ∙ sits

  touches : Touches worker_set m n clients k process_slot.by
  touches = by (is_free clients k) refl
    where
      by : (b : Bool) → is_free clients k ≡ b → Touches worker_set m n clients k process_slot.by
      by true free = rests site_contents worker_set laws m n p clients process_slots k process_slot next yields r turn
          (worker_set.job_queue k) (turn.fit.free k process_slot turn.sits free)
      by false busy =
          let r_for = runs-for clients k busy in
          client-touches site_contents worker_set laws m n p clients process_slots k process_slot next yields r turn
          r_for.fd r_for.client.conn r_for.client.run r_for.client.script r_for.at r_for.runs
          (turn.fit.each r_for.fd r_for.client r_for.at)

  module _ (q : ℕ) (left : LeavesAllBut m process_slot.by q n) (own : IsItsOwn worker_set m clients k q) where
    same-fd : (g : ℕ) → descriptor n server g ≡ descriptor m server g
    same-fd g =
        left.fds server g (λ same. not-server site_contents worker_set laws m n p clients process_slots k process_slot
        next yields r turn (sym same))

    each-fits : (fd : ℕ) (x : Client) → in_place clients fd ≡ Some x
        → FitsAt site_contents worker_set n p fd x (slice_set process_slots k next)
    each-fits fd x at = by (is_run_by x k) refl
      where
        by : (b : Bool) → is_run_by x k ≡ b → FitsAt site_contents worker_set n p fd x (slice_set process_slots k next)
        by true runs = own-fits site_contents worker_set laws m n p clients process_slots k process_slot next yields r
            turn q left fd x.conn x.run x.script runs (turn.fit.each fd x at)
        by false none = beside-fits site_contents worker_set laws m n p clients process_slots k process_slot next yields
            r turn q left own fd x at none

    elsewhere : (c : ℕ) → Held m clients c ⊎ Aside site_contents p c (conn_at m c)
        → Held n clients c ⊎ Aside site_contents p c (conn_at n c)
    elsewhere c (inl held) =
        inl (record { fd = held.fd; client = held.client; at = held.at; open_on = same-fd held.fd ∙ held.open_on })
    elsewhere c (inr aside) = inr (subst (λ (z : Connection). Aside site_contents p c z) (sym (left.conns c)) aside)

    stays-free : (l : ℕ) (t : ProcessSlot worker_set.Worker) → slice_get (slice_set process_slots k next) l ≡ Some t
        → is_free clients l ≡ true → worker_set.Free n (worker_set.job_queue l) t
    stays-free l t sits free = elim (cases_eq k l) [
      | inl here ↦ subst (λ (u : ProcessSlot worker_set.Worker). worker_set.Free n (worker_set.job_queue l) u)
          (here-sits l t here sits)
          (subst (λ z. worker_set.Free n (worker_set.job_queue z) next) here
          (laws.workers.waits m n (worker_set.job_queue k) process_slot next yields r turn.order
          (turn.fit.free k process_slot turn.sits (subst (λ z. is_free clients z ≡ true) (sym here) free)) turn.did).1)
      | inr apart ↦ by apart came.0
    ]
      where
        by : k ≢ l → IsCallOf m process_slot.by r n → worker_set.Free n (worker_set.job_queue l) t
        by apart (inl same) =
            subst (λ (s : State). worker_set.Free s (worker_set.job_queue l) t) (sym same)
            (turn.fit.free l t (there-sits l t apart sits) free)
        by apart (inr call) =
            let in_place = turn.fit.job_queues.by l t (there-sits l t apart sits) in
            laws.workers.free_others m n (worker_set.job_queue l) t (event.Call process_slot.by call.0) r
            turn.fixed.placed call.1
            (other-worker site_contents worker_set laws m n p clients process_slots k process_slot next yields r turn l
            t.by apart in_place.1)
            (left.pipes (worker_set.job_queue l) (own.job_queues l in_place.0 (λ same. apart (sym same))))
            (turn.fit.free l t (there-sits l t apart sits) free)

    still-in_slots : AreAtJobQueues worker_set n (slice_set process_slots k next)
    still-in_slots = record {
      in_slots = λ l lt. elim (cases_eq k l) [
        | inl here ↦ (
          next,
          subst (λ z. slice_get (slice_set process_slots k next) z ≡ Some next) here
              (set-same process_slots k process_slot next turn.sits),
        )
        | inr apart ↦ (let s = turn.fit.job_queues.in_slots l lt in (s.0, set-other process_slots k l next apart ∙ s.1))
      ];
      by = λ l t sits. elim (cases_eq k l) [
        | inl here ↦ (
          subst (λ z. z < worker_set.count) here in_process_slot.0,
          ap (λ (u : ProcessSlot worker_set.Worker). u.by) (sym (here-sits l t here sits))
              ∙ (came.1 ∙ (in_process_slot.1 ∙ ap (λ z. worker_domain z) here)),
        )
        | inr apart ↦ turn.fit.job_queues.by l t (there-sits l t apart sits)
      ];
      job_queues = λ l lt. same-fd (job_pipe l) ∙ turn.fit.job_queues.job_queues l lt;
    }

    all-fit : m.next_conn ≤ n.next_conn → AllFit site_contents worker_set n p clients (slice_set process_slots k next)
    all-fit rises = record {
      each = each-fits;
      others = λ c. elsewhere c (turn.fit.others c);
      aggs_apart = turn.fit.aggs_apart;
      fds_apart = turn.fit.fds_apart;
      left = λ c. subst (λ (z : Connection). z.closed ≡ false → is_gone z.peer ≡ true → p.gone c ≡ true)
          (sym (left.conns c)) (turn.fit.left c);
      fresh = λ c more. turn.fit.fresh c (omega (arith, rises, more));
      unreported = λ c more. turn.fit.unreported c (omega (arith, rises, more));
      own = turn.fit.own;
      free = stays-free;
      job_queues = still-in_slots;
    }

module _ (site_contents : SiteContents) (worker_set : WorkerSet) (laws : AllLaws worker_set) where
  pub worker_turn : (m n : State) (p : Past) (clients : List (Option Client))
      (process_slots : List (ProcessSlot worker_set.Worker)) (k : ℕ)
      (process_slot next : ProcessSlot worker_set.Worker) (yields : Bool) (r : Reply) → IsOrderly m → IsOrderly n
      → IsFixedFor site_contents worker_set m
      → AllFit site_contents worker_set m p clients process_slots → slice_get process_slots k ≡ Some process_slot
      → ProcessSlotTurn copying worker_set.turns m process_slot yields r n next
      → IsAmong site_contents.refuses.of_workers r → m.next_conn ≤ n.next_conn
      → IsCopyFree m process_slot.by n × AllFit site_contents worker_set n p clients (slice_set process_slots k next)
  worker_turn m n p clients process_slots k process_slot next yields r order order_after fixed fit sits did among
      rises =
      let turn : IsTurn site_contents worker_set m n p clients process_slots k process_slot next yields r =
      record {
        order = order;
        order_after = order_after;
        fixed = fixed;
        fit = fit;
        sits = sits;
        did = did;
        among = among;
      } in
      let touched = touches site_contents worker_set laws m n p clients process_slots k process_slot next yields r
      turn in (
        inr (touched.pipe, touched.leaves),
        all-fit site_contents worker_set laws m n p clients process_slots k
            process_slot next yields r turn touched.pipe touched.leaves touched.own rises,
      )
