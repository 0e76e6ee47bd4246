-- The server's own call for a client for which a script runs.
use Rattle.std.proofs.Common.{inl, inr, ◌≡◌, ◌<◌, ◌⊎◌, ℕ, List, [], ◌++◌, ap, ◌∙◌, refl, sym, subst, Option, Some, None}
use Rattle.std.proofs.Common.{true, false, Bool, slice_get}
use Rattle.iol_core.specs.State.{State, descriptor, conn_at}
use Rattle.iol_core.specs.Text.{bytes_of}
use Rattle.iol_core.specs.Run.{StepsTo}
use Rattle.iol_core.specs.declared.descriptors.Descriptor.TheVariants as on
use Rattle.iol_core.specs.declared.events.Call.{Call}
use Rattle.iol_core.specs.declared.events.Event.TheVariants as event
use Rattle.iol_core.specs.declared.events.Reply.{Reply}
use Rattle.iol_laws.specs.Frame.{touches_fd}
use Rattle.iol_laws.specs.Order.{IsOrderly}
use Rattle.iol_proc.specs.declared.process_slot.ProcessSlot.{ProcessSlot}
use Rattle.flash_http.specs.Request.{Answer, serve, Wanted}
use Rattle.flash_cgi.specs.Expected.{Made}
use Rattle.flash_laws.specs.Client.{Client, job_of, run_call, next_call, awaits, keeps_text, text_on, after_run}
use Rattle.flash_laws.specs.Client.{proceeds}
use Rattle.flash_laws.specs.Client.{run_on, run_after_reply, after_reply}
use Rattle.flash_laws.specs.Client.Fits.{IsProper, IsScript, made_of, response_to, expected_in, ConsistencyAlone}
use Rattle.flash_laws.specs.Client.Fits.{FitsRun, Fits, Finds}
use Rattle.flash_laws.specs.Conn.{Conn}
use Rattle.flash_laws.specs.Workers.WorkerSet.{WorkerSet, IsFixedFor}
use Rattle.flash_laws.specs.Conn.Fits.{Has, Names}
use Rattle.flash_laws.specs.Site.Places.{has_worker, is_run_by}
use Rattle.flash_laws.specs.Run.Fits.{Progress, HasRun}
use Rattle.flash_laws.specs.Run.Holdings.{KeepsToItself}
use Rattle.flash_laws.specs.Run.OfferedBytes.{Updates}
use Rattle.flash_laws.specs.Run as running
use Rattle.flash_laws.specs.Run.{is_over}
use Rattle.flash_laws.specs.Site.ClientConsistency.{AreAtJobQueues}
use Rattle.flash_laws.specs.SiteContents.{SiteContents, MayBeExpected, IsAmong}
use Rattle.flash_laws.proofs.Site.Expected.{shown-may}
use Rattle.flash_laws.specs.Site.{server}
use Rattle.flash_laws.specs.declared.phase.Phase.{Phase}
use Rattle.flash_laws.specs.declared.phase.Phase.TheVariants as phase
use Rattle.flash_laws.specs.declared.script_run.Running.{Running}
use Rattle.flash_laws.specs.declared.script_run.Running.TheVariants.{AwaitingWorker, Finishing, Disconnecting}
use Rattle.flash_laws.proofs.Forms.{of}
use Rattle.flash_laws.proofs.Conn.Responses.{some-inj}
use Rattle.flash_laws.proofs.Run.Ends.{keeps-back, call-text}
use Rattle.flash_laws.proofs.Run.Starts.{starts-back}
use Rattle.flash_laws.proofs.Site.OpenDescriptors.{no-true}
use Rattle.flash_laws.proofs.World.AllLaws.{AllLaws}
use Rattle.flash_laws.proofs.World.JobQueue.OfRun.{JobQueueAfter, job_queue_step}
use Rattle.flash_laws.proofs.World.RunConsistency.{ConsistencyAfter, consistency_step}
use Rattle.flash_laws.proofs.World.RunUses.{run-end}

-- after a call the client's invariant holds, and a worker that ran its script, and no longer does, is free
pub record Proceeds (site_contents : SiteContents) (worker_set : WorkerSet) (n : State) (came sent : List ℕ) (fd c : ℕ)
    (x z : Client)
    (process_slots : List (ProcessSlot worker_set.Worker)) : Type 0 where
  pub fits : Fits site_contents worker_set n came sent fd c z process_slots
  pub freed : (k : ℕ) (process_slot : ProcessSlot worker_set.Worker) → slice_get process_slots k ≡ Some process_slot
      → is_run_by x k ≡ true → is_run_by z k ≡ false
      → worker_set.Free n (worker_set.job_queue k) process_slot

-- the worker that a waiting client gets is free
abbrev pub IsHired : (worker_set : WorkerSet) → State → Client → (worker : ℕ) → List (ProcessSlot worker_set.Worker)
    → Type 0
IsHired worker_set m x worker process_slots = awaits x ≡ true → (worker < worker_set.count)
    × ((process_slot : ProcessSlot worker_set.Worker) → slice_get process_slots worker ≡ Some process_slot
    → worker_set.Free m (worker_set.job_queue worker) process_slot)

-- ---- the calls and replies of a client with a run are those of its run

pub call-run : (scripts : Bool) (fd : ℕ) (c : Conn) (run : Option Running) (script text : List ℕ) (y : Running)
    (w : Wanted) → run ≡ Some y
    → c.request ≡ serve w → (keeps_text y ≡ true → script ≡ text)
    → next_call scripts fd (of c run script) ≡ running.next_call (job_of w text) fd w y
call-run scripts fd c None script text y w has asks buffered = absurd (cc (has))
call-run scripts fd c (Some z) script text y w has asks buffered =
    ap (λ (v : Running). run_call fd c.request script v) (some-inj z y has)
    ∙ (ap (λ (q : Answer). run_call fd q script y) asks ∙ call-text fd w y script text buffered)

pub after_reply-run : (scripts : Bool) (worker : ℕ) (c : Conn) (run : Option Running) (script : List ℕ) (y : Running)
    (w : Wanted) (r : Reply) (received : List ℕ)
    → run ≡ Some y → c.request ≡ serve w
    → after_reply scripts worker (of c run script) r received ≡ run_on (of c (Some y) script) y
    (running.after_reply worker w y r received)
after_reply-run scripts worker c None script y w r received has asks = absurd (cc (has))
after_reply-run scripts worker c (Some z) script y w r received has asks =
    ap (λ (v : Running). run_after_reply worker c.request (of c (Some v) script) v r received) (some-inj z y has)
    ∙ ap (λ (q : Answer). run_after_reply worker q (of c (Some y) script) y r received) asks

waits-run : (c : Conn) (run : Option Running) (script : List ℕ) (y : Running) → run ≡ Some y → y ≡ AwaitingWorker
    → awaits (of c run script) ≡ true
waits-run c run script y has is =
    ap (λ (o : Option Running). awaits (of c o script)) (has ∙ ap (λ (v : Running). Some v) is)

runs-run : (c : Conn) (run : Option Running) (script : List ℕ) (y : Running) (k : ℕ) → run ≡ Some y
    → is_run_by (of c run script) k ≡ true → has_worker y k ≡ true
runs-run c run script y k has u = ap (λ (o : Option Running). is_run_by (of c o script) k) (sym has) ∙ u

-- the script's text is kept as long as it is needed
text-buffered : (was now : Bool) (script text : List ℕ) → (now ≡ true → was ≡ true) → (was ≡ true → script ≡ text)
    → now ≡ true → text_on was now script ≡ text
text-buffered true true script text back buffered is = buffered refl
text-buffered false true script text back buffered is = absurd (let e = back refl in cc (e))
text-buffered b false script text back buffered is = absurd (cc (is))

rests-has : (site_contents : SiteContents) (expected : List ℕ) (n : State) (q : Answer) (script : List ℕ) (d : Phase)
    → (d ≡ phase.Receiving) ⊎ (d ≡ phase.Disconnecting)
    → Has n q (expected_in expected q d) d × Finds site_contents n q script d
rests-has site_contents expected n q script d (inl is) =
    subst (λ (e : Phase). Has n q (expected_in expected q e) e × Finds site_contents n q script e) (sym is) (tt, tt)
rests-has site_contents expected n q script d (inr is) =
    subst (λ (e : Phase). Has n q (expected_in expected q e) e × Finds site_contents n q script e) (sym is) (tt, tt)

-- a run that is over has no worker
over-none : (z : Running) (k : ℕ) → is_over z ≡ true → has_worker z k ≡ false
over-none (Finishing d) k is = refl
over-none Disconnecting k is = refl
over-none x k is = absurd (cc (is))

module _ (site_contents : SiteContents) (worker_set : WorkerSet) (laws : AllLaws worker_set) where
  run_goes : (m n : State) (came sent : List ℕ) (fd c worker : ℕ) (conn : Conn) (run : Option Running) (script : List ℕ)
      (y : Running) (r : Reply) (received : List ℕ)
      (process_slots : List (ProcessSlot worker_set.Worker)) → IsOrderly m → IsOrderly n
      → IsFixedFor site_contents worker_set m → AreAtJobQueues worker_set m process_slots
      → run ≡ Some y → FitsRun site_contents worker_set m came sent fd c (of conn run script) y process_slots
      → IsHired worker_set m (of conn run script) worker process_slots → IsAmong site_contents.refuses.of_server r
      → StepsTo m (event.Call server (next_call site_contents.scripts fd (of conn run script))) r n → Names n r received
      → Proceeds site_contents worker_set n came sent fd c (of conn run script)
      (after_reply site_contents.scripts worker (of conn run script) r received) process_slots
  run_goes m n came sent fd c worker conn run script y r received process_slots order order_n fixed job_queues has f
      hired undisturbed step names =
      subst (λ (v : Client). Proceeds site_contents worker_set n came sent fd c (of conn run script) v process_slots)
      (sym after_reply_is) (by (is_over z) refl)
    where
      w : Wanted
      w = f.wanted

      s : IsScript site_contents (of conn run script) f.wanted
      s = f.script

      job : ℕ → List ℕ
      job = job_of f.wanted f.script.text

      z : Running
      z = running.after_reply worker f.wanted y r received

      after_reply_is : after_reply site_contents.scripts worker (of conn run script) r received
          ≡ run_on (of conn (Some y) script) y (running.after_reply worker f.wanted y r received)
      after_reply_is = after_reply-run site_contents.scripts worker conn run script y f.wanted r received has
          f.script.asks

      call_is : next_call site_contents.scripts fd (of conn run script)
          ≡ running.next_call (job_of f.wanted f.script.text) fd
          f.wanted y
      call_is = call-run site_contents.scripts fd conn run script f.script.text y f.wanted has f.script.asks f.buffered

      calls : StepsTo m (event.Call server (running.next_call (job_of f.wanted f.script.text) fd f.wanted y)) r n
      calls = subst (λ (k : Call). StepsTo m (event.Call server k) r n) call_is step

      hires : y ≡ AwaitingWorker → (worker < worker_set.count) × ((process_slot : ProcessSlot worker_set.Worker)
          → slice_get process_slots worker ≡ Some process_slot
          → worker_set.Free m (worker_set.job_queue worker) process_slot)
      hires is = hired (waits-run conn run script y has is)

      replied : (after : Progress) × Updates m y r received f.so_far after
          × HasRun (job_of f.wanted f.script.text) n f.wanted after (running.after_reply worker f.wanted y r received)
      replied =
          (laws.runs job).replied m n fd c worker w y r received f.so_far order f.open_on
          (λ is. (worker_set.job_queue worker, job_queues.job_queues worker (hires is).0)) f.ongoing f.has calls names

      after : Progress
      after = replied.0

      made : Made
      made = made_of f.wanted f.script.lines f.shown

      expected : List ℕ
      expected = response_to f.wanted (made_of f.wanted f.script.lines f.shown)

      may_be : MayBeExpected site_contents (serve f.wanted)
          (response_to f.wanted (made_of f.wanted f.script.lines f.shown))
      may_be = shown-may site_contents (of conn run script) f.wanted f.script f.shown f.may_show

      d : JobQueueAfter worker_set m n c process_slots f.wanted (made_of f.wanted f.script.lines f.shown) y
          (running.after_reply worker f.wanted y r received) f.so_far replied.0
      d = job_queue_step site_contents worker_set laws m n fd c worker (of conn run script) w s y r received f.so_far
          after process_slots f.shown order order_n fixed job_queues f.open_on f.ongoing f.fresh f.has f.job_queue hires
          calls names replied.1 replied.2

      t : ConsistencyAfter site_contents (response_to f.wanted (made_of f.wanted f.script.lines f.shown)) m n c f.took
          sent conn.buffered f.wanted replied.0 (running.after_reply worker f.wanted y r received)
      t = consistency_step site_contents worker_set laws m n fd c worker f.took sent conn.buffered w job y r received
          f.so_far after expected may_be order f.open_on f.script.proper f.ongoing f.has calls names replied.1 replied.2
          d.cut d.may f.consistency

      alone : KeepsToItself m fd c y (running.next_call (job_of f.wanted f.script.text) fd f.wanted y)
      alone = (laws.run_keeps job).alone m fd c w y f.so_far f.open_on f.ongoing f.has

      untouched : touches_fd m (event.Call server (running.next_call (job_of f.wanted f.script.text) fd f.wanted y))
          server
          fd ≡ false
      untouched = no-true (touches_fd m (event.Call server (running.next_call job fd w y)) server fd) (λ u.
          let there = run-end m fd job w f.so_far y (alone.fds fd u) f.has in
          elim there.1 [
            | inl read ↦ (let e = f.open_on in absurd (cc (e, read)))
            | inr write ↦
                (let e = f.open_on in absurd (cc (e, write)))
          ])

      open_on : descriptor n server fd ≡ Some (on.Connection c)
      open_on = (laws.the.steps.leaves m n (event.Call server (running.next_call job fd w y)) r calls).fds server fd
          (on.Connection c) f.open_on untouched

      came_is : came ≡ f.took ++ bytes_of (conn_at n c).incoming
      came_is = f.came_is ∙ ap (λ (l : List ℕ). f.took ++ l) (sym t.unread)

      by : (b : Bool) → is_over (running.after_reply worker f.wanted y r received) ≡ b
          → Proceeds site_contents worker_set n came sent fd c (of conn run script)
          (run_on (of conn (Some y) script) y (running.after_reply worker f.wanted y r received)) process_slots
      by true over =
          subst (λ (v : Client). Proceeds site_contents worker_set n came sent fd c (of conn run script) v
          process_slots) (sym ended) (record {
            fits = record {
              open_on = open_on;
              took = f.took;
              came_is = came_is;
              expected = expected;
              may = subst (λ (q : Answer). MayBeExpected site_contents q expected) (sym s.asks) may_be;
              consistency =
                  subst (λ (q : Answer). ConsistencyAlone site_contents expected (conn_at n c) f.took sent
                  (of (record { buffered = conn.buffered; request = q; phase = after_run z }) None [])) (sym s.asks)
                  (t.ends over);
              has = (rests-has site_contents expected n conn.request [] (after_run z) (t.rests over)).0;
              finds = (rests-has site_contents expected n conn.request [] (after_run z) (t.rests over)).1;
              proper = subst (λ (q : Answer). IsProper q) (sym s.asks) s.proper;
            };
            freed =
                λ k process_slot sits runs runs_no. d.freed k process_slot sits (runs-run conn run script y k has runs)
                (over-none z k over);
          })
        where
          ended : run_on (of conn (Some y) script) y (running.after_reply worker f.wanted y r received)
              ≡ of (record conn { phase = after_run (running.after_reply worker f.wanted y r received) }) None []
          ended = ap (λ b. proceeds b (is_over z) (of conn (Some y) script) y z) f.ongoing
              ∙ ap (λ b. proceeds false b (of conn (Some y) script) y z) over
      by false over =
          subst (λ (v : Client). Proceeds site_contents worker_set n came sent fd c (of conn run script) v
          process_slots) (sym ongoing) (record {
            fits = record {
              open_on = open_on;
              took = f.took;
              came_is = came_is;
              wanted = w;
              script = record {
                asks = s.asks;
                stands = s.stands;
                get = s.get;
                is_for = s.is_for;
                text = s.text;
                found = s.found;
                lines = s.lines;
                is_script = s.is_script;
                proper = s.proper;
              };
              shown = f.shown;
              may_show = f.may_show;
              fresh = λ starts. f.fresh (starts-back worker w y r received starts);
              buffered = text-buffered (keeps_text y) (keeps_text z) script s.text (keeps-back worker w y r received)
                  f.buffered;
              so_far = after;
              has = replied.2;
              ongoing = over;
              consistency = t.goes over;
              job_queue = d.job_queue;
            };
            freed =
                λ k process_slot sits runs runs_no. d.freed k process_slot sits (runs-run conn run script y k has runs)
                runs_no;
          })
        where
          ongoing : run_on (of conn (Some y) script) y (running.after_reply worker f.wanted y r received)
              ≡ of conn (Some (running.after_reply worker f.wanted y r received))
              (text_on (keeps_text y) (keeps_text (running.after_reply worker f.wanted y r received)) script)
          ongoing = ap (λ b. proceeds b (is_over z) (of conn (Some y) script) y z) f.ongoing
              ∙ ap (λ b. proceeds false b (of conn (Some y) script) y z) over

  pub run_step : (m n : State) (came sent : List ℕ) (fd c worker : ℕ) (x : Client) (y : Running) (r : Reply)
      (received : List ℕ)
      (process_slots : List (ProcessSlot worker_set.Worker)) → IsOrderly m → IsOrderly n
      → IsFixedFor site_contents worker_set m → AreAtJobQueues worker_set m process_slots
      → x.run ≡ Some y → FitsRun site_contents worker_set m came sent fd c x y process_slots
      → IsHired worker_set m x worker process_slots → IsAmong site_contents.refuses.of_server r
      → StepsTo m (event.Call server (next_call site_contents.scripts fd x)) r n → Names n r received
      → Proceeds site_contents worker_set n came sent fd c x (after_reply site_contents.scripts worker x r received)
      process_slots
  run_step m n came sent fd c worker x y r received process_slots =
      run_goes m n came sent fd c worker x.conn x.run x.script y r received process_slots
