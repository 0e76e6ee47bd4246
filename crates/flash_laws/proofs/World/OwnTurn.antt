-- The server's own call for a client preserves the invariants of all other clients, and of all workers.
use Rattle.std.proofs.Common.{inl, inr, ◌≡◌, ◌≢◌, ◌<◌, ℕ, ◌==◌, ◌⊎◌, List, [], ap, ◌∙◌, refl, sym, subst, Option, Some}
use Rattle.std.proofs.Common.{None, true, false, Bool, append-nil, slice_get}
use Rattle.std.proofs.lemmas.Bool.{cases_eq}
use Rattle.iol_core.specs.Text.{bytes_of}
use Rattle.iol_core.specs.NumberedLists.{in_place}
use Rattle.iol_core.specs.State.{State, Connection, descriptor, conn_at, pipe_at}
use Rattle.iol_core.specs.Run.{StepsTo}
use Rattle.iol_core.specs.Values.{gives_up}
use Rattle.iol_core.specs.declared.descriptors.Descriptor.TheVariants as on
use Rattle.iol_core.specs.declared.events.Call.{Call}
use Rattle.iol_core.specs.declared.events.Call.TheVariants as call
use Rattle.iol_core.specs.declared.events.Event.{Event}
use Rattle.iol_core.specs.declared.events.Event.TheVariants as event
use Rattle.iol_core.specs.declared.events.Reply.{Reply}
use Rattle.iol_core.specs.declared.events.Reply.TheVariants as reply
use Rattle.iol_laws.specs.Caller as o
use Rattle.iol_laws.specs.Frame.{Leaves, touches_conn, touches_pipe, touches_fd}
use Rattle.iol_laws.specs.Order.{IsOrderly}
use Rattle.iol_proc.specs.declared.process_slot.ProcessSlot.{ProcessSlot}
use Rattle.flash_http.specs.Request.{serve, Wanted}
use Rattle.flash_laws.specs.Client.{Client, uses_agg, uses_fd, is_for_script, conn_call, next_call, IsAwaiting, awaits}
use Rattle.flash_laws.specs.Client.{file_after_reply, after_reply, left_over}
use Rattle.flash_laws.specs.Client.Fits.{expected_in, FitsAlone, FitsBy, Fits}
use Rattle.flash_laws.specs.Client.Holdings.{has_fd}
use Rattle.flash_laws.specs.Conn.{Conn, after_disconnect}
use Rattle.flash_laws.specs.Workers.WorkerSet.{WorkerSet, IsFixedFor}
use Rattle.flash_laws.specs.Conn.Fits.{Has, Names, is_closing}
use Rattle.flash_laws.specs.Site.Past.{Past}
use Rattle.flash_laws.specs.Site.Places.{EachHasItsOwn, is_run_by, is_free, has_free, first_free, may_go}
use Rattle.flash_laws.specs.Site.Places.{after_reply_at}
use Rattle.flash_laws.specs.Run.{worker_domain, job_pipe, is_over}
use Rattle.flash_laws.specs.Site.ClientConsistency.{Held, Ended, Aside, AreAtJobQueues, FitsAt, AllFit}
use Rattle.flash_laws.specs.SiteContents.{SiteContents, IsAmong}
use Rattle.flash_laws.specs.Site.{server, KeepsSite}
use Rattle.flash_laws.specs.Site.OtherConns.{with_at, left_by, Waits}
use Rattle.flash_laws.specs.declared.phase.PendingCall.TheVariants.{At}
use Rattle.flash_laws.specs.declared.phase.Phase.{Phase}
use Rattle.flash_laws.specs.declared.phase.Phase.TheVariants as phase
use Rattle.flash_laws.specs.declared.script_run.Run.{Run}
use Rattle.flash_laws.specs.declared.script_run.Step.{Step}
use Rattle.flash_laws.specs.declared.script_run.Step.TheVariants.{WritingJob, ClosingPipe}
use Rattle.flash_laws.specs.declared.script_run.Running.{Running}
use Rattle.flash_laws.specs.declared.script_run.Running.TheVariants.{AwaitingWorker, InProgress}
use Rattle.flash_laws.proofs.Forms.{of}
use Rattle.flash_laws.proofs.Conn.Responses.{some-inj}
use Rattle.flash_laws.proofs.Site.InPlaces.{at-same, at-other}
use Rattle.flash_laws.proofs.Lists.{clash, self, must}
use Rattle.flash_laws.proofs.Site.Others.{site-stays}
use Rattle.flash_laws.proofs.Site.Peers.{IsAfterReply, after_reply-call}
use Rattle.flash_laws.proofs.Site.OwnWorkers.{free-runs, first-free, runs-for, left-over-is, workers_shared}
use Rattle.flash_laws.proofs.Site.OpenDescriptors.{no-true, held-open, not-waiting, not-closed, conn-same}
use Rattle.flash_laws.proofs.World.AllLaws.{AllLaws}
use Rattle.flash_laws.proofs.World.Calls.{CallsAlone, MayTouchPipe, kind-admits, opens-on, calls-alone, there-agg}
use Rattle.flash_laws.proofs.World.Calls.{there-fd}
use Rattle.flash_laws.proofs.World.Ends.{no-returns, no-job_queue, uses-or-job_queue, has-from, touches-from}
use Rattle.flash_laws.proofs.World.ClientFrame.{fits_beside}
use Rattle.flash_laws.proofs.World.JobQueue.Frame.{LeavesOne}
use Rattle.flash_laws.proofs.World.OwnAlone.{alone_step, alone_closes}
use Rattle.flash_laws.proofs.World.OwnRun.{run_step}
use Rattle.flash_laws.proofs.World.RunUses.{is_fds}
use Rattle.flash_laws.proofs.World.ReplyUse.{client-uses, client-fds, agg-new, fd-new}
use Rattle.flash_laws.proofs.World.Turn.{replaced, held-on, own-call, no-reader-there, own-job_queue}
use Rattle.flash_laws.proofs.World.TurnLeaves.{conn-left}

-- a turn of the server for the client at a descriptor
pub record IsOwnTurn (site_contents : SiteContents) (worker_set : WorkerSet) (m n : State) (p : Past)
    (clients : List (Option Client)) (fd : ℕ) (x : Client) (r : Reply)
    (received : List ℕ) (process_slots : List (ProcessSlot worker_set.Worker)) : Type 0 where
  pub order : IsOrderly m
  pub order_after : IsOrderly n
  pub fixed : IsFixedFor site_contents worker_set m
  pub fit : AllFit site_contents worker_set m p clients process_slots
  pub there : in_place clients fd ≡ Some x
  pub waits : IsAwaiting x
  pub goes : may_go (has_free worker_set.count clients) x ≡ true
  pub among : IsAmong site_contents.refuses.of_server r
  pub step : StepsTo m (event.Call server (next_call site_contents.scripts fd x)) r n
  pub names : Names n r received

module _ (site_contents : SiteContents) (worker_set : WorkerSet) (laws : AllLaws worker_set) (m n : State) (p : Past)
    (clients : List (Option Client)) (fd : ℕ) (conn : Conn) (run : Option Running) (script : List ℕ) (r : Reply)
    (received : List ℕ) (process_slots : List (ProcessSlot worker_set.Worker))
    (t : IsOwnTurn site_contents worker_set m n p clients fd (of conn run script) r received process_slots) where
  abbrev x : Client
  x = of conn run script

  abbrev ev : Event
  ev = event.Call server (next_call site_contents.scripts fd (of conn run script))

  mine : FitsAt site_contents worker_set m p fd (of conn run script) process_slots
  mine = t.fit.each fd (of conn run script) t.there

  abbrev c : ℕ
  c = (t.fit.each fd (of conn run script) t.there).conn

  f : Fits site_contents worker_set m (p.came c) (p.sent c) fd c (of conn run script) process_slots
  f = (t.fit.each fd (of conn run script) t.there).fits

  alone : CallsAlone m fd c (of conn run script) (next_call site_contents.scripts fd (of conn run script))
  alone = calls-alone site_contents worker_set laws m (p.came c) (p.sent c) fd c process_slots conn run script f

  open_on : descriptor m server fd ≡ Some (on.Connection c)
  open_on = opens-on site_contents worker_set laws m (p.came c) (p.sent c) fd c process_slots conn run script f

  leaves : Leaves m (event.Call server (next_call site_contents.scripts fd (of conn run script))) n
  leaves = laws.the.steps.leaves m n (event.Call server (next_call site_contents.scripts fd x)) r t.step

  pub own-site : KeepsSite m n
  own-site = site-stays site_contents.finds m n (event.Call server (next_call site_contents.scripts fd x)) leaves
      t.fixed.site alone.files (λ q. kind-admits (next_call site_contents.scripts fd x) q alone.kind)

  none-returned : (v : Run) (write : ℕ) → run ≡ Some (InProgress v (ClosingPipe write)) → ⊥
  none-returned = no-returns site_contents worker_set m (p.came c) (p.sent c) fd c process_slots conn run script f

  among : (y : Running) (s : Step) (v : Run) → run ≡ Some (InProgress v s) → v.worker < worker_set.count
  among y s v is =
      t.fit.own.among fd v.worker x t.there (ap (λ (o : Option Running). is_run_by (of conn o script) v.worker) is
      ∙ self v.worker)

  -- a descriptor that the client has is not a connection
  not-conn : (g e : ℕ) → has_fd (of conn run script) g ≡ true → descriptor m server g ≡ Some (on.Connection e) → ⊥
  not-conn g e u is =
      elim (there-fd site_contents worker_set laws m (p.came c) (p.sent c) fd c process_slots conn run script g f u) [
        | inl file ↦ (let h = file.2 in cc (h, is))
        | inr end ↦ elim end.1 [ inl read ↦ cc (read, is) | inr write ↦ cc (write, is) ]
      ]

  -- the call does not touch the descriptors of other connections
  un-conn : (gd e : ℕ) → fd ≢ gd → descriptor m server gd ≡ Some (on.Connection e)
      → touches_fd m (event.Call server (next_call site_contents.scripts fd (of conn run script))) server gd ≡ false
  un-conn gd e differ is =
      no-true (touches_fd m ev server gd) (λ u. elim (alone.fds gd u) [
        | inl has ↦ not-conn gd e has is
        | inr same ↦
            differ same
      ])

  -- nor those of job queues
  un-job_queue : (k : ℕ) → k < worker_set.count
      → touches_fd m (event.Call server (next_call site_contents.scripts fd (of conn run script))) server (job_pipe k)
      ≡ false
  un-job_queue k lt = no-true (touches_fd m ev server (job_pipe k)) (λ u. elim (alone.fds (job_pipe k) u) [
    | inl has ↦ no-job_queue site_contents worker_set m (p.came c) (p.sent c) fd c process_slots conn run script
        (job_pipe k) k f has lt (t.fit.job_queues.job_queues k lt)
    | inr same ↦ (let a = open_on in let b = ap (λ g. descriptor m server g) same in let d =
        t.fit.job_queues.job_queues k lt in cc (a, b, d))
  ])

  -- the job queue of a worker that does not run this client's script is unchanged
  job_queue-stays : (k : ℕ) → k < worker_set.count → is_run_by (of conn run script) k ≡ false
      → pipe_at n (worker_set.job_queue k) ≡ pipe_at m (worker_set.job_queue k)
  job_queue-stays k lt none =
      leaves.pipes (worker_set.job_queue k) (no-true (touches_pipe m ev (worker_set.job_queue k)) (λ u.
      let own = own-job_queue site_contents worker_set laws m p clients process_slots t.order t.fit run k lt among
      none-returned (alone.pipes (worker_set.job_queue k) u) in
      let runs = ap (λ (o : Option Running). is_run_by (of conn o script) k) own.2
      ∙ (ap (λ j. own.0.worker == j) (sym own.3) ∙ self own.0.worker) in
      clash (is_run_by (of conn run script) k) runs none))

  -- a worker of another client is not this client's
  other-worker : (gd k : ℕ) (y : Client) → fd ≢ gd → in_place clients gd ≡ Some y → is_run_by y k ≡ true
      → is_run_by (of conn run script) k ≡ false
  other-worker gd k y differ is runs =
      no-true (is_run_by (of conn run script) k) (λ u. differ (t.fit.own.apart fd gd k x y t.there is u runs))

  -- the pipe of another client's script is unchanged
  pipe-stays : (gd : ℕ) (y : Client) (v : Run) (s : Step) (q : ℕ) → fd ≢ gd → in_place clients gd ≡ Some y
      → has_fd y v.from ≡ true
      → descriptor m server v.from ≡ Some (on.ReadEnd q) → ((k : ℕ) → k < worker_set.count → worker_set.job_queue k ≢ q)
      → pipe_at n q ≡ pipe_at m q
  pipe-stays gd y v s q differ is has reads apart =
      leaves.pipes q (no-true (touches_pipe m ev q) (λ u. by run refl (alone.pipes q u) u))
    where
      by : (o : Option Running) → run ≡ o → MayTouchPipe m o q
          → touches_pipe m (event.Call server (next_call site_contents.scripts fd (of conn run script))) q ≡ true → ⊥
      by None none may u = may
      by (Some AwaitingWorker) is_run may u =
          no-reader-there m (ap (λ j. (pipe_at m j).reading) may ∙ t.order.all_stand server v.from (on.ReadEnd q) reads)
      by (Some (InProgress z (WritingJob j g))) is_run may u =
          let here = t.fit.job_queues.job_queues z.worker (among AwaitingWorker (WritingJob j g) z is_run) in
          apart z.worker (among AwaitingWorker (WritingJob j g) z is_run)
          (write-inj (worker_set.job_queue z.worker) q (sym here ∙ may))
        where
          write-inj : (a b : ℕ) → Some (on.WriteEnd a) ≡ Some (on.WriteEnd b) → a ≡ b
          write-inj a b e = cc
      by (Some (InProgress z (ClosingPipe write))) is_run may u = none-returned z write is_run
      by (Some (InProgress z st)) is_run may u =
          let reading = touches-from site_contents worker_set m (p.came c) (p.sent c) fd c process_slots conn run script
          f z st q is_run u in
          let same = (t.order.one server server z.from v.from (on.ReadEnd q) refl may reads).1 in
          let mine_has : has_fd (of conn run script) v.from ≡ true =
          subst (λ g. has_fd (of conn run script) g ≡ true) same
          (ap (λ (o : Option Running). has_fd (of conn o script) z.from) is_run ∙ has-from z st reading) in
          differ (t.fit.fds_apart fd gd v.from x y t.there is mine_has has)
      by o is_run may u = may

  -- so the invariant of another client is preserved
  module _ (gd : ℕ) (y : Client) (differ : fd ≢ gd) (is : in_place clients gd ≡ Some y) where
    abbrev e : ℕ
    e = (t.fit.each gd y is).conn

    theirs : Fits site_contents worker_set m (p.came e) (p.sent e) gd e y process_slots
    theirs = (t.fit.each gd y is).fits

    opens : descriptor m server gd ≡ Some (on.Connection e)
    opens = opens-on site_contents worker_set laws m (p.came e) (p.sent e) gd e process_slots y.conn y.run y.script
        theirs

    same-conn : conn_at n e ≡ conn_at m e
    same-conn =
        leaves.conns e
        (no-true (touches_conn m ev e)
        (λ u.
        differ
        (t.order.one server server fd gd (on.Connection e) refl (open_on
        ∙ ap (λ z. Some (on.Connection z)) (alone.conns e u)) opens).1))

    there-conn : (g : ℕ) → has_fd y g ≡ true → descriptor m server g ≡ Some (on.Connection c) → ⊥
    there-conn g has at =
        elim (there-fd site_contents worker_set laws m (p.came e) (p.sent e) gd e process_slots y.conn y.run y.script g
        theirs has) [
          | inl file ↦ (let h = file.2 in cc (h, at))
          | inr end ↦ elim end.1 [ inl read ↦ cc (read, at) | inr write ↦ cc (write, at) ]
        ]

    un-touched : (g : ℕ) → uses_fd y g ≡ true → touches_fd m ev server g ≡ true → ⊥
    un-touched g u touched =
        elim (uses-or-job_queue site_contents worker_set m (p.came e) (p.sent e) gd e process_slots y.conn y.run
        y.script g theirs u) [
          | inl has ↦ elim (alone.fds g touched) [
            | inl mine ↦ differ (t.fit.fds_apart fd gd g x y t.there is mine has)
            | inr here ↦ there-conn g has (ap (λ h. descriptor m server h) (sym here) ∙ open_on)
          ]
          | inr job_queue ↦
              clash (touches_fd m ev server (job_pipe job_queue.0.worker))
              (ap (λ h. touches_fd m ev server h) job_queue.3
              ∙ touched)
              (un-job_queue job_queue.0.worker
              (t.fit.own.among gd job_queue.0.worker y is
              (ap (λ (o : Option Running). is_run_by (of y.conn o y.script) job_queue.0.worker) job_queue.2
              ∙ self job_queue.0.worker)))
        ]

    left-one : LeavesOne worker_set m n ev gd y
    left-one = record {
      own = un-conn gd e differ opens;
      aggs =
          λ a u. no-true (gives_up ev server a)
          (λ given. differ (t.fit.aggs_apart fd gd a x y t.there is (alone.aggs a given) u));
      fds = λ g u. no-true (touches_fd m ev server g) (un-touched g u);
      site = own-site;
      others = λ k lt runs. own-call (next_call site_contents.scripts fd (of conn run script)) (worker_domain k) k refl;
      job_queues = λ k lt runs. job_queue-stays k lt (other-worker gd k y differ is runs);
      pipe = λ v s q has_run reads has apart going. pipe-stays gd y v s q differ is has reads apart;
    }

    there : FitsAt site_contents worker_set n p gd y process_slots
    there = record {
      conn = e;
      fits = subst (λ (l : List ℕ). Fits site_contents worker_set n l (p.sent e) gd e y process_slots)
          (append-nil (p.came e))
          (fits_beside site_contents worker_set laws m n ev r (p.came e) (p.sent e) [] (p.sent e) gd e y process_slots
          t.order t.fixed t.fit.job_queues t.step left-one
          (ap (λ (k : Connection). bytes_of k.incoming) same-conn ∙ sym (append-nil (bytes_of (conn_at m e).incoming)))
          (conn-left (conn_at m e) (conn_at n e) (p.sent e) same-conn) theirs);
    }

  -- ---- the client itself

  -- its invariant holds, or its connection has ended
  abbrev Became : Client → Type 0
  Became z = Fits site_contents worker_set n (p.came c) (p.sent c) fd c z process_slots
      ⊎ ((left_over z ≡ None) × Ended site_contents p c (conn_at n c))

  record Becomes (z : Client) : Type 0 where
    pub became : Became z
    pub freed : (k : ℕ) (process_slot : ProcessSlot worker_set.Worker) → slice_get process_slots k ≡ Some process_slot
        → is_run_by (of conn run script) k ≡ true → is_run_by z k ≡ false
        → worker_set.Free n (worker_set.job_queue k) process_slot

  abbrev worker : ℕ
  worker = first_free worker_set.count clients

  abbrev after : Client
  after = after_reply site_contents.scripts (first_free worker_set.count clients) (of conn run script) r received

  hired : awaits (of conn run script) ≡ true → (first_free worker_set.count clients < worker_set.count)
      × ((process_slot : ProcessSlot worker_set.Worker) → slice_get process_slots (first_free worker_set.count clients)
      ≡ Some process_slot
      → worker_set.Free m (worker_set.job_queue (first_free worker_set.count clients)) process_slot)
  hired waiting =
      let first =
      first-free worker_set.count clients (must (has_free worker_set.count clients) (awaits x) t.goes waiting) in
      (first.0, λ process_slot sits. t.fit.free worker process_slot sits first.1)

  after_reply_gone : IsAfterReply (p.gone c) (conn_at m c)
  after_reply_gone = t.fit.left c

  of-fits : (o : Option Running) → run ≡ o
      → FitsBy site_contents worker_set o m (p.came c) (p.sent c) fd c (of conn run script) process_slots
  of-fits o is =
      subst (λ (v : Option Running). FitsBy site_contents worker_set v m (p.came c) (p.sent c) fd c (of conn run script)
      process_slots) is f

  none-runs : run ≡ None → (k : ℕ) → is_run_by (of conn run script) k ≡ true → ⊥
  none-runs is k runs = (let e = ap (λ (o : Option Running). is_run_by (of conn o script) k) is in cc (e, runs))

  -- its connection is to be closed
  closing : run ≡ None → conn.phase ≡ phase.Disconnecting → Became after
  closing is_none is_closes =
      by r (laws.the.own.closes_conn m n server fd c r t.order open_on did_close) did_close (after_reply_is r)
    where
      closes : (b : Bool) → conn_call b fd conn ≡ call.Close fd
      closes false = ap (λ (d : Phase). conn_call false fd (record conn { phase = d })) is_closes
      closes true = ap (λ (d : Phase). conn_call true fd (record conn { phase = d })) is_closes

      call_is : next_call site_contents.scripts fd (of conn run script) ≡ call.Close fd
      call_is = ap (λ (o : Option Running). next_call site_contents.scripts fd (of conn o script)) is_none
          ∙ closes (is_for_script site_contents.scripts conn.request)

      did_close : StepsTo m (event.Call server (call.Close fd)) r n
      did_close = subst (λ (k : Call). StepsTo m (event.Call server k) r n) call_is t.step

      after_reply_is : (s : Reply) → after_reply site_contents.scripts worker (of conn run script) s received
          ≡ of (record conn { phase = after_disconnect s }) None script
      after_reply_is s =
          ap (λ (o : Option Running). after_reply site_contents.scripts worker (of conn o script) s received) is_none
          ∙ filing (is_for_script site_contents.scripts conn.request)
        where
          filing : (b : Bool)
              → file_after_reply b (of conn None script) s received ≡ of (record conn { phase = after_disconnect s })
              None script
          filing false =
              ap (λ (d : Phase). file_after_reply false (of (record conn { phase = d }) None script) s received)
              is_closes
          filing true =
              ap (λ (d : Phase). file_after_reply true (of (record conn { phase = d }) None script) s received)
              is_closes

      by : (s : Reply) → o.ClosesConn m c s n → StepsTo m (event.Call server (call.Close fd)) s n
          → after_reply site_contents.scripts worker (of conn run script) s received
          ≡ of (record conn { phase = after_disconnect s }) None script
          → Became (after_reply site_contents.scripts worker (of conn run script) s received)
      by reply.Done did step is =
          let ended = alone_closes site_contents worker_set laws m n (p.came c) (p.sent c) fd c (of conn run script)
          t.order is_closes (of-fits None is_none) step in
          inr (
            ap (λ (z : Client). left_over z) is,
            record {
              closed = ended.0;
              begins = ended.1;
              whole =
                  elim ended.2 [
                    | inl gone ↦ inl (after_reply_gone (held-open m fd c t.order open_on).1 gone)
                    | inr all ↦
                        inr all
                  ];
            },
          )
      by (reply.Refused y) did step is =
          inl (subst (λ (z : Client). Fits site_contents worker_set n (p.came c) (p.sent c) fd c z process_slots)
          (sym (is ∙ same))
          (subst (λ (s : State). FitsAlone site_contents s (p.came c) (p.sent c) fd c (of conn None script)) (sym did)
          (alone-of None is_none (of-fits None is_none))))
        where
          same : of (record conn { phase = phase.Disconnecting }) None script ≡ of conn None script
          same = ap (λ (d : Phase). of (record conn { phase = d }) None script) (sym is_closes)

          alone-of : (o : Option Running) → run ≡ o
              → FitsAlone site_contents m (p.came c) (p.sent c) fd c (of conn run script)
              → FitsAlone site_contents m (p.came c) (p.sent c) fd c (of conn o script)
          alone-of o is g =
              subst (λ (v : Option Running). FitsAlone site_contents m (p.came c) (p.sent c) fd c (of conn v script)) is
              g
      by s did step is = absurd did

  becomes : Becomes after
  becomes = by run refl
    where
      closed : (d : Phase) → conn.phase ≡ d → is_closing d ≡ true → run ≡ None → Became after
      closed phase.Disconnecting is closing_is none = closing none is
      closed phase.Closed is closing_is none =
          absurd (subst (λ (d : Phase). Has m conn.request (expected_in (of-fits None none).expected conn.request d) d)
          is
          (of-fits None none).has)
      closed d is closing_is none = absurd (cc (closing_is))

      by : (o : Option Running) → run ≡ o → Becomes after
      by None none =
          record {
            became = on (is_closing conn.phase) refl;
            freed = λ k process_slot sits runs gone. absurd (none-runs none k runs);
          }
        where
          on : (b : Bool) → is_closing conn.phase ≡ b → Became after
          on true is = closed conn.phase refl is none
          on false is =
              inl (alone_step site_contents worker_set laws m n (p.came c) (p.sent c) fd c worker (of conn run script) r
              received process_slots t.order t.fixed none (of-fits None none) t.waits is t.among t.step t.names)
      by (Some y) some =
          let went = run_step site_contents worker_set laws m n (p.came c) (p.sent c) fd c worker (of conn run script) y
          r received process_slots t.order t.order_after t.fixed t.fit.job_queues some (of-fits (Some y) some) hired
          t.among t.step t.names in
          record { became = inl went.fits; freed = went.freed }

  -- ---- all clients after the turn

  -- a client whose invariant holds is not over
  left-some : (run_z : Option Running) (z : Conn) (text : List ℕ)
      → Fits site_contents worker_set n (p.came c) (p.sent c) fd c (of z run_z text) process_slots
      → left_over (of z run_z text) ≡ None → ⊥
  left-some None z text g is = by z.phase refl is
    where
      by : (d : Phase) → z.phase ≡ d → left_by d (of z None text) ≡ None → ⊥
      by phase.Closed over is = subst (λ (d : Phase). Has n z.request (expected_in g.expected z.request d) d) over g.has
      by d over is = cc (is)
  left-some (Some y) z text g is = cc (is)

  here : (z : Client) → left_over after ≡ Some z → FitsAt site_contents worker_set n p fd z process_slots
  here z is = elim becomes.became [
    | inl fits ↦
        record {
          conn = c;
          fits =
              subst (λ (v : Client). Fits site_contents worker_set n (p.came c) (p.sent c) fd c v process_slots)
              (left-over-is after.conn after.run after.script z is) fits;
        }
    | inr over ↦ (let none = over.0 in absurd (cc (is, none)))
  ]

  -- a connection that is not this client's is unchanged
  away : (k : ℕ) → c ≢ k → conn_at n k ≡ conn_at m k
  away k differ = leaves.conns k (no-true (touches_conn m ev k) (λ u. differ (alone.conns k u)))

  elsewhere : (k : ℕ) → Held m clients k ⊎ Aside site_contents p k (conn_at m k)
      → Held n (with_at clients fd (left_over after)) k ⊎ Aside site_contents p k (conn_at n k)
  elsewhere k (inl held) = elim (cases_eq fd held.fd) [
    | inl same ↦
        (let open_k = subst (λ g. descriptor m server g ≡ Some (on.Connection k)) (sym same) held.open_on in
        after_own k (conn-same m fd c k open_on open_k) becomes.became)
    | inr differ ↦
        inl
        (held-on m n clients fd k (left_over after) held differ
        (leaves.fds server held.fd (on.Connection k) held.open_on (un-conn held.fd k differ held.open_on)))
  ]
    where
      after_own : (k : ℕ) → c ≡ k → Became after → Held n (with_at clients fd (left_over after)) k
          ⊎ Aside site_contents p k (conn_at n k)
      after_own k is_k (inr over) = inr (inr (inl (subst (λ z. Ended site_contents p z (conn_at n z)) is_k over.1)))
      after_own k is_k (inl fits) = by (left_over after) refl
        where
          by : (o : Option Client) → left_over after ≡ o → Held n (with_at clients fd (left_over after)) k
              ⊎ Aside site_contents p k (conn_at n k)
          by (Some z) is = inl (record {
            fd = fd;
            client = z;
            at = at-same clients fd (left_over after) ∙ is;
            open_on =
                subst (λ z. descriptor n server fd ≡ Some (on.Connection z)) is_k
                (opens-on site_contents worker_set laws n (p.came c) (p.sent c) fd c process_slots after.conn after.run
                after.script fits);
          })
          by None is = absurd (left-some after.run after.conn after.script fits is)
  elsewhere k (inr (inl waits)) =
      let same = away k (not-waiting m fd c k t.order open_on waits.waits) in
      inr (inl (subst (λ (z : Connection). Waits p k z) (sym same) waits))
  elsewhere k (inr (inr (inr foreign))) =
      inr
      (inr
      (inr
      (record {
        other_pool = foreign.other_pool;
        taken =
            laws.the.other.accepted m n server (next_call site_contents.scripts fd x) r k t.order t.step foreign.taken;
      })))
  elsewhere k (inr (inr (inl ended))) =
      let same = away k (not-closed m fd c k t.order open_on ended.closed) in
      inr (inr (inl (subst (λ (z : Connection). Ended site_contents p k z) (sym same) ended)))

  -- no other client uses an aggregate that it uses now
  mixed_agg : (gd a : ℕ) (y z : Client) → fd ≢ gd → left_over after ≡ Some y → in_place clients gd ≡ Some z
      → uses_agg y a ≡ true → uses_agg z a ≡ true → ⊥
  mixed_agg gd a y z differ is_y is_z uses uses_z =
      elim (client-uses site_contents.scripts worker conn run script r received a
      (ap (λ (w : Client). uses_agg w a) (left-over-is after.conn after.run after.script y is_y) ∙ uses)) [
        | inl old ↦ differ (t.fit.aggs_apart fd gd a x z t.there is_z old uses_z)
        | inr made ↦
            (let none = agg-new laws.the m n (next_call site_contents.scripts fd x) r a t.order alone.kind t.step
            made in
            let at = t.fit.each gd z is_z in
            let some =
            (there-agg site_contents worker_set laws m (p.came at.conn) (p.sent at.conn) gd at.conn process_slots
            z.conn z.run z.script a at.fits uses_z).1 in cc (none, some))
      ]

  going : (o : Option Running)
      → FitsBy site_contents worker_set o m (p.came c) (p.sent c) fd c (of conn run script) process_slots
      → (y : Running) → o ≡ Some y → is_over y ≡ false
  going None g y is = absurd (cc (is))
  going (Some v) g y is = ap (λ (w : Running). is_over w) (sym (some-inj v y is)) ∙ g.ongoing

  asks-of : (o : Option Running)
      → FitsBy site_contents worker_set o m (p.came c) (p.sent c) fd c (of conn run script) process_slots
      → o ≡ Some AwaitingWorker → (w : Wanted) × (conn.request ≡ serve w)
  asks-of None g is = absurd (cc (is))
  asks-of (Some v) g is = (g.wanted, g.script.asks)

  mixed_fd : (gd a : ℕ) (y z : Client) → fd ≢ gd → left_over after ≡ Some y → in_place clients gd ≡ Some z
      → has_fd y a ≡ true → has_fd z a ≡ true → ⊥
  mixed_fd gd a y z differ is_y is_z uses uses_z =
      elim (client-fds site_contents.scripts worker conn run script r received a (going run f)
      (ap (λ (w : Client). has_fd w a) (left-over-is after.conn after.run after.script y is_y) ∙ uses)) [
        | inl old ↦ differ (t.fit.fds_apart fd gd a x z t.there is_z old uses_z)
        | inr made ↦ taken (new made)
      ]
    where
      new : ((run ≡ None) × (o.is_fd r a ≡ true)) ⊎ ((run ≡ Some AwaitingWorker) × (is_fds r a ≡ true))
          → descriptor m server a ≡ None
      new (inl file) =
          fd-new laws.the m n site_contents.scripts fd conn run script
          (record { head_only = false; name = []; query = []; keep = false; range = None; chunked = false }) r a t.order
          (λ is. (let e = file.0 in absurd (cc (is, e)))) t.step (inl file)
      new (inr pipe) =
          (let asked = asks-of run f pipe.0 in
          fd-new laws.the m n site_contents.scripts fd conn run script asked.0 r a t.order (λ is. asked.1) t.step
          (inr pipe))

      taken : descriptor m server a ≡ None → ⊥
      taken none =
          let at = t.fit.each gd z is_z in
          elim (there-fd site_contents worker_set laws m (p.came at.conn) (p.sent at.conn) gd at.conn process_slots
          z.conn z.run z.script a at.fits uses_z) [
            | inl file ↦ (let h = file.2 in cc (h, none))
            | inr end ↦ elim end.1 [ inl read ↦ cc (read, none) | inr write ↦ cc (write, none) ]
          ]

  -- each client with a running script has its own worker
  own_after : EachHasItsOwn worker_set.count (with_at clients fd (left_over after))
  own_after =
      subst
      (λ (b : Bool). EachHasItsOwn worker_set.count
      (with_at clients fd (left_over (after_reply b worker (of conn run script) r received)))) (sym t.fixed.scripts)
      (subst
      (λ (v : Option Client). EachHasItsOwn worker_set.count
      (after_reply_at worker_set.count clients fd v r received)) t.there
      (workers_shared.filing worker_set.count clients (At fd) r received t.fit.own
      (λ y is. subst (λ (z : Client). may_go (has_free worker_set.count clients) z ≡ true)
      (some-inj x y (sym t.there ∙ is)) t.goes)))

  free_after : (k : ℕ) (process_slot : ProcessSlot worker_set.Worker) → slice_get process_slots k ≡ Some process_slot
      → is_free (with_at clients fd (left_over after)) k ≡ true
      → worker_set.Free n (worker_set.job_queue k) process_slot
  free_after k process_slot sits free = by (is_free clients k) refl
    where
      place : (k < worker_set.count) × (process_slot.by ≡ worker_domain k)
      place = t.fit.job_queues.by k process_slot sits

      -- a worker that was free stays free
      stays : is_free clients k ≡ true → worker_set.Free n (worker_set.job_queue k) process_slot
      stays was = laws.workers.free_others m n (worker_set.job_queue k) process_slot ev r t.fixed.placed t.step
          (own-call (next_call site_contents.scripts fd (of conn run script)) process_slot.by k place.1)
          (job_queue-stays k place.0 (free-runs clients k fd x was t.there)) (t.fit.free k process_slot sits was)

      by : (b : Bool) → is_free clients k ≡ b → worker_set.Free n (worker_set.job_queue k) process_slot
      by true was = stays was
      by false busy =
          let ran = runs-for clients k busy in
          elim (cases_eq fd ran.fd) [
            | inr differ ↦
                absurd
                (clash (is_run_by ran.client k) ran.runs
                (free-runs (with_at clients fd (left_over after)) k ran.fd ran.client free
                (at-other clients fd ran.fd (left_over after) differ ∙ ran.at)))
            | inl same ↦
                (let is_x : x ≡ ran.client =
                some-inj x ran.client (sym t.there ∙ subst (λ g. in_place clients g ≡ Some ran.client) (sym same)
                ran.at) in
                let runs : is_run_by x k ≡ true = ap (λ (z : Client). is_run_by z k) is_x ∙ ran.runs in
                becomes.freed k process_slot sits runs (no-more runs (left_over after) refl))
          ]
        where
          no-more : is_run_by x k ≡ true → (o : Option Client) → left_over after ≡ o → is_run_by after k ≡ false
          no-more runs (Some z) is =
              let same = left-over-is after.conn after.run after.script z is in
              ap (λ (v : Client). is_run_by v k) same
              ∙ free-runs (with_at clients fd (left_over after)) k fd z free (at-same clients fd (left_over after)
              ∙ is)
          no-more runs None is = over after.run refl
            where
              over : (o : Option Running) → after.run ≡ o → is_run_by after k ≡ false
              over None none = ap (λ (o : Option Running). is_run_by (of after.conn o after.script) k) none
              over (Some y) some =
                  absurd (let e = ap (λ (o : Option Running). left_over (of after.conn o after.script)) some in
                  cc (e, is))

  job_queues_after : AreAtJobQueues worker_set n process_slots
  job_queues_after = record {
    in_slots = t.fit.job_queues.in_slots;
    by = t.fit.job_queues.by;
    job_queues =
        λ k lt. leaves.fds server (job_pipe k) (on.WriteEnd (worker_set.job_queue k)) (t.fit.job_queues.job_queues k lt)
        (un-job_queue k lt);
  }

  all_after : AllFit site_contents worker_set n p
      (with_at clients fd
      (left_over (after_reply site_contents.scripts (first_free worker_set.count clients) (of conn run script) r
      received))) process_slots
  all_after = replaced site_contents worker_set m n p clients fd (left_over after) process_slots t.fit
      (laws.the.rises m n ev r t.step) here there (λ k. elsewhere k (t.fit.others k))
      (λ z. after_reply-call (p.gone z) m n server (next_call site_contents.scripts fd x) r z t.order t.step
      (t.fit.left z))
      mixed_agg mixed_fd own_after free_after job_queues_after

-- a turn of the server for the client at a descriptor
pub own_turn : (site_contents : SiteContents) (worker_set : WorkerSet) (laws : AllLaws worker_set) (m n : State)
    (p : Past) (clients : List (Option Client)) (fd : ℕ) (x : Client) (r : Reply) (received : List ℕ)
    (process_slots : List (ProcessSlot worker_set.Worker))
    → IsOwnTurn site_contents worker_set m n p clients fd x r received process_slots
    → KeepsSite m n
    × AllFit site_contents worker_set n p
    (with_at clients fd
    (left_over (after_reply site_contents.scripts (first_free worker_set.count clients) x r received)))
    process_slots
own_turn site_contents worker_set laws m n p clients fd x r received process_slots t = (
  own-site site_contents worker_set laws m n p clients fd x.conn x.run x.script r received process_slots t,
  all_after site_contents worker_set laws m n p clients fd x.conn x.run x.script r received process_slots t,
)
