-- Making a client ready, and accepting a connection, preserve the invariant.
use Rattle.std.proofs.Common.{inl, inr, ◌≡◌, ◌≢◌, ℕ, ◌⊎◌, List, [], ◌++◌, ap, ◌∙◌, refl, sym, subst, arith, Option}
use Rattle.std.proofs.Common.{Some, None, true, false, Bool, append-nil, slice_get}
use Rattle.std.proofs.lemmas.Bool.{cases_eq}
use Rattle.iol_core.specs.Text.{bytes_of}
use Rattle.iol_core.specs.NumberedLists.{in_place}
use Rattle.iol_core.specs.State.{State, Connection, descriptor, conn_at}
use Rattle.iol_core.specs.Run.{StepsTo}
use Rattle.iol_core.specs.declared.descriptors.Descriptor.TheVariants as on
use Rattle.iol_core.specs.declared.events.Call.TheVariants as call
use Rattle.iol_core.specs.declared.events.Event.{Event}
use Rattle.iol_core.specs.declared.events.Event.TheVariants as event
use Rattle.iol_core.specs.declared.events.Reply.{Reply}
use Rattle.iol_core.specs.declared.events.Reply.TheVariants as reply
use Rattle.iol_laws.specs.Caller as o
use Rattle.iol_laws.specs.Frame.{Leaves}
use Rattle.iol_laws.specs.Order.{IsOrderly}
use Rattle.iol_proc.specs.declared.process_slot.ProcessSlot.{ProcessSlot}
use Rattle.flash_http.specs.Request.{Answer}
use Rattle.flash_laws.specs.Client.{Client, new_client, uses_agg, Readies}
use Rattle.flash_laws.specs.Client.Fits.{FitsBy, Fits}
use Rattle.flash_laws.specs.Client.Holdings.{has_fd}
use Rattle.flash_laws.specs.Conn as conn
use Rattle.flash_laws.specs.Conn.{Conn, begins}
use Rattle.flash_laws.specs.Workers.WorkerSet.{WorkerSet, IsFixedFor}
use Rattle.flash_laws.specs.Site.Past.{Past}
use Rattle.flash_laws.specs.Site.Places.{EachHasItsOwn, is_run_by, is_free, accepted}
use Rattle.flash_laws.specs.Run.{worker_domain, job_pipe}
use Rattle.flash_laws.specs.Site.ClientConsistency.{Held, Ended, Aside, AreAtJobQueues, FitsAt, AllFit}
use Rattle.flash_laws.specs.SiteContents.{SiteContents, expected_to}
use Rattle.flash_laws.proofs.Site.Expected.{expected-may}
use Rattle.flash_laws.specs.Conn.{new_connection}
use Rattle.flash_laws.proofs.World.Responses.{responds-none}
use Rattle.flash_laws.specs.Site.{server, KeepsSite}
use Rattle.flash_laws.specs.Site.OtherConns.{with_at, Waits}
use Rattle.flash_laws.specs.declared.phase.Phase.{Phase}
use Rattle.flash_laws.specs.declared.phase.Phase.TheVariants as phase
use Rattle.flash_laws.specs.declared.script_run.Running.{Running}
use Rattle.flash_laws.proofs.Forms.{of}
use Rattle.flash_laws.proofs.Conn.Responses.{some-inj}
use Rattle.flash_laws.proofs.Site.InPlaces.{at-same}
use Rattle.flash_laws.proofs.Lists.{clash}
use Rattle.flash_laws.proofs.Site.Others.{site-stays}
use Rattle.flash_laws.proofs.Site.Peers.{after_reply-call}
use Rattle.flash_laws.proofs.Site.OwnWorkers.{free-runs, ready-runs}
use Rattle.flash_laws.proofs.Site.OpenDescriptors.{not-waiting}
use Rattle.flash_laws.proofs.Conn.Uses.{begins-none, begins-no_fd}
use Rattle.flash_laws.proofs.World.AllLaws.{AllLaws}
use Rattle.flash_laws.proofs.World.Calls.{opens-on}
use Rattle.flash_laws.proofs.World.ClientFrame.{fits_beside}
use Rattle.flash_laws.proofs.World.OwnAlone.{alone_readies}
use Rattle.flash_laws.proofs.World.Turn.{replaced, held-on, free-unless, own-call}
use Rattle.flash_laws.proofs.World.TurnLeaves.{conn-left}

-- ---- a client is made ready

-- a connection that is made ready is unchanged, or its next request begins
conn-readied : (x y : Conn) → conn.Readies x y
    → (y ≡ x) ⊎ ((q : Answer) × (rest : List ℕ) × (y ≡ record { buffered = rest; request = q; phase = begins q }))
conn-readied x y ready = by x.phase refl ready
  where
    began : conn.Starts x y
        → (y ≡ x) ⊎ ((q : Answer) × (rest : List ℕ) × (y ≡ record { buffered = rest; request = q; phase = begins q }))
    began (inl waits) = inl waits.1
    began (inr some) = inr (some.0, some.1, some.3)

    by : (d : Phase) → x.phase ≡ d → conn.Readies (record x { phase = d }) y
        → (y ≡ x) ⊎ ((q : Answer) × (rest : List ℕ) × (y ≡ record { buffered = rest; request = q; phase = begins q }))
    by phase.Receiving is r = began (subst (λ (d : Phase). conn.Starts (record x { phase = d }) y) (sym is) r)
    by d is r = inl (r ∙ ap (λ (d : Phase). record x { phase = d }) (sym is))

-- a client that is made ready uses no object that it did not use before
ready-uses : (by_conn : Phase → ℕ → Bool) (by_client : Client → ℕ → Bool)
    → ((c : Conn) (script : List ℕ) (a : ℕ) → by_client (of c None script) a ≡ by_conn c.phase a)
    → ((q : Answer) (a : ℕ) → by_conn (begins q) a ≡ false)
    → (c : Conn) (run : Option Running) (script : List ℕ) (y : Client) (a : ℕ)
    → Readies (of c run script) y → by_client y a ≡ true → by_client (of c run script) a ≡ true
ready-uses by_conn by_client alone none c None script y a ready u = elim (conn-readied c ready.0 ready.1) [
  | inl same ↦ ap (λ (z : Conn). by_client (of z None script) a) (sym same) ∙ is_y
  | inr new ↦
      absurd (clash (by_client (of ready.0 None script) a) is_y (alone ready.0 script a
      ∙ (ap (λ (z : Conn). by_conn z.phase a) new.2 ∙ none new.0 a)))
]
  where
    is_y : by_client (of ready.0 None script) a ≡ true
    is_y = ap (λ (z : Client). by_client z a) (sym ready.2) ∙ u
ready-uses by_conn by_client alone none c (Some y) script z a ready u = ap (λ (v : Client). by_client v a) (sym ready)
    ∙ u

ready-aggs : (c : Conn) (run : Option Running) (script : List ℕ) (y : Client) (a : ℕ) → Readies (of c run script) y
    → uses_agg y a ≡ true → uses_agg (of c run script) a ≡ true
ready-aggs = ready-uses (λ d a. conn.uses_agg d a) (λ x a. uses_agg x a) (λ c script a. refl) (λ q a. begins-none q a)

ready-fds : (c : Conn) (run : Option Running) (script : List ℕ) (y : Client) (g : ℕ) → Readies (of c run script) y
    → has_fd y g ≡ true → has_fd (of c run script) g ≡ true
ready-fds = ready-uses (λ d g. conn.uses_fd d g) (λ x g. has_fd x g) (λ c script g. refl) (λ q g. begins-no_fd q g)

-- and its worker is unchanged
ready-worker : (c : Conn) (run : Option Running) (script : List ℕ) (y : Client) (k : ℕ) → Readies (of c run script) y
    → is_run_by y k ≡ is_run_by (of c run script) k
ready-worker c run script y k ready =
    ap (λ (o : Option Running). is_run_by (of y.conn o y.script) k) (ready-runs c run script y ready)

-- a worker that is free after a change of one place was free before, if the old and the new client of the place have
-- the same workers
free-before : (clients : List (Option Client)) (fd k : ℕ) (x y : Client) → in_place clients fd ≡ Some x
    → (is_run_by y k ≡ is_run_by x k)
    → is_free (with_at clients fd (Some y)) k ≡ true → is_free clients k ≡ true
free-before clients fd k x y at same free = free-unless clients fd k (Some y) stood free
  where
    stood : (z : Client) → in_place clients fd ≡ Some z → is_run_by z k ≡ true → ⊥
    stood z there runs =
        let is_x : x ≡ z = some-inj x z (sym at ∙ there) in
        clash (is_run_by y k) (same ∙ (ap (λ (v : Client). is_run_by v k) is_x ∙ runs))
        (free-runs (with_at clients fd (Some y)) k fd y free (at-same clients fd (Some y)))

module _ (site_contents : SiteContents) (worker_set : WorkerSet) (laws : AllLaws worker_set) where
  -- the picked client is made ready
  pub ready_turn : (m : State) (p : Past) (clients : List (Option Client)) (fd : ℕ) (x y : Client)
      (process_slots : List (ProcessSlot worker_set.Worker))
      → AllFit site_contents worker_set m p clients process_slots → in_place clients fd ≡ Some x → Readies x y
      → EachHasItsOwn worker_set.count (with_at clients fd (Some y))
      → AllFit site_contents worker_set m p (with_at clients fd (Some y)) process_slots
  ready_turn m p clients fd x y process_slots all at ready own =
      replaced site_contents worker_set m m p clients fd (Some y) process_slots all (omega arith)
      (λ z is. subst (λ (w : Client). FitsAt site_contents worker_set m p fd w process_slots) (some-inj y z is)
      (record { conn = (all.each fd x at).conn; fits = fits_y x.run refl }))
      (λ gd z differ is. all.each gd z is)
      (λ k. elsewhere k (all.others k))
      all.left
      (λ gd a z w differ is is_w u v.
      differ
      (all.aggs_apart fd gd a x w at is_w
      (ready-aggs x.conn x.run x.script y a ready (ap (λ (o : Client). uses_agg o a) (some-inj y z is) ∙ u)) v))
      (λ gd g z w differ is is_w u v.
      differ
      (all.fds_apart fd gd g x w at is_w
      (ready-fds x.conn x.run x.script y g ready (ap (λ (o : Client). has_fd o g) (some-inj y z is) ∙ u)) v))
      own
      (λ k process_slot sits free. all.free k process_slot sits
      (free-before clients fd k x y at (ready-worker x.conn x.run x.script y k ready) free))
      all.job_queues
    where
      f : Fits site_contents worker_set m (p.came (all.each fd x at).conn) (p.sent (all.each fd x at).conn) fd
          (all.each fd x at).conn x process_slots
      f = (all.each fd x at).fits

      fits_y : (o : Option Running) → x.run ≡ o
          → Fits site_contents worker_set m (p.came (all.each fd x at).conn) (p.sent (all.each fd x at).conn) fd
          (all.each fd x at).conn y process_slots
      fits_y None none =
          let readied =
          alone_readies site_contents worker_set laws m (p.came (all.each fd x at).conn)
          (p.sent (all.each fd x at).conn) fd (all.each fd x at).conn x y none
          (subst (λ (o : Option Running). FitsBy site_contents worker_set o m (p.came (all.each fd x at).conn)
          (p.sent (all.each fd x at).conn) fd (all.each fd x at).conn x process_slots) none f) ready in
          subst (λ (o : Option Running). FitsBy site_contents worker_set o m (p.came (all.each fd x at).conn)
          (p.sent (all.each fd x at).conn) fd (all.each fd x at).conn y process_slots) (sym readied.0) readied.1
      fits_y (Some z) some =
          subst (λ (v : Client). Fits site_contents worker_set m (p.came (all.each fd x at).conn)
          (p.sent (all.each fd x at).conn) fd (all.each fd x at).conn v process_slots) (sym (same x.run some ready)) f
        where
          same : (o : Option Running) → o ≡ Some z → Readies (of x.conn o x.script) y → y ≡ of x.conn o x.script
          same None is r = absurd (cc (is))
          same (Some v) is r = r

      elsewhere : (k : ℕ) → Held m clients k ⊎ Aside site_contents p k (conn_at m k)
          → Held m (with_at clients fd (Some y)) k ⊎ Aside site_contents p k (conn_at m k)
      elsewhere k (inr aside) = inr aside
      elsewhere k (inl held) = elim (cases_eq fd held.fd) [
        | inl same ↦
            inl (record {
              fd = fd;
              client = y;
              at = at-same clients fd (Some y);
              open_on = subst (λ g. descriptor m server g ≡ Some (on.Connection k)) (sym same) held.open_on;
            })
        | inr differ ↦ inl (held-on m m clients fd k (Some y) held differ held.open_on)
      ]

  -- ---- a connection is accepted

  module _ (m n : State) (p : Past) (clients : List (Option Client)) (fd : ℕ)
      (process_slots : List (ProcessSlot worker_set.Worker)) (order : IsOrderly m)
      (fixed : IsFixedFor site_contents worker_set m) (all : AllFit site_contents worker_set m p clients process_slots)
      (step : StepsTo m (event.Call server call.Accept) (reply.Fd fd) n) (takes : o.TakesConn m server fd n)
      (own : EachHasItsOwn worker_set.count (with_at clients fd (Some new_client))) where
    abbrev ev : Event
    ev = event.Call server call.Accept

    leaves : Leaves m (event.Call server call.Accept) n
    leaves = laws.the.steps.leaves m n (event.Call server call.Accept) (reply.Fd fd) step

    site : KeepsSite m n
    site = site-stays site_contents.finds m n (event.Call server call.Accept) leaves fixed.site refl (λ q. refl)

    -- its place was empty
    none-stood : in_place clients fd ≡ None
    none-stood = by (in_place clients fd) refl
      where
        by : (o : Option Client) → in_place clients fd ≡ o → in_place clients fd ≡ None
        by None is = is
        by (Some y) is =
            let at = all.each fd y is in
            let open_on = opens-on site_contents worker_set laws m (p.came at.conn) (p.sent at.conn) fd at.conn
            process_slots y.conn y.run y.script at.fits in
            let b = takes.new in
            absurd (cc (open_on, b))

    begun : Held m clients takes.conn ⊎ Aside site_contents p takes.conn (conn_at m takes.conn)
        → FitsAt site_contents worker_set n p fd new_client process_slots
    begun (inl held) = absurd (not-waiting m held.fd takes.conn takes.conn order held.open_on takes.waited refl)
    begun (inr (inr (inl ended))) =
        (let a = order.waits takes.conn takes.waited in let b = ended.closed in absurd (cc (a, b)))
    begun (inr (inr (inr foreign))) = (let a = foreign.taken in let b = takes.waited in absurd (cc (a, b)))
    begun (inr (inl waits)) = record {
      conn = takes.conn;
      fits = record {
        open_on = takes.open_on;
        took = [];
        came_is = waits.came_is ∙ ap (λ (k : Connection). bytes_of k.incoming) (sym takes.conn_is);
        expected = expected_to site_contents new_connection.request;
        may = expected-may site_contents new_connection.request;
        consistency =
            inl (
              refl,
              record {
                done = [];
                open_yet = refl;
                reads = refl;
                before = [];
                responds = responds-none site_contents;
                out_is =
                    ap (λ (k : Connection). p.sent takes.conn ++ bytes_of k.outgoing) takes.conn_is ∙ waits.none_sent;
              },
            );
        has = tt;
        finds = tt;
        proper = refl;
      };
    }

    there : (gd : ℕ) (y : Client) → fd ≢ gd → in_place clients gd ≡ Some y
        → FitsAt site_contents worker_set n p gd y process_slots
    there gd y differ is =
        let k = (all.each gd y is).conn in
        let g = (all.each gd y is).fits in
        let open_on = opens-on site_contents worker_set laws m (p.came k) (p.sent k) gd k process_slots y.conn y.run
        y.script g in
        let same = takes.others k (λ here. not-waiting m gd k takes.conn order open_on takes.waited (sym here)) in
        record {
          conn = k;
          fits = subst (λ (l : List ℕ). Fits site_contents worker_set n l (p.sent k) gd k y process_slots)
              (append-nil (p.came k))
              (fits_beside site_contents worker_set laws m n ev (reply.Fd fd) (p.came k) (p.sent k) [] (p.sent k) gd k y
              process_slots order fixed all.job_queues step
              (record {
                own = refl;
                aggs = λ a u. refl;
                fds = λ h u. refl;
                site = site;
                others = λ j lt runs. own-call call.Accept (worker_domain j) j refl;
                job_queues = λ j lt runs. leaves.pipes (worker_set.job_queue j) refl;
                pipe = λ v s q has_run reads has apart going. leaves.pipes q refl;
              })
              (ap (λ (z : Connection). bytes_of z.incoming) same ∙ sym (append-nil (bytes_of (conn_at m k).incoming)))
              (conn-left (conn_at m k) (conn_at n k) (p.sent k) same) g);
        }

    elsewhere : (k : ℕ) → Held m clients k ⊎ Aside site_contents p k (conn_at m k)
        → Held n (with_at clients fd (Some new_client)) k ⊎ Aside site_contents p k (conn_at n k)
    elsewhere k (inl held) =
        inl (held-on m n clients fd k (Some new_client) held (λ is. let a = ap (λ g. descriptor m server g) is in
        let b = takes.new in let e = held.open_on in absurd (cc (a, b, e)))
        (leaves.fds server held.fd (on.Connection k) held.open_on refl))
    elsewhere k (inr (inl waits)) = elim (cases_eq takes.conn k) [
      | inl is ↦
          inl (record {
            fd = fd;
            client = new_client;
            at = at-same clients fd (Some new_client);
            open_on = subst (λ z. descriptor n server fd ≡ Some (on.Connection z)) is takes.open_on;
          })
      | inr differ ↦ inr (inl (subst (λ (z : Connection). Waits p k z) (sym (takes.others k differ)) waits))
    ]
    elsewhere k (inr (inr (inl ended))) =
        let same = takes.others k (λ is. let a = order.waits takes.conn takes.waited in let b = ended.closed in let e =
        ap (λ z. (conn_at m z).closed) is in absurd (cc (a, b, e))) in
        inr (inr (inl (subst (λ (z : Connection). Ended site_contents p k z) (sym same) ended)))
    elsewhere k (inr (inr (inr foreign))) =
        inr
        (inr
        (inr
        (record {
          other_pool = foreign.other_pool;
          taken = laws.the.other.accepted m n server call.Accept (reply.Fd fd) k order step foreign.taken;
        })))

    free-then : (k : ℕ) (process_slot : ProcessSlot worker_set.Worker) → slice_get process_slots k ≡ Some process_slot
        → is_free (with_at clients fd (Some new_client)) k ≡ true
        → worker_set.Free n (worker_set.job_queue k) process_slot
    free-then k process_slot sits free =
        let place = all.job_queues.by k process_slot sits in
        laws.workers.free_others m n (worker_set.job_queue k) process_slot ev (reply.Fd fd) fixed.placed step
        (own-call call.Accept process_slot.by k place.1) (leaves.pipes (worker_set.job_queue k) refl)
        (all.free k process_slot sits (free-unless clients fd k (Some new_client) (λ z there runs. let none =
        none-stood in cc (none, there)) free))

    job_queues-then : AreAtJobQueues worker_set n process_slots
    job_queues-then = record {
      in_slots = all.job_queues.in_slots;
      by = all.job_queues.by;
      job_queues =
          λ k lt. leaves.fds server (job_pipe k) (on.WriteEnd (worker_set.job_queue k)) (all.job_queues.job_queues k lt)
          refl;
    }

    takes-one : AllFit site_contents worker_set n p (with_at clients fd (Some new_client)) process_slots
    takes-one = replaced site_contents worker_set m n p clients fd (Some new_client) process_slots all
        (laws.the.rises m n ev (reply.Fd fd) step)
        (λ y is. subst (λ (z : Client). FitsAt site_contents worker_set n p fd z process_slots)
        (some-inj new_client y is) (begun (all.others takes.conn)))
        there (λ k. elsewhere k (all.others k))
        (λ z. after_reply-call (p.gone z) m n server call.Accept (reply.Fd fd) z order step (all.left z))
        (λ gd a y z differ is_y is_z uses uses_z. let none : false ≡ true =
        ap (λ (w : Client). uses_agg w a) (some-inj new_client y is_y) ∙ uses in absurd (cc))
        (λ gd a y z differ is_y is_z uses uses_z. let none : false ≡ true =
        ap (λ (w : Client). has_fd w a) (some-inj new_client y is_y) ∙ uses in absurd (cc))
        own free-then job_queues-then

  -- a turn in which the server accepts
  pub accept_turn : (m n : State) (p : Past) (clients : List (Option Client)) (r : Reply)
      (process_slots : List (ProcessSlot worker_set.Worker)) → IsOrderly m → IsFixedFor site_contents worker_set m
      → AllFit site_contents worker_set m p clients process_slots → StepsTo m (event.Call server call.Accept) r n
      → EachHasItsOwn worker_set.count (accepted clients r)
      → AllFit site_contents worker_set n p (accepted clients r) process_slots
  accept_turn m n p clients r process_slots order fixed all step own =
      by r (laws.the.own.accepts m n server r order step) step own
    where
      by : (r : Reply) → o.Accepts m server r n → StepsTo m (event.Call server call.Accept) r n
          → EachHasItsOwn worker_set.count (accepted clients r)
          → AllFit site_contents worker_set n p (accepted clients r) process_slots
      by (reply.Fd fd) takes step own = takes-one m n p clients fd process_slots order fixed all step takes own
      by (reply.Refused x) is step own =
          subst (λ (s : State). AllFit site_contents worker_set s p clients process_slots) (sym is) all
      by r did step own = absurd did
