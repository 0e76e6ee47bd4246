-- If all calls of the server and its workers would block, nothing is left to do.
use Rattle.std.proofs.Common.{inl, inr, ◌≡◌, ◌<◌, ℕ, suc, ◌+◌, ◌⊎◌, List, [], ◌∷◌, ◌++◌, take, drop, map, ap, ◌∙◌, refl}
use Rattle.std.proofs.Common.{sym, subst, arith, Option, Some, None, true, false, Bool, slice_get}
use Rattle.std.specs.Prelude.{option_map, ◌&&◌}
use Rattle.std.proofs.lemmas.Bool.Decides.{nat_tests}
use Rattle.std.proofs.lemmas.List.{take-append-drop}
use Rattle.std.proofs.lemmas.Option.{slice_get-map}
use Rattle.iol_core.specs.NumberedLists.{in_place}
use Rattle.iol_core.specs.Text.{bytes_of}
use Rattle.iol_core.specs.State.{State, descriptor, conn_at, may_read}
use Rattle.iol_core.specs.declared.descriptors.Descriptor.TheVariants as on
use Rattle.iol_core.specs.declared.events.Call.{Call}
use Rattle.iol_laws.specs.Order.{IsOrderly}
use Rattle.iol_proc.specs.declared.process_slot.ProcessSlot.{ProcessSlot}
use Rattle.flash_http.specs.MediaType.{is_script}
use Rattle.flash_http.specs.Request.{serve}
use Rattle.flash_laws.specs.Answers.{Reads}
use Rattle.flash_laws.specs.Client.{Client, uses_agg, is_for_script, job_of, awaits}
use Rattle.flash_laws.specs.Client.Fits.{Fits, FitsRun, made_of, response_to}
use Rattle.flash_laws.specs.Conn.{Conn}
use Rattle.flash_laws.specs.Workers.WorkerSet.{WorkerSet, IsFixedFor}
use Rattle.flash_laws.specs.World.Remains.{IsFull, StaysOpen}
use Rattle.flash_laws.specs.Conn.Fits.{IsReadable}
use Rattle.flash_laws.specs.World.Idle.{WouldWait, Blocks, AllBlock, server_quiescent}
use Rattle.flash_laws.specs.Site.Past.{Past}
use Rattle.flash_laws.specs.Site.Places.{is_run_by, has_free, may_go, runs_scripts, filed}
use Rattle.flash_laws.specs.Run.Fits.{Progress}
use Rattle.flash_laws.specs.Run.OfferedBytes.{past_of as past_taken, taken_by}
use Rattle.flash_laws.specs.Site.ClientConsistency.{Held, Aside, AllFit, IsUsed, AreOwned}
use Rattle.flash_laws.specs.SiteContents.{SiteContents, IsAnswer, MayBeExpected}
use Rattle.flash_laws.proofs.Site.Expected.{shown-may}
use Rattle.flash_laws.specs.Workers.OwnWorkers.{RunsForAnother}
use Rattle.flash_laws.specs.Site.{server}
use Rattle.flash_laws.specs.World.Consistency.{past_of, Actor, Serving}
use Rattle.flash_laws.specs.World.{as_actor}
use Rattle.flash_laws.specs.World.Done.{IsHeldUp, IsHeldUpAt, AsksForScript, RunsForHeldUp, AwaitsWorker, IsDone}
use Rattle.flash_laws.specs.World.Done.{IdleIsDone}
use Rattle.flash_laws.specs.declared.script_run.Running.{Running}
use Rattle.flash_laws.specs.declared.script_run.Running.TheVariants.{AwaitingWorker}
use Rattle.flash_laws.proofs.Forms.{of}
use Rattle.flash_laws.proofs.Conn.Responses.{reads-append}
use Rattle.flash_laws.proofs.Lists.{clash, never_passed}
use Rattle.flash_laws.proofs.Site.IdleMoments.{filed-same}
use Rattle.flash_laws.proofs.Site.OwnWorkers.{workers_shared}
use Rattle.flash_laws.proofs.Site.OpenDescriptors.{held-open, conn-same}
use Rattle.flash_laws.proofs.World.AllLaws.{AllLaws}
use Rattle.flash_laws.proofs.World.Idle.Clients.{IsAnsweredSoFar, alone-left}
use Rattle.flash_laws.proofs.World.Idle.Runs.{WorkersAreQuiescent, run-left}
use Rattle.flash_laws.proofs.World.OwnRun.{call-run}

-- the descriptor of a client is open on its connection
fits-open : (site_contents : SiteContents) (worker_set : WorkerSet) (m : State) (came sent : List ℕ) (fd c : ℕ)
    (conn : Conn) (run : Option Running) (script : List ℕ) (process_slots : List (ProcessSlot worker_set.Worker))
    → Fits site_contents worker_set m came sent fd c (of conn run script) process_slots
    → descriptor m server fd ≡ Some (on.Connection c)
fits-open site_contents worker_set m came sent fd c conn None script process_slots f = f.open_on
fits-open site_contents worker_set m came sent fd c conn (Some y) script process_slots f = f.open_on

-- if scripts are run, there are workers
some-workers : (scripts named : Bool) (count : ℕ) → (scripts && named) ≡ true → scripts ≡ runs_scripts count → 0 < count
some-workers true named count asks runs = grind (arith, nat_tests, runs)
some-workers false named count asks runs = absurd (cc (asks))

module _ (site_contents : SiteContents) (worker_set : WorkerSet) (laws : AllLaws worker_set) (m : State)
    (order : IsOrderly m) (fixed : IsFixedFor site_contents worker_set m) (p : Past) (clients : List (Option Client))
    (process_slots : List (ProcessSlot worker_set.Worker))
    (all : AllFit site_contents worker_set m p clients process_slots) (all_owned : AreOwned m p clients)
    (workers : ℕ) (count : workers ≡ worker_set.count) (quiescent : WorkersAreQuiescent worker_set m process_slots)
    (blocked : AllBlock m server workers clients) where
  -- a client that waits for a worker while no worker is free
  record IsPassedOver (x : Client) : Type 0 where
    pub passed : may_go (has_free workers clients) x ≡ false
    pub some : 0 < worker_set.count

  -- a client for which no script runs: all its requests are answered, and it uses no aggregate
  record Rests (c : ℕ) (x : Client) : Type 0 where
    pub answered : IsAnsweredSoFar site_contents m (p.came c) (p.sent c) c
    pub alone : x.run ≡ None
    pub none : (a : ℕ) → uses_agg x a ≡ false

  -- each client rests, or is held up, or is passed over
  abbrev Left : (c : ℕ) → Client → Type 0
  Left c x = Rests c x ⊎ IsHeldUp m c ⊎ IsPassedOver x

  client-left : (fd c : ℕ) (conn : Conn) (run : Option Running) (script : List ℕ)
      → Fits site_contents worker_set m (p.came c) (p.sent c) fd c (of conn run script) process_slots
      → Blocks m server workers clients fd (of conn run script) → Left c (of conn run script)
  client-left fd c conn None script f blocks = elim blocks.1 [
    | inl passed ↦ absurd (never_passed (has_free workers clients) passed)
    | inr step ↦
        elim (alone-left site_contents worker_set laws m order fixed (p.came c) (p.sent c) fd c
        (is_for_script (runs_scripts workers) conn.request) conn.buffered script conn.request conn.phase f blocks.0
        step) [
          | inl rests ↦ inl (record { answered = rests.0; alone = refl; none = rests.1 })
          | inr held ↦ inr (inl held)
        ]
  ]
  client-left fd c conn (Some y) script f blocks = elim blocks.1 [
    | inl passed ↦
        inr
        (inr
        (record {
          passed = passed;
          some =
              some-workers site_contents.scripts (is_script f.wanted.name) worker_set.count f.script.is_for
              fixed.scripts;
        }))
    | inr step ↦
        inr
        (inl (run-left site_contents worker_set laws m order fixed fd c f.wanted (job_of f.wanted f.script.text) y
        process_slots (made_of f.wanted f.script.lines f.shown) f.so_far all.job_queues quiescent f.open_on f.ongoing
        f.has f.job_queue
        (subst (λ (k : Call). WouldWait m server k)
        (call-run (runs_scripts workers) fd conn (Some y) script f.script.text y f.wanted refl f.script.asks
        f.buffered) step)))
  ]

  -- the descriptor of a client in a place
  place-open : (fd : ℕ) (x : Client) (is : in_place clients fd ≡ Some x)
      → descriptor m server fd ≡ Some (on.Connection (all.each fd x is).conn)
  place-open fd x is =
      let there = all.each fd x is in
      fits-open site_contents worker_set m (p.came there.conn) (p.sent there.conn) fd there.conn x.conn x.run x.script
      process_slots there.fits

  -- the client in a place rests, or is held up, or is passed over
  place-left : (fd : ℕ) (x : Client) (is : in_place clients fd ≡ Some x) → Left (all.each fd x is).conn x
  place-left fd x is =
      client-left fd (all.each fd x is).conn x.conn x.run x.script (all.each fd x is).fits (blocked.places fd x is)

  -- a client whose script runs is held up
  runner-held : (fd k : ℕ) (x : Client) (is : in_place clients fd ≡ Some x) → is_run_by x k ≡ true
      → IsHeldUp m (all.each fd x is).conn
  runner-held fd k x is runs = by (place-left fd x is)
    where
      by : Left (all.each fd x is).conn x → IsHeldUp m (all.each fd x is).conn
      by (inl rests) =
          absurd
          (clash (is_run_by x k) runs (ap (λ (o : Option Running). is_run_by (of x.conn o x.script) k) rests.alone))
      by (inr (inl held)) = held
      by (inr (inr over)) =
          absurd (clash (may_go (has_free workers clients) x) (workers_shared.going (has_free workers clients) k x runs)
          over.passed)

  -- the client asks for a script, and this part of its response is taken, or the peer left
  run-asks : (fd c : ℕ) (x : Client) (y : Running)
      (f : FitsRun site_contents worker_set m (p.came c) (p.sent c) fd c x y process_slots)
      → AsksForScript site_contents m p c
      (take (past_taken f.so_far + taken_by y) (response_to f.wanted (made_of f.wanted f.script.lines f.shown)))
  run-asks fd c x y f = elim f.consistency [
    | inl goes ↦ inr (record {
      qs = goes.answers.done;
      request = serve f.wanted;
      rest = x.conn.buffered ++ bytes_of (conn_at m c).incoming;
      reads =
          subst
          (λ (s : List ℕ). Reads s (goes.answers.done ++ serve f.wanted ∷ [])
          (x.conn.buffered ++ bytes_of (conn_at m c).incoming)) (sym f.came_is)
          (reads-append laws.the.windows f.took (bytes_of (conn_at m c).incoming) (goes.answers.done ++ serve f.wanted
          ∷ []) x.conn.buffered goes.answers.reads);
      open_yet = goes.answers.open_yet;
      script = f.script.is_for;
      before = goes.answers.before;
      responds = goes.answers.responds;
      so_far = goes.answers.out_is;
      after = drop (past_taken f.so_far + taken_by y) (response_to f.wanted (made_of f.wanted f.script.lines f.shown));
      may =
          subst (λ (l : List ℕ). MayBeExpected site_contents (serve f.wanted) l)
          (sym
          (take-append-drop (past_taken f.so_far + taken_by y)
          (response_to f.wanted (made_of f.wanted f.script.lines f.shown))))
          (shown-may site_contents x f.wanted f.script f.shown f.may_show);
    })
    | inr alone ↦ inl (all.left c (held-open m fd c order f.open_on).1 alone.gone)
  ]

  runner-asks : (fd c k : ℕ) (conn : Conn) (run : Option Running) (script : List ℕ)
      → Fits site_contents worker_set m (p.came c) (p.sent c) fd c (of conn run script) process_slots
      → is_run_by (of conn run script) k ≡ true → (part : List ℕ) × AsksForScript site_contents m p c part
  runner-asks fd c k conn None script f runs = absurd (cc (runs))
  runner-asks fd c k conn (Some y) script f runs = (
    take (past_taken f.so_far + taken_by y) (response_to f.wanted (made_of f.wanted f.script.lines f.shown)),
    run-asks fd c (of conn (Some y) script) y f,
  )

  -- for a client that waits for a worker this part is empty
  waiter-asks : (fd c : ℕ) (conn : Conn) (run : Option Running) (script : List ℕ)
      → Fits site_contents worker_set m (p.came c) (p.sent c) fd c (of conn run script) process_slots
      → awaits (of conn run script) ≡ true → AsksForScript site_contents m p c []
  waiter-asks fd c conn (Some AwaitingWorker) script f waits =
      subst (λ (l : List ℕ). AsksForScript site_contents m p c l)
      (ap
      (λ (o : Progress). take (past_taken o + 0) (response_to f.wanted (made_of f.wanted f.script.lines f.shown)))
      f.has) (run-asks fd c (of conn (Some AwaitingWorker) script) AwaitingWorker f)
  waiter-asks fd c conn o script f waits = absurd (cc (waits))

  -- a client that is passed over waits for a worker, while each worker runs the script of a client that is held up
  awaits-left : (fd : ℕ) (x : Client) (is : in_place clients fd ≡ Some x) → IsPassedOver x
      → AwaitsWorker site_contents worker_set.count m p clients (all.each fd x is).conn
  awaits-left fd x is over =
      let both = workers_shared.waits workers clients fd x is over.passed in
      record {
        place = fd;
        client = x;
        there = is;
        open_on = place-open fd x is;
        waits = both.0;
        asks = waiter-asks fd (all.each fd x is).conn x.conn x.run x.script (all.each fd x is).fits both.0;
        some = over.some;
        busy = λ k lt. busy k (both.1 k (subst (λ n. k < n) (sym count) lt));
      }
    where
      busy : (k : ℕ) → RunsForAnother clients fd k → RunsForHeldUp site_contents m p clients k
      busy k one =
          let at = all.each one.place one.client one.there in
          let asks = runner-asks one.place at.conn k one.client.conn one.client.run one.client.script at.fits
          one.runs in
          record {
            place = one.place;
            client = one.client;
            there = one.there;
            runs = one.runs;
            conn = at.conn;
            open_on = place-open one.place one.client one.there;
            held = runner-held one.place k one.client one.there one.runs;
            part = asks.0;
            asks = asks.1;
          }

  -- a connection of the server is answered, or held up, or waits for a worker
  abbrev IsLeft : (c : ℕ) → Type 0
  IsLeft c = IsAnsweredSoFar site_contents m (p.came c) (p.sent c) c ⊎ IsHeldUp m c
      ⊎ AwaitsWorker site_contents worker_set.count m p clients c

  held-left : (c : ℕ) → Held m clients c → IsLeft c
  held-left c held =
      let there = all.each held.fd held.client held.at in
      let same : there.conn ≡ c =
      conn-same m held.fd there.conn c (place-open held.fd held.client held.at) held.open_on in
      subst (λ k. IsLeft k) same (by (place-left held.fd held.client held.at))
    where
      by : Left (all.each held.fd held.client held.at).conn held.client
          → IsLeft (all.each held.fd held.client held.at).conn
      by (inl rests) = inl rests.answered
      by (inr (inl is)) = inr (inl is)
      by (inr (inr over)) = inr (inr (awaits-left held.fd held.client held.at over))

  -- each connection of the net, whether the server has it or not
  accepted : (c : ℕ) → p.net c ≡ true → Held m clients c ⊎ Aside site_contents p c (conn_at m c)
      → ((conn_at m c).accepted ≡ true) ⊎ IsFull m clients
  accepted c net (inl held) = inl (held-open m held.fd c order held.open_on).0
  accepted c net (inr (inr (inl ended))) = inl (by (conn_at m c).accepted refl)
    where
      by : (b : Bool) → (conn_at m c).accepted ≡ b → (conn_at m c).accepted ≡ true
      by true is = is
      by false is = (let a = order.waits c is in let b = ended.closed in absurd (cc (a, b)))
  accepted c net (inr (inr (inr foreign))) = inl foreign.taken
  accepted c net (inr (inl waits)) = elim blocked.accept_step [
    | inl most ↦ inr (record { most = most; each = λ fd x is. ((all.each fd x is).conn, place-open fd x is) })
    | inr step ↦
        (let never = ap (λ z. may_read m server z) (sym (waits.pool_is net))
        ∙ laws.the.reasons.nobody_waits m m server c step waits.waits in let may = fixed.site.net_read in
        absurd (cc (never, may)))
  ]

  -- it has its whole answer, unless it is held up, or waits for a worker
  abbrev IsWhole : (c : ℕ) → Type 0
  IsWhole c = IsAnswer site_contents (p.came c) (p.sent c ++ bytes_of (conn_at m c).outgoing) ⊎ IsHeldUp m c
      ⊎ AwaitsWorker site_contents worker_set.count m p clients c

  answered : (c : ℕ) → p.net c ≡ true → (conn_at m c).accepted ≡ true → p.gone c ≡ false
      → Held m clients c ⊎ Aside site_contents p c (conn_at m c) → IsWhole c
  answered c net was live (inl held) = by (held-left c held)
    where
      by : IsLeft c → IsWhole c
      by (inl so_far) = inl so_far.whole
      by (inr left) = inr left
  answered c net was live (inr (inl waits)) = (let a = waits.waits in absurd (cc (a, was)))
  answered c net was live (inr (inr (inr foreign))) = (let a = foreign.other_pool in absurd (cc (a, net)))
  answered c net was live (inr (inr (inl ended))) =
      elim ended.whole [ inl gone ↦ absurd (clash (p.gone c) gone live) | inr done ↦ inl done ]

  -- it is closed, or held up, or waits for a worker, or its peer may send more requests
  abbrev IsClosing : (c : ℕ) → Type 0
  IsClosing c = ((conn_at m c).closed ≡ true) ⊎ IsHeldUp m c ⊎ AwaitsWorker site_contents worker_set.count m p clients c
      ⊎ (((conn_at m c).peer ≡ None) × StaysOpen (p.came c))

  closes : (c : ℕ) → p.net c ≡ true → (conn_at m c).accepted ≡ true
      → Held m clients c ⊎ Aside site_contents p c (conn_at m c) → IsClosing c
  closes c net was (inl held) = by (held-left c held)
    where
      by : IsLeft c → IsClosing c
      by (inl so_far) = inr (inr (inr (so_far.peer, so_far.stays)))
      by (inr (inl is)) = inr (inl is)
      by (inr (inr awaits)) = inr (inr (inl awaits))
  closes c net was (inr (inl waits)) = (let a = waits.waits in absurd (cc (a, was)))
  closes c net was (inr (inr (inr foreign))) = (let a = foreign.other_pool in absurd (cc (a, net)))
  closes c net was (inr (inr (inl ended))) = inl ended.closed

  -- a client that uses an aggregate is held up
  held_up : (fd a : ℕ) (x : Client) → in_place clients fd ≡ Some x → uses_agg x a ≡ true → IsHeldUpAt m fd
  held_up fd a x is uses = by (place-left fd x is)
    where
      by : Left (all.each fd x is).conn x → IsHeldUpAt m fd
      by (inl rests) = absurd (clash (uses_agg x a) uses (rests.none a))
      by (inr (inl held)) = ((all.each fd x is).conn, place-open fd x is, held)
      by (inr (inr over)) =
          absurd
          (clash (uses_agg x a) uses
          ((workers_shared.waiting x (workers_shared.waits workers clients fd x is over.passed).0).0 a))

  -- and the server has only aggregates that such a client uses, or that were given to it
  owned : (a : ℕ) → IsReadable m a → ((used : IsUsed clients a) × IsHeldUpAt m used.fd) ⊎ (p.given a ≡ true)
  owned a readable =
      elim (all_owned a readable) [
        | inl used ↦
            inl (used, held_up used.fd a used.client used.at used.uses)
        | inr given ↦ inr given
      ]

  all-done : IsDone site_contents worker_set.count m p clients
  all-done = record {
    accepted = λ c net. accepted c net (all.others c);
    answered = λ c net was live. answered c net was live (all.others c);
    closes = λ c net was. closes c net was (all.others c);
    held_up = held_up;
    owned = owned;
  }

-- the process slot of a worker, in the world
process_slot-of : {W : Type 0} (workers : List (ProcessSlot W)) (k : ℕ) (process_slot : ProcessSlot W)
    → slice_get workers k ≡ Some process_slot → slice_get (map (λ (v : ProcessSlot W). as_actor v) workers) k
    ≡ Some (as_actor process_slot)
process_slot-of {W = W} workers k process_slot sits = slice_get-map (λ (v : ProcessSlot W). as_actor v) workers k
    ∙ ap (λ (o : Option (ProcessSlot W)). option_map (λ (v : ProcessSlot W). as_actor v) o) sits

module _ (worker_set : WorkerSet) (laws : AllLaws worker_set) where
  pub idle_done : IdleIsDone worker_set
  idle_done quiescent site_contents xs rs w after most idle consistent =
      let s = consistent.in_slots in
      let process_slot : ProcessSlot (Actor worker_set.Worker) =
      record { by = server; process = Serving s.state; last = s.last } in
      let is : server_quiescent 2 server s.state s.last after.machine =
      quiescent.each w after most 0 process_slot idle
      (ap (λ (l : List (ProcessSlot (Actor worker_set.Worker))). slice_get l 0) s.process_slots) in
      let workers : WorkersAreQuiescent worker_set after.machine s.workers =
      λ k v sits. quiescent.each w after most (suc k) (as_actor v) idle
      (ap (λ (l : List (ProcessSlot (Actor worker_set.Worker))). slice_get l (suc k)) s.process_slots
      ∙ process_slot-of s.workers k v sits) in
      let same : filed s.state.workers s.state.clients s.state.pending_call s.last s.serves.received ≡ s.state.clients =
      filed-same laws.left.waits after.machine server s.state s.last s.serves.received is.0 in
      all-done site_contents worker_set laws after.machine consistent.order consistent.fixed (past_of xs rs)
      s.state.clients s.workers
      (subst (λ (l : List (Option Client)). AllFit site_contents worker_set after.machine (past_of xs rs) l s.workers)
      same s.serves.fit)
      (subst (λ (l : List (Option Client)). AreOwned after.machine (past_of xs rs) l) same s.serves.owned)
      s.state.workers s.serves.count workers is.1
