-- The parts of a client, and of the worker that runs its script, that others leave unchanged.
use Rattle.std.proofs.Common.{inl, inr, ◌≡◌, ◌⊎◌, ℕ, ◌==◌, List, ◌++◌, ap, ◌∙◌, refl, sym, subst, Option, Some, None}
use Rattle.std.proofs.Common.{true, false, append_assoc}
use Rattle.std.specs.Prelude.{is_none, length, ◌≤◌}
use Rattle.iol_core.specs.Text.{bytes_of}
use Rattle.iol_core.specs.State.{State, Connection, File as FileEntry, descriptor, file, may_read, conn_at, is_gone}
use Rattle.iol_core.specs.Run.{StepsTo}
use Rattle.iol_core.specs.declared.descriptors.Descriptor.{Descriptor}
use Rattle.iol_core.specs.declared.descriptors.Descriptor.TheVariants as on
use Rattle.iol_core.specs.declared.descriptors.Mode.TheVariants as modes
use Rattle.iol_core.specs.declared.events.Event.{Event}
use Rattle.iol_core.specs.declared.events.Reply.{Reply}
use Rattle.iol_laws.specs.Frame.{Leaves as Leaving}
use Rattle.iol_laws.specs.Order.{IsOrderly}
use Rattle.iol_proc.specs.declared.process_slot.ProcessSlot.{ProcessSlot}
use Rattle.flash_cgi.specs.Beside.{is_call_of}
use Rattle.flash_http.specs.Request.{Answer, serve, Wanted}
use Rattle.flash_laws.specs.Answers.{Found}
use Rattle.flash_laws.specs.Client.{Client, job_of}
use Rattle.flash_laws.specs.Client.Fits.{Finds, ConsistencyAlone, ConsistencyRun, FitsAlone, FitsRun, Fits, expected_in}
use Rattle.flash_laws.specs.Client.Fits.{made_of, response_to}
use Rattle.flash_laws.specs.Conn as conn
use Rattle.flash_laws.specs.Conn.{Conn, most_read}
use Rattle.flash_cgi.specs.Expected.{Made}
use Rattle.flash_laws.specs.Workers.WorkerSet.{WorkerSet, IsFixedFor}
use Rattle.flash_laws.specs.Run.Fits.{Progress, HasRun}
use Rattle.flash_laws.specs.Run.{job_pipe, is_reading, step_fd, ends_of}
use Rattle.flash_laws.specs.Site.ClientConsistency.{AreAtJobQueues}
use Rattle.flash_laws.specs.SiteContents.{SiteContents, MayBeExpected}
use Rattle.flash_laws.specs.Site.{server, KeepsSite}
use Rattle.flash_laws.specs.Run.WorkerStates.{HasWorkerAt}
use Rattle.flash_laws.specs.declared.phase.Phase.{Phase}
use Rattle.flash_laws.specs.declared.phase.FileResult.TheVariants.{Text as TextOf}
use Rattle.flash_laws.specs.declared.phase.Payload.TheVariants.{Script}
use Rattle.flash_laws.specs.declared.phase.Phase.TheVariants.{Reading as Reading, ClosingFile, Slicing, DroppingWhole}
use Rattle.flash_laws.specs.declared.phase.Phase.TheVariants.{MakingHead}
use Rattle.flash_laws.specs.declared.script_run.Running.{Running}
use Rattle.flash_laws.specs.declared.script_run.Running.TheVariants.{InProgress}
use Rattle.flash_laws.proofs.Forms.{of}
use Rattle.flash_laws.proofs.Conn.ReadableBytes.{readable-stays, has-stays, file-same, content-same}
use Rattle.flash_laws.proofs.Lists.{self, later_of, both-or}
use Rattle.flash_laws.proofs.World.AllLaws.{AllLaws}
use Rattle.flash_laws.proofs.World.JobQueue.Frame.{LeavesOne, at-step-on}
use Rattle.flash_laws.proofs.Site.Expected.{shown-may}
use Rattle.flash_laws.proofs.World.ConsistencyGoes.{consistency-stays, consistency-leaves, run-stays, run-leaves}

-- How a connection and its sent bytes may change. Either the sent bytes with the queued bytes after them are the same,
-- the peer is gone exactly if it was, and if the peer had closed, no bytes arrived; or the peer is gone, and queued
-- bytes are dropped.
pub record Stays (k j : Connection) (sent after : List ℕ) : Type 0 where
  pub total : sent ++ bytes_of k.outgoing ≡ after ++ bytes_of j.outgoing
  pub gone : is_gone j.peer ≡ is_gone k.peer
  pub ended : is_none k.peer ≡ false → (j.incoming ≡ k.incoming) × (is_none j.peer ≡ false)

pub record Leaves (k j : Connection) (sent after : List ℕ) : Type 0 where
  pub gone : is_gone j.peer ≡ true
  pub dropped : List ℕ
  pub total : sent ++ bytes_of k.outgoing ≡ (after ++ bytes_of j.outgoing) ++ dropped

abbrev pub Changes : (k j : Connection) (sent after : List ℕ) → Type 0
Changes k j sent after = Stays k j sent after ⊎ Leaves k j sent after

-- ---- the invariant after a change of the connection

consistency_goes : (site_contents : SiteContents) (k j : Connection) (took sent after : List ℕ) (x : Client)
    (expected : List ℕ) → MayBeExpected site_contents x.conn.request expected → Changes k j sent after
    → ConsistencyAlone site_contents expected k took sent x → ConsistencyAlone site_contents expected j took after x
consistency_goes site_contents k j took sent after x expected may (inl s) consistency =
    consistency-stays site_contents k j took sent after s.total s.gone s.ended x expected consistency
consistency_goes site_contents k j took sent after x expected may (inr l) consistency =
    consistency-leaves site_contents k j took sent after l.dropped l.gone l.total x expected may consistency

run_goes : (site_contents : SiteContents) (k j : Connection) (took sent after buffered : List ℕ) (x : Client)
    → Changes k j sent after → (w : Wanted) (expected : List ℕ) → MayBeExpected site_contents (serve w) expected
    → (o : Progress) (y : Running)
    → ConsistencyRun site_contents expected k took sent buffered w o y
    → ConsistencyRun site_contents expected j took after buffered w o y
run_goes site_contents k j took sent after buffered x (inl s) w expected may o y consistency =
    run-stays site_contents k j took sent after s.total s.gone s.ended buffered w expected o y consistency
run_goes site_contents k j took sent after buffered x (inr l) w expected may o y consistency =
    run-leaves site_contents k j took sent after l.dropped l.gone l.total buffered w expected may o y consistency

came_on : (came took incoming now more : List ℕ) → came ≡ took ++ incoming → now ≡ incoming ++ more
    → came ++ more ≡ took ++ now
came_on came took incoming now more is grows = ap (λ (l : List ℕ). l ++ more) is
    ∙ (append_assoc took incoming more ∙ ap (λ (l : List ℕ). took ++ l) (sym grows))

-- ---- the file that is read is the requested one

abbrev OpensOn : State → State → Phase → Type 0
OpensOn m n d = (g : ℕ) (x : Descriptor) → conn.uses_fd d g ≡ true → descriptor m server g ≡ Some x
    → descriptor n server g ≡ Some x

finds_on : (site_contents : SiteContents) (m n : State) (q : Answer) (script : List ℕ) (d : Phase) → OpensOn m n d
    → KeepsSite m n
    → ((p : ℕ) → may_read m server p ≡ true → may_read n server p ≡ true) → Finds site_contents m q script d
    → Finds site_contents n q script d
finds_on site_contents m n q script (Reading f) opens site may h = record {
  number = h.number;
  open_on = opens f (on.File h.number 0 modes.Read) (self f) h.open_on;
  may = subst (λ (x : FileEntry). may_read n server x.pool ≡ true) (sym (file-same m n h.number site.files))
      (may (file m h.number).pool h.may);
  short = subst (λ (l : List ℕ). length l ≤ most_read) (sym (content-same m n h.number site.slots)) h.short;
  found = h.found ∙ ap (λ (l : List ℕ). Found l) (sym (content-same m n h.number site.slots));
}
finds_on site_contents m n q script (ClosingFile f (TextOf a true)) opens site may h = h
finds_on site_contents m n q script (ClosingFile f k) opens site may h = h
finds_on site_contents m n q script (Slicing a from to len) opens site may h = h
finds_on site_contents m n q script (DroppingWhole a Script) opens site may h = h
finds_on site_contents m n q script (DroppingWhole a k) opens site may h = h
finds_on site_contents m n q script (MakingHead k) opens site may h = h
finds_on site_contents m n q script d opens site may h = tt

-- ---- a client

module _ (site_contents : SiteContents) (worker_set : WorkerSet) (laws : AllLaws worker_set) (m n : State) (e : Event)
    (r : Reply) (came sent more after : List ℕ) (fd c : ℕ)
    (process_slots : List (ProcessSlot worker_set.Worker)) (order : IsOrderly m)
    (fixed : IsFixedFor site_contents worker_set m) (job_queues : AreAtJobQueues worker_set m process_slots)
    (step : StepsTo m e r n)
    (grows : bytes_of (conn_at n c).incoming ≡ bytes_of (conn_at m c).incoming ++ more)
    (changes : Changes (conn_at m c) (conn_at n c) sent after) where
  leaves : Leaving m e n
  leaves = laws.the.steps.leaves m n e r step

  alone_on : (x : Conn) (script : List ℕ) → LeavesOne worker_set m n e fd (of x None script)
      → FitsAlone site_contents m came sent fd c (of x None script)
      → FitsAlone site_contents n (came ++ more) after fd c (of x None script)
  alone_on x script left f = record {
    open_on = leaves.fds server fd (on.Connection c) f.open_on left.own;
    took = f.took;
    came_is = came_on came f.took (bytes_of (conn_at m c).incoming) (bytes_of (conn_at n c).incoming) more f.came_is
        grows;
    expected = f.expected;
    may = f.may;
    consistency = consistency_goes site_contents (conn_at m c) (conn_at n c) f.took sent after (of x None script)
        f.expected f.may changes f.consistency;
    has =
        has-stays m n x.request (expected_in f.expected x.request x.phase) x.phase
        (λ a bytes u is. readable-stays laws.the.steps m n e r step a bytes is (left.aggs a u))
        (λ g y u is. leaves.fds server g y is (left.fds g u)) f.has;
    finds = finds_on site_contents m n x.request script x.phase (λ g y u is. leaves.fds server g y is (left.fds g u))
        left.site (λ p may. leaves.readers server p may) f.finds;
    proper = f.proper;
  }

  job_queue_on : (x : Conn) (y : Running) (script : List ℕ) (job : ℕ → List ℕ) (w : Wanted) (made : Made) (o : Progress)
      → LeavesOne worker_set m n e fd (of x (Some y) script)
      → HasRun job m w o y → HasWorkerAt worker_set m process_slots made o y
      → HasWorkerAt worker_set n process_slots made o y
  job_queue_on x (InProgress run s) script job w made o left has h =
      let sits = job_queues.by run.worker h.process_slot h.sits in
      let reads : is_reading s ≡ true → ends_of run s run.from ≡ true =
      λ is. both-or (is_reading s) (run.from == run.from) (step_fd s run.from) is (self run.from) in
      record {
        process_slot = h.process_slot;
        sits = h.sits;
        at_step = at-step-on worker_set laws m n e r order fixed.placed step left.site run h.process_slot
            (subst (λ d. is_call_of e d ≡ false) (sym sits.1) (left.others run.worker sits.0 (self run.worker)))
            (left.job_queues run.worker sits.0 (self run.worker))
            job w made o s left.aggs
            (λ is. left.fds run.from (later_of (job_pipe run.worker == run.from) (ends_of run s run.from) (reads is)))
            (λ is going p opens apart. left.pipe run s p refl opens (reads is) apart going) has.1 h.at_step;
      }
  job_queue_on x y script job w made o left has h = tt

  run_on : (x : Conn) (y : Running) (script : List ℕ) → LeavesOne worker_set m n e fd (of x (Some y) script)
      → FitsRun site_contents worker_set m came sent fd c (of x (Some y) script) y process_slots
      → FitsRun site_contents worker_set n (came ++ more) after fd c (of x (Some y) script) y process_slots
  run_on x y script left f = record {
    open_on = leaves.fds server fd (on.Connection c) f.open_on left.own;
    took = f.took;
    came_is = came_on came f.took (bytes_of (conn_at m c).incoming) (bytes_of (conn_at n c).incoming) more f.came_is
        grows;
    wanted = f.wanted;
    script = f.script;
    shown = f.shown;
    may_show = f.may_show;
    fresh = f.fresh;
    buffered = f.buffered;
    so_far = f.so_far;
    has = (laws.runs (job_of f.wanted f.script.text)).stays m n f.wanted y e r f.so_far step left.aggs left.fds f.has;
    ongoing = f.ongoing;
    consistency = run_goes site_contents (conn_at m c) (conn_at n c) f.took sent after x.buffered (of x (Some y) script)
        changes f.wanted
        (response_to f.wanted (made_of f.wanted f.script.lines f.shown))
        (shown-may site_contents (of x (Some y) script) f.wanted f.script f.shown f.may_show) f.so_far y
        f.consistency;
    job_queue =
        job_queue_on x y script (job_of f.wanted f.script.text) f.wanted (made_of f.wanted f.script.lines f.shown)
        f.so_far left f.has f.job_queue;
  }

  fits_by : (x : Conn) (run : Option Running) (script : List ℕ) → LeavesOne worker_set m n e fd (of x run script)
      → Fits site_contents worker_set m came sent fd c (of x run script) process_slots
      → Fits site_contents worker_set n (came ++ more) after fd c (of x run script) process_slots
  fits_by x None script left f = alone_on x script left f
  fits_by x (Some y) script left f = run_on x y script left f

module _ (site_contents : SiteContents) (worker_set : WorkerSet) (laws : AllLaws worker_set) where
  -- an event that leaves the objects of a client and its worker unchanged preserves the client's invariant
  pub fits_beside : (m n : State) (e : Event) (r : Reply) (came sent more after : List ℕ) (fd c : ℕ) (x : Client)
      (process_slots : List (ProcessSlot worker_set.Worker)) → IsOrderly m → IsFixedFor site_contents worker_set m
      → AreAtJobQueues worker_set m process_slots
      → StepsTo m e r n → LeavesOne worker_set m n e fd x
      → bytes_of (conn_at n c).incoming ≡ bytes_of (conn_at m c).incoming ++ more
      → Changes (conn_at m c) (conn_at n c) sent after
      → Fits site_contents worker_set m came sent fd c x process_slots
      → Fits site_contents worker_set n (came ++ more) after fd c x process_slots
  fits_beside m n e r came sent more after fd c x process_slots order fixed job_queues step left grows changes f =
      fits_by site_contents worker_set laws m n e r came sent more after fd c process_slots order fixed job_queues step
      grows changes x.conn x.run x.script left f
