-- The worker of a run until it has its job: it is assigned, gets the pipe, and its job is made and written.
use Rattle.std.proofs.Common.{inl, inr, ◌≡◌, ◌≢◌, ◌<◌, ◌≤◌, ℕ, List, [], ◌∷◌, ◌++◌, length, ap, ◌∙◌, refl, sym, subst}
use Rattle.std.proofs.Common.{arith, Option, Some, None, true, false, Bool, slice_get, if◌then◌else◌}
use Rattle.std.specs.Prelude.{◌==◌, ◌&&◌, nat_le, unwrap_or}
use Rattle.std.specs.List.{AllByRecursion}
use Rattle.std.specs.Str.{is_utf8}
use Rattle.std.specs.List.{slice_split}
use Rattle.std.proofs.lemmas.Bool.Decides.{nat_tests}
use Rattle.std.proofs.lemmas.Fmt.{length-decimal-le}
use Rattle.std.proofs.lemmas.List.{take_all, length-map}
use Rattle.iol_core.specs.NumberedLists.{lowest, in_place}
use Rattle.iol_core.specs.Text.{Text, bytes_of}
use Rattle.iol_core.specs.State.{State, Pipe, descriptor, is_live, may_read, text, pipe_at, no_pipe}
use Rattle.iol_core.specs.Calls.Aggregates.{default_pool}
use Rattle.iol_core.specs.declared.limits.TheConstants.{MAX_OPEN}
use Rattle.iol_core.specs.declared.descriptors.Descriptor.{Descriptor}
use Rattle.iol_core.specs.declared.descriptors.Descriptor.TheVariants as on
use Rattle.iol_core.specs.declared.events.Call.TheVariants as call
use Rattle.iol_core.specs.declared.events.Event.TheVariants as event
use Rattle.iol_core.specs.declared.events.Reply.{Reply}
use Rattle.iol_core.specs.declared.events.Reply.TheVariants as reply
use Rattle.iol_laws.specs.Caller.{readable_at, PutsInPipe, WritesPipe}
use Rattle.iol_laws.specs.Order.{IsOrderly}
use Rattle.iol_laws.specs.Sources.{lie_in}
use Rattle.iol_laws.proofs.Places.{lowest-free}
use Rattle.iol_proc.specs.declared.process_slot.ProcessSlot.{ProcessSlot}
use Rattle.flash_http.specs.Request.{Wanted}
use Rattle.flash_cgi.specs.Expected.{Made}
use Rattle.flash_cgi.specs.Job.{job_text}
use Rattle.flash_cgi.specs.Output.{Outcome, output}
use Rattle.flash_cgi.specs.Outcomes.{outcome_in, outcomes_in}
use Rattle.flash_cgi.specs.Script.{script_of, lines_in, is_line_feed}
use Rattle.flash_cgi.specs.JobStart.{HasJob}
use Rattle.flash_cgi.specs.declared.line.Line.{Line}
use Rattle.flash_cgi.specs.declared.script.TheConstants.{MAX_SCRIPT_BYTES}
use Rattle.flash_cgi.proofs.JobText.{length-job_text}
use Rattle.flash_laws.specs.Client.{Client, job_of}
use Rattle.flash_laws.specs.Client.Fits.{IsScript, made_of, response_to}
use Rattle.flash_laws.specs.Workers.WorkerSet.{WorkerSet}
use Rattle.flash_laws.specs.Run.Fits.{Progress, nothing_yet, HasPipe}
use Rattle.flash_laws.specs.Run.OfferedBytes.{is_failing, IsLost}
use Rattle.flash_laws.specs.Run.{worker_domain, job_pipe, is_again, after_wait, after_give, after_make, after_hand}
use Rattle.flash_laws.specs.Site.ClientConsistency.{AreAtJobQueues}
use Rattle.flash_laws.specs.SiteContents.{SiteContents}
use Rattle.flash_laws.specs.SiteContents.Expected.{outcomes_by}
use Rattle.flash_laws.specs.Site.{server}
use Rattle.flash_laws.specs.Run.WorkerStates.{IsReadyFor, IsGiven, IsDelivering}
use Rattle.flash_laws.specs.declared.script_run.Run.{Run}
use Rattle.flash_laws.specs.declared.script_run.Step.{Step}
use Rattle.flash_laws.specs.declared.script_run.Step.TheVariants.{GivingPipe, MakingJob, WritingJob, DroppingJob}
use Rattle.flash_laws.specs.declared.script_run.Step.TheVariants.{ClosingPipe, DiscardingJob}
use Rattle.flash_laws.specs.declared.script_run.Running.{Running}
use Rattle.flash_laws.specs.declared.script_run.Running.TheVariants.{AwaitingWorker, InProgress}
use Rattle.flash_laws.proofs.Lists.{not-equal, clash, self}
use Rattle.flash_laws.proofs.Run.Stays.{write-elsewhere}
use Rattle.flash_laws.proofs.World.AllLaws.{AllLaws}
use Rattle.flash_laws.proofs.World.JobQueue.After.{JobQueueAfter, may_same, cut_same, cut_whole, same_on}
use Rattle.flash_laws.proofs.World.JobQueue.Calls.{OwnCall, Still, leaves, own_things, own_files, other, free_on}
use Rattle.flash_laws.proofs.World.JobQueue.Calls.{ready_on, given_on}

-- ---- an open pipe is not the next new one

not_there : (m : State) (p : ℕ) → lowest m.pipes ≡ p → (pipe_at m p).writing ≡ true → ⊥
unfolding pipe_at
not_there m p e writes =
    let free = ap (λ q. in_place m.pipes q) (sym e) ∙ lowest-free m.pipes in
    clash (pipe_at m p).writing writes (ap (λ (o : Option Pipe). (unwrap_or o no_pipe).writing) free)

read_number : (p q : ℕ) (o : Option Descriptor) → o ≡ Some (on.ReadEnd p) → o ≡ Some (on.ReadEnd q) → p ≡ q
read_number p q o x y = cc (x, y)

write_number : (p q : ℕ) (o : Option Descriptor) → o ≡ Some (on.WriteEnd p) → o ≡ Some (on.WriteEnd q) → p ≡ q
write_number p q o x y = cc (x, y)

-- ---- a job is short

script_short : (script : List ℕ) (lines : List Line) → script_of script ≡ Some lines → length script ≤ MAX_SCRIPT_BYTES
script_short script lines is = by (nat_le (length script) MAX_SCRIPT_BYTES) (is_utf8 script) refl is
  where
    by : (a b : Bool) → nat_le (length script) MAX_SCRIPT_BYTES ≡ a
        → (if a && b then lines_in (slice_split is_line_feed script) else None) ≡ Some lines
        → length script ≤ MAX_SCRIPT_BYTES
    by true b e is = grind (arith, nat_tests, e)
    by false b e is = absurd (cc (is))

short_job : (f : ℕ) (query script : List ℕ) → f < MAX_OPEN → length query ≤ 8192 → length script ≤ MAX_SCRIPT_BYTES
    → length (job_text f query script) ≤ 65536
short_job f query script few short_query short_script =
    let whole = length-job_text f query script in
    let a = length-decimal-le 9 f (omega arith) (omega (arith, few)) (omega (arith, few)) in
    let b =
    length-decimal-le 9 (length query) (omega arith) (omega (arith, short_query)) (omega (arith, short_query)) in
    let d =
    length-decimal-le 9 (length script) (omega arith) (omega (arith, short_script)) (omega (arith, short_script)) in
    omega (arith, whole, a, b, d, short_query, short_script)

-- ---- after a write to an empty pipe, the pipe has only the bytes written

both_true : (a b : Bool) → (a && b) ≡ true → (a ≡ true) × (b ≡ true)
both_true true b is = (refl, is)
both_true false b is = absurd (cc (is))

all_may : (jobs : ℕ → Bool) (n : State) (d : ℕ) (t : Text) → ((q : ℕ) → jobs q ≡ true → may_read n d q ≡ true)
    → lie_in jobs t ≡ true → AllByRecursion (λ b. may_read n d b.1 ≡ true) t
all_may jobs n d [] may lies = tt
all_may jobs n d (b ∷ t) may lies = let parts = both_true (jobs b.1) (lie_in jobs t) lies in
    (may b.1 parts.0, all_may jobs n d t may parts.1)

lies_whole : (m n : State) (p k : ℕ) (bytes : List ℕ) → PutsInPipe m p bytes k n → (pipe_at m p).queue ≡ []
    → length bytes ≤ 65536
    → (bytes_of (pipe_at n p).queue ≡ bytes) × (length (pipe_at n p).queue ≤ 65536)
    × ((pipe_at n p).writing ≡ (pipe_at m p).writing)
lies_whole m n p k bytes puts empty short =
    let queue : (pipe_at n p).queue ≡ puts.text = ap (λ (x : Pipe). x.queue) puts.pipe
    ∙ ap (λ (t : Text). t ++ puts.text) empty in
    let none : length (pipe_at m p).queue ≡ 0 = ap (λ (t : Text). length t) empty in
    let most = puts.most in
    let all : length bytes ≤ k = omega (arith, most, none, short) in
    let is : bytes_of (pipe_at n p).queue ≡ bytes = ap (λ (t : Text). bytes_of t) queue
    ∙ (puts.text_is ∙ take_all k bytes all) in
    let size = length-map (pipe_at n p).queue (λ b. b.0) in
    let same = ap (λ (l : List ℕ). length l) is in
    (is, omega (arith, size, same, short), ap (λ (x : Pipe). x.writing) puts.pipe)

module _ (site_contents : SiteContents) (worker_set : WorkerSet) (laws : AllLaws worker_set) (m n : State) (c : ℕ)
    (process_slots : List (ProcessSlot worker_set.Worker)) (w : Wanted) (o after : Progress) where
  -- a free worker lives, and reads its jobs
  pub not_lost : IsOrderly m → AreAtJobQueues worker_set m process_slots
      → (run : Run) (step : Step) (process_slot : ProcessSlot worker_set.Worker)
      → slice_get process_slots run.worker ≡ Some process_slot
      → worker_set.Free m (worker_set.job_queue run.worker) process_slot → IsLost m (InProgress run step) → ⊥
  not_lost order job_queues run step process_slot sits free lost = by lost
    where
      at : (run.worker < worker_set.count) × (process_slot.by ≡ worker_domain run.worker)
      at = job_queues.by run.worker process_slot sits

      reads : (pipe_at m (worker_set.job_queue run.worker)).reading ≡ true
      reads =
          order.all_stand process_slot.by 0 (on.ReadEnd (worker_set.job_queue run.worker))
          (laws.workers.none m (worker_set.job_queue run.worker) process_slot free).jobs

      by : IsLost m (InProgress run step) → ⊥
      by (inl dead) =
          clash (is_live m (worker_domain run.worker))
          (subst (λ d. is_live m d ≡ true) at.1
          (laws.workers.none m (worker_set.job_queue run.worker) process_slot free).live) dead
      by (inr shut) = clash (pipe_at m (worker_set.job_queue run.worker)).reading reads
          (ap (λ p. (pipe_at m p).reading)
          (write_number (worker_set.job_queue run.worker) shut.0 (descriptor m server (job_pipe run.worker))
          (job_queues.job_queues run.worker at.0) shut.1) ∙ shut.2)

  module _ (made : Made) where
    abbrev After : Running → Running → Type 0
    After y z = JobQueueAfter worker_set m n c process_slots w made y z o after

    -- ---- a worker is assigned

    pub awaits : (worker : ℕ) (r : Reply) → OwnCall site_contents worker_set m n call.Pipe r process_slots → IsOrderly n
        → (worker < worker_set.count) × ((process_slot : ProcessSlot worker_set.Worker)
        → slice_get process_slots worker ≡ Some process_slot
        → worker_set.Free m (worker_set.job_queue worker) process_slot)
        → after ≡ o → After AwaitingWorker (after_wait worker r)
    awaits worker (reply.Fds from write) h now hired same =
        let did = laws.the.own.makes_pipe m n server (reply.Fds from write) h.step in
        let left = leaves site_contents worker_set laws m n call.Pipe (reply.Fds from write) process_slots h in
        let in_slots = h.job_queues.in_slots worker hired.0 in
        let stands = h.order.all_stand server (job_pipe worker) (on.WriteEnd (worker_set.job_queue worker))
        (h.job_queues.job_queues worker hired.0) in
        let stays =
        left.pipes (worker_set.job_queue worker)
        (not-equal (lowest m.pipes) (worker_set.job_queue worker)
        (λ e. not_there m (worker_set.job_queue worker) e stands)) in
        record {
          job_queue = record {
            process_slot = in_slots.0;
            sits = in_slots.1;
            at_step = record {
              free = free_on site_contents worker_set laws m n call.Pipe (reply.Fds from write) process_slots h worker
                  in_slots.0 in_slots.1 stays (hired.1 in_slots.0 in_slots.1);
              has = record {
                pipe = did.pipe;
                reads = did.read_end;
                apart = λ k few e.
                    let was = h.job_queues.job_queues k few in
                    let is = left.fds server (job_pipe k) (on.WriteEnd (worker_set.job_queue k)) was refl in
                    let one =
                    now.one server server (job_pipe k) write (on.WriteEnd did.pipe) refl
                    (subst (λ q. descriptor n server (job_pipe k) ≡ Some (on.WriteEnd q)) e is) did.write_end in
                    let none = ap (λ g. descriptor m server g) one.1 ∙ did.new_writes in
                    (let z = sym was ∙ none in cc (z));
              };
              new = did.empty;
            };
          };
          freed = λ k process_slot at was gone. absurd (cc (was));
          may = may_same (response_to w made) w AwaitingWorker (after_wait worker (reply.Fds from write)) o after same;
          cut = cut_whole m c AwaitingWorker (after_wait worker (reply.Fds from write)) refl;
        }
    awaits worker r h now hired same = record {
      job_queue = tt;
      freed = λ k process_slot at was gone. absurd (cc (was));
      may = may_same (response_to w made) w AwaitingWorker AwaitingWorker o after same;
      cut = cut_whole m c AwaitingWorker AwaitingWorker refl;
    }

    -- ---- the worker gets the pipe

    pub gives : (run : Run) (write : ℕ) (r : Reply) (process_slot : ProcessSlot worker_set.Worker)
        (sits : slice_get process_slots run.worker ≡ Some process_slot)
        (ready : IsReadyFor worker_set m process_slot run)
        → HasPipe m run write → OwnCall site_contents worker_set m n (call.GiveFd write (worker_domain run.worker)) r
        process_slots
        → (is_failing (InProgress run (after_give write r)) ≡ true → ⊥) → after ≡ o
        → After (InProgress run (GivingPipe write)) (InProgress run (after_give write r))
    gives run write r process_slot sits ready has h buffered same = by r h buffered
      where
        again : (r : Reply) (h : OwnCall site_contents worker_set m n (call.GiveFd write (worker_domain run.worker)) r
            process_slots) → IsReadyFor worker_set n process_slot run
        again r h =
            let left = leaves site_contents worker_set laws m n (call.GiveFd write (worker_domain run.worker)) r
            process_slots h in
            ready_on site_contents worker_set laws m n (call.GiveFd write (worker_domain run.worker)) r process_slots h
            run process_slot sits (λ p. left.pipes p refl) ready
            (left.fds server run.from (on.ReadEnd ready.has.pipe) ready.has.reads (write-elsewhere m run write has))

        handed :
            (f : ℕ) (h : OwnCall site_contents worker_set m n (call.GiveFd write (worker_domain run.worker))
            (reply.Fd f) process_slots) → IsGiven worker_set n process_slot run f
        handed f h =
            let left = leaves site_contents worker_set laws m n (call.GiveFd write (worker_domain run.worker))
            (reply.Fd f) process_slots h in
            let number =
            read_number has.pipe ready.has.pipe (descriptor m server run.from) has.read_end ready.has.reads in
            let writes = subst (λ p. descriptor m server write ≡ Some (on.WriteEnd p)) number has.write_end in
            let did = laws.the.own.gives_fd m n server write (worker_domain run.worker) (on.WriteEnd ready.has.pipe)
            (reply.Fd f) writes h.step in
            record {
              ready = record {
                free = free_on site_contents worker_set laws m n (call.GiveFd write (worker_domain run.worker))
                    (reply.Fd f) process_slots h run.worker process_slot sits
                    (left.pipes (worker_set.job_queue run.worker) refl) ready.free;
                has = record {
                  pipe = ready.has.pipe;
                  reads =
                      left.fds server run.from (on.ReadEnd ready.has.pipe) ready.has.reads
                      (write-elsewhere m run write has);
                  apart = ready.has.apart;
                };
                new = left.pipes ready.has.pipe refl ∙ ready.new;
              };
              writes =
                  subst (λ d. descriptor n d f ≡ Some (on.WriteEnd ready.has.pipe))
                  (sym (h.job_queues.by run.worker process_slot sits).1) did.open_on;
            }

        by : (r : Reply) → OwnCall site_contents worker_set m n (call.GiveFd write (worker_domain run.worker)) r
            process_slots → (is_failing (InProgress run (after_give write r)) ≡ true → ⊥)
            → After (InProgress run (GivingPipe write)) (InProgress run (after_give write r))
        by (reply.Fd f) h buffered =
            same_on worker_set m n c process_slots w made o after run (GivingPipe write) (MakingJob f) process_slot sits
            same
            (cut_same m c (InProgress run (GivingPipe write)) (InProgress run (MakingJob f)) refl) (handed f h)
        by (reply.Refused x) h buffered = either (is_again x) buffered
          where
            either : (b : Bool)
                → (is_failing (InProgress run (if b then GivingPipe write else ClosingPipe write)) ≡ true → ⊥)
                → After (InProgress run (GivingPipe write))
                (InProgress run (if b then GivingPipe write else ClosingPipe write))
            either true buffered =
                same_on worker_set m n c process_slots w made o after run (GivingPipe write) (GivingPipe write)
                process_slot sits same
                (cut_same m c (InProgress run (GivingPipe write)) (InProgress run (GivingPipe write)) refl)
                (again (reply.Refused x) h)
            either false buffered = absurd (buffered refl)
        by r h buffered =
            same_on worker_set m n c process_slots w made o after run (GivingPipe write) (GivingPipe write)
            process_slot
            sits same (cut_same m c (InProgress run (GivingPipe write)) (InProgress run (GivingPipe write)) refl)
            (again r h)

    -- ---- its job is made

    pub makes : (bytes : List ℕ) (run : Run) (f : ℕ) (r : Reply) (process_slot : ProcessSlot worker_set.Worker)
        (sits : slice_get process_slots run.worker ≡ Some process_slot) → IsGiven worker_set m process_slot run f
        → OwnCall site_contents worker_set m n (call.AggMake bytes) r process_slots → Still m n → after ≡ o
        → After (InProgress run (MakingJob f)) (InProgress run (after_make f r))
    makes bytes run f (reply.Agg j) process_slot sits given h stays same =
        same_on worker_set m n c process_slots w made o after run (MakingJob f) (WritingJob j f) process_slot sits same
        (cut_same m c (InProgress run (MakingJob f)) (InProgress run (WritingJob j f)) refl) (
          given_on site_contents worker_set laws m n (call.AggMake bytes) (reply.Agg j) process_slots h run process_slot
              sits stays f given,
          laws.labels.aggs worker_set.jobs m n (event.Call server (call.AggMake bytes)) (reply.Agg j) server j h.order
              h.step
              (λ u. laws.labels.fresh worker_set.jobs (default_pool m server) bytes h.fixed.default)
              (λ u. absurd (clash (j == j) (self j) u)),
        )
    makes bytes run f r process_slot sits given h stays same =
        same_on worker_set m n c process_slots w made o after run (MakingJob f) (MakingJob f) process_slot sits same
        (cut_same m c (InProgress run (MakingJob f)) (InProgress run (MakingJob f)) refl)
        (given_on site_contents worker_set laws m n (call.AggMake bytes) r process_slots h run process_slot sits stays f
        given)

  -- ---- its job is written

  module _ (x : Client) (s : IsScript site_contents x w) (shown : List Outcome)
      (fresh : shown ≡ outcomes_by site_contents.shows s.lines) (run : Run) (f j : ℕ)
      (process_slot : ProcessSlot worker_set.Worker) (sits : slice_get process_slots run.worker ≡ Some process_slot)
      (given : IsGiven worker_set m process_slot run f)
      (lies : lie_in worker_set.jobs (text m server j) ≡ true)
      (is_readable : readable_at m server j ≡ Some (job_of w s.text f)) where
    abbrev job_queue : ℕ
    job_queue = worker_set.job_queue run.worker

    abbrev pipe : ℕ
    pipe = given.ready.has.pipe

    -- the whole job is in the job queue
    begun : (k : ℕ) (h : OwnCall site_contents worker_set m n (call.IolWrite (job_pipe run.worker) j) (reply.Count k)
        process_slots)
        → ((p : ℕ) → p ≢ job_queue → pipe_at n p ≡ pipe_at m p) → descriptor n server run.from ≡ Some (on.ReadEnd pipe)
        → IsDelivering worker_set n process_slot run (made_of w s.lines shown) nothing_yet
    begun k h stays reads =
        let at = h.job_queues.by run.worker process_slot sits in
        let puts = laws.the.own.write_pipe m n server (job_pipe run.worker) job_queue j (job_of w s.text f)
        (reply.Count k) h.order (h.job_queues.job_queues run.worker at.0) is_readable h.step in
        let none = laws.workers.none m job_queue process_slot given.ready.free in
        let left = own_things site_contents worker_set laws m n (call.IolWrite (job_pipe run.worker) j) (reply.Count k)
        process_slots h run.worker process_slot sits in
        let files = own_files site_contents worker_set laws m n (call.IolWrite (job_pipe run.worker) j) (reply.Count k)
        process_slots h run.worker process_slot sits in
        let few = h.fixed.low process_slot.by f (on.WriteEnd pipe) given.writes in
        let short = short_job f w.query s.text few s.proper.0 (script_short s.text s.lines s.is_script) in
        let there = lies_whole m n job_queue k (job_of w s.text f) puts none.empty short in
        let empty = ap (λ (t : Text). lie_in worker_set.jobs t) none.empty in
        let jobs = laws.labels.pipes worker_set.jobs m n (event.Call server (call.IolWrite (job_pipe run.worker) j))
        (reply.Count k) job_queue h.step (λ u. lies) empty in
        let reader =
        subst (λ d. (q : ℕ) → worker_set.jobs q ≡ true → may_read m d q ≡ true) (sym at.1)
        (h.fixed.read_jobs run.worker at.0) in
        let job : HasJob n process_slot.by job_queue pipe f w.query s.text s.lines = record {
          live = left.live none.live;
          jobs = left.fds 0 (on.ReadEnd job_queue) none.jobs;
          text = there.0;
          readable =
              all_may worker_set.jobs n process_slot.by (pipe_at n job_queue).queue (λ q u. left.readers q (reader q u))
              jobs;
          short = there.1;
          open_on = left.fds f (on.WriteEnd pipe) given.writes;
          apart = given.ready.has.apart run.worker at.0;
          is_script = s.is_script;
          fds = omega (arith, few);
        } in
        let new = stays pipe (λ e. given.ready.has.apart run.worker at.0 (sym e)) ∙ given.ready.new in
        let expected =
        laws.workers.begins m n job_queue pipe f process_slot w.query s.text s.lines
        (event.Call server (call.IolWrite (job_pipe run.worker) j)) (reply.Count k) h.fixed.placed given.ready.free
        h.step (other site_contents worker_set laws m n (call.IolWrite (job_pipe run.worker) j) (reply.Count k)
        process_slots h run.worker process_slot sits) job (there.2 ∙ none.writing)
        (ap (λ (x : Pipe). lie_in worker_set.pools x.queue) new) in
        let outcomes = laws.expected.outcomes n process_slot.by site_contents.shows s.lines
        (λ name. files.outcomes name ∙ subst (λ d. outcome_in m d name ≡ site_contents.shows name) (sym at.1)
        (h.fixed.shows run.worker at.0 name)) in
        record {
          has = record { pipe = pipe; reads = reads; apart = given.ready.has.apart };
          more = output w.query s.lines shown;
          delivers_text =
              inl
              (subst (λ (os : List Outcome). worker_set.Expected n job_queue pipe process_slot (made_of w s.lines os)
              (output w.query s.lines os)) (outcomes ∙ sym fresh)
              (subst (λ (x : Pipe). worker_set.Expected n job_queue pipe process_slot
              (record {
                before = bytes_of x.queue;
                query = w.query;
                lines = s.lines;
                outcomes = outcomes_in n process_slot.by s.lines;
              })
              (bytes_of x.queue ++ output w.query s.lines (outcomes_in n process_slot.by s.lines))) new expected));
          to_come = (refl, refl);
        }

    abbrev AfterReply : Step → Type 0
    AfterReply later =
        JobQueueAfter worker_set m n c process_slots w (made_of w s.lines shown) (InProgress run (WritingJob j f))
        (InProgress run later) o after

    pub hands : (r : Reply)
        → OwnCall site_contents worker_set m n (call.IolWrite (job_pipe run.worker) j) r process_slots
        → ((p : ℕ) → p ≢ job_queue → pipe_at n p ≡ pipe_at m p)
        → descriptor n server run.from ≡ Some (on.ReadEnd pipe)
        → (is_failing (InProgress run (after_hand j f r)) ≡ true → ⊥)
        → o ≡ nothing_yet → after ≡ o
        → AfterReply (after_hand j f r)
    hands r h stays reads buffered begins same = by r h buffered
      where
        wrote : (r : Reply)
            → OwnCall site_contents worker_set m n (call.IolWrite (job_pipe run.worker) j) r process_slots
            → WritesPipe m job_queue (job_of w s.text f) r n
        wrote r h = laws.the.own.write_pipe m n server (job_pipe run.worker) job_queue j (job_of w s.text f) r h.order
            (h.job_queues.job_queues run.worker (h.job_queues.by run.worker process_slot sits).0) is_readable h.step

        again : n ≡ m → AfterReply (WritingJob j f)
        again is = same_on worker_set m n c process_slots w (made_of w s.lines shown) o after run (WritingJob j f)
            (WritingJob j f) process_slot sits same
            (cut_same m c (InProgress run (WritingJob j f)) (InProgress run (WritingJob j f)) refl)
            (subst (λ (u : State). IsGiven worker_set u process_slot run f
            × (lie_in worker_set.jobs (text u server j) ≡ true)) (sym is) (given, lies))

        by : (r : Reply) → OwnCall site_contents worker_set m n (call.IolWrite (job_pipe run.worker) j) r process_slots
            → (is_failing (InProgress run (after_hand j f r)) ≡ true → ⊥) → AfterReply (after_hand j f r)
        by (reply.Count k) h buffered =
            same_on worker_set m n c process_slots w (made_of w s.lines shown) o after run (WritingJob j f)
            (DroppingJob j)
            process_slot sits same
            (cut_same m c (InProgress run (WritingJob j f)) (InProgress run (DroppingJob j)) refl)
            (subst (λ (p : Progress). IsDelivering worker_set n process_slot run (made_of w s.lines shown) p)
            (sym (same ∙ begins)) (begun k h stays reads))
        by (reply.Refused y) h buffered = either (is_again y) buffered
          where
            either : (b : Bool) → (is_failing (InProgress run (if b then WritingJob j f else DiscardingJob j)) ≡ true
                → ⊥)
                → AfterReply (if b then WritingJob j f else DiscardingJob j)
            either true buffered = again (wrote (reply.Refused y) h)
            either false buffered = absurd (buffered refl)
        by r h buffered = absurd (wrote r h)
