-- A worker's turn, for the client whose script it runs.
use Rattle.std.proofs.Common.{inl, inr, ◌≡◌, ◌≢◌, ◌<◌, ℕ, ◌+◌, ◌==◌, List, [], ◌∷◌, ◌++◌, length, take, ap, ◌∙◌, refl}
use Rattle.std.proofs.Common.{sym, subst, Option, Some, true, false, Bool, slice_get, slice_set}
use Rattle.std.specs.Prelude.{◌||◌, ◌&&◌}
use Rattle.iol_core.specs.NumberedLists.{in_place}
use Rattle.iol_core.specs.Text.{bytes_of}
use Rattle.iol_core.specs.State.{State, Connection, conn_at, descriptor, text, pipe_at}
use Rattle.iol_core.specs.declared.descriptors.Descriptor.TheVariants as on
use Rattle.iol_core.specs.declared.events.Event.TheVariants as event
use Rattle.iol_core.specs.declared.events.Reply.{Reply}
use Rattle.iol_laws.specs.Caller.{is_resource_failure}
use Rattle.iol_laws.specs.Sources.{lie_in}
use Rattle.iol_proc.specs.declared.process_slot.ProcessSlot.{ProcessSlot}
use Rattle.flash_http.specs.Request.{serve, Wanted}
use Rattle.flash_cgi.specs.Expected.{Instead, IsExchanged, Made, text_of}
use Rattle.flash_cgi.specs.Frame.{LeavesAllBut}
use Rattle.flash_cgi.specs.Output.{Outcome, Failed}
use Rattle.flash_cgi.specs.OutputPools.{HoldFiles}
use Rattle.flash_cgi.specs.declared.line.Line.{Line}
use Rattle.flash_laws.specs.Answers.Scripts.{script_response}
use Rattle.flash_laws.specs.Client.{Client, job_of}
use Rattle.flash_laws.specs.Client.Fits.{Answers, FitsRun, Proceeds, ConsistencyRun, made_of, response_to}
use Rattle.flash_laws.specs.Client.Holdings.{has_fd}
use Rattle.flash_laws.specs.Conn.{Conn}
use Rattle.flash_laws.specs.Workers.WorkerSet.{WorkerSet}
use Rattle.flash_laws.specs.Site.Past.{Past}
use Rattle.flash_laws.specs.Site.Places.{is_run_by}
use Rattle.flash_laws.specs.Workers.DeliversText as puts
use Rattle.flash_laws.specs.Workers.DeliversText.{DeliversText, StillDeliversText}
use Rattle.flash_laws.specs.Run.Fits.{Progress, Ran, Broken, NotRun, Follows, HasRun, HasStep}
use Rattle.flash_laws.specs.Run.OfferedBytes.{is_stopping, taken_by}
use Rattle.flash_laws.specs.Run.{is_reading, step_fd, ends_of}
use Rattle.flash_laws.specs.Site.ClientConsistency.{FitsAt}
use Rattle.flash_laws.specs.SiteContents.{SiteContents, AllMayShow, IsAmong}
use Rattle.flash_laws.specs.SiteContents.Expected.{outcomes_by}
use Rattle.flash_laws.specs.Site.{server}
use Rattle.flash_laws.specs.Run.WorkerStates.{HasPipeOf, IsReadyFor, IsGiven, IsDelivering, HasDelivered, IsToCome}
use Rattle.flash_laws.specs.Run.WorkerStates.{IsAtStep}
use Rattle.flash_laws.specs.Run.WorkerStates.{is_starting}
use Rattle.flash_laws.specs.declared.script_run.Run.{Run}
use Rattle.flash_laws.specs.declared.script_run.Step.{Step}
use Rattle.flash_laws.specs.declared.script_run.Step.TheVariants.{GivingPipe, MakingJob, WritingJob, DroppingJob}
use Rattle.flash_laws.specs.declared.script_run.Step.TheVariants.{MakingHead, SendingPart, ReadingOutput}
use Rattle.flash_laws.specs.declared.script_run.Step.TheVariants.{DroppingOutput, JoiningOutput, MakingFrame}
use Rattle.flash_laws.specs.declared.script_run.Step.TheVariants.{FillingFrame, DroppingHeld, DroppingEnd}
use Rattle.flash_laws.specs.declared.script_run.Step.TheVariants.{DiscardingHeld}
use Rattle.flash_laws.specs.declared.script_run.Step.TheVariants.{ClosingOutput, DroppingFrame, MakingEnd, FillingEnd}
use Rattle.flash_laws.specs.declared.script_run.Step.TheVariants.{DroppingLast, DroppingLastFrame}
use Rattle.flash_laws.specs.declared.script_run.Step.TheVariants.{ClosingPipe, DiscardingJob, Failing}
use Rattle.flash_laws.specs.declared.script_run.Running.{Running}
use Rattle.flash_laws.specs.declared.script_run.Running.TheVariants.{InProgress}
use Rattle.flash_laws.proofs.Forms.{of}
use Rattle.flash_laws.proofs.Conn.Responses.{some-inj}
use Rattle.flash_laws.proofs.Lists.{clash, self}
use Rattle.flash_laws.proofs.Conn.Uses.{same-number}
use Rattle.flash_laws.proofs.Given.{given-same}
use Rattle.flash_laws.proofs.Site.Expected.{show-refused}
use Rattle.flash_laws.proofs.World.AllLaws.{AllLaws}
use Rattle.flash_laws.proofs.World.JobQueue.Frame.{none-given, none-touched}
use Rattle.flash_laws.proofs.World.TurnLeaves.{IsCallOf, what-came, IsTurn, IsItsOwn, Touches, leaves-same, set-same}
use Rattle.flash_laws.proofs.World.TurnLeaves.{sits-in, not-server, no-call}

module _ (site_contents : SiteContents) (worker_set : WorkerSet) (laws : AllLaws worker_set) (m n : State) (p : Past)
    (clients : List (Option Client)) (process_slots : List (ProcessSlot worker_set.Worker)) (k : ℕ)
    (process_slot next : ProcessSlot worker_set.Worker) (yields : Bool) (r : Reply)
    (turn : IsTurn site_contents worker_set m n p clients process_slots k process_slot next yields r) where
  -- ---- the pipe that a turn touches

  -- a turn of a free worker changes nothing
  waits : (j : ℕ) → worker_set.Free m j process_slot → (n ≡ m) × worker_set.Free n j next
  waits j free = laws.workers.waits m n j process_slot next yields r turn.order free turn.did

  lt : k < worker_set.count
  lt = (sits-in site_contents worker_set laws m n p clients process_slots k process_slot next yields r turn).0

  own-job_queue : IsItsOwn worker_set m clients k (worker_set.job_queue k)
  own-job_queue = record {
    job_queues = λ l l_lt apart same. apart (laws.apart l k l_lt lt same);
    pipes = λ fd y run s pipe at is none opens has away same. away k lt (sym same);
  }

  pub rests : (j : ℕ) → worker_set.Free m j process_slot → Touches worker_set m n clients k process_slot.by
  rests j free = record {
    pipe = worker_set.job_queue k;
    leaves = subst (λ (s : State). LeavesAllBut m process_slot.by (worker_set.job_queue k) s) (sym (waits j free).0)
        (leaves-same m process_slot.by (worker_set.job_queue k));
    own = own-job_queue;
  }

  -- the server reads this pipe only for the client of this worker
  own-pipe : (fd : ℕ) (x : Client) (run : Run) (q : ℕ) → in_place clients fd ≡ Some x → is_run_by x k ≡ true
      → descriptor m server run.from ≡ Some (on.ReadEnd q)
      → has_fd x run.from ≡ true → ((l : ℕ) → l < worker_set.count → worker_set.job_queue l ≢ q)
      → IsItsOwn worker_set m clients k q
  own-pipe fd x run q at runs opens has away = record {
    job_queues = λ l l_lt apart. away l l_lt;
    pipes = λ gd y other s pipe at_y is none opens_y has_y away_y same.
        let one : other.from ≡ run.from =
        (turn.order.one server server other.from run.from (on.ReadEnd q) refl
        (subst (λ z. descriptor m server other.from ≡ Some (on.ReadEnd z)) same opens_y) opens).1 in
        let place : gd ≡ fd = turn.fit.fds_apart gd fd run.from y x at_y at (subst (λ g. has_fd y g ≡ true) one has_y)
        has in
        let client : x ≡ y = some-inj x y (sym at ∙ subst (λ z. in_place clients z ≡ Some y) place at_y) in
        clash (is_run_by y k) (ap (λ (z : Client). is_run_by z k) (sym client) ∙ runs) none;
  }

  module _ (fd : ℕ) (x : Conn) (script : List ℕ) (run : Run) (made : Made) (o : Progress) where
    module _ (s : Step) (at : in_place clients fd ≡ Some (of x (Some (InProgress run s)) script))
        (runs : (run.worker == k) ≡ true) (has : ends_of run s run.from ≡ true) where
      putting-touches : IsDelivering worker_set m process_slot run made o
          → Touches worker_set m n clients k process_slot.by
      putting-touches h = by h.delivers_text
        where
          here : run.worker ≡ k
          here = same-number run.worker k runs

          by : puts.DeliversText worker_set.turns worker_set.pools worker_set.Free worker_set.Expected m
              (worker_set.job_queue run.worker) h.has.pipe process_slot made h.more
              → Touches worker_set m n clients k process_slot.by
          by (inr there) = rests (worker_set.job_queue run.worker) there.free
          by (inl expected) =
              elim (laws.workers.confined m n (worker_set.job_queue run.worker) h.has.pipe process_slot next yields r
              made
              h.more expected turn.did) [
                | inl left ↦
                    record {
                      pipe = worker_set.job_queue k;
                      leaves = subst (λ l. LeavesAllBut m process_slot.by (worker_set.job_queue l) n) here left;
                      own = own-job_queue;
                    }
                | inr left ↦
                    record {
                      pipe = h.has.pipe;
                      leaves = left;
                      own =
                          own-pipe fd (of x (Some (InProgress run s)) script) run h.has.pipe at runs h.has.reads has
                          h.has.apart;
                    }
              ]

    used : (s : Step) → is_reading s ≡ true → ends_of run s run.from ≡ true
    used s is = by (is_reading s) (run.from == run.from) (step_fd s run.from) is (self run.from)
      where
        by : (a b c : Bool) → a ≡ true → b ≡ true → ((a && b) || c) ≡ true
        by true true c u v = refl
        by true false c u v = absurd (cc (v))
        by false b c u v = absurd (cc (u))

    at-step-touches : (s : Step) → in_place clients fd ≡ Some (of x (Some (InProgress run s)) script)
        → (run.worker == k) ≡ true
        → IsAtStep worker_set m process_slot run made o s
        → Touches worker_set m n clients k process_slot.by
    at-step-touches (MakingJob f) at runs h = rests (worker_set.job_queue run.worker) h.ready.free
    at-step-touches (WritingJob j f) at runs h = rests (worker_set.job_queue run.worker) h.0.ready.free
    at-step-touches (DroppingJob j) at runs h = putting-touches (DroppingJob j) at runs (used (DroppingJob j) refl) h
    at-step-touches MakingHead at runs h = putting-touches MakingHead at runs (used MakingHead refl) h
    at-step-touches (SendingPart d frame) at runs h =
        putting-touches (SendingPart d frame) at runs (used (SendingPart d frame) refl) h
    at-step-touches (ReadingOutput held frame) at runs h =
        putting-touches (ReadingOutput held frame) at runs (used (ReadingOutput held frame) refl) h
    at-step-touches (DroppingOutput a frame) at runs h =
        putting-touches (DroppingOutput a frame) at runs (used (DroppingOutput a frame) refl) h
    at-step-touches (JoiningOutput held size piece len frame) at runs h =
        putting-touches (JoiningOutput held size piece len frame) at runs
        (used (JoiningOutput held size piece len frame) refl) h
    at-step-touches (MakingFrame held) at runs h =
        putting-touches (MakingFrame held) at runs (used (MakingFrame held) refl) h
    at-step-touches (FillingFrame held frame) at runs h =
        putting-touches (FillingFrame held frame) at runs (used (FillingFrame held frame) refl) h
    at-step-touches (DroppingHeld held chunk len frame) at runs h =
        putting-touches (DroppingHeld held chunk len frame) at runs (used (DroppingHeld held chunk len frame) refl) h
    at-step-touches (ClosingPipe write) at runs h = absurd h
    at-step-touches (DiscardingJob j) at runs h = absurd h
    at-step-touches Failing at runs h = absurd h
    at-step-touches s at runs h = rests (worker_set.job_queue run.worker) h.free

  -- the process slot of the worker of a run, if this is worker k
  at-job_queue : (run : Run) (there : ProcessSlot worker_set.Worker) → (run.worker == k) ≡ true
      → slice_get process_slots run.worker ≡ Some there → there ≡ process_slot
  at-job_queue run there runs sits =
      some-inj there process_slot (sym sits
      ∙ subst (λ z. slice_get process_slots z ≡ Some process_slot) (sym (same-number run.worker k runs)) turn.sits)

  pub client-touches : (fd : ℕ) (x : Conn) (run : Option Running) (script : List ℕ)
      → in_place clients fd ≡ Some (of x run script) → is_run_by (of x run script) k ≡ true
      → FitsAt site_contents worker_set m p fd (of x run script) process_slots
      → Touches worker_set m n clients k process_slot.by
  client-touches fd x (Some (InProgress run s)) script at runs f =
      at-step-touches fd x script run (made_of f.fits.wanted f.fits.script.lines f.fits.shown) f.fits.so_far s at runs
      (subst
      (λ (t : ProcessSlot worker_set.Worker). IsAtStep worker_set m t run
      (made_of f.fits.wanted f.fits.script.lines f.fits.shown) f.fits.so_far s)
      (at-job_queue run f.fits.job_queue.process_slot runs f.fits.job_queue.sits) f.fits.job_queue.at_step)
  client-touches fd x run script at runs f = absurd (cc (runs))

  -- ---- its objects after the turn

  module _ (q : ℕ) (left : LeavesAllBut m process_slot.by q n) where
    came : IsCallOf m process_slot.by r n × (next.by ≡ process_slot.by)
    came = what-came worker_set.turns m n process_slot next yields r turn.did

    held-files : HoldFiles worker_set.pools m process_slot.by
    held-files =
        subst (λ d. HoldFiles worker_set.pools m d)
        (sym (sits-in site_contents worker_set laws m n p clients process_slots k process_slot next yields r turn).1)
        (turn.fixed.holds k lt)

    server-fd : (g : ℕ) → descriptor n server g ≡ descriptor m server g
    server-fd g =
        left.fds server g (λ same. not-server site_contents worker_set laws m n p clients process_slots k process_slot
        next yields r turn (sym same))

    module _ (run : Run) where
      abbrev pipe-turn : HasPipeOf worker_set m run → HasPipeOf worker_set n run
      pipe-turn h = record { pipe = h.pipe; reads = server-fd run.from ∙ h.reads; apart = h.apart }

      abbrev ready-turn : IsReadyFor worker_set m process_slot run → IsReadyFor worker_set n next run
      ready-turn h = record {
        free = (waits (worker_set.job_queue run.worker) h.free).1;
        has = pipe-turn h.has;
        new = ap (λ (s : State). pipe_at s h.has.pipe) (waits (worker_set.job_queue run.worker) h.free).0 ∙ h.new;
      }

      given-turn : (fd : ℕ) → IsGiven worker_set m process_slot run fd → IsGiven worker_set n next run fd
      given-turn fd h = record {
        ready = ready-turn h.ready;
        writes = ap (λ (s : State). descriptor s next.by fd) (waits (worker_set.job_queue run.worker) h.ready.free).0
            ∙ (ap (λ d. descriptor m d fd) came.1 ∙ h.writes);
      }

    -- ---- if a call for a file is refused, another response is expected, and the same part of it is written

    module _ (run : Run) (w : Wanted) (lines : List Line) (shown : List Outcome) (o : Progress) (job : ℕ → List ℕ) where
      abbrev made : Made
      made = made_of w lines shown

      -- the invariant of the run after the turn
      record Turned (s : Step) : Type 0 where
        pub shown_now : List Outcome
        pub may_show : (there : List Outcome) → AllMayShow site_contents there shown
            → AllMayShow site_contents there shown_now
        pub fresh : is_starting (InProgress run s) ≡ true → shown_now ≡ shown
        pub consistency : (k : Connection) (took sent buffered : List ℕ)
            → ConsistencyRun site_contents (response_to w (made_of w lines shown)) k took sent buffered w o
            (InProgress run s)
            → ConsistencyRun site_contents (response_to w (made_of w lines shown_now)) k took sent buffered w o
            (InProgress run s)
        pub at_step : IsAtStep worker_set n next run (made_of w lines shown_now) o s

      unchanged : (s : Step) → IsAtStep worker_set n next run (made_of w lines shown) o s → Turned s
      unchanged s at_step = record {
        shown_now = shown;
        may_show = λ there all. all;
        fresh = λ starts. refl;
        consistency = λ k took sent buffered consistency. consistency;
        at_step = at_step;
      }

      put-turn : HasDelivered worker_set m process_slot run made o → HasDelivered worker_set n next run made o
      put-turn h = record { free = (waits (worker_set.job_queue run.worker) h.free).1; whole = h.whole }

      -- the same part of the other response is written
      exchanged : (s : Step) (after : Made) (more later : List ℕ) → is_stopping (InProgress run s) ≡ false
          → HasStep job m w o run s
          → ((front : List ℕ) → text_of made ≡ front ++ more → text_of after ≡ front ++ later)
          → IsToCome o (text_of made) more
          → (k : Connection) (took sent buffered : List ℕ)
          → ConsistencyRun site_contents (response_to w made) k took sent buffered w o (InProgress run s)
          → ConsistencyRun site_contents (response_to w after) k took sent buffered w o (InProgress run s)
      exchanged s after more later going has begins come k took sent buffered (inr left) = inr left
      exchanged s after more later going has begins come k took sent buffered (inl goes) = by o has come goes
        where
          by : (o : Progress) → HasStep job m w o run s → IsToCome o (text_of made) more
              → Proceeds site_contents (response_to w made) took (sent ++ bytes_of k.outgoing) buffered w o
              (InProgress run s)
              → ConsistencyRun site_contents (response_to w after) k took sent buffered w o (InProgress run s)
          by (Ran received ended past) has come goes =
              let is : text_of after ≡ received ++ later = begins received come.1 in
              let same = ap (λ (l : List ℕ). take (length past + taken_by (InProgress run s)) (script_response w l))
              come.1
              ∙ (given-same w received past more later ended job m run s going has
              ∙ ap (λ (l : List ℕ). take (length past + taken_by (InProgress run s)) (script_response w l)) (sym is)) in
              inl (record {
                answers =
                    subst (λ (l : List ℕ). Answers site_contents took (sent ++ bytes_of k.outgoing) buffered
                    (serve w ∷ [])
                    l) same goes.answers;
                may = (
                  later,
                  subst (λ (e : Bool). Follows e later) (sym come.0) tt,
                  ap (λ (l : List ℕ). script_response w l) is,
                );
                whole = goes.whole;
              })
          by Broken has come goes = absurd goes.may
          by (NotRun status past) has come goes = absurd come

      putting-turn : (s : Step) → is_stopping (InProgress run s) ≡ false → is_starting (InProgress run s) ≡ false
          → HasStep job m w o run s
          → ((after : Made) → IsDelivering worker_set n next run after o → IsAtStep worker_set n next run after o s)
          → IsDelivering worker_set m process_slot run made o → Turned s
      putting-turn s going started has at_steps h = by still.instead still.delivers_text
        where
          still : StillDeliversText worker_set.turns worker_set.pools worker_set.Free worker_set.Expected n
              (worker_set.job_queue run.worker) h.has.pipe next made h.more r
          still = laws.texts.turns m n (worker_set.job_queue run.worker) h.has.pipe process_slot next yields r made
              h.more turn.order turn.fixed.placed turn.fixed.files held-files h.delivers_text turn.did
              (turn.order.all_stand server run.from (on.ReadEnd h.has.pipe) h.has.reads)
              (turn.order_after.all_stand server run.from (on.ReadEnd h.has.pipe) (server-fd run.from ∙ h.has.reads))

          come_on : (o : Progress) (after : Made) (later : List ℕ)
              → ((front : List ℕ) → text_of made ≡ front ++ h.more → text_of after ≡ front ++ later)
              → IsToCome o (text_of made) h.more → IsToCome o (text_of after) later
          come_on (Ran received ended past) after later begins come = (come.0, begins received come.1)
          come_on Broken after later begins come = tt
          come_on (NotRun status past) after later begins come = absurd come

          same : DeliversText worker_set.turns worker_set.pools worker_set.Free worker_set.Expected n
              (worker_set.job_queue run.worker) h.has.pipe next made h.more → Turned s
          same puts =
              unchanged s
              (at_steps made (record {
                has = pipe-turn run h.has;
                more = h.more;
                delivers_text = puts;
                to_come =
                    h.to_come;
              }))

          other : (after : Made) (later : List ℕ) (x : IsExchanged r made after h.more later)
              → (shown_then : List Outcome) → after ≡ made_of w lines shown_then
              → ((there : List Outcome) → AllMayShow site_contents there shown
              → AllMayShow site_contents there shown_then)
              → DeliversText worker_set.turns worker_set.pools worker_set.Free worker_set.Expected n
              (worker_set.job_queue run.worker) h.has.pipe next after later → Turned s
          other after later x shown_then is shows puts = record {
            shown_now = shown_then;
            may_show = shows;
            fresh = λ starts. absurd (clash (is_starting (InProgress run s)) starts started);
            consistency =
                subst (λ (a : Made). (k : Connection) (took sent buffered : List ℕ)
                → ConsistencyRun site_contents (response_to w made) k took sent buffered w o (InProgress run s)
                → ConsistencyRun site_contents (response_to w a) k took sent buffered w o (InProgress run s)) is
                (exchanged s after h.more later going has x.begins h.to_come);
            at_step = subst (λ (a : Made). IsAtStep worker_set n next run a o s) is
                (at_steps after (record {
                  has = pipe-turn run h.has;
                  more = later;
                  delivers_text = puts;
                  to_come = come_on o after later x.begins h.to_come;
                }));
          }

          by : Instead r made still.after h.more still.later
              → DeliversText worker_set.turns worker_set.pools worker_set.Free worker_set.Expected n
              (worker_set.job_queue run.worker) h.has.pipe next still.after still.later → Turned s
          by (inl is) puts =
              same
              (subst (λ (l : List ℕ). DeliversText worker_set.turns worker_set.pools worker_set.Free worker_set.Expected
              n (worker_set.job_queue run.worker) h.has.pipe next made l) is.1
              (subst (λ (a : Made). DeliversText worker_set.turns worker_set.pools worker_set.Free worker_set.Expected n
              (worker_set.job_queue run.worker) h.has.pipe next a still.later) is.0 puts))
          by (inr x) puts =
              let may : site_contents.refuses.of_workers x.refused.why ≡ true =
              (subst (λ (l : Reply). IsAmong site_contents.refuses.of_workers l) x.refused.answer turn.among)
              (subst (λ (l : Reply). is_resource_failure l ≡ true) x.refused.answer x.refused.resource_failure) in
              other still.after still.later x (x.refused.past ++ Failed x.refused.why ∷ x.refused.rest) x.refused.is
              (λ there all. show-refused site_contents there x.refused.past x.refused.rest x.refused.instead
              x.refused.why may
              (subst (λ (os : List Outcome). AllMayShow site_contents there os) x.refused.was all))
              puts

      at-step-turn : (s : Step) → HasStep job m w o run s → IsAtStep worker_set m process_slot run made o s → Turned s
      at-step-turn (GivingPipe write) has h = unchanged (GivingPipe write) (ready-turn run h)
      at-step-turn (MakingJob f) has h = unchanged (MakingJob f) (given-turn run f h)
      at-step-turn (WritingJob j f) has h = unchanged (WritingJob j f) (
        given-turn run f h.0,
        subst (λ (u : State). lie_in worker_set.jobs (text u server j) ≡ true)
            (sym (waits (worker_set.job_queue run.worker) h.0.ready.free).0) h.1,
      )
      at-step-turn (DroppingEnd a held frame) has h = unchanged (DroppingEnd a held frame) (put-turn h)
      at-step-turn (DiscardingHeld held frame) has h = unchanged (DiscardingHeld held frame) (put-turn h)
      at-step-turn (ClosingOutput held frame) has h = unchanged (ClosingOutput held frame) (put-turn h)
      at-step-turn (DroppingFrame frame held) has h = unchanged (DroppingFrame frame held) (put-turn h)
      at-step-turn (MakingEnd held) has h = unchanged (MakingEnd held) (put-turn h)
      at-step-turn (FillingEnd held size frame) has h = unchanged (FillingEnd held size frame) (put-turn h)
      at-step-turn (DroppingLast held chunk len frame) has h =
          unchanged (DroppingLast held chunk len frame) (put-turn h)
      at-step-turn (DroppingLastFrame frame chunk len) has h =
          unchanged (DroppingLastFrame frame chunk len) (put-turn h)
      at-step-turn (ClosingPipe write) has h = absurd h
      at-step-turn (DiscardingJob j) has h = absurd h
      at-step-turn Failing has h = absurd h
      at-step-turn s has h = putting-turn s refl refl has (λ after puts. puts) h

    -- the run still has its objects
    has-turn : (job : ℕ → List ℕ) (w : Wanted) (o : Progress) (y : Running) → HasRun job m w o y → HasRun job n w o y
    has-turn job w o y has = by came.0
      where
        by : IsCallOf m process_slot.by r n → HasRun job n w o y
        by (inl same) = subst (λ (s : State). HasRun job s w o y) (sym same) has
        by (inr call) = (laws.runs job).stays m n w y (event.Call process_slot.by call.0) r o call.1
            (λ a used. none-given (event.Call process_slot.by call.0) server a
            (no-call site_contents worker_set laws m n p clients process_slots k process_slot next yields r turn
            call.0))
            (λ g used. none-touched m (event.Call process_slot.by call.0) server g
            (no-call site_contents worker_set laws m n p clients process_slots k process_slot next yields r turn
            call.0)) has

    pub own-fits : (fd : ℕ) (x : Conn) (run : Option Running) (script : List ℕ) → is_run_by (of x run script) k ≡ true
        → FitsAt site_contents worker_set m p fd (of x run script) process_slots
        → FitsAt site_contents worker_set n p fd (of x run script) (slice_set process_slots k next)
    own-fits fd x (Some (InProgress run s)) script runs at = record {
      conn = at.conn;
      fits = record {
        open_on = server-fd fd ∙ f.open_on;
        took = f.took;
        came_is = f.came_is ∙ ap (λ (z : Connection). f.took ++ bytes_of z.incoming) (sym (left.conns at.conn));
        wanted = f.wanted;
        script = f.script;
        shown = turned.shown_now;
        may_show = turned.may_show (outcomes_by site_contents.shows f.script.lines) f.may_show;
        fresh = λ starts. turned.fresh starts ∙ f.fresh starts;
        buffered = f.buffered;
        so_far = f.so_far;
        has = has-turn (job_of f.wanted f.script.text) f.wanted f.so_far (InProgress run s) f.has;
        ongoing = f.ongoing;
        consistency =
            subst
            (λ (z : Connection). ConsistencyRun site_contents
            (response_to f.wanted (made_of f.wanted f.script.lines turned.shown_now)) z f.took (p.sent at.conn)
            x.buffered
            f.wanted f.so_far (InProgress run s))
            (sym (left.conns at.conn)) (turned.consistency (conn_at m at.conn) f.took (p.sent at.conn) x.buffered
            f.consistency);
        job_queue = record {
          process_slot = next;
          sits =
              subst (λ z. slice_get (slice_set process_slots k next) z ≡ Some next)
              (sym (same-number run.worker k runs)) (set-same process_slots k process_slot next turn.sits);
          at_step = turned.at_step;
        };
      };
    }
      where
        f : FitsRun site_contents worker_set m (p.came at.conn) (p.sent at.conn) fd at.conn
            (of x (Some (InProgress run s)) script) (InProgress run s) process_slots
        f = at.fits

        turned : Turned run f.wanted f.script.lines f.shown f.so_far (job_of f.wanted f.script.text) s
        turned = at-step-turn run f.wanted f.script.lines f.shown f.so_far (job_of f.wanted f.script.text) s f.has.1
            (subst
            (λ (t : ProcessSlot worker_set.Worker). IsAtStep worker_set m t run
            (made_of f.wanted f.script.lines f.shown) f.so_far s)
            (at-job_queue run f.job_queue.process_slot runs f.job_queue.sits) f.job_queue.at_step)
    own-fits fd x run script runs at = absurd (cc (runs))
