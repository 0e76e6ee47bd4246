-- If the files do not change, a script outputs one text.
use Rattle.std.proofs.Common.{inl, inr, ◌≡◌, ◌⊎◌, ℕ, List, [], ◌∷◌, ◌++◌, append_assoc, ap, ◌∙◌, refl, sym, subst, Some}
use Rattle.std.proofs.Common.{true, false, Bool}
use Rattle.std.proofs.lemmas.List.{append_cancel_right}
use Rattle.iol_core.specs.Text.{bytes_of}
use Rattle.iol_core.specs.State.{State, Pipe, descriptor, pipe_at, is_live}
use Rattle.iol_core.specs.Positions.{ArePlaced}
use Rattle.iol_core.specs.Run.{StepsTo}
use Rattle.iol_core.specs.declared.descriptors.Descriptor.TheVariants as on
use Rattle.iol_core.specs.declared.events.Event.{Event}
use Rattle.iol_core.specs.declared.events.Reply.{Reply}
use Rattle.iol_core.specs.declared.events.Reply.TheVariants as reply
use Rattle.iol_laws.specs.Caller.{CallsServeTheirDomain, ClosesWriteEnd}
use Rattle.iol_laws.specs.Order.{IsOrderly}
use Rattle.iol_laws.specs.Others.{GoesFromFront}
use Rattle.iol_proc.specs.Turns.{ProcessSlotTurn}
use Rattle.iol_proc.specs.World.{copying}
use Rattle.iol_proc.specs.declared.process_slot.ProcessSlot.{ProcessSlot}
use Rattle.flash_cgi.specs.Beside.{is_call_of, LeavesFiles, LeavesJobs, LeavesWorker, Receives, OthersReceive}
use Rattle.flash_cgi.specs.Expected.{Made, text_of, HasJobQueue, HasRest, IsExpected, IsWritten, GaveFront, Goes}
use Rattle.flash_cgi.specs.Expected.{ScriptsHaveOneOutput}
use Rattle.flash_cgi.specs.Feeds.{Needs}
use Rattle.flash_cgi.specs.Free.{HasNoJob}
use Rattle.flash_cgi.specs.Frame.{LeavesAllBut, WorkersAreConfined}
use Rattle.flash_cgi.specs.Outcomes.{AreFiles, outcomes_in}
use Rattle.flash_cgi.specs.Output.{Outcome, Failed, output}
use Rattle.flash_cgi.specs.JobStart.{HasJob}
use Rattle.flash_cgi.specs.Turns.{IsFree, is_given, step_of, Awaits, RunsJob, outcomes_to_come, ReadsItsFile, Resolves}
use Rattle.flash_cgi.specs.Turns.{Proceeds, IsOver, TurnsFeed}
use Rattle.flash_cgi.specs.Works.{worker_turns}
use Rattle.flash_cgi.specs.declared.line.Line.{Line}
use Rattle.flash_cgi.specs.declared.phase.Phase.{Phase}
use Rattle.flash_cgi.specs.declared.phase.Phase.TheVariants as phase
use Rattle.flash_cgi.specs.declared.phase.Standing.TheVariants as standing
use Rattle.flash_cgi.specs.declared.worker.Worker.{Worker}
use Rattle.flash_cgi.proofs.Beside.{free_still}
use Rattle.flash_cgi.proofs.Free.{FreeTurn, free_turn}
use Rattle.flash_cgi.proofs.JobStart.{all_taken}

begins : (m : State) (j p fd : ℕ) (process_slot : ProcessSlot Worker) (query script : List ℕ) (lines : List Line)
    → IsFree m process_slot → HasJob m process_slot.by j p fd query script lines
    → (pipe_at m j).writing ≡ true
    → IsExpected m j p process_slot (record {
      before = bytes_of (pipe_at m p).queue;
      query = query;
      lines = lines;
      outcomes = outcomes_in m process_slot.by lines;
    })
    (bytes_of (pipe_at m p).queue ++ output query lines (outcomes_in m process_slot.by lines))
begins m j p fd process_slot query script lines free has writing = record {
  unseen = λ os. bytes_of (pipe_at m p).queue ++ output query lines os;
  runs =
      inl (record {
        jobs = j;
        fd = fd;
        query = query;
        script = script;
        lines = lines;
        free = free;
        has = has;
        is = λ os. refl;
      });
  reads = tt;
  is = refl;
  resolved = [];
  gave = refl;
  past = [];
  all = λ os. refl;
  job_queue = record { jobs = has.jobs; writing = writing; apart = has.apart };
  rest = tt;
}

-- ---- the job pipe over a turn of its worker

same_pipe : (m : State) (d j k : ℕ) → descriptor m d 0 ≡ Some (on.ReadEnd j) → descriptor m d 0 ≡ Some (on.ReadEnd k)
    → k ≡ j
same_pipe m d j k one two = pipe_of j k (sym one ∙ two)
  where
    pipe_of : (j k : ℕ) → Some (on.ReadEnd j) ≡ Some (on.ReadEnd k) → k ≡ j
    pipe_of j k e = cc

-- a free worker runs no script
free_waits : (m : State) (process_slot : ProcessSlot Worker) → IsFree m process_slot
    → Needs m process_slot.by (step_of m process_slot).phase → ⊥
free_waits m process_slot free needs = subst (λ (x : Phase). Needs m process_slot.by x) free.waits needs

free_was_after_reply : (process_slot : ProcessSlot Worker) (m : State) (a : ℕ) → IsFree m process_slot
    → process_slot.process.step.phase ≡ phase.Waiting → process_slot.process.standing ≡ standing.Asked
    → process_slot.last ≡ reply.Agg a → ⊥
free_was_after_reply process_slot m a free waits asked last =
    let given = ap (λ (x : Phase). is_given x process_slot.last) waits
    ∙ ap (λ (l : Reply). is_given phase.Waiting l) last in
    let none = sym given ∙ free.not_given asked in
    cc (none)

free_has_rest : (m : State) (j p : ℕ) (process_slot : ProcessSlot Worker) (unseen : List Outcome
    → List ℕ) (runs : RunsJob m p process_slot unseen) → IsFree m process_slot → HasRest m j p process_slot unseen runs
free_has_rest m j p process_slot unseen (inl h) free = tt
free_has_rest m j p process_slot unseen (inr (inl h)) free =
    absurd (free_was_after_reply process_slot m h.agg free h.waits h.asked h.last)
free_has_rest m j p process_slot unseen (inr (inr i)) free = absurd (free_waits m process_slot free i.feeds.needs)

-- if the job pipe is empty, HasRest holds
nothing_left : (m : State) (j p : ℕ) (process_slot : ProcessSlot Worker) (unseen : List Outcome
    → List ℕ) (runs : RunsJob m p process_slot unseen) → (pipe_at m j).queue ≡ []
    → HasRest m j p process_slot unseen runs
nothing_left m j p process_slot unseen (inl h) empty = tt
nothing_left m j p process_slot unseen (inr h) empty = empty

module _ (own : CallsServeTheirDomain) (confined : WorkersAreConfined) (m n : State) (j p : ℕ)
    (process_slot next : ProcessSlot Worker) (yields : Bool) (r : Reply)
    (order : IsOrderly m) (did : ProcessSlotTurn copying worker_turns m process_slot yields r n next) where
  -- the worker stays in its domain
  stays_in : next.by ≡ process_slot.by
  stays_in = by did
    where
      by : ProcessSlotTurn copying worker_turns m process_slot yields r n next → next.by ≡ process_slot.by
      by (inl starved) = ap (λ (s : ProcessSlot Worker). s.by) starved.process_slot_stays
      by (inr moves) = moves.domain_stays

  -- the job pipe after the turn
  record Leaves (job_queue : HasJobQueue m process_slot.by j p) : Type 0 where
    jobs : descriptor n process_slot.by 0 ≡ Some (on.ReadEnd j)
    writing : (pipe_at n j).writing ≡ true
    lives : is_live n process_slot.by ≡ true
    -- the pipe is empty; or the turn changed nothing, and the worker is free
    empty : ((pipe_at n j).queue ≡ []) ⊎ ((n ≡ m) × IsFree n next)

  -- after a turn that changes only the output pipe
  untouched : (job_queue : HasJobQueue m process_slot.by j p) → is_live m process_slot.by ≡ true
      → (pipe_at m j).queue ≡ [] → LeavesAllBut m process_slot.by p n → Leaves job_queue
  untouched job_queue live empty leaves =
      let pipe = leaves.pipes j job_queue.apart in
      record {
        jobs = leaves.job_queue j job_queue.apart job_queue.jobs;
        writing = ap (λ (x : Pipe). x.writing) pipe ∙ job_queue.writing;
        lives = leaves.lives process_slot.by live;
        empty = inl (ap (λ (x : Pipe). x.queue) pipe ∙ empty);
      }

  -- after a turn of a worker whose job waits
  awaited : (job_queue : HasJobQueue m process_slot.by j p) (unseen : List Outcome → List ℕ)
      → Awaits m p process_slot unseen → Leaves job_queue
  awaited job_queue unseen h = by (free_turn m n process_slot next yields r h.has.live h.free did)
    where
      both : LeavesAllBut m process_slot.by j n × (descriptor n process_slot.by 0 ≡ Some (on.ReadEnd j))
      both = confined.free m n j process_slot next yields r h.has.live h.free job_queue.jobs did

      by : FreeTurn m n process_slot.by next r → Leaves job_queue
      by (inl same) = record {
        jobs = both.1;
        writing = ap (λ u. (pipe_at u j).writing) same.0 ∙ job_queue.writing;
        lives = both.0.lives process_slot.by h.has.live;
        empty = inr same;
      }
      by (inr given) =
          let takes = own.read_pipe m n process_slot.by 0 j 65536 (reply.Agg given.0) order job_queue.jobs given.1 in
          let has =
          subst (λ k. HasJob m process_slot.by k p h.fd h.query h.script h.lines)
          (same_pipe m process_slot.by j h.jobs job_queue.jobs h.has.jobs) h.has in
          record {
            jobs = both.1;
            writing = ap (λ (x : Pipe). x.writing) takes.pipe ∙ job_queue.writing;
            lives = both.0.lives process_slot.by h.has.live;
            empty = inl (all_taken m n process_slot.by j p h.fd given.0 h.query h.script h.lines has takes);
          }

  leaves : (job_queue : HasJobQueue m process_slot.by j p) (unseen : List Outcome
      → List ℕ) (runs : RunsJob m p process_slot unseen) → HasRest m j p process_slot unseen runs → Leaves job_queue
  leaves job_queue unseen (inl h) rest = awaited job_queue unseen h
  leaves job_queue unseen (inr (inl h)) rest =
      untouched job_queue h.begins.feeds.live rest (confined.begins m n p process_slot next yields r unseen h did)
  leaves job_queue unseen (inr (inr i)) rest =
      untouched job_queue i.feeds.live rest (confined.runs m n p process_slot next yields r unseen i did)

  job_queue_after : (job_queue : HasJobQueue m process_slot.by j p) → Leaves job_queue → HasJobQueue n next.by j p
  job_queue_after job_queue l =
      record { jobs = ap (λ d. descriptor n d 0) stays_in ∙ l.jobs; writing = l.writing; apart = job_queue.apart }

  rest_after : (job_queue : HasJobQueue m process_slot.by j p) → Leaves job_queue
      → (unseen : List Outcome → List ℕ) (runs : RunsJob n p next unseen) → HasRest n j p next unseen runs
  rest_after job_queue l unseen runs = by l.empty
    where
      by : ((pipe_at n j).queue ≡ []) ⊎ ((n ≡ m) × IsFree n next) → HasRest n j p next unseen runs
      by (inl empty) = nothing_left n j p next unseen runs empty
      by (inr free) = free_has_rest n j p next unseen runs free.1

  -- once the output pipe's write end is closed, the job pipe is empty
  none_after : (job_queue : HasJobQueue m process_slot.by j p) → Leaves job_queue → (pipe_at m p).writing ≡ true
      → (pipe_at n p).writing ≡ false → HasNoJob n next.by j
  none_after job_queue l was now = record {
    live = ap (λ d. is_live n d) stays_in ∙ l.lives;
    jobs = ap (λ d. descriptor n d 0) stays_in ∙ l.jobs;
    empty = by l.empty;
    writing = l.writing;
  }
    where
      by : ((pipe_at n j).queue ≡ []) ⊎ ((n ≡ m) × IsFree n next) → (pipe_at n j).queue ≡ []
      by (inl empty) = empty
      by (inr free) = (let e = sym was ∙ (sym (ap (λ u. (pipe_at u p).writing) free.0) ∙ now) in absurd (cc (e)))

-- the worker has the write end of the output pipe
abbrev pub Writing : (m : State) → (p : ℕ) → ProcessSlot Worker → Type 0
Writing m p process_slot = (fd : ℕ) × (descriptor m process_slot.by fd ≡ Some (on.WriteEnd p))

pub writing : (m : State) (p : ℕ) (process_slot : ProcessSlot Worker) (unseen : List Outcome → List ℕ)
    → RunsJob m p process_slot unseen → Writing m p process_slot
writing m p process_slot unseen (inl h) = (h.fd, h.has.open_on)
writing m p process_slot unseen (inr (inl h)) = (h.job.fd, h.begins.feeds.open_on)
writing m p process_slot unseen (inr (inr i)) = (process_slot.process.job.fd, i.feeds.open_on)

-- after a close of the write end, the pipe has no writer
closed_now : (m n : State) (p : ℕ) (r : Reply) → r ≡ reply.Done → ClosesWriteEnd m p r n → (pipe_at n p).writing ≡ false
closed_now m n p r done closes = (subst (λ (l : Reply). ClosesWriteEnd m p l n) done closes).0

turns : TurnsFeed → CallsServeTheirDomain → WorkersAreConfined
    → (m n : State) (j p : ℕ) (process_slot next : ProcessSlot Worker) (yields : Bool) (r : Reply) (made : Made)
    (text : List ℕ) → IsOrderly m → ArePlaced m → AreFiles m
    → IsExpected m j p process_slot made text → ProcessSlotTurn copying worker_turns m process_slot yields r n next
    → Goes m n j p next made text r
turns feeds own confined m n j p process_slot next yields r made text order placed good expected did =
    by (feeds m n p process_slot next yields r expected.unseen order expected.runs did)
  where
    left : Leaves own confined m n j p process_slot next yields r order did expected.job_queue
    left = leaves own confined m n j p process_slot next yields r order did expected.job_queue expected.unseen
        expected.runs expected.rest

    open_yet : (pipe_at m p).writing ≡ true
    open_yet =
        (let w = writing m p process_slot expected.unseen expected.runs in
        order.all_stand process_slot.by w.0 (on.WriteEnd p) w.1)

    -- it continues with the same output
    same : IsExpected n j p next made text ⊎ IsWritten m n j p next text r ⊎ ((pipe_at n p).reading ≡ false)
        → Goes m n j p next made text r
    same goes = record { after = made; later = text; instead = inl (refl, refl); goes = goes }

    goes-expected :
        (g : Proceeds m n p next r expected.unseen (outcomes_to_come m p process_slot expected.unseen expected.runs)
        (ReadsItsFile m p process_slot expected.unseen expected.runs)) (after : Made) (later : List ℕ)
        → after.before ≡ made.before → after.query ≡ made.query → after.lines ≡ made.lines
        → after.outcomes ≡ expected.resolved
        ++ (g.resolved ++ outcomes_to_come n p next (λ os. expected.unseen (g.resolved ++ os)) g.runs)
        → later ≡ expected.unseen (g.resolved ++ outcomes_to_come n p next (λ os. expected.unseen (g.resolved ++ os))
        g.runs)
        → ReadsItsFile n p next (λ os. expected.unseen (g.resolved ++ os)) g.runs → IsExpected n j p next after later
    goes-expected g after later before query lines outcomes is reads = record {
      unseen = λ os. expected.unseen (g.resolved ++ os);
      runs = g.runs;
      reads = reads;
      is = is;
      resolved = expected.resolved ++ g.resolved;
      gave =
          outcomes
          ∙ sym
          (append_assoc expected.resolved g.resolved
          (outcomes_to_come n p next (λ os. expected.unseen (g.resolved ++ os)) g.runs));
      past = expected.past;
      all = λ os. ap (λ (l : List ℕ). l ++ output after.query after.lines ((expected.resolved ++ g.resolved) ++ os))
          before
          ∙ (ap (λ (q : List ℕ). made.before ++ output q after.lines ((expected.resolved ++ g.resolved) ++ os)) query
          ∙ (ap (λ (ls : List Line). made.before ++ output made.query ls ((expected.resolved ++ g.resolved) ++ os))
          lines
          ∙ (ap (λ (l : List Outcome). made.before ++ output made.query made.lines l)
          (append_assoc expected.resolved g.resolved os) ∙ expected.all (g.resolved ++ os))));
      job_queue = job_queue_after own confined m n j p process_slot next yields r order did expected.job_queue left;
      rest = rest_after own confined m n j p process_slot next yields r order did expected.job_queue left
          (λ os. expected.unseen (g.resolved ++ os)) g.runs;
    }

    went : (g : Proceeds m n p next r expected.unseen (outcomes_to_come m p process_slot expected.unseen expected.runs)
        (ReadsItsFile m p process_slot expected.unseen expected.runs))
        → Resolves r (outcomes_to_come m p process_slot expected.unseen expected.runs) g.resolved
        (outcomes_to_come n p next (λ os. expected.unseen (g.resolved ++ os)) g.runs)
        → ReadsItsFile n p next (λ os. expected.unseen (g.resolved ++ os)) g.runs → Goes m n j p next made text r
    went g (inl is) reads =
        same
        (inl
        (goes-expected g made text refl refl refl (expected.gave
        ∙ ap (λ (os : List Outcome). expected.resolved ++ os) is) (expected.is
        ∙ ap (λ (os : List Outcome). expected.unseen os) is) reads))
    went g (inr x) reads = record {
      after = record made { outcomes = expected.resolved ++ Failed x.why ∷ later_on };
      later = expected.unseen (Failed x.why ∷ later_on);
      instead = inr (record {
        refused = record {
          why = x.why;
          answer = x.answer;
          resource_failure = x.resource_failure;
          past = expected.resolved;
          instead = x.instead;
          rest = later_on;
          was = expected.gave ∙ ap (λ (os : List Outcome). expected.resolved ++ os) x.was;
          is = refl;
        };
        begins = λ front is.
            let was : text_of made ≡ expected.past ++ text =
            ap (λ (os : List Outcome). made.before ++ output made.query made.lines os) expected.gave
            ∙ (expected.all (outcomes_to_come m p process_slot expected.unseen expected.runs)
            ∙ ap (λ (l : List ℕ). expected.past ++ l) (sym expected.is)) in
            let one : expected.past ≡ front = append_cancel_right expected.past front text (sym was ∙ is) in
            expected.all (Failed x.why ∷ later_on) ∙ ap (λ (l : List ℕ). l ++ expected.unseen (Failed x.why ∷ later_on))
            one;
      });
      goes =
          inl (goes-expected g (record made { outcomes = expected.resolved ++ Failed x.why ∷ later_on })
          (expected.unseen (Failed x.why ∷ later_on)) refl refl refl
          (ap (λ (os : List Outcome). expected.resolved ++ (os ++ later_on)) (sym x.is))
          (ap (λ (os : List Outcome). expected.unseen (os ++ later_on)) (sym x.is)) reads);
    }
      where
        later_on : List Outcome
        later_on = outcomes_to_come n p next (λ os. expected.unseen (g.resolved ++ os)) g.runs

    by : Proceeds m n p next r expected.unseen (outcomes_to_come m p process_slot expected.unseen expected.runs)
        (ReadsItsFile m p process_slot expected.unseen expected.runs)
        ⊎ IsOver m n process_slot.by p next expected.unseen r ⊎ ((pipe_at n p).reading ≡ false)
        → Goes m n j p next made text r
    by (inl g) = (let t = g.truly placed good expected.reads in went g t.0 t.1)
    by (inr (inl over)) = same (inr (inl (record {
      all = expected.is ∙ over.ends.all (outcomes_to_come m p process_slot expected.unseen expected.runs);
      done = over.ends.done;
      closes = over.ends.closes;
      free = over.free;
      none = none_after own confined m n j p process_slot next yields r order did expected.job_queue left open_yet
          (closed_now m n p r over.ends.done over.ends.closes);
    })))
    by (inr (inr gone)) = same (inr (inr gone))

-- ---- others leave the job pipe unchanged

left_jobs : (m n : State) (j p : ℕ) (process_slot : ProcessSlot Worker) → HasJobQueue m process_slot.by j p
    → pipe_at n j ≡ pipe_at m j → LeavesJobs m process_slot n
left_jobs m n j p process_slot job_queue same =
    record {
      same =
          λ k free opened. subst (λ i. pipe_at n i ≡ pipe_at m i)
          (sym (same_pipe m process_slot.by j k job_queue.jobs opened)) same;
    }

job_queue_stays : (m n : State) (j p : ℕ) (process_slot : ProcessSlot Worker) → LeavesWorker m process_slot.by n
    → HasJobQueue m process_slot.by j p → pipe_at n j ≡ pipe_at m j → HasJobQueue n process_slot.by j p
job_queue_stays m n j p process_slot left job_queue same =
    record {
      jobs = left.fds 0 (on.ReadEnd j) job_queue.jobs;
      writing = ap (λ (x : Pipe). x.writing) same
          ∙ job_queue.writing;
      apart = job_queue.apart;
    }

-- if the job pipe is unchanged, a waiting job still waits, and after a job that was read the pipe is still empty
rest_stays : (m n : State) (j p : ℕ) (process_slot : ProcessSlot Worker) (unseen after : List Outcome
    → List ℕ) (was : RunsJob m p process_slot unseen) (now : RunsJob n p process_slot after)
    → HasRest m j p process_slot unseen was → pipe_at n j ≡ pipe_at m j → HasRest n j p process_slot after now
rest_stays m n j p process_slot unseen after (inl h) now rest same =
    free_has_rest n j p process_slot after now (free_still m n process_slot h.free)
rest_stays m n j p process_slot unseen after (inr h) now rest same =
    nothing_left n j p process_slot after now (ap (λ (x : Pipe). x.queue) same ∙ rest)

others : OthersReceive
    → (m n : State) (j p : ℕ) (process_slot : ProcessSlot Worker) (e : Event) (r : Reply) (made : Made) (text : List ℕ)
    → IsOrderly m → ArePlaced m → StepsTo m e r n → is_call_of e process_slot.by ≡ false
    → LeavesFiles m process_slot.by n → pipe_at n j ≡ pipe_at m j → IsExpected m j p process_slot made text
    → GaveFront m n j p process_slot made text
others law m n j p process_slot e r made text order placed step other files same expected = record {
  goes = goes;
  rest = receives.after (outcomes_to_come n p process_slot receives.after receives.runs);
  splits = expected.is ∙ (receives.splits (outcomes_to_come m p process_slot expected.unseen expected.runs)
      ∙ ap (λ (os : List Outcome). bytes_of goes.gone ++ receives.after os) (sym (receives.outcomes files)));
  expected = record {
    unseen = receives.after;
    runs = receives.runs;
    reads = receives.reads files expected.reads;
    is = refl;
    resolved = expected.resolved;
    gave = expected.gave ∙ ap (λ (os : List Outcome). expected.resolved ++ os) (sym (receives.outcomes files));
    past = expected.past ++ bytes_of goes.gone;
    all = λ os. expected.all os
        ∙ (ap (λ (l : List ℕ). expected.past ++ l) (receives.splits os)
        ∙ sym (append_assoc expected.past (bytes_of goes.gone) (receives.after os)));
    job_queue = job_queue_stays m n j p process_slot left expected.job_queue same;
    rest = rest_stays m n j p process_slot expected.unseen receives.after expected.runs receives.runs expected.rest
        same;
  };
}
  where
    ends : Writing m p process_slot
    ends = writing m p process_slot expected.unseen expected.runs

    left : LeavesWorker m process_slot.by n
    left = law.leave m n process_slot.by e r placed step other

    goes : GoesFromFront m p n
    goes = law.front m n process_slot.by p ends.0 e r order step other ends.1

    receives : Receives m n p process_slot expected.unseen expected.runs (bytes_of goes.gone)
    receives = law.gone m n p process_slot expected.unseen left (left_jobs m n j p process_slot expected.job_queue same)
        expected.runs goes

pub scripts_have_one_output : TurnsFeed → OthersReceive → CallsServeTheirDomain → WorkersAreConfined
    → ScriptsHaveOneOutput
scripts_have_one_output feeds law own confined = record {
  begins = begins;
  turns = turns feeds own confined;
  others = others law;
}
