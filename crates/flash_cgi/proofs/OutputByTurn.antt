-- A worker's turn preserves its pending output, from the time when its job waits.
use Rattle.std.proofs.Common.{inl, inr, ◌≡◌, ◌⊎◌, ℕ, List, [], ◌∷◌, ◌++◌, ap, ◌∙◌, refl, sym, subst, Option, Some, None}
use Rattle.std.proofs.Common.{true, false, Bool, if◌then◌else◌}
use Rattle.std.specs.Prelude.{unwrap_or}
use Rattle.iol_core.specs.Text.{bytes_of}
use Rattle.iol_core.specs.State.{State, pipe_at, is_live}
use Rattle.iol_core.specs.Run.{StepsTo}
use Rattle.iol_core.specs.declared.events.Call.TheVariants as call
use Rattle.iol_core.specs.declared.events.Event.TheVariants as event
use Rattle.iol_core.specs.declared.events.Reply.{Reply}
use Rattle.iol_core.specs.declared.events.Reply.TheVariants as reply
use Rattle.iol_core.specs.Positions.{ArePlaced}
use Rattle.iol_laws.specs.Caller.{CallsServeTheirDomain, ReadsPipe, readable_at}
use Rattle.iol_laws.specs.Frame.{EachStepLeavesTheRest}
use Rattle.iol_laws.specs.Order.{IsOrderly}
use Rattle.iol_proc.specs.ReadableBytes.{readable_to}
use Rattle.iol_proc.specs.Turns.{Comes as ComesOf}
use Rattle.iol_proc.specs.World.{copying}
use Rattle.iol_proc.specs.declared.process.Turn.{Turn}
use Rattle.iol_proc.specs.declared.process.Turn.TheVariants as turn
use Rattle.iol_proc.specs.declared.process_slot.ProcessSlot.{ProcessSlot}
use Rattle.flash_cgi.specs.Job.{Task, job_of}
use Rattle.flash_cgi.specs.Output.{Outcome, output}
use Rattle.flash_cgi.specs.WorkerSteps.{call_at, phase_call, after_reply, after_phase, bytes_at}
use Rattle.flash_cgi.specs.Works.{works, works_as, files, proceeds, takes, with_job, with_text, worker_turns}
use Rattle.flash_cgi.specs.Standstill.{is_over}
use Rattle.flash_cgi.specs.Feeds.{Feeds, ComesTo, FeedsOn, resolved, Needs}
use Rattle.flash_cgi.specs.Outcomes.{AreFiles, OutcomesAreTrue, ResolvesByRefusal, ResolvesTruly, outcomes_in, to_come}
use Rattle.flash_cgi.specs.Outcomes.{ReadsNamed}
use Rattle.flash_cgi.specs.JobStart.{HasJob, Begins, JobsAreTaken}
use Rattle.flash_cgi.specs.Turns.{IsFree, is_given, Awaits, or_again, filed_step, RunsJob, outcomes_to_come}
use Rattle.flash_cgi.specs.Turns.{ReadsItsFile, Resolves, Proceeds, IsOver, TurnsFeed}
use Rattle.flash_cgi.specs.declared.phase.Phase.{Phase}
use Rattle.flash_cgi.specs.declared.phase.Phase.TheVariants as phase
use Rattle.flash_cgi.specs.declared.phase.Standing.{Standing}
use Rattle.flash_cgi.specs.declared.phase.Standing.TheVariants as standing
use Rattle.flash_cgi.specs.declared.phase.Step.{Step}
use Rattle.flash_cgi.specs.declared.worker.Worker.{Worker}
use Rattle.flash_cgi.proofs.JobStart.{awaits_still}
use Rattle.flash_cgi.proofs.Truly.{plain}

pub readable-live : (m : State) (d : ℕ) → is_live m d ≡ true → readable_to m d ≡ readable_at m d
readable-live m d live = ap (λ b. λ a. if b then readable_at m d a else None) live

-- a worker that has a job is live
pub has_life : (m : State) (p : ℕ) (process_slot : ProcessSlot Worker) (unseen : List Outcome → List ℕ)
    → RunsJob m p process_slot unseen → is_live m process_slot.by ≡ true
has_life m p process_slot unseen (inl h) = h.has.live
has_life m p process_slot unseen (inr (inl h)) = h.begins.feeds.live
has_life m p process_slot unseen (inr (inr i)) = i.feeds.live

-- a text that represents a job is taken as that job
pub text_taken : (w : Worker) (text : List ℕ) (agg : ℕ) (job : Task) → job_of text ≡ Some job
    → with_text w text agg ≡ with_job w (Some job) agg
text_taken w [] agg job is = absurd (cc)
text_taken w (b ∷ bs) agg job is = ap (λ (o : Option Task). with_job w o agg) is

-- a worker that runs a script is not given another job
given_none : (m : State) (d : ℕ) (x : Phase) (r : Reply) → Needs m d x → is_given x r ≡ false
given_none m d phase.Waiting r h = absurd h
given_none m d x r h = refl

abbrev pub process_slot_at : ℕ → Worker → Reply → ProcessSlot Worker
process_slot_at d v r = record { by = d; process = v; last = r }

module _ (feeds_on : FeedsOn) (taken : JobsAreTaken) (true_to : OutcomesAreTrue) (own : CallsServeTheirDomain)
    (steps : EachStepLeavesTheRest) where
  abbrev Went : (m n : State) → (d p : ℕ) → Worker → Reply → (List Outcome → List ℕ) → List Outcome → Type 0 → Type 0
  Went m n d p v r unseen expected Reads = Proceeds m n p (process_slot_at d v r) r unseen expected Reads
      ⊎ IsOver m n d p (process_slot_at d v r) unseen r ⊎ ((pipe_at n p).reading ≡ false)

  -- the result, from this step
  abbrev WentFrom : (m n : State) → (d p : ℕ) → Worker → Reply → (List Outcome → List ℕ) → Task → Step → Type 0
  WentFrom m n d p v r unseen job step =
      Went m n d p v r unseen (to_come m d job step) (ReadsNamed m d job step.begun step.phase)

  -- it continues at this step, after the reply is processed
  abbrev goes_at : (m n : State) (d p : ℕ) (v : Worker) (r : Reply) (unseen : List Outcome
      → List ℕ) (expected : List Outcome) (Reads : Type 0) (resolves : List Outcome) (step : Step)
      → is_over v.standing ≡ false → filed_step v.standing v (readable_at n d) r ≡ step
      → Feeds n d p v.job step (λ os. unseen (resolves ++ os))
      → (ArePlaced m → AreFiles m → Reads → Resolves r expected resolves (to_come n d v.job step)
      × ReadsNamed n d v.job step.begun step.phase)
      → Proceeds m n p (process_slot_at d v r) r unseen expected Reads
  goes_at m n d p v r unseen expected Reads resolves step goes is f truly = record {
    resolved = resolves;
    runs =
        inr
        (inr
        (record {
          not_over = goes;
          feeds = subst (λ (s : Step). Feeds n d p v.job s (λ os. unseen (resolves ++ os))) (sym is) f;
        }));
    truly = λ placed good reads.
        let t = truly placed good reads in (
          subst (λ (s : Step). Resolves r expected resolves (to_come n d v.job s)) (sym is) t.0,
          subst (λ (s : Step). ReadsNamed n d v.job s.begun s.phase) (sym is) t.1,
        );
  }

  -- the worker makes the call of its step
  called : (m n : State) (d p : ℕ) (v : Worker) (r : Reply) (unseen : List Outcome → List ℕ) → IsOrderly m
      → v.standing ≡ standing.Asked → Feeds m d p v.job v.step unseen
      → StepsTo m (event.Call d (call_at v.job v.step)) r n → WentFrom m n d p v r unseen v.job v.step
  called m n d p v r unseen order asked f step =
      by (after_reply v.job v.step (readable_at n d) r) refl (feeds_on m n d p v.job v.step r unseen order f step)
    where
      goes : is_over v.standing ≡ false
      goes = ap (λ (s : Standing). is_over s) asked

      filed : (o : Option Step) → after_reply v.job v.step (readable_at n d) r ≡ o
          → filed_step v.standing v (readable_at n d) r ≡ or_again o v.step
      filed o is = ap (λ (s : Standing). filed_step s v (readable_at n d) r) asked
          ∙ ap (λ (x : Option Step). or_again x v.step) is

      which : (next : Step) → ResolvesTruly m d v.job v.step r n next ⊎ ResolvesByRefusal m d v.job v.step r n next
          → Resolves r (to_come m d v.job v.step) (resolved v.job v.step (readable_at n d) r) (to_come n d v.job next)
          × ReadsNamed n d v.job next.begun next.phase
      which next (inl t) = (inl t.same, t.reads)
      which next (inr t) = (
        inr (record {
          why = t.why;
          answer = t.answer;
          resource_failure = t.resource_failure;
          instead = t.instead;
          was = t.was;
          is = t.resolves;
        }),
        t.reads,
      )

      by : (o : Option Step) → after_reply v.job v.step (readable_at n d) r ≡ o
          → ComesTo m d p v.job v.step unseen r n o → WentFrom m n d p v r unseen v.job v.step
      by None is same =
          inl
          (goes_at m n d p v r unseen _ _ [] v.step goes (filed None is)
          (subst (λ (s : State). Feeds s d p v.job v.step unseen) (sym same) f)
          (λ placed good reads. (
            inl (ap (λ (s : State). to_come s d v.job v.step) (sym same)),
            subst (λ (s : State). ReadsNamed s d v.job v.step.begun v.step.phase) (sym same) reads,
          )))
      by (Some next) is (inl g) =
          inl (goes_at m n d p v r unseen _ _ (resolved v.job v.step (readable_at n d) r) next goes
          (filed (Some next) is) g
          (λ placed good reads. which next (true_to m n d p v.job v.step next r unseen order placed good f reads step
          is)))
      by (Some next) is (inr (inl over)) = inr (inl (record {
        step = next;
        ends = over;
        free = record {
          not_over = goes;
          waits = ap (λ (s : Step). s.phase) (filed (Some next) is) ∙ over.free;
          not_given = λ e. given_none m d v.step.phase r f.needs;
        };
      }))
      by (Some next) is (inr (inr gone)) = inr (inr gone)

  module _ (m n : State) (p d : ℕ) (v : Worker) (r : Reply) (t : Turn) (yields : Bool) (order : IsOrderly m)
      (comes : ComesOf copying worker_turns m d t yields r n) where
    -- the worker becomes x, and makes the call of x
    makes : (x : Worker) (unseen : List Outcome → List ℕ) → x.standing ≡ standing.Asked
        → t ≡ turn.Make (call_at x.job x.step) → v ≡ x
        → Feeds m d p x.job x.step unseen → WentFrom m n d p v r unseen x.job x.step
    makes x unseen asked is v_is g = subst (λ (y : Worker). WentFrom m n d p y r unseen x.job x.step) (sym v_is)
        (called m n d p x r unseen order asked g (subst (λ (u : Turn). ComesOf copying worker_turns m d u yields r n) is
        comes).1)

    yielded : t ≡ turn.Yield → n ≡ m
    yielded is = (subst (λ (u : Turn). ComesOf copying worker_turns m d u yields r n) is comes).2

    -- ---- it runs the script

    runs : (w : Worker) (last : Reply) (unseen : List Outcome → List ℕ) (s : Standing) → w.standing ≡ s
        → is_over s ≡ false
        → Feeds m d p w.job (filed_step s w (readable_at m d) last) unseen → works_as s w last (readable_at m d) t v
        → WentFrom m n d p v r unseen w.job (filed_step s w (readable_at m d) last)
    runs w last unseen standing.Over is goes f did = absurd (cc)
    runs w last unseen standing.Asks is goes f did =
        makes (record w { standing = standing.Asked }) unseen refl did.0 did.1 f
    runs w last unseen standing.Asked is goes f did = filed w.step.phase last refl f did
      where
        again : t ≡ turn.Yield → v ≡ record w { standing = standing.Asks } → Feeds m d p w.job w.step unseen
            → WentFrom m n d p v r unseen w.job w.step
        again yields v_is g = subst (λ (y : Worker). WentFrom m n d p y r unseen w.job w.step) (sym v_is)
            (inl (goes_at m n d p (record w { standing = standing.Asks }) r unseen _ _ [] w.step refl refl
            (subst (λ (x : State). Feeds x d p w.job w.step unseen) (sym (yielded yields)) g)
            (λ placed good reads. (
              inl (ap (λ (x : State). to_come x d w.job w.step) (sym (yielded yields))),
              subst (λ (x : State). ReadsNamed x d w.job w.step.begun w.step.phase) (sym (yielded yields)) reads,
            ))))

        on : (o : Option Step) → Feeds m d p w.job (or_again o w.step) unseen → proceeds w o t v
            → WentFrom m n d p v r unseen w.job (or_again o w.step)
        on (Some next) g did = makes (record w { step = next }) unseen is did.0 did.1 g
        on None g did = again did.0 did.1 g

        filed : (x : Phase) (l : Reply) → w.step.phase ≡ x
            → Feeds m d p w.job (or_again (after_reply w.job w.step (readable_at m d) l) w.step) unseen
            → files w x l (readable_at m d) t v
            → WentFrom m n d p v r unseen w.job (or_again (after_reply w.job w.step (readable_at m d) l) w.step)
        filed phase.Waiting (reply.Agg a) at g did =
            let none : after_reply w.job w.step (readable_at m d) (reply.Agg a) ≡ None =
            ap (λ (y : Phase). after_phase (readable_at m d) w.job w.step.piece w.step.begun y (reply.Agg a)) at in
            absurd (subst (λ (y : Phase). Needs m d y) (ap (λ (o : Option Step). (or_again o w.step).phase) none ∙ at)
            g.needs)
        filed x l at g did = on (after_reply w.job w.step (readable_at m d) l) g did

    -- ---- it has read its job

    reads : (w : Worker) (last : Reply) (unseen : List Outcome → List ℕ) (job : Task) (a : ℕ)
        → w.step.phase ≡ phase.Waiting → w.standing ≡ standing.Asked
        → last ≡ reply.Agg a → Begins m d p job a unseen → works w last (readable_at m d) t v
        → Went m n d p v r unseen (outcomes_in m d job.lines) (Unit {0})
    reads w last unseen job a waits asked is begins did =
        makes (with_job w (Some job) a) unseen asked took.0 (took.1
        ∙ text_taken w (bytes_at (readable_at m d) a) a job is_job) begins.feeds
      where
        is_job : job_of (bytes_at (readable_at m d) a) ≡ Some job
        is_job = ap (λ (l : Option (List ℕ)). job_of (unwrap_or l [])) begins.is_readable ∙ begins.is_job

        filed : files w w.step.phase last (readable_at m d) t v
        filed = subst (λ (s : Standing). works_as s w last (readable_at m d) t v) asked did

        took : takes w (bytes_at (readable_at m d) a) a t v
        took =
            subst (λ (l : Reply). files w phase.Waiting l (readable_at m d) t v) is
            (subst (λ (x : Phase). files w x last (readable_at m d) t v) waits filed)

    -- ---- its job waits

    awaits : (w : Worker) (last : Reply) (unseen : List Outcome → List ℕ)
        → (h : Awaits m p (process_slot_at d w last) unseen) → works w last (readable_at m d) t v
        → Went m n d p v r unseen (outcomes_in m d h.lines) (Unit {0})
    awaits w last unseen h did = by w.standing refl h.free.not_over h.free.waits h.free.not_given did
      where
        job : Task
        job = record { fd = h.fd; query = h.query; lines = h.lines }

        -- if nothing changed, it still awaits its job
        still : (x : Worker) → v ≡ x → IsFree n (process_slot_at d x r) → n ≡ m
            → Went m n d p v r unseen (outcomes_in m d h.lines) (Unit {0})
        still x v_is free same = subst (λ (y : Worker). Went m n d p y r unseen (outcomes_in m d h.lines) (Unit {0}))
            (sym v_is) (inl (record {
              resolved = [];
              runs = inl (awaits_still m n p (process_slot_at d w last) (process_slot_at d x r) unseen unseen h free
                  (subst (λ (s : State). HasJob s d h.jobs p h.fd h.query h.script h.lines) (sym same) h.has)
                  (subst (λ (s : State). (os : List Outcome) → unseen os ≡ bytes_of (pipe_at s p).queue
                  ++ output h.query h.lines os) (sym same) h.is));
              truly = λ placed good reads. (inl (ap (λ (s : State). outcomes_in s d h.lines) (sym same)), tt);
            }))

        begun : (a : ℕ) → Begins n d p job a (λ os. bytes_of (pipe_at m p).queue ++ output h.query h.lines os)
            → Begins n d p job a unseen
        begun a b = record {
          bytes = b.bytes;
          is_readable = b.is_readable;
          is_job = b.is_job;
          feeds = record {
            live = b.feeds.live;
            open_on = b.feeds.open_on;
            needs = b.feeds.needs;
            holds = b.feeds.holds;
            is = λ os. h.is os ∙ b.feeds.is os;
          };
        }

        -- a worker whose read of a job was refused is free
        free_of : (x : Worker) (y : Reply) → x.standing ≡ standing.Asked → x.step.phase ≡ phase.Waiting
            → is_given phase.Waiting y ≡ false → r ≡ y → IsFree n (process_slot_at d x r)
        free_of x y asked at un is = record {
          not_over = ap (λ (s : Standing). is_over s) asked;
          waits = ap (λ (s : Standing). (filed_step s x (readable_at n d) r).phase) asked
              ∙ (ap
              (λ (z : Phase). (or_again (after_phase (readable_at n d) x.job x.step.piece x.step.begun z r)
              x.step).phase) at ∙ at);
          not_given = λ e. ap (λ (z : Phase). is_given z r) at ∙ (ap (λ (l : Reply). is_given phase.Waiting l) is ∙ un);
        }

        read : (x : Worker) → v ≡ x → x.standing ≡ standing.Asked → x.step.phase ≡ phase.Waiting → (l : Reply) → r ≡ l
            → StepsTo m (event.Call d (call.IolRead 0 65536)) l n → ReadsPipe m d h.jobs 65536 l n
            → Went m n d p v r unseen (outcomes_in m d h.lines) (Unit {0})
        read x v_is asked at (reply.Agg a) is step takes =
            subst (λ (y : Worker). Went m n d p y r unseen (outcomes_in m d h.lines) (Unit {0})) (sym v_is)
            (inl (record {
              resolved = [];
              runs = inr (inl (record {
                job = job;
                agg = a;
                waits = at;
                asked = asked;
                last = is;
                begins = begun a (taken m n d h.jobs p h.fd a h.query h.script h.lines h.has step takes);
              }));
              truly =
                  λ placed good reads.
                  (inl (plain steps m n d job (call.IolRead 0 65536) (reply.Agg a) step good refl (λ q. refl) 0), tt);
            }))
        read x v_is asked at (reply.Refused y) is step same =
            still x v_is (free_of x (reply.Refused y) asked at refl is) same
        read x v_is asked at l is step did = absurd did

        asks_now : (x : Worker) → t ≡ turn.Make (call_at x.job x.step) → v ≡ x → x.standing ≡ standing.Asked
            → x.step.phase ≡ phase.Waiting → Went m n d p v r unseen (outcomes_in m d h.lines) (Unit {0})
        asks_now x is v_is asked at =
            let make : t ≡ turn.Make (call.IolRead 0 65536) =
            is ∙ ap (λ (z : Phase). turn.Make (phase_call x.job x.step.piece x.step.begun z)) at in
            let step = (subst (λ (u : Turn). ComesOf copying worker_turns m d u yields r n) make comes).1 in
            read x v_is asked at r refl step (own.read_pipe m n d 0 h.jobs 65536 r order h.has.jobs step)

        on : (o : Option Step) → w.standing ≡ standing.Asked → (or_again o w.step).phase ≡ phase.Waiting
            → proceeds w o t v → Went m n d p v r unseen (outcomes_in m d h.lines) (Unit {0})
        on (Some next) asked waits did = asks_now (record w { step = next }) did.0 did.1 asked waits
        on None asked waits did =
            still (record w { standing = standing.Asks }) did.1
            (record { not_over = refl; waits = waits; not_given = λ e. absurd (cc (e)) }) (yielded did.0)

        filed : (x : Phase) (l : Reply) → w.standing ≡ standing.Asked
            → (or_again (after_reply w.job w.step (readable_at m d) l) w.step).phase ≡ phase.Waiting
            → is_given x l ≡ false
            → files w x l (readable_at m d) t v → Went m n d p v r unseen (outcomes_in m d h.lines) (Unit {0})
        filed phase.Waiting (reply.Agg a) asked waits un did = absurd (cc (un))
        filed x l asked waits un did = on (after_reply w.job w.step (readable_at m d) l) asked waits did

        by : (s : Standing) → w.standing ≡ s → is_over s ≡ false
            → (filed_step s w (readable_at m d) last).phase ≡ phase.Waiting
            → (s ≡ standing.Asked → is_given w.step.phase last ≡ false)
            → works_as s w last (readable_at m d) t v → Went m n d p v r unseen (outcomes_in m d h.lines) (Unit {0})
        by standing.Over is goes waits un did = absurd (cc (goes))
        by standing.Asks is goes waits un did = asks_now (record w { standing = standing.Asked }) did.0 did.1 refl waits
        by standing.Asked is goes waits un did = filed w.step.phase last is waits (un refl) did

    moves : (w : Worker) (last : Reply) (unseen : List Outcome
        → List ℕ) (job : RunsJob m p (process_slot_at d w last) unseen) → works w last (readable_at m d) t v
        → Went m n d p v r unseen (outcomes_to_come m p (process_slot_at d w last) unseen job)
        (ReadsItsFile m p (process_slot_at d w last) unseen job)
    moves w last unseen (inl h) did = awaits w last unseen h did
    moves w last unseen (inr (inl h)) did = reads w last unseen h.job h.agg h.waits h.asked h.last h.begins did
    moves w last unseen (inr (inr i)) did = runs w last unseen w.standing refl i.not_over i.feeds did

  pub turn_feeds : TurnsFeed
  turn_feeds m n p process_slot next yields r unseen order job (inl starved) = inl (
      subst (λ (s : State). Proceeds m s p next r unseen (outcomes_to_come m p process_slot unseen job)
      (ReadsItsFile m p process_slot unseen job)) (sym starved.machine_stays)
      (subst (λ (x : ProcessSlot Worker). Proceeds m m p x r unseen (outcomes_to_come m p process_slot unseen job)
      (ReadsItsFile m p process_slot unseen job)) (sym starved.process_slot_stays)
      (record { resolved = []; runs = job; truly = λ placed good reads. (inl refl, reads) })))
  turn_feeds m n p process_slot next yields r unseen order job (inr did) =
      let goes =
      subst (λ (l : ℕ → Option (List ℕ)). works process_slot.process process_slot.last l did.turn next.process)
      (readable-live m process_slot.by (has_life m p process_slot unseen job)) did.proceeds in
      let same : process_slot_at process_slot.by next.process r ≡ next =
      ap (λ (x : ℕ). process_slot_at x next.process r) (sym did.domain_stays)
      ∙ ap (λ (l : Reply). process_slot_at next.by next.process l) (sym did.reported) in
      subst (λ (x : ProcessSlot Worker). Proceeds m n p x r unseen (outcomes_to_come m p process_slot unseen job)
      (ReadsItsFile m p process_slot unseen job) ⊎ IsOver m n process_slot.by p x unseen r
      ⊎ ((pipe_at n p).reading ≡ false)) same
      (moves m n p process_slot.by next.process r did.turn yields order did.comes process_slot.process process_slot.last
      unseen job goes)
