-- A worker without a job stays free.
use Rattle.std.proofs.Common.{inl, inr, ◌≡◌, ◌⊎◌, ℕ, List, [], ◌∷◌, ◌++◌, ap, ◌∙◌, refl, sym, subst, arith, Option}
use Rattle.std.proofs.Common.{Some, None, true, false, Bool}
use Rattle.std.specs.Prelude.{unwrap_or}
use Rattle.iol_core.specs.Text.{Text}
use Rattle.iol_core.specs.State.{State, is_live}
use Rattle.iol_core.specs.Run.{StepsTo}
use Rattle.iol_core.specs.declared.events.Call.TheVariants as call
use Rattle.iol_core.specs.declared.events.Event.TheVariants as event
use Rattle.iol_core.specs.declared.events.Reply.{Reply}
use Rattle.iol_core.specs.declared.events.Reply.TheVariants as reply
use Rattle.iol_laws.specs.Caller.{CallsServeTheirDomain, readable_at}
use Rattle.iol_laws.specs.Order.{IsOrderly}
use Rattle.iol_proc.specs.Turns.{Comes as ComesOf, ProcessSlotTurn}
use Rattle.iol_proc.specs.World.{copying, process_slot_of}
use Rattle.iol_proc.specs.declared.process.Turn.{Turn}
use Rattle.iol_proc.specs.declared.process.Turn.TheVariants as turn
use Rattle.iol_proc.specs.declared.process_slot.ProcessSlot.{ProcessSlot}
use Rattle.flash_cgi.specs.Free.{HasNoJob, WorkersStayFree}
use Rattle.flash_cgi.specs.Job.{Task, job_of}
use Rattle.flash_cgi.specs.Turns.{IsFree, is_given, or_again, filed_step}
use Rattle.flash_cgi.specs.Standstill.{is_over}
use Rattle.flash_cgi.specs.WorkerSteps.{call_at, phase_call, after_reply, after_phase, bytes_at}
use Rattle.flash_cgi.specs.Works.{IsNew, works, works_as, files, proceeds, takes, with_job, with_text, worker_turns}
use Rattle.flash_cgi.specs.declared.phase.Phase.{Phase}
use Rattle.flash_cgi.specs.declared.phase.Phase.TheVariants as phase
use Rattle.flash_cgi.specs.declared.phase.Standing.{Standing}
use Rattle.flash_cgi.specs.declared.phase.Standing.TheVariants as standing
use Rattle.flash_cgi.specs.declared.phase.Step.{Step}
use Rattle.flash_cgi.specs.declared.worker.Worker.{Worker}
use Rattle.flash_cgi.proofs.Beside.{free_still}
use Rattle.flash_cgi.proofs.OutputByTurn.{process_slot_at, readable-live}

new_is_free : (m : State) (d : ℕ) (w : Worker) → IsNew w → IsFree m (process_slot_of (d, w))
new_is_free m d w new = record {
  not_over = ap (λ (s : Standing). is_over s) new.standing;
  waits = ap (λ (s : Standing). (filed_step s w (readable_at m d) reply.Done).phase) new.standing
      ∙ ap (λ (s : Step). s.phase) new.step;
  not_given = λ e. (let asks = sym new.standing ∙ e in absurd (cc (asks)));
}

no_front : (s t : Text) → s ++ t ≡ [] → s ≡ []
no_front [] t e = refl
no_front (b ∷ s) t e = absurd (cc (e))

-- a worker whose read of a job was refused is free
pub refused_is_free : (n : State) (d : ℕ) (x : Worker) (r y : Reply) → x.standing ≡ standing.Asked
    → x.step.phase ≡ phase.Waiting → is_given phase.Waiting y ≡ false → r ≡ y → IsFree n (process_slot_at d x r)
refused_is_free n d x r y asked at un is = record {
  not_over = ap (λ (s : Standing). is_over s) asked;
  waits = ap (λ (s : Standing). (filed_step s x (readable_at n d) r).phase) asked
      ∙ (ap (λ (z : Phase). (or_again (after_phase (readable_at n d) x.job x.step.piece x.step.begun z r) x.step).phase)
      at ∙ at);
  not_given = λ e. ap (λ (z : Phase). is_given z r) at ∙ (ap (λ (l : Reply). is_given phase.Waiting l) is ∙ un);
}

-- its turn changes nothing, and it stays free; or its read returns bytes of its job pipe
abbrev pub FreeTurn : (m n : State) → (d : ℕ) → (next : ProcessSlot Worker) → Reply → Type 0
FreeTurn m n d next r =
    ((n ≡ m) × IsFree n next) ⊎ ((a : ℕ) × StepsTo m (event.Call d (call.IolRead 0 65536)) (reply.Agg a) n
    × (r ≡ reply.Agg a))

module _ (m n : State) (d : ℕ) (v : Worker) (r : Reply) (t : Turn) (yields : Bool)
    (comes : ComesOf copying worker_turns m d t yields r n) where
  abbrev Stays : Worker → Type 0
  Stays x = FreeTurn m n d (process_slot_at d x r) r

  -- it reads its job pipe: the read is refused, or returns a text
  read : (x : Worker) → x.standing ≡ standing.Asked → x.step.phase ≡ phase.Waiting → (l : Reply) → r ≡ l
      → StepsTo m (event.Call d (call.IolRead 0 65536)) l n → Stays x
  read x asked at (reply.Agg a) is step = inr (a, step, is)
  read x asked at (reply.Refused y) is step = inl (step.1, refused_is_free n d x r (reply.Refused y) asked at refl is)
  read x asked at l is step = (let e = step.1 in absurd (cc))

  asks : (x : Worker) → t ≡ turn.Make (call_at x.job x.step) → v ≡ x → x.standing ≡ standing.Asked
      → x.step.phase ≡ phase.Waiting → Stays v
  asks x is v_is asked at =
      let make : t ≡ turn.Make (call.IolRead 0 65536) =
      is ∙ ap (λ (z : Phase). turn.Make (phase_call x.job x.step.piece x.step.begun z)) at in
      let step = (subst (λ (u : Turn). ComesOf copying worker_turns m d u yields r n) make comes).1 in
      subst (λ (y : Worker). Stays y) (sym v_is) (read x asked at r refl step)

  on : (w : Worker) (o : Option Step) → w.standing ≡ standing.Asked → (or_again o w.step).phase ≡ phase.Waiting
      → proceeds w o t v → Stays v
  on w (Some next) asked waits did = asks (record w { step = next }) did.0 did.1 asked waits
  on w None asked waits did = subst (λ (y : Worker). Stays y) (sym did.1)
      (inl (
        (subst (λ (u : Turn). ComesOf copying worker_turns m d u yields r n) did.0 comes).2,
        record { not_over = refl; waits = waits; not_given = λ e. absurd (cc (e)) },
      ))

  filed : (w : Worker) (x : Phase) (l : Reply) → w.standing ≡ standing.Asked
      → (or_again (after_reply w.job w.step (readable_at m d) l) w.step).phase ≡ phase.Waiting → is_given x l ≡ false
      → files w x l (readable_at m d) t v → Stays v
  filed w phase.Waiting (reply.Agg a) asked waits un did = absurd (cc (un))
  filed w x l asked waits un did = on w (after_reply w.job w.step (readable_at m d) l) asked waits did

  moves : (w : Worker) (last : Reply) (s : Standing) → w.standing ≡ s → is_over s ≡ false
      → (filed_step s w (readable_at m d) last).phase ≡ phase.Waiting
      → (s ≡ standing.Asked → is_given w.step.phase last ≡ false) → works_as s w last (readable_at m d) t v → Stays v
  moves w last standing.Over is goes waits un did = absurd (cc (goes))
  moves w last standing.Asks is goes waits un did = asks (record w { standing = standing.Asked }) did.0 did.1 refl waits
  moves w last standing.Asked is goes waits un did = filed w w.step.phase last is waits (un refl) did

-- its turn, by the cases of the action of the process
pub free_turn : (m n : State) (process_slot next : ProcessSlot Worker) (yields : Bool) (r : Reply)
    → is_live m process_slot.by ≡ true → IsFree m process_slot
    → ProcessSlotTurn copying worker_turns m process_slot yields r n next → FreeTurn m n process_slot.by next r
free_turn m n process_slot next yields r live free (inl starved) = inl (
  starved.machine_stays,
  subst (λ (x : ProcessSlot Worker). IsFree n x) (sym starved.process_slot_stays)
      (free_still m n process_slot free),
)
free_turn m n process_slot next yields r live free (inr did) =
    let goes = subst (λ (l : ℕ → Option (List ℕ)). works process_slot.process process_slot.last l did.turn next.process)
    (readable-live m process_slot.by live) did.proceeds in
    let same : process_slot_at process_slot.by next.process r ≡ next =
    ap (λ (x : ℕ). process_slot_at x next.process r) (sym did.domain_stays)
    ∙ ap (λ (l : Reply). process_slot_at next.by next.process l) (sym did.reported) in
    let went = moves m n process_slot.by next.process r did.turn yields did.comes process_slot.process process_slot.last
    process_slot.process.standing refl free.not_over free.waits free.not_given goes in
    subst (λ (x : ProcessSlot Worker). FreeTurn m n process_slot.by x r) same went

-- if the job pipe is empty, its read returns no text
turns : CallsServeTheirDomain
    → (m n : State) (j : ℕ) (process_slot next : ProcessSlot Worker) (yields : Bool) (r : Reply) → IsOrderly m
    → HasNoJob m process_slot.by j → IsFree m process_slot
    → ProcessSlotTurn copying worker_turns m process_slot yields r n next → (n ≡ m) × IsFree n next
turns own m n j process_slot next yields r order none free did =
    by (free_turn m n process_slot next yields r none.live free did)
  where
    by : FreeTurn m n process_slot.by next r → (n ≡ m) × IsFree n next
    by (inl stays) = stays
    by (inr given) =
        let takes = own.read_pipe m n process_slot.by 0 j 65536 (reply.Agg given.0) order none.jobs given.1 in
        let nothing = no_front takes.text takes.rest (sym takes.was ∙ none.empty) in
        let ended = (takes.ended (omega arith) nothing).1 in
        absurd (let e = sym none.writing ∙ ended in cc (e))

-- ---- a text that is no job

skipped : (n : State) (d a : ℕ) (w : Worker) (r : Reply) → w.standing ≡ standing.Asked
    → IsFree n (process_slot_at d (with_job w None a) r)
skipped n d a w r asked = record {
  not_over = ap (λ (s : Standing). is_over s) asked;
  waits = ap (λ (s : Standing). (filed_step s (with_job w None a) (readable_at n d) r).phase) asked;
  not_given = λ e. refl;
}

skips : (m n : State) (a b : ℕ) (bs : List ℕ) (process_slot next : ProcessSlot Worker) (yields : Bool) (r : Reply)
    → is_live m process_slot.by ≡ true
    → process_slot.process.step.phase ≡ phase.Waiting → process_slot.process.standing ≡ standing.Asked
    → process_slot.last ≡ reply.Agg a
    → readable_at m process_slot.by a ≡ Some (b ∷ bs) → job_of (b ∷ bs) ≡ None
    → ProcessSlotTurn copying worker_turns m process_slot yields r n next
    → IsFree n next ⊎ (next ≡ process_slot)
skips m n a b bs process_slot next yields r live waits asked last is_readable no_job (inl starved) =
    inr starved.process_slot_stays
skips m n a b bs process_slot next yields r live waits asked last is_readable no_job (inr did) =
    inl
    (subst (λ (x : ProcessSlot Worker). IsFree n x) same
    (subst (λ (y : Worker). IsFree n (process_slot_at process_slot.by y r)) (sym is)
    (skipped n process_slot.by a process_slot.process r asked)))
  where
    goes : works process_slot.process process_slot.last (readable_at m process_slot.by) did.turn next.process
    goes = subst (λ (l : ℕ → Option (List ℕ)). works process_slot.process process_slot.last l did.turn next.process)
        (readable-live m process_slot.by live) did.proceeds

    filed : files process_slot.process process_slot.process.step.phase process_slot.last (readable_at m process_slot.by)
        did.turn next.process
    filed =
        subst (λ (s : Standing). works_as s process_slot.process process_slot.last (readable_at m process_slot.by)
        did.turn next.process) asked goes

    took : takes process_slot.process (bytes_at (readable_at m process_slot.by) a) a did.turn next.process
    took =
        subst (λ (l : Reply). files process_slot.process phase.Waiting l (readable_at m process_slot.by) did.turn
        next.process) last
        (subst (λ (x : Phase). files process_slot.process x process_slot.last (readable_at m process_slot.by) did.turn
        next.process) waits filed)

    is : next.process ≡ with_job process_slot.process None a
    is = took.1 ∙ (ap (λ (l : Option (List ℕ)). with_text process_slot.process (unwrap_or l []) a) is_readable
        ∙ ap (λ (o : Option Task). with_job process_slot.process o a) no_job)

    same : process_slot_at process_slot.by next.process r ≡ next
    same = ap (λ (x : ℕ). process_slot_at x next.process r) (sym did.domain_stays)
        ∙ ap (λ (l : Reply). process_slot_at next.by next.process l) (sym did.reported)

pub workers_stay_free : CallsServeTheirDomain → WorkersStayFree
workers_stay_free own = record {
  new = new_is_free;
  turns = turns own;
  others = λ m n process_slot free. free_still m n process_slot free;
  skips = skips;
}
