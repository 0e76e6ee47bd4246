-- After its turn a worker has exactly what it then uses.
use Rattle.std.proofs.Common.{inl, inr, ◌≡◌, ℕ, ◌+◌, ◌==◌, List, [], ◌∷◌, length, ap, ◌∙◌, refl, sym, subst, Option}
use Rattle.std.proofs.Common.{Some, None, true, false, Bool}
use Rattle.std.specs.Prelude.{◌&&◌, ◌||◌, if◌then◌else◌, nat_le, not, slice_get}
use Rattle.iol_core.specs.State.{State, descriptor, is_live}
use Rattle.iol_core.specs.Run.{StepsTo}
use Rattle.iol_core.specs.declared.events.Call.TheVariants as call
use Rattle.iol_core.specs.declared.events.Event.TheVariants as event
use Rattle.iol_core.specs.declared.events.Reply.{Reply}
use Rattle.iol_core.specs.declared.events.Reply.TheVariants as reply
use Rattle.iol_laws.specs.Aggregates.{AggregatesComeAndGo}
use Rattle.iol_laws.specs.Caller.{CallsServeTheirDomain, readable_at}
use Rattle.iol_laws.specs.Order.{IsOrderly}
use Rattle.iol_laws.specs.Reasons.{RefusalsTellWhy}
use Rattle.iol_proc.specs.Turns.{Comes as ComesOf, ProcessSlotTurn}
use Rattle.iol_proc.specs.World.{copying}
use Rattle.iol_proc.specs.declared.process.Turn.{Turn}
use Rattle.iol_proc.specs.declared.process.Turn.TheVariants as turn
use Rattle.iol_proc.specs.declared.process_slot.ProcessSlot.{ProcessSlot}
use Rattle.flash_cgi.specs.Collecting.{Collected, bytes_of_one, is_nothing, with_next}
use Rattle.flash_cgi.specs.Job.{Task, job_of}
use Rattle.flash_cgi.specs.WorkerSteps.{call_at, phase_call, expected_now, file_collected, shut_by, after_reply}
use Rattle.flash_cgi.specs.WorkerSteps.{after_breaking, after_phase, after_dropping, after_joining, after_next}
use Rattle.flash_cgi.specs.WorkerSteps.{after_making, after_opening, after_parting, after_replacing, after_writing}
use Rattle.flash_cgi.specs.WorkerSteps.{after_reading, after_cutting, next_call, open_call, bytes_at}
use Rattle.flash_cgi.specs.Works.{works, works_as, files, proceeds, takes, with_job, worker_turns}
use Rattle.flash_cgi.specs.Turns.{is_given, or_again, filed_step}
use Rattle.flash_cgi.specs.Uses.{uses_fd, HasJust, held_phase, KeepsJust, WorkersKeepNothing}
use Rattle.flash_cgi.specs.declared.line.Line.{Line}
use Rattle.flash_cgi.specs.declared.line.Line.TheVariants as line
use Rattle.flash_cgi.specs.declared.phase.Purpose.{Purpose}
use Rattle.flash_cgi.specs.declared.phase.Phase.{Phase}
use Rattle.flash_cgi.specs.declared.phase.Phase.TheVariants as phase
use Rattle.flash_cgi.specs.declared.phase.Standing.{Standing}
use Rattle.flash_cgi.specs.declared.phase.Standing.TheVariants as standing
use Rattle.flash_cgi.specs.declared.phase.Step.{Step}
use Rattle.flash_cgi.specs.declared.worker.Worker.{Worker}
use Rattle.flash_cgi.proofs.StaysByCall.{at_step}
use Rattle.flash_cgi.proofs.UsesByCall.{both_false, same_number, call_keeps, absent, drops}
use Rattle.flash_cgi.proofs.OutputByTurn.{process_slot_at, readable-live}
use Rattle.flash_cgi.proofs.NotOpen.{free_read}

-- ---- a call that is to be retried changed nothing

module _ (m n : State) (d : ℕ) where
  made_again : (x : Collected) (bytes : List ℕ) (begun : ℕ) (r : Reply)
      → StepsTo m (event.Call d (call.AggMake bytes)) r n → after_making x begun r ≡ None → n ≡ m
  made_again x bytes begun (reply.Agg a) step none = absurd (cc (none))
  made_again x bytes begun (reply.Refused y) step none = step.1
  made_again x bytes begun r step none = (let e = step.1 in absurd (cc (e)))

  opened_again : (x : Collected) (u : Purpose) (name : List ℕ) (begun : ℕ) (r : Reply)
      → StepsTo m (event.Call d (open_call name)) r n → after_opening x u begun r ≡ None → n ≡ m
  opened_again x u name begun (reply.Fd g) step none = absurd (cc (none))
  opened_again x u name begun (reply.Refused y) step none = step.1
  opened_again x u name begun r step none = (let e = step.1 in absurd (cc (e)))

  read_again : (readable : ℕ → Option (List ℕ)) (x : Collected) (file : ℕ) (u : Purpose) (begun : ℕ) (r : Reply)
      → StepsTo m (event.Call d (call.IolRead file 16777216)) r n
      → after_reading readable x file u begun r ≡ None → n ≡ m
  read_again readable x file u begun (reply.Agg a) step none = absurd (cc (none))
  read_again readable x file u begun (reply.Refused y) step none = step.1
  read_again readable x file u begun r step none = (let e = step.1 in absurd (cc (e)))

  written_again : (x : Collected) (fd a len begun : ℕ) (r : Reply) → StepsTo m (event.Call d (call.IolWrite fd a)) r n
      → after_writing x a len begun r ≡ None → n ≡ m
  written_again x fd a len begun (reply.Count k) step none = absurd (cc (none))
  written_again x fd a len begun (reply.Refused y) step none = step.1
  written_again x fd a len begun r step none = (let e = step.1 in absurd (cc (e)))

  cut_again : (x : Collected) (a from to begun : ℕ) (r : Reply) → StepsTo m (event.Call d (call.AggCut a from to)) r n
      → after_cutting x a begun r ≡ None → n ≡ m
  cut_again x a from to begun (reply.Agg c) step none = absurd (cc (none))
  cut_again x a from to begun (reply.Refused y) step none = step.1
  cut_again x a from to begun r step none = (let e = step.1 in absurd (cc (e)))

  joined_again : (x : Collected) (held a from len begun : ℕ) (r : Reply)
      → StepsTo m (event.Call d (call.AggJoin held a)) r n → after_joining x from len begun r ≡ None → n ≡ m
  joined_again x held a from len begun (reply.Agg c) step none = absurd (cc (none))
  joined_again x held a from len begun (reply.Refused y) step none = step.1
  joined_again x held a from len begun r step none = (let e = step.1 in absurd (cc (e)))

  parted_again : (x : Collected) (held a from begun : ℕ) (r : Reply)
      → StepsTo m (event.Call d (call.AggSplit held from)) r n → after_parting x a begun r ≡ None → n ≡ m
  parted_again x held a from begun (reply.Aggs b c) step none = absurd (cc (none))
  parted_again x held a from begun (reply.Refused y) step none = step.1
  parted_again x held a from begun r step none = (let e = step.1 in absurd (cc (e)))

  replaced_again : (x : Collected) (a part at begun : ℕ) (r : Reply)
      → StepsTo m (event.Call d (call.AggReplace a at at part)) r n → after_replacing x a part begun r ≡ None → n ≡ m
  replaced_again x a part at begun (reply.Agg c) step none = absurd (cc (none))
  replaced_again x a part at begun (reply.Refused y) step none = step.1
  replaced_again x a part at begun r step none = (let e = step.1 in absurd (cc (e)))

  job_again : (r : Reply) → StepsTo m (event.Call d (call.IolRead 0 65536)) r n → is_given phase.Waiting r ≡ false
      → n ≡ m
  job_again (reply.Agg a) step un = absurd (cc (un))
  job_again (reply.Refused x) step un = step.1
  job_again r step un = (let e = step.1 in absurd (cc (e)))

  begun_again : (job : Task) (x : Collected) (begun : ℕ) (l : Option Line) (r : Reply)
      → StepsTo m (event.Call d (next_call job l)) r n → after_next job x l begun r ≡ None → n ≡ m
  begun_again job x begun (Some (line.Cat name)) r step none = opened_again x _ name (begun + 1) r step none
  begun_again job x begun (Some (line.Wc name)) r step none = opened_again x _ name (begun + 1) r step none
  begun_again job x begun o r step none = absurd (cc (none))

  runs_again : (job : Task) (x : Collected) (begun : ℕ) (l : Option Line) (r : Reply) (t : Bool)
      → StepsTo m (event.Call d (if t then call.AggMake x.text else next_call job l)) r n
      → (if t then after_making x begun r else after_next job x l begun r) ≡ None → n ≡ m
  runs_again job x begun l r true step none = made_again x x.text begun r step none
  runs_again job x begun l r false step none = begun_again job x begun l r step none

  -- the close of a file always has a next step
  shut_again : (x : Collected) (from a len begun : ℕ) → shut_by x from a len begun ≡ None → ⊥
  shut_again x from a len begun none = by x.held (nat_le len 4096) (is_nothing x) none
    where
      by : (o : Option ℕ) (t u : Bool) → (if t then file_collected x o from a len begun
          else (if u then Some (at_step (phase.Writing a) begun x) else Some
          (at_step phase.Interpreting begun (with_next x a))))
          ≡ None → ⊥
      by None true u e = cc (e)
      by (Some held) true u e = cc (e)
      by o false true e = cc (e)
      by o false false e = cc (e)

  dropped_again : (x : Collected) (o : Option ℕ) (begun : ℕ) → after_dropping x o begun ≡ None → ⊥
  dropped_again x None begun e = cc (e)
  dropped_again x (Some a) begun e = cc (e)

  broken_again : (job : Task) (x : Collected) (o : Option ℕ) (begun : ℕ) → after_breaking job x o begun ≡ None → ⊥
  broken_again job x None begun e = cc (e)
  broken_again job x (Some a) begun e = cc (e)

  same_again : (readable : ℕ → Option (List ℕ)) (job : Task) (x : Collected) (begun : ℕ) (y : Phase) (r : Reply)
      → StepsTo m (event.Call d (phase_call job x begun y)) r n
      → is_given y r ≡ false → after_phase readable job x begun y r ≡ None → n ≡ m
  same_again readable job x begun phase.Waiting r step un none = job_again r step un
  same_again readable job x begun phase.Interpreting r step un none =
      runs_again job x begun (slice_get job.lines begun) r (expected_now job x begun) step none
  same_again readable job x begun (phase.Reading file u) r step un none = read_again readable x file u begun r step none
  same_again readable job x begun (phase.ClosingFile file a) r step un none =
      absurd (shut_again x (length (bytes_of_one readable x.held)) a (length (bytes_at readable a)) begun none)
  same_again readable job x begun (phase.JoiningFile held a from len) r step un none =
      joined_again x held a from len begun r step none
  same_again readable job x begun (phase.CuttingPart held a from) r step un none =
      parted_again x held a from begun r step none
  same_again readable job x begun (phase.ReplacingPart a part at) r step un none =
      replaced_again x a part at begun r step none
  same_again readable job x begun (phase.Writing a) r step un none = written_again x job.fd a _ begun r step none
  same_again readable job x begun (phase.CuttingRest a from to) r step un none = cut_again x a from to begun r step none
  same_again readable job x begun (phase.DroppingWritten a) r step un none = absurd (dropped_again x x.next begun none)
  same_again readable job x begun (phase.Aborting a) r step un none = absurd (broken_again job x x.next begun none)
  same_again readable job x begun y r step un none = absurd (cc (none))

module _ (own : CallsServeTheirDomain) (why : RefusalsTellWhy) (come : AggregatesComeAndGo)
    (m n : State) (d : ℕ) (fds aggs : ℕ → Bool) (order : IsOrderly m) (live : is_live m d ≡ true) where
  -- ---- the worker makes its call

  abbrev Held : (job : Task) → Collected → (begun : ℕ) → Phase → Reply → Type 0
  Held job x begun y r =
      HasJust n d fds aggs job (or_again (after_phase (readable_at n d) job x begun y r) (at_step y begun x)).piece
      (held_phase standing.Asked y r (or_again (after_phase (readable_at n d) job x begun y r) (at_step y begun x)))

  -- for a call whose reply gives no text from the job pipe
  went : (job : Task) (x : Collected) (begun : ℕ) (y : Phase) (r : Reply) → is_given y r ≡ false
      → HasJust m d fds aggs job x y → StepsTo m (event.Call d (phase_call job x begun y)) r n
      → HasJust n d fds aggs job (or_again (after_phase (readable_at n d) job x begun y r) (at_step y begun x)).piece
      (or_again (after_phase (readable_at n d) job x begun y r) (at_step y begun x)).phase
  went job x begun y r un h step = by (after_phase (readable_at n d) job x begun y r) refl
    where
      by : (o : Option Step) → after_phase (readable_at n d) job x begun y r ≡ o
          → HasJust n d fds aggs job (or_again o (at_step y begun x)).piece (or_again o (at_step y begun x)).phase
      by (Some next) is = call_keeps own why come m n d fds aggs job (at_step y begun x) next r order live h step is
      by None is =
          subst (λ (s : State). HasJust s d fds aggs job x y)
          (sym (same_again m n d (readable_at n d) job x begun y r step un is)) h

  after : (job : Task) (x : Collected) (begun : ℕ) (y : Phase) (r : Reply) → HasJust m d fds aggs job x y
      → StepsTo m (event.Call d (phase_call job x begun y)) r n → Held job x begun y r
  after job x begun phase.Waiting (reply.Agg a) h step = record {
    no_fd = λ f given un. free_read m n d 0 f 65536 (reply.Agg a) step (h.no_fd f given refl);
    no_agg = λ b given un. absent own why come m n d fds aggs job order live (call.IolRead 0 65536) (reply.Agg a) b step
        (both_false (d == d) (a == b) un) (h.no_agg b given refl);
  }
  after job x begun y r h step = went job x begun y r refl h step

  abbrev KeepsAs : Worker → Reply → Standing → Type 0
  KeepsAs x r s =
      HasJust n d fds aggs x.job (filed_step s x (readable_at n d) r).piece
      (held_phase s x.step.phase r (filed_step s x (readable_at n d) r))

  called : (x : Worker) (r : Reply) → x.standing ≡ standing.Asked → HasJust m d fds aggs x.job x.step.piece x.step.phase
      → StepsTo m (event.Call d (call_at x.job x.step)) r n → KeepsJust n fds aggs (process_slot_at d x r)
  called x r asked h step =
      subst (λ (s : Standing). KeepsAs x r s) (sym asked) (after x.job x.step.piece x.step.begun x.step.phase r h step)

  -- a worker that has not made its call has what this call uses
  rests : (x : Worker) (r : Reply) → x.standing ≡ standing.Asks → HasJust n d fds aggs x.job x.step.piece x.step.phase
      → KeepsJust n fds aggs (process_slot_at d x r)
  rests x r is h = subst (λ (s : Standing). KeepsAs x r s) (sym is) h

  ended : (x : Worker) (r : Reply) → x.standing ≡ standing.Over → HasJust n d fds aggs x.job x.step.piece x.step.phase
      → KeepsJust n fds aggs (process_slot_at d x r)
  ended x r is h = subst (λ (s : Standing). KeepsAs x r s) (sym is) h

  module _ (v : Worker) (r : Reply) (t : Turn) (yields : Bool) (comes : ComesOf copying worker_turns m d t yields r n)
    where
      abbrev Keeps : Worker → Type 0
      Keeps x = KeepsJust n fds aggs (process_slot_at d x r)

      makes : (x : Worker) → v ≡ x → t ≡ turn.Make (call_at x.job x.step) → x.standing ≡ standing.Asked
          → HasJust m d fds aggs x.job x.step.piece x.step.phase → Keeps v
      makes x v_is is asked h = subst (λ (y : Worker). Keeps y) (sym v_is)
          (called x r asked h (subst (λ (u : Turn). ComesOf copying worker_turns m d u yields r n) is comes).1)

      yielded : t ≡ turn.Yield → n ≡ m
      yielded is = (subst (λ (u : Turn). ComesOf copying worker_turns m d u yields r n) is comes).2

      still : (job : Task) (x : Collected) (y : Phase) → t ≡ turn.Yield → HasJust m d fds aggs job x y
          → HasJust n d fds aggs job x y
      still job x y is h = subst (λ (s : State). HasJust s d fds aggs job x y) (sym (yielded is)) h

      -- it continues, or yields
      on : (w : Worker) (o : Option Step) → w.standing ≡ standing.Asked
          → HasJust m d fds aggs w.job (or_again o w.step).piece (or_again o w.step).phase → proceeds w o t v → Keeps v
      on w (Some next) asked h did = makes (record w { step = next }) did.1 did.0 asked h
      on w None asked h did =
          subst (λ (y : Worker). Keeps y) (sym did.1)
          (rests (record w { standing = standing.Asks }) r refl (still w.job w.step.piece w.step.phase did.0 h))

      -- its read returned a text: it has no buffered output
      text : (w : Worker) (x : Collected) (bytes : List ℕ) (a : ℕ) → w.standing ≡ standing.Asked
          → w.step.phase ≡ phase.Waiting → HasJust m d fds aggs w.job x (phase.DroppingOther a) → takes w bytes a t v
          → Keeps v
      text w x [] a asked at h did =
          subst (λ (y : Worker). Keeps y) (sym did.1) (ended (record w { standing = standing.Over }) r refl
          (subst (λ (y : Phase). HasJust n d fds aggs w.job w.step.piece y) (sym at)
          (drops own why come m n d fds aggs w.job order live x w.step.piece (phase.DroppingOther a) phase.Waiting a r
          (λ f un. refl) (λ b differ un. differ) h
          (subst (λ (u : Turn). ComesOf copying worker_turns m d u yields r n) did.0 comes).1)))
      text w x (b ∷ bs) a asked at h did = by (job_of (b ∷ bs)) did.0 did.1
        where
          first : (p q : Bool) → (p || q) ≡ false → p ≡ false
          first false q e = refl
          first true q e = absurd (cc (e))

          by : (o : Option Task) → t ≡ turn.Make (call.AggDrop a) → v ≡ with_job w o a → Keeps v
          by (Some job) is v_is =
              makes (with_job w (Some job) a) v_is is asked (record {
                no_fd = λ f given un. h.no_fd f given refl;
                no_agg = λ c given un. h.no_agg c given (first (a == c) (false || false) un);
              })
          by None is v_is =
              makes (with_job w None a) v_is is asked (record {
                no_fd = λ f given un. h.no_fd f given un;
                no_agg = λ c given un. h.no_agg c given un;
              })

      filed : (w : Worker) (x : Phase) (l : Reply) → w.step.phase ≡ x → w.standing ≡ standing.Asked
          → HasJust m d fds aggs w.job (or_again (after_reply w.job w.step (readable_at m d) l) w.step).piece
          (held_phase standing.Asked x l (or_again (after_reply w.job w.step (readable_at m d) l) w.step))
          → files w x l (readable_at m d) t v → Keeps v
      filed w phase.Waiting (reply.Agg a) at asked h did =
          text w (or_again (after_reply w.job w.step (readable_at m d) (reply.Agg a)) w.step).piece
          (bytes_at (readable_at m d) a) a asked at h did
      filed w x l at asked h did = on w (after_reply w.job w.step (readable_at m d) l) asked h did

      moves : (w : Worker) (last : Reply) (s : Standing) → w.standing ≡ s
          → HasJust m d fds aggs w.job (filed_step s w (readable_at m d) last).piece
          (held_phase s w.step.phase last (filed_step s w (readable_at m d) last))
          → works_as s w last (readable_at m d) t v → Keeps v
      moves w last standing.Asks is h did = makes (record w { standing = standing.Asked }) did.1 did.0 refl h
      moves w last standing.Asked is h did = filed w w.step.phase last refl is h did
      moves w last standing.Over is h did =
          subst (λ (y : Worker). Keeps y) (sym did.1) (ended w r is (still w.job w.step.piece w.step.phase did.0 h))

turn_keeps : CallsServeTheirDomain → RefusalsTellWhy → AggregatesComeAndGo
    → (m n : State) (fds aggs : ℕ → Bool) (process_slot next : ProcessSlot Worker) (yields : Bool) (r : Reply)
    → IsOrderly m
    → is_live m process_slot.by ≡ true → KeepsJust m fds aggs process_slot
    → ProcessSlotTurn copying worker_turns m process_slot yields r n next → KeepsJust n fds aggs next
turn_keeps own why come m n fds aggs process_slot next yields r order live h (inl starved) =
    subst (λ (s : State). KeepsJust s fds aggs next) (sym starved.machine_stays)
    (subst (λ (x : ProcessSlot Worker). KeepsJust m fds aggs x) (sym starved.process_slot_stays) h)
turn_keeps own why come m n fds aggs process_slot next yields r order live h (inr did) =
    let goes = subst (λ (l : ℕ → Option (List ℕ)). works process_slot.process process_slot.last l did.turn next.process)
    (readable-live m process_slot.by live) did.proceeds in
    let same : process_slot_at process_slot.by next.process r ≡ next =
    ap (λ (x : ℕ). process_slot_at x next.process r) (sym did.domain_stays)
    ∙ ap (λ (l : Reply). process_slot_at next.by next.process l) (sym did.reported) in
    subst (λ (x : ProcessSlot Worker). KeepsJust n fds aggs x) same
    (moves own why come m n process_slot.by fds aggs order live next.process r did.turn yields did.comes
    process_slot.process process_slot.last process_slot.process.standing refl h goes)

-- the output descriptor is the job's own
output_own : (m : State) (d : ℕ) (fds aggs : ℕ → Bool) (job : Task) (p : Collected) (x : Phase)
    → uses_fd job x job.fd ≡ true → HasJust m d fds aggs job p x
    → HasJust m d (λ fd. fds fd && not (job.fd == fd)) aggs job p x
output_own m d fds aggs job p x uses h =
    record { no_fd = λ f given un. by f (job.fd == f) refl (fds f) refl given un; no_agg = h.no_agg }
  where
    by : (f : ℕ) (t : Bool) → (job.fd == f) ≡ t → (u : Bool) → fds f ≡ u → (fds f && not (job.fd == f)) ≡ false
        → uses_fd job x f ≡ false → descriptor m d f ≡ None
    by f true test u is given un =
        let used : uses_fd job x f ≡ true = subst (λ k. uses_fd job x k ≡ true) (same_number job.fd f test) uses in
        absurd (cc (used, un))
    by f false test false is given un = h.no_fd f is un
    by f false test true is given un =
        (let e : (true && not false) ≡ false = ap (λ b. b && not false) (sym is)
        ∙ (ap (λ b. fds f && not b) (sym test) ∙ given) in absurd (cc (e)))

pub workers_keep_nothing : CallsServeTheirDomain → RefusalsTellWhy → AggregatesComeAndGo → WorkersKeepNothing
workers_keep_nothing own why come = record {
  calls = call_keeps own why come;
  turns = turn_keeps own why come;
  output = output_own;
}
