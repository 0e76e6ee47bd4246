-- A worker's account preserves its condition when idle.
use Rattle.std.proofs.Common.{◌≡◌, ℕ, zero, suc, ◌+◌, false, Option, Some, None, List, [], ◌∷◌, refl, sym, ap, subst}
use Rattle.std.proofs.Common.{◌∙◌, arith, nat_lt, if◌then◌else◌}
use Rattle.std.proofs.lemmas.Bool.Decides.{nat_tests}
use Rattle.iol_core.specs.State.{State}
use Rattle.iol_core.specs.Run.{StepsTo}
use Rattle.iol_core.specs.declared.events.Call.{Call}
use Rattle.iol_core.specs.declared.events.Call.TheVariants as call
use Rattle.iol_core.specs.declared.events.Event.TheVariants as event
use Rattle.iol_core.specs.declared.events.Reply.{Reply}
use Rattle.iol_core.specs.declared.events.Reply.TheVariants as reply
use Rattle.iol_core.specs.declared.refusals.Refusal.TheVariants.{WouldBlock}
use Rattle.iol_laws.specs.Reasons.{RefusalsTellWhy}
use Rattle.iol_proc.specs.ReadableBytes.{readable_to}
use Rattle.iol_proc.specs.Quiescence.{Quiesces}
use Rattle.iol_proc.specs.Idle.{more_of_two}
use Rattle.iol_proc.specs.declared.process.Turn.TheVariants as turn
use Rattle.flash_cgi.specs.Job.{Task, job_of}
use Rattle.flash_cgi.specs.WorkerSteps.{call_at, phase_call, after_reply, bytes_at}
use Rattle.flash_cgi.specs.Works.{works, works_as, files, proceeds, takes, with_job, worker_turns}
use Rattle.flash_cgi.specs.Standstill.{IsStuck, IsRefused, HasWaited, WaitingIsEmpty, is_over}
use Rattle.flash_cgi.specs.declared.phase.Phase.{Phase}
use Rattle.flash_cgi.specs.declared.phase.Phase.TheVariants as phase
use Rattle.flash_cgi.specs.declared.phase.Standing.{Standing}
use Rattle.flash_cgi.specs.declared.phase.Standing.TheVariants as standing
use Rattle.flash_cgi.specs.declared.phase.Step.{Step}
use Rattle.flash_cgi.specs.declared.worker.Worker.{Worker}

-- the call that it makes is the call of its step, unless its job pipe has ended
abbrev IsCallOf : Call → Worker → Standing → Type 0
IsCallOf c v standing.Over = Unit {0}
IsCallOf c v s = c ≡ call_at v.job v.step

call_is : (w v : Worker) (c : Call) (l : Reply) (readable : ℕ → Option (List ℕ)) → works w l readable (turn.Make c) v
    → IsCallOf c v v.standing
call_is w v c l readable did = by w.standing did
  where
    any : (s : Standing) → c ≡ call_at v.job v.step → IsCallOf c v s
    any standing.Over is = tt
    any x is = is

    made : (k : Call) (x : Worker) → turn.Make c ≡ turn.Make k → v ≡ x → k ≡ call_at x.job x.step
        → IsCallOf c v v.standing
    made k x e is at = let same : c ≡ k = cc in
        any v.standing (same ∙ (at ∙ sym (ap (λ (y : Worker). call_at y.job y.step) is)))

    goes : (o : Option Step) → proceeds w o (turn.Make c) v → IsCallOf c v v.standing
    goes (Some step) did = made (call_at w.job step) (record w { step = step }) did.0 did.1 refl
    goes None did = (let e = did.0 in absurd (cc))

    with_one : (o : Option Task) (agg : ℕ) → turn.Make c ≡ turn.Make (call.AggDrop agg) → v ≡ with_job w o agg
        → IsCallOf c v v.standing
    with_one (Some t) agg e is = made (call.AggDrop agg) (with_job w (Some t) agg) e is refl
    with_one None agg e is = made (call.AggDrop agg) (with_job w None agg) e is refl

    took : (text : List ℕ) (agg : ℕ) → takes w text agg (turn.Make c) v → IsCallOf c v v.standing
    took [] agg did = subst (λ (s : Standing). IsCallOf c v s) (sym (ap (λ (y : Worker). y.standing) did.1)) tt
    took (b ∷ bs) agg did = with_one (job_of (b ∷ bs)) agg did.0 did.1

    filed : (d : Phase) (l : Reply) → files w d l readable (turn.Make c) v → IsCallOf c v v.standing
    filed phase.Waiting (reply.Agg agg) did = took (bytes_at readable agg) agg did
    filed d m did = goes (after_reply w.job w.step readable m) did

    by : (s : Standing) → works_as s w l readable (turn.Make c) v → IsCallOf c v v.standing
    by standing.Asks did = made (call_at w.job w.step) (record w { standing = standing.Asked }) did.0 did.1 refl
    by standing.Asked did = filed w.step.phase l did
    by standing.Over did = (let e = did.0 in absurd (cc))

-- a yield leaves its step: it will make its call again, or its job pipe has ended
abbrev Yields : Worker → Worker → Standing → Type 0
Yields w v standing.Asks = ⊥
Yields w v standing.Asked = v ≡ record w { standing = standing.Asks }
Yields w v standing.Over = v ≡ w

yield_is : (w v : Worker) (l : Reply) (readable : ℕ → Option (List ℕ)) → works w l readable turn.Yield v
    → Yields w v w.standing
yield_is w v l readable did = by w.standing did
  where
    goes : (o : Option Step) → proceeds w o turn.Yield v → v ≡ record w { standing = standing.Asks }
    goes (Some step) did = (let e = did.0 in absurd (cc))
    goes None did = did.1

    filed : (d : Phase) (l : Reply) → files w d l readable turn.Yield v → v ≡ record w { standing = standing.Asks }
    filed phase.Waiting (reply.Agg agg) did = (let e = did.0 in absurd (cc))
    filed d m did = goes (after_reply w.job w.step readable m) did

    by : (s : Standing) → works_as s w l readable turn.Yield v → Yields w v s
    by standing.Asks did = (let e = did.0 in absurd (cc))
    by standing.Asked did = filed w.step.phase l did
    by standing.Over did = did.1

-- the condition after one yield and after two, by its standing
module _ (m : State) (by : ℕ) where
  stuck_called : (w : Worker) (c : Call) (s : Standing) → IsCallOf c w s
      → StepsTo m (event.Call by c) (reply.Refused WouldBlock) m → IsStuck m by w (reply.Refused WouldBlock) s
  stuck_called w c standing.Over is step = tt
  stuck_called w c standing.Asks is step =
      subst (λ (k : Call). StepsTo m (event.Call by k) (reply.Refused WouldBlock) m) is step
  stuck_called w c standing.Asked is step =
      (subst (λ (k : Call). StepsTo m (event.Call by k) (reply.Refused WouldBlock) m) is step, refl)

  refused_stuck : (w : Worker) (l : Reply) (s : Standing) → IsStuck m by w l s → IsRefused m by w l s
  refused_stuck w l standing.Asked h = h
  refused_stuck w l x h = tt

  -- IsRefused holds after one yield, and IsStuck after two
  yields_once : (w v : Worker) (s : Standing) → w.standing ≡ s → Yields w v s → IsRefused m by v reply.Done v.standing
  yields_once w v standing.Asks is y = absurd y
  yields_once w v standing.Asked is y =
      subst (λ (x : Standing). IsRefused m by v reply.Done x) (sym (ap (λ (x : Worker). x.standing) y)) tt
  yields_once w v standing.Over is y =
      subst (λ (x : Standing). IsRefused m by v reply.Done x) (sym (ap (λ (x : Worker). x.standing) y ∙ is)) tt

  yields_twice : (w v : Worker) (l : Reply) (s : Standing) → w.standing ≡ s → Yields w v s → IsRefused m by w l s
      → IsStuck m by v reply.Done v.standing
  yields_twice w v l standing.Asks is y h = absurd y
  yields_twice w v l standing.Asked is y h = subst (λ (x : Worker). IsStuck m by x reply.Done x.standing) (sym y) h.0
  yields_twice w v l standing.Over is y h =
      subst (λ (x : Standing). IsStuck m by v reply.Done x) (sym (ap (λ (x : Worker). x.standing) y ∙ is)) tt

pub worker_quiesces : Quiesces HasWaited worker_turns
worker_quiesces = record {
  first = λ by p l m. tt;
  blocks = λ n by p q l m c before did step. blocks n by p q l m c did step;
  yields = λ n by p q l m before did. yields n by p q l m before did;
}
  where
    stays : (n : ℕ) → more_of_two (suc (suc n)) ≡ suc (suc n)
    stays n = let e : nat_lt (suc (suc n)) 2 ≡ false = grind (arith, nat_tests) in
        ap (λ b. if b then suc (suc n) + 1 else suc (suc n)) e

    blocks : (n by : ℕ) (p q : Worker) (l : Reply) (m : State) (c : Call) → works p l (readable_to m by) (turn.Make c) q
        → StepsTo m (event.Call by c) (reply.Refused WouldBlock) m → HasWaited n by q (reply.Refused WouldBlock) m
    blocks zero by p q l m c did step = tt
    blocks (suc zero) by p q l m c did step =
        refused_stuck m by q (reply.Refused WouldBlock) q.standing
        (stuck_called m by q c q.standing (call_is p q c l (readable_to m by) did) step)
    blocks (suc (suc n)) by p q l m c did step =
        stuck_called m by q c q.standing (call_is p q c l (readable_to m by) did) step

    yields : (n by : ℕ) (p q : Worker) (l : Reply) (m : State) → HasWaited n by p l m
        → works p l (readable_to m by) turn.Yield q → HasWaited (more_of_two n) by q reply.Done m
    yields zero by p q l m h did = yields_once m by p q p.standing refl (yield_is p q l (readable_to m by) did)
    yields (suc zero) by p q l m h did =
        yields_twice m by p q l p.standing refl (yield_is p q l (readable_to m by) did) h
    yields (suc (suc n)) by p q l m h did =
        subst (λ (k : ℕ). HasWaited k by q reply.Done m) (sym (stays n))
        (yields_twice m by p q l p.standing refl (yield_is p q l (readable_to m by) did)
        (refused_stuck m by p l p.standing h))

pub waiting_is_empty : RefusalsTellWhy → WaitingIsEmpty
waiting_is_empty why m by j w last h waits goes opened =
    why.pipe_is_empty m m by 0 j 65536 opened (stuck w.standing goes h)
  where
    stuck : (s : Standing) → is_over s ≡ false → IsStuck m by w last s
        → StepsTo m (event.Call by (call.IolRead 0 65536)) (reply.Refused WouldBlock) m
    stuck standing.Over goes h = absurd (cc)
    stuck standing.Asks goes h =
        subst (λ (d : Phase). StepsTo m (event.Call by (phase_call w.job w.step.piece w.step.begun d))
        (reply.Refused WouldBlock) m) waits h
    stuck standing.Asked goes h =
        subst (λ (d : Phase). StepsTo m (event.Call by (phase_call w.job w.step.piece w.step.begun d))
        (reply.Refused WouldBlock) m) waits h.0
