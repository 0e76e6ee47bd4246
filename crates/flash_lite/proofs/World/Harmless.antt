-- Harmless choices are site-preserving in a world with the invariant, and properties of a run that ends with turns
-- apply to the run before them.
use Rattle.std.proofs.Common.{◌≡◌, ◌<◌, ℕ, zero, suc, ◌+◌, ◌%◌, List, [], ◌∷◌, ◌++◌, length, map, ap, ◌∙◌, refl, sym}
use Rattle.std.proofs.Common.{subst, arith, Some, true, false, Bool, slice_get, slice_index, append-nil, append_assoc}
use Rattle.std.specs.List.{AllByRecursion}
use Rattle.iol_core.specs.State.{State, conn_at}
use Rattle.iol_core.specs.Text.{bytes_of}
use Rattle.iol_core.specs.declared.events.Call.{Call}
use Rattle.iol_core.specs.declared.events.Call.TheVariants as call
use Rattle.iol_core.specs.declared.events.Event.TheVariants as event
use Rattle.iol_core.specs.declared.events.Reply.{Reply}
use Rattle.iol_laws.specs.Frame.{changes_files, admits_to}
use Rattle.iol_proc.specs.Idle.{Went, rounds}
use Rattle.iol_proc.specs.Turns.{TransitionRelation}
use Rattle.iol_proc.specs.World.{WorldState, copying, WorldStep, WorldRun}
use Rattle.iol_proc.specs.declared.choice.Choice.{Choice}
use Rattle.iol_proc.specs.declared.choice.Choice.TheVariants as choice
use Rattle.iol_proc.specs.declared.process_slot.ProcessSlot.{ProcessSlot}
use Rattle.flash_laws.specs.World.Undisturbed.{HasNoProcess, IsSitePreserving, AreSitePreserving}
use Rattle.flash_laws.specs.Workers.WorkerSet.{WorkerSet}
use Rattle.flash_laws.specs.Site.Past.{Past}
use Rattle.flash_laws.specs.Serves.Rounds.{in_rounds}
use Rattle.flash_laws.specs.Site.ClientConsistency.{AreAnswered}
use Rattle.flash_laws.specs.SiteContents.{SiteContents, IsAnswer, Refusals}
use Rattle.flash_laws.specs.Site.{server, SiteStays}
use Rattle.flash_laws.specs.World.Consistency.{past_of, Actor, Serving, actor_turns}
use Rattle.flash_laws.specs.World.{AreFair, Consistent, IsServing, as_actor, StepKeepsConsistency}
use Rattle.flash_laws.specs.World.Done.{IsDone}
use Rattle.flash_laws.specs.World.Host.{IsRight}
use Rattle.flash_laws.proofs.Conn.Responses.{some-inj}
use Rattle.flash_laws.proofs.Site.Pasts.{past-turn, even-more}
use Rattle.flash_lite.specs.Harmless.{IsHarmless, leaves_site}

-- ---- a call that leaves the site unchanged

unset : false ≡ true → ⊥
unset is = absurd (cc)

files-stay : (m : State) (d : ℕ) (k : Call) → leaves_site k ≡ true → changes_files m (event.Call d k) ≡ false
files-stay m d (call.FileNew name pool) is = absurd (unset is)
files-stay m d (call.IolWrite fd agg) is = absurd (unset is)
files-stay m d (call.Write fd bytes) is = absurd (unset is)
files-stay m d k is = refl

none-admitted : (d : ℕ) (k : Call) (p : ℕ) → leaves_site k ≡ true → admits_to (event.Call d k) p ≡ false
none-admitted d (call.PoolAdmit pool domain) p is = absurd (unset is)
none-admitted d k p is = refl

-- ---- a domain after those of the processes

process_slot-there : {W : Type 0} (workers : List (ProcessSlot W)) (i : ℕ) (s : ProcessSlot (Actor W))
    → slice_get (map (λ w. as_actor w) workers) i ≡ Some s
    → (process_slot : ProcessSlot W) × (slice_get workers i ≡ Some process_slot) × (s.by ≡ process_slot.by)
process_slot-there [] i s is = absurd (cc (is))
process_slot-there {W = W} (x ∷ xs) zero s is =
    (x, refl, ap (λ (v : ProcessSlot (Actor W)). v.by) (sym (some-inj (as_actor x) s is)))
process_slot-there (x ∷ xs) (suc i) s is = process_slot-there xs i s is

fair-parts : (refuses : Refusals) (x : Choice) (r : Reply) (xs : List Choice) (rs : List Reply)
    → AreFair refuses (x ∷ xs) (r ∷ rs) → AreFair refuses (x ∷ []) (r ∷ []) × AreFair refuses xs rs
fair-parts refuses (choice.Turn by) r xs rs fair = ((fair.0, tt), fair.1)
fair-parts refuses (choice.Outside e) r xs rs fair = (tt, fair)

module _ (site_contents : SiteContents) (worker_set : WorkerSet) where
  sits-below : (xs : List Choice) (rs : List Reply) (w : WorldState State (Actor worker_set.Worker))
      → Consistent site_contents worker_set xs rs w
      → (i : ℕ) (s : ProcessSlot (Actor worker_set.Worker)) → slice_get w.process_slots i ≡ Some s
      → s.by < server + worker_set.count + 1
  sits-below xs rs w consistent i s is =
      below i
      (sym (ap (λ (l : List (ProcessSlot (Actor worker_set.Worker))). slice_get l i) consistent.in_slots.process_slots)
      ∙ is)
    where
      first : ProcessSlot (Actor worker_set.Worker)
      first = record { by = server; process = Serving consistent.in_slots.state; last = consistent.in_slots.last }

      below : (i : ℕ) → slice_get (first ∷ map (λ v. as_actor v) consistent.in_slots.workers) i ≡ Some s
          → s.by < server + worker_set.count + 1
      below zero is =
          (let e : s.by ≡ server =
          ap (λ (v : ProcessSlot (Actor worker_set.Worker)). v.by) (sym (some-inj first s is)) in omega (arith, e))
      below (suc i) is =
          let at = process_slot-there consistent.in_slots.workers i s is in
          let job_queue = consistent.in_slots.serves.fit.job_queues.by i at.0 at.1 in
          let few : i < worker_set.count = job_queue.0 in
          let own : s.by ≡ i + 2 = at.2 ∙ job_queue.1 in
          omega (arith, few, own)

  module _ (stays : SiteStays) where
    step-site_preserving : (xs : List Choice) (rs : List Reply) (x : Choice) (r : Reply)
        (w after : WorldState State (Actor worker_set.Worker))
        → WorldStep copying (actor_turns in_rounds worker_set.turns) w x r after → IsHarmless worker_set.count x
        → Consistent site_contents worker_set xs rs w → IsSitePreserving w x after
    step-site_preserving xs rs (choice.Outside (event.Call d k)) r w after step harmless consistent = (
      nobody,
      stays site_contents.finds w.machine after.machine (event.Call d k) r consistent.fixed.site step.step
          (files-stay w.machine d k harmless.1) (λ p. none-admitted d k p harmless.1),
    )
      where
        nobody : HasNoProcess w.process_slots d
        nobody i s sits same =
            let low : s.by < server + worker_set.count + 1 = sits-below xs rs w consistent i s sits in
            let high : server + worker_set.count < d = harmless.0 in
            let e : s.by ≡ d = same in
            absurd (omega (arith, low, high, e))
    step-site_preserving xs rs x r w after step harmless consistent = tt

    pub all-site_preserving : (keeps : StepKeepsConsistency in_rounds worker_set) (past xs : List Choice)
        (ps rs : List Reply)
        (w after : WorldState State (Actor worker_set.Worker))
        → (run : WorldRun copying (actor_turns in_rounds worker_set.turns) w xs rs after)
        → Consistent site_contents worker_set past ps w → AreFair site_contents.refuses xs rs
        → AllByRecursion (λ x. IsHarmless worker_set.count x) xs
        → AreSitePreserving (actor_turns in_rounds worker_set.turns) w xs rs after run
    all-site_preserving keeps past [] ps rs w after run consistent fair harmless = tt
    all-site_preserving keeps past (x ∷ xs) ps [] w after run consistent fair harmless = tt
    all-site_preserving keeps past (x ∷ xs) ps (r ∷ rs) w after run consistent fair harmless =
        let parts = fair-parts site_contents.refuses x r xs rs fair in
        let site_preserving = step-site_preserving past ps x r w run.0 run.1 harmless.0 consistent in (
          site_preserving,
          all-site_preserving keeps (past ++ x ∷ []) xs (ps ++ r ∷ []) rs run.0 after run.2
              (keeps site_contents past ps x r w run.0 run.1 site_preserving parts.0 consistent) parts.1 harmless.1,
        )

-- ---- turns in rounds add no received bytes

past-rounds : (ds : List ℕ) (i : ℕ) (xs : List Choice) (rs : List Reply) (ts : List Went) → length xs ≡ length rs
    → past_of (xs ++ rounds ds i (length ts)) (rs ++ map (λ t. t.1) ts) ≡ past_of xs rs
past-rounds ds i xs rs [] even = ap (λ (l : List Choice). past_of l (rs ++ [])) (append-nil xs)
    ∙ ap (λ (l : List Reply). past_of xs l) (append-nil rs)
past-rounds ds i xs rs (t ∷ ts) even =
    let by : ℕ = slice_index ds (i % length ds) in
    let rest : List Choice = rounds ds (suc i) (length ts) in
    let after_reply : List Reply = map (λ u. u.1) ts in
    ap (λ (l : List Choice). past_of l (rs ++ t.1 ∷ after_reply)) (sym (append_assoc xs (choice.Turn by ∷ []) rest))
    ∙ (ap (λ (l : List Reply). past_of ((xs ++ choice.Turn by ∷ []) ++ rest) l)
    (sym (append_assoc rs (t.1 ∷ []) after_reply))
    ∙ (past-rounds ds (suc i) (xs ++ choice.Turn by ∷ []) (rs ++ t.1 ∷ []) ts
    (even-more xs rs (choice.Turn by) t.1 even) ∙ past-turn xs rs by t.1 even))

pub run-even : {P : Type 0} (turns : TransitionRelation P) (xs : List Choice) (rs : List Reply)
    (w after : WorldState State P) → WorldRun copying turns w xs rs after
    → length xs ≡ length rs
run-even turns [] [] w after run = refl
run-even turns (x ∷ xs) (r ∷ rs) w after run = ap suc (run-even turns xs rs run.0 after run.2)
run-even turns [] (r ∷ rs) w after run = absurd run
run-even turns (x ∷ xs) [] w after run = absurd run

module _ (site_contents : SiteContents) (worker_set : WorkerSet) where
  abbrev Whole : State → Past → Type 0
  Whole m p = (c : ℕ) → p.net c ≡ true → (conn_at m c).closed ≡ true → p.gone c ≡ false
      → IsAnswer site_contents (p.came c) (p.sent c ++ bytes_of (conn_at m c).outgoing)

  -- if a run that ends with turns is right, so is the run before them
  pub right-before : (ds : List ℕ) (xs : List Choice) (rs : List Reply) (ts : List Went) (idle : Bool)
      (after : WorldState State (Actor worker_set.Worker))
      → length xs ≡ length rs
      → IsRight worker_set site_contents (xs ++ rounds ds 0 (length ts)) (rs ++ map (λ t. t.1) ts) idle after
      → IsRight worker_set site_contents xs rs idle after
  right-before ds xs rs ts idle after even right =
      let same = past-rounds ds 0 xs rs ts even in
      let s = right.consistent.in_slots in record {
        answered = subst (λ (p : Past). AreAnswered site_contents worker_set after.machine p) same right.answered;
        whole = subst (λ (p : Past). Whole after.machine p) same right.whole;
        consistent = record {
          even = even;
          order = right.consistent.order;
          fixed = right.consistent.fixed;
          in_slots = record {
            state = s.state;
            last = s.last;
            workers = s.workers;
            process_slots = s.process_slots;
            serves = subst (λ (p : Past). IsServing site_contents worker_set after.machine p s.state s.last s.workers)
                same s.serves;
          };
        };
        done = λ is. subst (λ (p : Past). IsDone site_contents worker_set.count after.machine p s.state.clients) same
            (right.done is);
      }
