-- A run records whether a turn got a resource refusal.
use Rattle.std.proofs.Common.{inl, inr, ◌≡◌, ◌∙◌, ℕ, List, [], ◌∷◌, Bool, false, sym, ap}
use Rattle.std.specs.Prelude.{◌||◌}
use Rattle.std.proofs.lemmas.Bool.{or_parts}
use Rattle.iol_core.specs.declared.events.Reply.{Reply}
use Rattle.iol_laws.specs.Caller.{is_resource_failure}
use Rattle.iol_proc.specs.FailureFree.{AreFailureFree, ResourceFailureAsItRuns}
use Rattle.iol_proc.specs.Turns.{TransitionRelation, Machine}
use Rattle.iol_proc.specs.World.{WorldState, WorldStep, WorldRun}
use Rattle.iol_proc.specs.declared.choice.Choice.{Choice}
use Rattle.iol_proc.specs.declared.choice.Choice.TheVariants as choice

or_failure_free : (a b : Bool) → a ≡ false → b ≡ false → (a || b) ≡ false
or_failure_free a b x y = ap (λ (v : Bool). v || b) x ∙ y

module _ {M P : Type 0} (machine : Machine M) (turns : TransitionRelation P) where
  step_was : (x : Choice) (r : Reply) (w after : WorldState M P) → WorldStep machine turns w x r after
      → after.resource_failure ≡ false → (w.resource_failure ≡ false) × AreFailureFree (x ∷ []) (r ∷ [])
  step_was (choice.Turn by) r w after (inl absent) failure_free = (
    ap (λ (v : WorldState M P). v.resource_failure) (sym absent.stays) ∙ failure_free,
    (ap is_resource_failure absent.answer, tt),
  )
  step_was (choice.Turn by) r w after (inr present) failure_free =
      (let both = or_parts w.resource_failure (is_resource_failure r) (sym present.turn.notes ∙ failure_free) in
      (both.0, (both.1, tt)))
  step_was (choice.Outside e) r w after step failure_free = (sym step.resource_failure_stays ∙ failure_free, tt)

  run_was : (w after : WorldState M P) (xs : List Choice) (rs : List Reply) → WorldRun machine turns w xs rs after
      → after.resource_failure ≡ false → (w.resource_failure ≡ false) × AreFailureFree xs rs
  run_was w after [] [] ran failure_free =
      (ap (λ (v : WorldState M P). v.resource_failure) (sym ran) ∙ failure_free, tt)
  run_was w after (choice.Turn by ∷ xs) (r ∷ rs) ran failure_free =
      let rest = run_was ran.0 after xs rs ran.2 failure_free in
      let one = step_was (choice.Turn by) r w ran.0 ran.1 rest.0 in
      (one.0, (one.1.0, rest.1))
  run_was w after (choice.Outside e ∷ xs) (r ∷ rs) ran failure_free =
      let rest = run_was ran.0 after xs rs ran.2 failure_free in
      let one = step_was (choice.Outside e) r w ran.0 ran.1 rest.0 in
      (one.0, rest.1)
  run_was w after [] (r ∷ rs) ran failure_free = absurd ran
  run_was w after (x ∷ xs) [] ran failure_free = absurd ran

  turn_stays : (by : ℕ) (r : Reply) (w after : WorldState M P) → WorldStep machine turns w (choice.Turn by) r after
      → w.resource_failure ≡ false → is_resource_failure r ≡ false → after.resource_failure ≡ false
  turn_stays by r w after (inl absent) failure_free none_fails =
      ap (λ (v : WorldState M P). v.resource_failure) absent.stays
      ∙ failure_free
  turn_stays by r w after (inr present) failure_free none_fails = present.turn.notes
      ∙ or_failure_free w.resource_failure (is_resource_failure r) failure_free none_fails

  run_stays : (w after : WorldState M P) (xs : List Choice) (rs : List Reply) → WorldRun machine turns w xs rs after
      → w.resource_failure ≡ false → AreFailureFree xs rs → after.resource_failure ≡ false
  run_stays w after [] [] ran failure_free none_fails = ap (λ (v : WorldState M P). v.resource_failure) ran
      ∙ failure_free
  run_stays w after (choice.Turn by ∷ xs) (r ∷ rs) ran failure_free none_fails =
      run_stays ran.0 after xs rs ran.2 (turn_stays by r w ran.0 ran.1 failure_free none_fails.0) none_fails.1
  run_stays w after (choice.Outside e ∷ xs) (r ∷ rs) ran failure_free none_fails =
      run_stays ran.0 after xs rs ran.2 (ran.1.resource_failure_stays ∙ failure_free) none_fails
  run_stays w after [] (r ∷ rs) ran failure_free none_fails = absurd ran
  run_stays w after (x ∷ xs) [] ran failure_free none_fails = absurd ran

  pub resource_failure_as_it_runs : ResourceFailureAsItRuns machine turns
  resource_failure_as_it_runs = record { never_was = run_was; stays_failure_free = run_stays }
