-- Steps of runs of a world.
use Rattle.std.proofs.Common.{◌≡◌, ℕ, ◌+◌, ◌<◌, List, [], ◌∷◌, ◌++◌, length, take, get_or, Option, Some, refl, sym}
use Rattle.std.proofs.Common.{subst, IfSome, slice_get, slice_set, ◌∙◌, ap}
use Rattle.std.proofs.lemmas.List.{length-map, take_more}
use Rattle.std.proofs.Math.Seq.{map-set_same}
use Rattle.iol_core.specs.declared.events.Reply.{Reply}
use Rattle.iol_proc.specs.Turns.{Machine, TransitionRelation}
use Rattle.iol_proc.specs.World.{WorldState, domains_of, IsInSlots, WorldStep, WorldRun}
use Rattle.iol_proc.specs.declared.choice.Choice.{Choice}
use Rattle.iol_proc.specs.declared.process_slot.ProcessSlot.{ProcessSlot}

-- the property of an optional value holds for the value that it has
pub of_some : {X : Type 0} (P : X → Type 0) (o : Option X) (x : X) → o ≡ Some x → IfSome o P → P x
of_some {X = X} P o x e h = subst (λ (v : Option X). IfSome v P) e h

-- a process slot keeps its domain
pub domains_of-slice_set : {P : Type 0} (xs : List (ProcessSlot P)) (k : ℕ) (x y : ProcessSlot P) → x ≡ get_or xs k x
    → y.by ≡ x.by → domains_of (slice_set xs k y) ≡ domains_of xs
domains_of-slice_set xs k x y at_k same = map-set_same (λ s. s.by) xs k y x (same ∙ ap (λ s. s.by) at_k)

-- equal lists of domains have the same number of processes
pub same_length : {P : Type 0} (xs ys : List (ProcessSlot P)) → domains_of xs ≡ domains_of ys → length xs ≡ length ys
same_length xs ys e = sym (length-map xs (λ s. s.by)) ∙ (ap length e ∙ length-map ys (λ s. s.by))

module _ {M P : Type 0} (machine : Machine M) (turns : TransitionRelation P) where
  -- one more step
  pub run_more : (w : WorldState M P) (cs : List Choice) (rs : List Reply) (mid : WorldState M P) (c : Choice)
      (r : Reply)
      (after : WorldState M P) → WorldRun machine turns w cs rs mid → WorldStep machine turns mid c r after
      → WorldRun machine turns w (cs ++ c ∷ []) (rs ++ r ∷ []) after
  run_more w [] [] mid c r after ran step =
      (after, subst (λ (v : WorldState M P). WorldStep machine turns v c r after) ran step, refl)
  run_more w (d ∷ ds) (s ∷ ss) mid c r after ran step = (ran.0, ran.1, run_more ran.0 ds ss mid c r after ran.2 step)
  run_more w [] (s ∷ ss) mid c r after ran step = absurd ran
  run_more w (d ∷ ds) [] mid c r after ran step = absurd ran

  -- likewise for the choices up to an index
  pub run_at : (w : WorldState M P) (cs : List Choice) (i : ℕ) (rs : List Reply) (mid : WorldState M P) (c : Choice)
      (r : Reply)
      (after : WorldState M P) → i < length cs → c ≡ get_or cs i c → WorldRun machine turns w (take i cs) rs mid
      → WorldStep machine turns mid c r after → WorldRun machine turns w (take (i + 1) cs) (rs ++ r ∷ []) after
  run_at w cs i rs mid c r after lt is ran step =
      rw (take_more cs i c lt)
      (subst (λ (x : Choice). WorldRun machine turns w (take i cs ++ x ∷ []) (rs ++ r ∷ []) after) is
      (run_more w (take i cs) rs mid c r after ran step))

-- the process at the index that was found
pub in_slots_at : {P : Type 0} (process_slots : List (ProcessSlot P)) (by k : ℕ) (process_slot : ProcessSlot P)
    → slice_get process_slots k ≡ Some process_slot → IfSome (slice_get process_slots k) (λ s. s.by ≡ by)
    → IsInSlots process_slots by process_slot.process
in_slots_at process_slots by k process_slot sits found = record {
  place = k;
  process_slot = process_slot;
  sits = sits;
  domain = of_some (λ s. s.by ≡ by) (slice_get process_slots k) process_slot sits found;
  process = refl;
}
