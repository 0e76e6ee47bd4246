-- Steps of turns in rounds, which are runs of turns.
use Rattle.std.proofs.Common.{◌≡◌, inl, inr, ℕ, zero, suc, ◌+◌, ◌<◌, ◌%◌, List, [], ◌∷◌, ◌++◌, length, take, map}
use Rattle.std.proofs.Common.{replicate, Some, Bool, false, refl, sym, subst, ap, ◌∙◌, slice_get, slice_index, add-zero}
use Rattle.std.proofs.Common.{zero-add, arith}
use Rattle.std.proofs.lemmas.List.{length-map}
use Rattle.std.proofs.lemmas.Bool.{cases_lt}
use Rattle.std.proofs.lemmas.Grind.{common_steps}
use Rattle.std.proofs.Math.Seq.{map-set_same}
use Rattle.std.proofs.lemmas.Option.{get_or_from_slice_get}
use Rattle.iol_core.specs.declared.events.Reply.{Reply}
use Rattle.iol_proc.specs.Turns.{Machine, TransitionRelation, ProcessSlotTurn}
use Rattle.iol_proc.specs.World.{WorldState, domains_of, PlaceTurn, WorldRun}
use Rattle.iol_proc.specs.Idle.{Went, RoundRun, counted, counted_over, yields_of, is_idle, rounds}
use Rattle.iol_proc.specs.declared.process_slot.ProcessSlot.{ProcessSlot}

module _ {M P : Type 0} (machine : Machine M) (turns : TransitionRelation P) where
  -- one more turn
  round_more : (w : WorldState M P) (i : ℕ) (ts : List Went) (mid : WorldState M P) (t : Went) (after : WorldState M P)
      → RoundRun machine turns w i ts mid
      → PlaceTurn machine turns mid ((i + length ts) % length mid.process_slots) t.0 t.1 after
      → RoundRun machine turns w i (ts ++ t ∷ []) after
  round_more w i [] mid t after ran turn = (
    after,
    subst (λ (v : WorldState M P). PlaceTurn machine turns v (i % length v.process_slots) t.0 t.1 after) ran
        (rw add-zero at turn),
    refl,
  )
  round_more w i (s ∷ ss) mid t after ran turn =
      let e : i + suc (length ss) ≡ suc i + length ss = omega arith in (
        ran.0,
        ran.1,
        round_more ran.0 (suc i) ss mid t after ran.2
            (subst (λ (n : ℕ). PlaceTurn machine turns mid (n % length mid.process_slots) t.0 t.1 after) e turn),
      )

  -- likewise from the first turn on
  pub round_next : (w : WorldState M P) (ts : List Went) (mid : WorldState M P) (t : Went) (after : WorldState M P)
      (i k : ℕ)
      → RoundRun machine turns w 0 ts mid → length ts ≡ i → k ≡ length mid.process_slots
      → PlaceTurn machine turns mid (i % k) t.0 t.1 after → RoundRun machine turns w 0 (ts ++ t ∷ []) after
  round_next w ts mid t after i k ran count size turn =
      let e : i % k ≡ (0 + length ts) % length mid.process_slots = rw (zero-add, count, size) in
      round_more w 0 ts mid t after ran (subst (λ (n : ℕ). PlaceTurn machine turns mid n t.0 t.1 after) e turn)

  -- a turn does not change the domain of a process
  same_domain : (m : M) (process_slot : ProcessSlot P) (yields : Bool) (r : Reply) (after : M) (next : ProcessSlot P)
      → ProcessSlotTurn machine turns m process_slot yields r after next → next.by ≡ process_slot.by
  same_domain m process_slot yields r after next turn =
      elim turn [ inl s ↦ ap (λ (v : ProcessSlot P). v.by) s.process_slot_stays | inr v ↦ v.domain_stays ]

  same_domains : (w : WorldState M P) (place : ℕ) (yields : Bool) (r : Reply) (after : WorldState M P)
      → PlaceTurn machine turns w place yields r after → domains_of after.process_slots ≡ domains_of w.process_slots
  same_domains w place yields r after t =
      ap domains_of t.others_stay
      ∙ map-set_same (λ (s : ProcessSlot P). s.by) w.process_slots place t.next t.process_slot
      (same_domain w.machine t.process_slot yields r after.machine t.next t.turn
      ∙ sym
      (ap (λ (s : ProcessSlot P). s.by) (get_or_from_slice_get w.process_slots place t.process_slot t.process_slot
      t.sits)))

  -- the domain at an index
  place_domain : (xs : List (ProcessSlot P)) (k : ℕ) (x : ProcessSlot P) → slice_get xs k ≡ Some x
      → slice_index (domains_of xs) k ≡ x.by
  place_domain [] k x e = absurd (cc)
  place_domain (y ∷ ys) zero x e = let same : y ≡ x = cc in ap (λ (s : ProcessSlot P). s.by) same
  place_domain (y ∷ ys) (suc k) x e = place_domain ys k x e

  -- turns in rounds are a run of turns
  pub rounds_run : (w : WorldState M P) (i : ℕ) (ts : List Went) (after : WorldState M P)
      → RoundRun machine turns w i ts after
      → WorldRun machine turns w (rounds (domains_of w.process_slots) i (length ts)) (map (λ t. t.1) ts) after
  rounds_run w i [] after ran = ran
  rounds_run w i (t ∷ ts) after ran =
      let place : i % length w.process_slots ≡ i % length (domains_of w.process_slots) =
      rw (length-map w.process_slots (λ s. s.by)) in (
        ran.0,
        inr (record {
          place = i % length w.process_slots;
          yields = t.0;
          turn = ran.1;
          domain =
              sym (ap (λ (k : ℕ). slice_index (domains_of w.process_slots) k) (sym place)
              ∙ place_domain w.process_slots (i % length w.process_slots) ran.1.process_slot ran.1.sits);
        }),
        subst (λ (ds : List ℕ). WorldRun machine turns ran.0 (rounds ds (suc i) (length ts)) (map (λ t. t.1) ts) after)
            (same_domains w (i % length w.process_slots) t.0 t.1 ran.0 ran.1) (rounds_run ran.0 (suc i) ts after ran.2),
      )

-- one more turn is counted
counted_more : (ns : List ℕ) (i : ℕ) (ts : List Went) (t : Went)
    → counted_over ns i (ts ++ t ∷ []) ≡ counted (counted_over ns i ts)
    ((i + length ts) % length (counted_over ns i ts)) t
counted_more ns i [] t = rw add-zero
counted_more ns i (s ∷ ss) t =
    let rest = counted_over (counted ns (i % length ns) s) (suc i) ss in
    let e : suc i + length ss ≡ i + suc (length ss) = omega arith in
    counted_more (counted ns (i % length ns) s) (suc i) ss t ∙ ap (λ (n : ℕ). counted rest (n % length rest) t) e

pub counted_next : (n : ℕ) (ts : List Went) (t : Went) (now next : List ℕ) (i k : ℕ) → now ≡ yields_of n ts
    → length ts ≡ i → k ≡ length now → next ≡ counted now (i % k) t → next ≡ yields_of n (ts ++ t ∷ [])
counted_next n ts t now next i k was count size one =
    let ns : List ℕ = replicate n 0 in
    let e : (0 + length ts) % length (counted_over ns 0 ts) ≡ i % k = rw (zero-add, count, ← was, size) in
    one
    ∙ (ap (λ (m : List ℕ). counted m (i % k) t) was
    ∙ (ap (λ (n : ℕ). counted (counted_over ns 0 ts) n t) (sym e) ∙ sym (counted_more ns 0 ts t)))

-- no moment so far was idle
pub first_next : (n : ℕ) (ts : List Went) (t : Went)
    → ((j : ℕ) → j < length ts → is_idle (yields_of n (take j ts)) ≡ false) → is_idle (yields_of n ts) ≡ false → (j : ℕ)
    → j < length (ts ++ t ∷ []) → is_idle (yields_of n (take j (ts ++ t ∷ []))) ≡ false
first_next n ts t before now j lt =
    elim (cases_lt j (length ts)) [
      | inl less ↦ let e : take j (ts ++ t ∷ []) ≡ take j ts = grind (arith, common_steps, less) in rw e (before j less)
      | inr most ↦ let e : take j (ts ++ t ∷ []) ≡ ts = grind (arith, common_steps, most, lt) in rw e now
    ]
