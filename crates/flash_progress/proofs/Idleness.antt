-- Turns of one process end when it is idle.
use Rattle.std.proofs.Common.{◌≡◌, ◌≤◌, ◌<◌, ℕ, zero, suc, ◌+◌, ◌*◌, ◌%◌, List, [], ◌∷◌, length, take, replicate, ap}
use Rattle.std.proofs.Common.{◌∙◌, refl, sym, subst, arith, true, false, Bool}
use Rattle.std.proofs.lemmas.Bool.Decides.{nat_tests}
use Rattle.std.proofs.Math.Nat.{mul-le-mul_left}
use Rattle.std.specs.Prelude.{if◌then◌else◌}
use Rattle.std.specs.List.{AllByRecursion}
use Rattle.iol_core.specs.State.{State}
use Rattle.iol_core.specs.declared.events.Reply.{Reply}
use Rattle.iol_core.specs.declared.events.Reply.TheVariants as reply
use Rattle.iol_core.specs.declared.refusals.Refusal.TheVariants.{WouldBlock}
use Rattle.iol_proc.specs.Idle.{Went, RoundRun, counted, counted_over, is_idle}
use Rattle.iol_proc.specs.Turns.{TransitionRelation, is_would_block}
use Rattle.iol_proc.specs.World.{WorldState, copying, PlaceTurn}
use Rattle.flash_progress.proofs.Decrease.{Decreases, IdleComes}

-- the maximum number of turns before a process has yielded twice, after this number of yields, if no turn has an effect
abbrev own_turns : (round yields polls : ℕ) → ℕ
own_turns round zero polls = polls + (round + 2)
own_turns round (suc zero) polls = polls + 1
own_turns round (suc (suc n)) polls = 0

-- the same, if turns may decrease the measure
abbrev all_turns : (round left yields polls : ℕ) → ℕ
all_turns round left n polls = (2 * round + 3) * left + own_turns round n polls

is_wb : (r : Reply) → is_would_block r ≡ true → r ≡ reply.Refused WouldBlock
is_wb (reply.Refused WouldBlock) is = refl
is_wb r is = absurd (cc (is))

-- one unit of the measure pays for two rounds
less_left : (k a b c e : ℕ) → a < b → c < k → k * a + c < k * b + e
less_left k a b c e less few =
    let step : k * (suc a) ≤ k * b = mul-le-mul_left k less in
    let split : k * (suc a) ≡ k * a + k = grind (arith) in
    omega (arith, step, split, few)

no_more_left : (k a b c e : ℕ) → a ≤ b → c < e → k * a + c < k * b + e
no_more_left k a b c e le few =
    let step : k * a ≤ k * b = mul-le-mul_left k le in
    omega (arith, step, few)

-- a process that has yielded twice is idle
idle_two : (n : ℕ) → is_idle (suc (suc n) ∷ []) ≡ true
idle_two n = grind (arith, nat_tests)

-- the only process slot
first_place : (i : ℕ) → i % 1 ≡ 0
first_place i = omega arith

module _ {P : Type 0} (turns : TransitionRelation P) (Holds : WorldState State P → Type 0) (Allows : Reply
    → Type 0) (left polls : WorldState State P → ℕ) (round : ℕ)
    (d : Decreases turns Holds Allows left polls round) where
  abbrev bound : (n : ℕ) → WorldState State P → ℕ
  bound n w = all_turns round (left w) n (polls w)

  -- no moment before the end of these turns was idle
  abbrev NeverIdle : (n i : ℕ) → List Went → Type 0
  NeverIdle n i ts = (j : ℕ) → j < length ts → is_idle (counted_over (n ∷ []) i (take j ts)) ≡ false

  -- a turn of a process slot is a turn of the only one
  at_first : (w mid : WorldState State P) (i : ℕ) (yields : Bool) (r : Reply) → Holds w
      → PlaceTurn copying turns w (i % length w.process_slots) yields r mid
      → PlaceTurn copying turns w 0 yields r mid
  at_first w mid i yields r holds turn =
      subst (λ (k : ℕ). PlaceTurn copying turns w k yields r mid) (ap (λ (k : ℕ). i % k) (d.one w holds)
      ∙ first_place i) turn

  -- each turn lowers the bound, as long as the process has not yielded twice
  lowers : (w mid : WorldState State P) (n : ℕ) (t : Went) → Holds w → PlaceTurn copying turns w 0 t.0 t.1 mid
      → Allows t.1
      → is_idle (n ∷ []) ≡ false → (k : ℕ) × (counted (n ∷ []) 0 t ≡ k ∷ []) × (bound k mid < bound n w)
  lowers w mid n (true, r) holds turn allowed busy = by n busy
    where
      les : left mid ≤ left w
      les = d.yields w mid r holds turn allowed

      few : polls mid ≤ round
      few = d.most mid (d.keeps w mid true r holds turn allowed)

      by : (n : ℕ) → is_idle (n ∷ []) ≡ false → (k : ℕ) × (counted (n ∷ []) 0 (true, r) ≡ k ∷ [])
          × (bound k mid < bound n w)
      by zero busy = (
        1,
        refl,
        no_more_left (2 * round + 3) (left mid) (left w) (polls mid + 1) (polls w + (round + 2)) les
            (omega (arith, few)),
      )
      by (suc zero) busy = (2, refl, no_more_left (2 * round + 3) (left mid) (left w) 0 (polls w + 1) les (omega arith))
      by (suc (suc n)) busy = absurd (let e = sym (idle_two n) ∙ busy in cc (e))
  lowers w mid n (false, r) holds turn allowed busy = which (is_would_block r) refl
    where
      few : polls mid ≤ round
      few = d.most mid (d.keeps w mid false r holds turn allowed)

      asks : (n : ℕ) → is_idle (n ∷ []) ≡ false → polls mid < polls w
          → own_turns round n (polls mid) < own_turns round n (polls w)
      asks zero busy less = omega (arith, less)
      asks (suc zero) busy less = omega (arith, less)
      asks (suc (suc n)) busy less = absurd (let e = sym (idle_two n) ∙ busy in cc (e))

      which : (b : Bool) → is_would_block r ≡ b → (k : ℕ) × (counted (n ∷ []) 0 (false, r) ≡ k ∷ [])
          × (bound k mid < bound n w)
      which true is =
          let waited =
          d.waits w mid holds (subst (λ (x : Reply). PlaceTurn copying turns w 0 false x mid) (is_wb r is) turn) in (
            n,
            ap (λ (b : Bool). if b then n ∷ [] else replicate 1 0) is,
            no_more_left (2 * round + 3) (left mid) (left w) (own_turns round n (polls mid))
                (own_turns round n (polls w)) waited.0 (asks n busy waited.1),
          )
      which false is =
          let less = d.falls w mid r holds turn allowed is in (
            0,
            ap (λ (b : Bool). if b then n ∷ [] else replicate 1 0) is,
            less_left (2 * round + 3) (left mid) (left w) (polls mid + (round + 2)) (own_turns round n (polls w)) less
                (omega (arith, few)),
          )

  -- so their number is bounded
  few_turns : (ts : List Went) (n i : ℕ) (w after : WorldState State P) → Holds w → RoundRun copying turns w i ts after
      → AllByRecursion (λ u. Allows u.1) ts
      → NeverIdle n i ts → length ts ≤ bound n w
  few_turns [] n i w after holds ran allowed never = omega arith
  few_turns (t ∷ ts) n i w after holds ran allowed never =
      let here = at_first w ran.0 i t.0 t.1 holds ran.1 in
      let busy : is_idle (n ∷ []) ≡ false = never 0 (omega arith) in
      let low = lowers w ran.0 n t holds here allowed.0 busy in
      let rest = few_turns ts low.0 (suc i) ran.0 after (d.keeps w ran.0 t.0 t.1 holds here allowed.0) ran.2 allowed.1
      (λ j lt. subst (λ (l : List ℕ). is_idle (counted_over l (suc i) (take j ts)) ≡ false)
      (ap (λ (k : ℕ). counted (n ∷ []) k t) (first_place i) ∙ low.1) (never (suc j) (omega (arith, lt)))) in
      let less = low.2 in
      omega (arith, rest, less)

  pub idle_comes : IdleComes turns Holds Allows left round
  idle_comes w after most idle holds ends allowed enough_turns = by idle refl
    where
      single : length w.process_slots ≡ 1
      single = d.one w holds

      never : NeverIdle 0 0 ends.went
      never j lt = subst (λ (k : ℕ). is_idle (counted_over (replicate k 0) 0 (take j ends.went)) ≡ false) single
          (ends.first j lt)

      by : (b : Bool) → idle ≡ b → idle ≡ true
      by true is = is
      by false is =
          let all = ends.all_taken is in
          let few = few_turns ends.went 0 0 w after holds ends.ran allowed never in
          let asked = d.most w holds in
          let split : (2 * round + 3) * (left w + 1) ≡ (2 * round + 3) * left w + (2 * round + 3) = grind (arith) in
          absurd (omega (arith, all, few, asked, split, enough_turns))

  -- The invariant holds at their end.
  pub holds-after : (w after : WorldState State P) (i : ℕ) (ts : List Went) → Holds w
      → RoundRun copying turns w i ts after
      → AllByRecursion (λ u. Allows u.1) ts → Holds after
  holds-after w after i [] holds ran none = subst (λ (v : WorldState State P). Holds v) (sym ran) holds
  holds-after w after i (t ∷ ts) holds ran none =
      holds-after ran.0 after (suc i) ts (d.keeps w ran.0 t.0 t.1 holds (at_first w ran.0 i t.0 t.1 holds ran.1) none.0)
      ran.2 none.1
