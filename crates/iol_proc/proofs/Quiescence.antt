-- A property that is preserved over turns in rounds holds for all processes once all are idle.
use Rattle.std.proofs.Common.{◌≡◌, ◌%◌, ◌≤◌, ◌∙◌, ℕ, zero, suc, List, [], ◌∷◌, length, replicate, Some, Bool, true}
use Rattle.std.proofs.Common.{false, slice_get, slice_set, slice_index, refl, ap, sym, subst, inl, inr, arith}
use Rattle.std.proofs.Common.{length-set}
use Rattle.std.proofs.lemmas.Bool.Decides.{nat_tests}
use Rattle.std.proofs.lemmas.Grind.{common_steps}
use Rattle.iol_core.specs.State.{State}
use Rattle.iol_core.specs.declared.events.Reply.{Reply}
use Rattle.iol_core.specs.declared.events.Reply.TheVariants.{Refused}
use Rattle.iol_core.specs.declared.refusals.Refusal.TheVariants.{Memory, WouldBlock}
use Rattle.iol_proc.specs.Idle.{Went, RoundRun, more_of_two, counted, counted_over, yields_of, is_idle, Idles}
use Rattle.iol_proc.specs.ReadableBytes.{readable_to}
use Rattle.iol_proc.specs.Quiescence.{Claim, AreQuiescent, AllQuiescent, Quiesces}
use Rattle.iol_proc.specs.Turns.{TransitionRelation, Comes, ProcessSlotTurn}
use Rattle.iol_proc.specs.World.{WorldState, PlaceTurn, copying}
use Rattle.iol_proc.specs.declared.process.Turn.{Turn}
use Rattle.iol_proc.specs.declared.process.Turn.TheVariants as turn
use Rattle.iol_proc.specs.declared.process_slot.ProcessSlot.{ProcessSlot}

-- counting stops at two
two_at_most : (n : ℕ) → n ≤ 2 → more_of_two n ≤ 2
two_at_most n most = grind (arith, nat_tests, most)

module _ {P : Type 0} (S : Claim P) (turns : TransitionRelation P) where
  zeros : Quiesces S turns → (ns : List ℕ) (ss : List (ProcessSlot P)) (m : State) → length ns ≡ length ss
      → AreQuiescent S (replicate (length ns) 0) ss m
  zeros f [] [] m e = tt
  zeros f (n ∷ ns) (s ∷ ss) m e = (omega arith, f.first s.by s.process s.last m, zeros f ns ss m (omega (arith, e)))
  zeros f [] (s ∷ ss) m e = absurd (omega arith)
  zeros f (n ∷ ns) [] m e = absurd (omega arith)

  at_place : (ns : List ℕ) (ss : List (ProcessSlot P)) (m : State) (k : ℕ) (process_slot : ProcessSlot P)
      → AreQuiescent S ns ss m → slice_get ss k ≡ Some process_slot
      → (slice_index ns k ≤ 2) × S (slice_index ns k) process_slot.by process_slot.process process_slot.last m
  at_place [] [] m k process_slot h e = absurd (cc)
  at_place (n ∷ ns) (s ∷ ss) m zero process_slot h e = let same : s ≡ process_slot = cc in
      (h.0, subst (λ (v : ProcessSlot P). S n v.by v.process v.last m) same h.1)
  at_place (n ∷ ns) (s ∷ ss) m (suc k) process_slot h e = at_place ns ss m k process_slot h.2 e
  at_place [] (s ∷ ss) m k process_slot h e = absurd h
  at_place (n ∷ ns) [] m k process_slot h e = absurd h

  -- one process changes, with its count
  goes : (ns : List ℕ) (ss : List (ProcessSlot P)) (m : State) (k n : ℕ) (process_slot next : ProcessSlot P)
      → AreQuiescent S ns ss m → slice_get ss k ≡ Some process_slot → n ≤ 2 → S n next.by next.process next.last m
      → AreQuiescent S (slice_set ns k n) (slice_set ss k next) m
  goes [] [] m k n process_slot next h e most s = absurd (cc)
  goes (x ∷ ns) (y ∷ ss) m zero n process_slot next h e most s = (most, s, h.2)
  goes (x ∷ ns) (y ∷ ss) m (suc k) n process_slot next h e most s =
      (h.0, h.1, goes ns ss m k n process_slot next h.2 e most s)
  goes [] (y ∷ ss) m k n process_slot next h e most s = absurd h
  goes (x ∷ ns) [] m k n process_slot next h e most s = absurd h

  -- one process changes, and its count stays
  stays : (ns : List ℕ) (ss : List (ProcessSlot P)) (m : State) (k : ℕ) (process_slot next : ProcessSlot P)
      → AreQuiescent S ns ss m → slice_get ss k ≡ Some process_slot
      → S (slice_index ns k) next.by next.process next.last m → AreQuiescent S ns (slice_set ss k next) m
  stays [] [] m k process_slot next h e s = absurd (cc)
  stays (x ∷ ns) (y ∷ ss) m zero process_slot next h e s = (h.0, s, h.2)
  stays (x ∷ ns) (y ∷ ss) m (suc k) process_slot next h e s = (h.0, h.1, stays ns ss m k process_slot next h.2 e s)
  stays [] (y ∷ ss) m k process_slot next h e s = absurd h
  stays (x ∷ ns) [] m k process_slot next h e s = absurd h

  even : (ns : List ℕ) (ss : List (ProcessSlot P)) (m : State) → AreQuiescent S ns ss m → length ns ≡ length ss
  even [] [] m h = refl
  even (n ∷ ns) (s ∷ ss) m h = ap suc (even ns ss m h.2)
  even [] (s ∷ ss) m h = absurd h
  even (n ∷ ns) [] m h = absurd h

  -- a yield leaves the machine unchanged, and the property holds for one more yield
  yield_comes : Quiesces S turns → (n by : ℕ) (p q : P) (l r : Reply) (m after : State) (t : Turn) → S n by p l m
      → turns.goes p l (readable_to m by) t q → Comes copying turns m by t true r after
      → (after ≡ m) × S (more_of_two n) by q r m
  yield_comes f n by p q l r m after turn.Yield s goes comes =
      (comes.2, subst (λ (x : Reply). S (more_of_two n) by q x m) (sym comes.1) (f.yields n by p q l m s goes))
  yield_comes f n by p q l r m after (turn.Make c) s goes comes = absurd (let no_yield : true ≡ false = comes.0 in cc)

  -- a call with the reply WouldBlock leaves the machine unchanged, and the property still holds
  block_comes : Quiesces S turns → (n by : ℕ) (p q : P) (l : Reply) (m after : State) (t : Turn) → S n by p l m
      → turns.goes p l (readable_to m by) t q → Comes copying turns m by t false (Refused WouldBlock) after
      → (after ≡ m) × S n by q (Refused WouldBlock) m
  block_comes f n by p q l m after turn.Yield s goes comes = absurd (let no_call : false ≡ true = comes.0 in cc)
  block_comes f n by p q l m after (turn.Make c) s goes comes =
      (comes.1.1, f.blocks n by p q l m c s goes (comes.1.0, refl))

  process_slot_yields : Quiesces S turns → (n : ℕ) (process_slot next : ProcessSlot P) (r : Reply) (m after : State)
      → S n process_slot.by process_slot.process process_slot.last m
      → ProcessSlotTurn copying turns m process_slot true r after next
      → (after ≡ m) × S (more_of_two n) next.by next.process next.last m
  process_slot_yields f n process_slot next r m after s t =
      elim t [
        | inl starves ↦ absurd (let no_yield : true ≡ false = starves.no_yield in cc)
        | inr moves ↦
            let came = yield_comes f n process_slot.by process_slot.process next.process process_slot.last r m after
            moves.turn s moves.proceeds moves.comes in (
              came.0,
              subst (λ (x : Reply). S (more_of_two n) next.by next.process x m) (sym moves.reported)
                  (subst (λ (d : ℕ). S (more_of_two n) d next.process r m) (sym moves.domain_stays) came.1),
            )
      ]

  process_slot_blocks : Quiesces S turns → (n : ℕ) (process_slot next : ProcessSlot P) (m after : State)
      → S n process_slot.by process_slot.process process_slot.last m
      → ProcessSlotTurn copying turns m process_slot false (Refused WouldBlock) after next
      → (after ≡ m) × S n next.by next.process next.last m
  process_slot_blocks f n process_slot next m after s t =
      elim t [
        | inl starves ↦ absurd (let no_memory : Refused WouldBlock ≡ Refused Memory = starves.answer in cc)
        | inr moves ↦
            let came = block_comes f n process_slot.by process_slot.process next.process process_slot.last m after
            moves.turn s moves.proceeds moves.comes in (
              came.0,
              subst (λ (x : Reply). S n next.by next.process x m) (sym moves.reported)
                  (subst (λ (d : ℕ). S n d next.process (Refused WouldBlock) m) (sym moves.domain_stays) came.1),
            )
      ]

  quiescent_turn : Quiesces S turns
      → (ns : List ℕ) (w : WorldState State P) (k : ℕ) (yields : Bool) (r : Reply) (after : WorldState State P)
      → AreQuiescent S ns w.process_slots w.machine → PlaceTurn copying turns w k yields r after
      → AreQuiescent S (counted ns k (yields, r)) after.process_slots after.machine
  quiescent_turn f ns w k true r after h t =
      let here = at_place ns w.process_slots w.machine k t.process_slot h t.sits in
      let came = process_slot_yields f (slice_index ns k) t.process_slot t.next r w.machine after.machine here.1
      t.turn in
      subst (λ (ss : List (ProcessSlot P)). AreQuiescent S (slice_set ns k (more_of_two (slice_index ns k))) ss
      after.machine) (sym t.others_stay)
      (subst (λ (m : State). AreQuiescent S (slice_set ns k (more_of_two (slice_index ns k)))
      (slice_set w.process_slots k t.next) m) (sym came.0)
      (goes ns w.process_slots w.machine k (more_of_two (slice_index ns k)) t.process_slot t.next h t.sits
      (two_at_most (slice_index ns k) here.0) came.1))
  quiescent_turn f ns w k false (Refused WouldBlock) after h t =
      let here = at_place ns w.process_slots w.machine k t.process_slot h t.sits in
      let came = process_slot_blocks f (slice_index ns k) t.process_slot t.next w.machine after.machine here.1 t.turn in
      subst (λ (ss : List (ProcessSlot P)). AreQuiescent S ns ss after.machine) (sym t.others_stay)
      (subst (λ (m : State). AreQuiescent S ns (slice_set w.process_slots k t.next) m) (sym came.0)
      (stays ns w.process_slots w.machine k t.process_slot t.next h t.sits came.1))
  quiescent_turn f ns w k false r after h t =
      zeros f ns after.process_slots after.machine (even ns w.process_slots w.machine h
      ∙ (sym (length-set w.process_slots k t.next) ∙ sym (ap length t.others_stay)))

  -- after turns in rounds the property holds for each process, by its number of yields
  pub quiescent_over : Quiesces S turns
      → (ns : List ℕ) (w : WorldState State P) (i : ℕ) (ts : List Went) (after : WorldState State P)
      → AreQuiescent S ns w.process_slots w.machine → RoundRun copying turns w i ts after
      → AreQuiescent S (counted_over ns i ts) after.process_slots after.machine
  quiescent_over f ns w i [] after h ran =
      subst (λ (v : WorldState State P). AreQuiescent S ns v.process_slots v.machine) (sym ran) h
  quiescent_over f ns w i (t ∷ ts) after h ran =
      quiescent_over f (counted ns (i % length ns) t) ran.0 (suc i) ts after
      (quiescent_turn f ns w (i % length ns) t.0 t.1 ran.0 h
      (subst (λ (n : ℕ). PlaceTurn copying turns w (i % n) t.0 t.1 ran.0)
      (sym (even ns w.process_slots w.machine h)) ran.1)) ran.2

  -- each process has yielded twice
  all_quiescent : (ns : List ℕ) (ss : List (ProcessSlot P)) (m : State) → AreQuiescent S ns ss m → is_idle ns ≡ true
      → AllQuiescent S ss m
  all_quiescent [] [] m h idle = tt
  all_quiescent (n ∷ ns) (s ∷ ss) m h idle =
      let two : n ≡ 2 = grind (arith, common_steps, nat_tests, idle, h.0) in
      let rest : is_idle ns ≡ true = grind (arith, common_steps, nat_tests, idle) in
      (subst (λ (k : ℕ). S k s.by s.process s.last m) two h.1, all_quiescent ns ss m h.2 rest)
  all_quiescent [] (s ∷ ss) m h idle = absurd h
  all_quiescent (n ∷ ns) [] m h idle = absurd h

  first_zeros : Quiesces S turns → (ss : List (ProcessSlot P)) (m : State)
      → AreQuiescent S (replicate (length ss) 0) ss m
  first_zeros f [] m = tt
  first_zeros f (s ∷ ss) m = (omega arith, f.first s.by s.process s.last m, first_zeros f ss m)

  -- if `until_idle` returns true, the property holds for each process
  pub quiescent_idle : Quiesces S turns → (w : WorldState State P) (most : ℕ) (after : WorldState State P)
      → Idles copying turns w most true after → AllQuiescent S after.process_slots after.machine
  quiescent_idle f w most after i =
      all_quiescent (yields_of (length w.process_slots) i.went) after.process_slots after.machine
      (quiescent_over f (replicate (length w.process_slots) 0) w 0 i.went after
      (first_zeros f w.process_slots w.machine) i.ran) (sym i.reported)

  -- likewise for the process at an index
  one_quiescent : (ss : List (ProcessSlot P)) (m : State) (k : ℕ) (process_slot : ProcessSlot P) → AllQuiescent S ss m
      → slice_get ss k ≡ Some process_slot → S 2 process_slot.by process_slot.process process_slot.last m
  one_quiescent [] m k process_slot h e = absurd (cc)
  one_quiescent (s ∷ ss) m zero process_slot h e = let same : s ≡ process_slot = cc in
      subst (λ (v : ProcessSlot P). S 2 v.by v.process v.last m) same h.0
  one_quiescent (s ∷ ss) m (suc k) process_slot h e = one_quiescent ss m k process_slot h.1 e

  pub each_quiescent : Quiesces S turns
      → (w : WorldState State P) (most place : ℕ) (after : WorldState State P) (process_slot : ProcessSlot P)
      → Idles copying turns w most true after → slice_get after.process_slots place ≡ Some process_slot
      → S 2 process_slot.by process_slot.process process_slot.last after.machine
  each_quiescent f w most place after process_slot i e =
      one_quiescent after.process_slots after.machine place process_slot (quiescent_idle f w most after i) e
