-- A run on a system over an honest store is one on the copying machine.
use Rattle.std.proofs.Common.{◌≡◌, inl, inr, ℕ, List, [], ◌∷◌, Option, Some, None, Bool, true, sym, subst, ap, ◌∙◌}
use Rattle.iol_core.specs.declared.events.Event.{Event}
use Rattle.iol_core.specs.declared.events.Reply.{Reply}
use Rattle.iol_system.specs.Machine.{SystemState, machine_of}
use Rattle.iol_proc.specs.Turns.{TransitionRelation, Comes, Starves, ProcessSlotTurn}
use Rattle.iol_proc.specs.World.{WorldState, copying, sharing, copied, PlaceTurn, DomainTurn, OutsideStep, WorldStep}
use Rattle.iol_proc.specs.World.{TurnAt, WorldRun}
use Rattle.iol_proc.specs.Idle.{Went, RoundRun, Idles}
use Rattle.iol_proc.specs.declared.activity.Activity.{Activity}
use Rattle.iol_proc.specs.declared.choice.Choice.{Choice}
use Rattle.iol_proc.specs.declared.choice.Choice.TheVariants as choice
use Rattle.iol_proc.specs.declared.process.Turn.{Turn}
use Rattle.iol_proc.specs.declared.process.Turn.TheVariants as turn
use Rattle.iol_proc.specs.declared.process_slot.ProcessSlot.{ProcessSlot}

abbrev IsHonest : SystemState → Type 0
IsHonest s = s.disk.honest ≡ true

module _ {P : Type 0} (turns : TransitionRelation P) where
  -- Q holds, and the store is still honest
  abbrev Both : SystemState → Type 0 → Type 0
  Both after Q = Q × IsHonest after

  comes_copied : (m : SystemState) (by : ℕ) (t : Turn) (yields : Bool) (r : Reply) (after : SystemState) → IsHonest m
      → Comes sharing turns m by t yields r after
      → Both after (Comes copying turns (machine_of m) by t yields r (machine_of after))
  comes_copied m by turn.Yield yields r after honest c =
      ((c.0, c.1, ap machine_of c.2), subst IsHonest (sym c.2) honest)
  comes_copied m by (turn.Make call) yields r after honest c = ((c.0, c.1.step honest), c.1.honest ∙ honest)

  starves_copied : (m : SystemState) (process_slot : ProcessSlot P) (yields : Bool) (r : Reply) (after : SystemState)
      (next : ProcessSlot P) → Starves sharing turns m process_slot yields r after next
      → Starves copying turns (machine_of m) process_slot yields r (machine_of after) next
  starves_copied m process_slot yields r after next s =
      record {
        wanted = s.wanted;
        no_yield = s.no_yield;
        answer = s.answer;
        machine_stays =
            ap machine_of s.machine_stays;
        process_slot_stays = s.process_slot_stays;
      }

  process_slot_copied : (m : SystemState) (process_slot : ProcessSlot P) (yields : Bool) (r : Reply)
      (after : SystemState) (next : ProcessSlot P) → IsHonest m
      → ProcessSlotTurn sharing turns m process_slot yields r after next
      → Both after (ProcessSlotTurn copying turns (machine_of m) process_slot yields r (machine_of after) next)
  process_slot_copied m process_slot yields r after next honest t =
      elim t [
        | inl s ↦
            (inl (starves_copied m process_slot yields r after next s), subst IsHonest (sym s.machine_stays) honest)
        | inr v ↦
            let comes = comes_copied m process_slot.by v.turn yields r after honest v.comes in (
              inr (record {
                turn = v.turn;
                proceeds = v.proceeds;
                comes = comes.0;
                reported = v.reported;
                domain_stays =
                    v.domain_stays;
              }),
              comes.1,
            )
      ]

  pub place_copied : (w : WorldState SystemState P) (place : ℕ) (yields : Bool) (r : Reply)
      (after : WorldState SystemState P)
      → IsHonest w.machine → PlaceTurn sharing turns w place yields r after
      → Both after.machine (PlaceTurn copying turns (copied w) place yields r (copied after))
  place_copied w place yields r after honest t =
      let both = process_slot_copied w.machine t.process_slot yields r after.machine t.next honest t.turn in (
        record {
          process_slot = t.process_slot;
          next = t.next;
          sits = t.sits;
          turn = both.0;
          others_stay = t.others_stay;
          notes = t.notes;
        },
        both.1,
      )

  pub turn_at_copied : (w : WorldState SystemState P) (place : ℕ) (a : Option Activity)
      (after : WorldState SystemState P)
      → IsHonest w.machine → TurnAt sharing turns w place a after
      → TurnAt copying turns (copied w) place a (copied after)
  unfolding place_copied
  turn_at_copied w place None after honest t = (t.0, ap copied t.1)
  turn_at_copied w place (Some a) after honest t =
      (t.0, t.1, (place_copied w place t.0 t.1 after honest t.2).0, t.3)

  domain_copied : (w : WorldState SystemState P) (by : ℕ) (r : Reply) (after : WorldState SystemState P)
      → IsHonest w.machine
      → DomainTurn sharing turns w by r after
      → Both after.machine (DomainTurn copying turns (copied w) by r (copied after))
  unfolding place_copied
  domain_copied w by r after honest t =
      elim t [
        | inl a ↦ (
          inl (record { nobody = a.nobody; answer = a.answer; stays = ap copied a.stays }),
          subst (λ (v : WorldState SystemState P). IsHonest v.machine) (sym a.stays) honest,
        )
        | inr p ↦
            let both = place_copied w p.place p.yields r after honest p.turn in
            (inr (record { place = p.place; yields = p.yields; turn = both.0; domain = p.domain }), both.1)
      ]

  pub outside_copied : (w : WorldState SystemState P) (e : Event) (r : Reply) (after : WorldState SystemState P)
      → IsHonest w.machine → OutsideStep sharing turns w e r after
      → Both after.machine (OutsideStep copying turns (copied w) e r (copied after))
  outside_copied w e r after honest o = (
    record {
      step = o.step.step honest;
      process_slots_stay = o.process_slots_stay;
      resource_failure_stays =
          o.resource_failure_stays;
    },
    o.step.honest ∙ honest,
  )

  step_copied : (w : WorldState SystemState P) (c : Choice) (r : Reply) (after : WorldState SystemState P)
      → IsHonest w.machine
      → WorldStep sharing turns w c r after → Both after.machine (WorldStep copying turns (copied w) c r (copied after))
  step_copied w (choice.Turn by) r after honest step = domain_copied w by r after honest step
  step_copied w (choice.Outside e) r after honest step = outside_copied w e r after honest step

  pub run_copied : (w : WorldState SystemState P) (cs : List Choice) (rs : List Reply)
      (after : WorldState SystemState P)
      → IsHonest w.machine → WorldRun sharing turns w cs rs after
      → WorldRun copying turns (copied w) cs rs (copied after)
  run_copied w [] [] after honest ran = ap copied ran
  run_copied w (c ∷ cs) (r ∷ rs) after honest ran =
      let both = step_copied w c r ran.0 honest ran.1 in
      (copied ran.0, both.0, run_copied ran.0 cs rs after both.1 ran.2)
  run_copied w [] (r ∷ rs) after honest ran = absurd ran
  run_copied w (c ∷ cs) [] after honest ran = absurd ran

  rounds_copied : (w : WorldState SystemState P) (i : ℕ) (ts : List Went) (after : WorldState SystemState P)
      → IsHonest w.machine
      → RoundRun sharing turns w i ts after → RoundRun copying turns (copied w) i ts (copied after)
  rounds_copied w i [] after honest ran = ap copied ran
  rounds_copied w i (t ∷ ts) after honest ran =
      let both = place_copied w _ t.0 t.1 ran.0 honest ran.1 in
      (copied ran.0, both.0, rounds_copied ran.0 _ ts after both.1 ran.2)

  pub idles_copied : (w : WorldState SystemState P) (most : ℕ) (idle : Bool) (after : WorldState SystemState P)
      → IsHonest w.machine → Idles sharing turns w most idle after
      → Idles copying turns (copied w) most idle (copied after)
  idles_copied w most idle after honest i = record {
    went = i.went;
    ran = rounds_copied w 0 i.went after honest i.ran;
    run = run_copied w _ _ after honest i.run;
    within = i.within;
    reported = i.reported;
    first = i.first;
    all_taken = i.all_taken;
  }
