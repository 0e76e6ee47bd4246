-- The events of a world are a chain of steps of its system.
use Rattle.std.proofs.Common.{◌≡◌, inl, inr, ℕ, List, [], ◌∷◌, ◌++◌, Option, Some, None, Bool, refl, subst, ap}
use Rattle.iol_core.specs.declared.events.Event.{Event}
use Rattle.iol_core.specs.declared.events.Event.TheVariants as event
use Rattle.iol_core.specs.declared.events.Reply.{Reply}
use Rattle.iol_system.specs.Machine.{SystemState}
use Rattle.iol_system.specs.Promises.{Promises, Chain}
use Rattle.iol_system.proofs.Chains.{chain_honest}
use Rattle.iol_proc.specs.Histories.{RunsAs}
use Rattle.iol_proc.specs.Laws.{HasEvents, KeepsHonesty}
use Rattle.iol_proc.specs.Turns.{TransitionRelation, Comes, ProcessSlotTurn}
use Rattle.iol_proc.specs.World.{WorldState, sharing, DomainTurn, OutsideStep, TurnAt, WorldStep, WorldRun}
use Rattle.iol_proc.specs.declared.activity.Activity.{Activity}
use Rattle.iol_proc.specs.declared.choice.Choice.{Choice}
use Rattle.iol_proc.specs.declared.choice.Choice.TheVariants as choice
use Rattle.iol_proc.specs.declared.process.Turn.{Turn}
use Rattle.iol_proc.specs.declared.process.Turn.TheVariants as turn
use Rattle.iol_proc.specs.declared.process_slot.ProcessSlot.{ProcessSlot}
use Rattle.iol_proc.proofs.Streams.{run_as}

nothing : (old new : SystemState) → new ≡ old → HasEvents old new
nothing old new same = record { events = []; replies = []; chain = same }

chain_then : (old mid new : SystemState) (es fs : List Event) (rs ss : List Reply) → Chain old es rs mid
    → Chain mid fs ss new → Chain old (es ++ fs) (rs ++ ss) new
chain_then old mid new [] fs [] ss first next = subst (λ h. Chain h fs ss new) first next
chain_then old mid new (e ∷ es) fs (r ∷ rs) ss first next =
    (first.0, first.1, chain_then first.0 mid new es fs rs ss first.2 next)
chain_then old mid new [] fs (r ∷ rs) ss first next = absurd first
chain_then old mid new (e ∷ es) fs [] ss first next = absurd first

both : (old mid new : SystemState) → HasEvents old mid → HasEvents mid new → HasEvents old new
both old mid new a b = record {
  events = a.events ++ b.events;
  replies = a.replies ++ b.replies;
  chain =
      chain_then old mid new a.events b.events a.replies b.replies a.chain b.chain;
}

module _ {P : Type 0} (turns : TransitionRelation P) where
  comes_chained : (m : SystemState) (by : ℕ) (t : Turn) (yields : Bool) (r : Reply) (after : SystemState)
      → Comes sharing turns m by t yields r after → HasEvents m after
  comes_chained m by turn.Yield yields r after c = nothing m after c.2
  comes_chained m by (turn.Make call) yields r after c =
      record { events = event.Call by call ∷ []; replies = r ∷ []; chain = (after, c.1, refl) }

  process_slot_chained : (m : SystemState) (process_slot : ProcessSlot P) (yields : Bool) (r : Reply)
      (after : SystemState) (next : ProcessSlot P) → ProcessSlotTurn sharing turns m process_slot yields r after next
      → HasEvents m after
  process_slot_chained m process_slot yields r after next t =
      elim t [
        | inl s ↦ nothing m after s.machine_stays
        | inr v ↦
            comes_chained m process_slot.by v.turn yields r after v.comes
      ]

  pub turn_at_chained : (w : WorldState SystemState P) (place : ℕ) (a : Option Activity)
      (after : WorldState SystemState P)
      → TurnAt sharing turns w place a after → HasEvents w.machine after.machine
  turn_at_chained w place None after t =
      nothing w.machine after.machine (ap (λ (v : WorldState SystemState P). v.machine) t.1)
  turn_at_chained w place (Some a) after t =
      process_slot_chained w.machine t.2.process_slot t.0 t.1 after.machine t.2.next t.2.turn

  domain_chained : (w : WorldState SystemState P) (by : ℕ) (r : Reply) (after : WorldState SystemState P)
      → DomainTurn sharing turns w by r after → HasEvents w.machine after.machine
  domain_chained w by r after t =
      elim t [
        | inl a ↦ nothing w.machine after.machine (ap (λ (v : WorldState SystemState P). v.machine) a.stays)
        | inr p ↦ process_slot_chained w.machine p.turn.process_slot p.yields r after.machine p.turn.next p.turn.turn
      ]

  pub outside_chained : (w : WorldState SystemState P) (e : Event) (r : Reply) (after : WorldState SystemState P)
      → OutsideStep sharing turns w e r after → HasEvents w.machine after.machine
  outside_chained w e r after o = record { events = e ∷ []; replies = r ∷ []; chain = (after.machine, o.step, refl) }

  step_chained : (w : WorldState SystemState P) (c : Choice) (r : Reply) (after : WorldState SystemState P)
      → WorldStep sharing turns w c r after → HasEvents w.machine after.machine
  step_chained w (choice.Turn by) r after step = domain_chained w by r after step
  step_chained w (choice.Outside e) r after step = outside_chained w e r after step

  pub run_chained : (w : WorldState SystemState P) (cs : List Choice) (rs : List Reply)
      (after : WorldState SystemState P)
      → WorldRun sharing turns w cs rs after → HasEvents w.machine after.machine
  run_chained w [] [] after ran = nothing w.machine after.machine (ap (λ (v : WorldState SystemState P). v.machine) ran)
  run_chained w (c ∷ cs) (r ∷ rs) after ran =
      both w.machine ran.0.machine after.machine (step_chained w c r ran.0 ran.1) (run_chained ran.0 cs rs after ran.2)
  run_chained w [] (r ∷ rs) after ran = absurd ran
  run_chained w (c ∷ cs) [] after ran = absurd ran

-- events do not change whether a store is honest
pub honesty_kept : (old new : SystemState) → HasEvents old new → KeepsHonesty old new
honesty_kept old new e = record { same = chain_honest old new e.events e.replies e.chain }

-- The choices of a run are events of the system, with the same histories.

chain_none : (old new : SystemState) → new ≡ old → Chain old [] [] new
chain_none old new same = same

chain_step : (old mid new : SystemState) (e : Event) (r : Reply) (es : List Event) (rs : List Reply)
    → Promises old e r mid → Chain mid es rs new → Chain old (e ∷ es) (r ∷ rs) new
chain_step old mid new e r es rs step rest = (mid, step, rest)

module _ {P : Type 0} (turns : TransitionRelation P) where
  pub system_as : (w after : WorldState SystemState P) (xs : List Choice) (rs : List Reply)
      → WorldRun sharing turns w xs rs after → RunsAs Chain w.machine xs rs after.machine
  system_as w after xs rs ran = run_as sharing turns Chain chain_none chain_step w after xs rs ran
