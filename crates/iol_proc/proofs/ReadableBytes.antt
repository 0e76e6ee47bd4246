-- A look has the machine's bytes, for every store under the files; and the resulting turns.
use Rattle.std.proofs.Common.{◌≡◌, ◌∙◌, inl, inr, ℕ, true, false, List, [], refl, ap, subst}
use Rattle.iol_core.specs.State.{domain}
use Rattle.iol_core.specs.declared.events.Call.{Call}
use Rattle.iol_core.specs.declared.events.Event.TheVariants as event
use Rattle.iol_core.specs.declared.events.Reply.{Reply}
use Rattle.iol_core.specs.declared.events.Reply.TheVariants as reply
use Rattle.iol_core.specs.declared.refusals.Refusal.TheVariants.{Memory}
use Rattle.iol_kernel.specs.KernelState as held
use Rattle.iol_kernel.specs.KernelState.{KernelState, read_of}
use Rattle.iol_kernel.specs.Views.{state_view}
use Rattle.iol_system.specs.Machine.{SystemState, machine_of, tables_of}
use Rattle.iol_system.specs.Promises.{Promises}
use Rattle.iol_proc.specs.ReadableBytes.{readable_to}
use Rattle.iol_proc.specs.Looks.{readable}
use Rattle.iol_proc.specs.Turns.{TransitionRelation, ProcessSlotTurn}
use Rattle.iol_proc.specs.World.{sharing}
use Rattle.iol_proc.specs.declared.look.Look.{Look}
use Rattle.iol_proc.specs.declared.process.Turn.{Turn}
use Rattle.iol_proc.specs.declared.process.Turn.TheVariants as turn
use Rattle.iol_proc.specs.declared.process_slot.ProcessSlot.{ProcessSlot}

-- aggregates do not depend on the store's bytes
readable-slots : (xs ys : List (List ℕ)) (h : KernelState) (by : ℕ)
    → readable_to (held.machine_of xs h) by ≡ readable_to (held.machine_of ys h) by
unfolding read_of state_view domain
readable-slots xs ys h by = refl

pub readable-look : (look : Look) (m : SystemState) (by : ℕ) → look.aggregates ≡ m.kernel
    → look.by ≡ by → readable look ≡ readable_to (machine_of m) by
readable-look look m by aggregates domain =
    ap (λ (h : KernelState). readable_to (tables_of h) look.by) aggregates
    ∙ (ap (λ (d : ℕ). readable_to (tables_of m.kernel) d) domain ∙ readable-slots [] m.disk.slots m.kernel by)

-- a process slot from its parts
the_process_slot : {P : Type 0} → ℕ → P → Reply → ProcessSlot P
the_process_slot by p last = record { by = by; process = p; last = last }

module _ {P : Type 0} (turns : TransitionRelation P) (look : Look) (m : SystemState)
    (process_slot : ProcessSlot P) (next : P) where
  pub starves_turn : look.aggregates ≡ m.kernel → look.by ≡ process_slot.by
      → turns.may_want process_slot.process process_slot.last (readable look) → next ≡ process_slot.process
      → ProcessSlotTurn sharing turns m process_slot false (reply.Refused Memory) m
      (record { by = process_slot.by; process = next; last = process_slot.last })
  unfolding the_process_slot
  starves_turn aggregates by wants same = inl (record {
    wanted =
        subst (λ l. turns.may_want process_slot.process process_slot.last l)
        (readable-look look m process_slot.by aggregates by) wants;
    no_yield = refl;
    answer = refl;
    machine_stays = refl;
    process_slot_stays = ap (λ (p : P). the_process_slot process_slot.by p process_slot.last) same;
  })

  pub yields_turn : (t : Turn) → t ≡ turn.Yield → look.aggregates ≡ m.kernel → look.by ≡ process_slot.by
      → turns.goes process_slot.process process_slot.last (readable look) t next
      → ProcessSlotTurn sharing turns m process_slot true reply.Done m
      (record { by = process_slot.by; process = next; last = reply.Done })
  yields_turn t is aggregates by goes = inr (record {
    turn = turn.Yield;
    proceeds =
        subst (λ u. turns.goes process_slot.process process_slot.last (readable_to (machine_of m) process_slot.by) u
        next) is (subst (λ l. turns.goes process_slot.process process_slot.last l t next)
        (readable-look look m process_slot.by aggregates by) goes);
    comes = (refl, refl, refl);
    reported = refl;
    domain_stays = refl;
  })

  pub calls_turn : (t : Turn) (c : Call) (r last : Reply) (after : SystemState) → t ≡ turn.Make c
      → look.aggregates ≡ m.kernel → look.by ≡ process_slot.by
      → turns.goes process_slot.process process_slot.last (readable look) t next
      → Promises m (event.Call process_slot.by c) r after → last ≡ r
      → ProcessSlotTurn sharing turns m process_slot false r after
      (record { by = process_slot.by; process = next; last = last })
  calls_turn t c r last after is aggregates by goes step reported = inr (record {
    turn = turn.Make c;
    proceeds =
        subst (λ u. turns.goes process_slot.process process_slot.last (readable_to (machine_of m) process_slot.by) u
        next) is (subst (λ l. turns.goes process_slot.process process_slot.last l t next)
        (readable-look look m process_slot.by aggregates by) goes);
    comes = (refl, step);
    reported = reported;
    domain_stays = refl;
  })
