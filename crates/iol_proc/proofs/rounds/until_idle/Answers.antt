use Rattle.std.proofs.Common.{◌≡◌, ◌∙◌, ◌<◌, ◌≤◌, ◌++◌, ◌∷◌, [], Bool, false, ℕ, List, length, take, arith, ap, sym}
use Rattle.std.proofs.Common.{length-append, rules}
use Rattle.iol_system.specs.Machine.{SystemState}
use Rattle.iol_proc.specs.Idle.{Idles, RoundRun, Went, is_idle, yields_of}
use Rattle.iol_proc.specs.Turns.{TransitionRelation}
use Rattle.iol_proc.proofs.Runs.{same_length}
use Rattle.iol_proc.proofs.InRounds.{round_next, counted_next, first_next, rounds_run}
use Rattle.iol_proc.specs.World.{WorldState, sharing}
use Rattle.iol_proc.proofs.rounds.until_idle.Goals as goal

-- one more turn
pub loop-i-preserved : goal.loop-i-preserved
loop-i-preserved g c =
    let t : Went = (c.place_turn-outcome.result.yields, c.place_turn-outcome.result.reply) in
    let size : c.len.result ≡ length c.loop-i.process_slots.items = search rules in
    let old = c.loop-i.invariant.ran in
    record {
      domains = c.place_turn-outcome.ensures.domains ∙ c.loop-i.invariant.domains;
      size = c.count.ensures.length
          ∙ (c.loop-i.invariant.size ∙ same_length _ _ (sym c.place_turn-outcome.ensures.domains));
      ran = (
        old.0 ++ t ∷ [],
        round_next sharing g.P.Process.turns _ old.0 _ t _ c.loop-i.i c.len.result old.1 old.2 size
            c.place_turn-outcome.ensures.turn,
        omega (arith, length-append old.0 (t ∷ []), old.2),
        counted_next _ old.0 t _ _ c.loop-i.i c.len.result old.3 old.2 (size ∙ sym c.loop-i.invariant.size)
            c.count.ensures.counted,
        first_next _ old.0 t old.4 (ap is_idle (sym old.3)
            ∙ (ap is_idle (sym c.deref.ensures.value) ∙ sym c.if-all_twice.ensures.all)),
      );
    }

-- the turns so far, with no idle moment before the last
module _ {P : Type 0} (turns : TransitionRelation P) (w after : WorldState SystemState P) (most i : ℕ) (idle : Bool)
    (yields : List ℕ) where
  idles : (went : List Went) × RoundRun sharing turns w 0 went after × (length went ≡ i)
      × (yields ≡ yields_of (length w.process_slots) went)
      × ((j : ℕ) → j < length went → is_idle (yields_of (length w.process_slots) (take j went)) ≡ false) → i ≤ most
      → idle ≡ is_idle yields → (idle ≡ false → most ≤ i)
      → Idles sharing turns w most idle after
  idles old within reported all = record {
    went = old.0;
    ran = old.1;
    run = rounds_run sharing turns _ 0 old.0 _ old.1;
    within = omega (arith, old.2);
    reported = reported ∙ ap is_idle old.3;
    first = old.4;
    all_taken = λ e. omega (arith, old.2, all e);
  }

pub returns-then-all_twice-clause-idles : goal.returns-then-all_twice-clause-idles
returns-then-all_twice-clause-idles g c =
    idles g.P.Process.turns _ _ _ _ _ _ c.loop-i.invariant.ran (omega arith) (c.if-all_twice.ensures.all
    ∙ ap is_idle c.deref.ensures.value) (λ e. absurd (cc e))

pub returns-clause-idles : goal.returns-clause-idles
returns-clause-idles g c =
    idles g.P.Process.turns _ _ _ _ _ _ c.loop-i.invariant.ran (omega arith) (c.all_twice-2.ensures.all
    ∙ ap is_idle c.deref-2.ensures.value) (λ e. omega arith)
