use Rattle.std.proofs.Common.{◌≡◌, ℕ, ◌<◌, false, length, take, List}
use Rattle.iol_proc.specs.Idle.{Went, RoundRun, yields_of, is_idle}
use Rattle.iol_proc.specs.World.{sharing, domains_of}
use Rattle.iol_proc.proofs.rounds.until_idle.Given as goal

-- the turns so far, the counts of their yields, and that no moment so far was idle
abbrev pub invariant-loop-i : goal.invariant-loop-i
invariant-loop-i g l = record {
  domains : domains_of l.process_slots.items ≡ domains_of l.fn.process_slots.items;
  size : length l.yields.items ≡ length l.process_slots.items;
  ran : (went : List Went)
      × RoundRun sharing g.P.Process.turns (record {
        machine = l.fn.system;
        process_slots = l.fn.process_slots.items;
        resource_failure = l.fn.resource_failure;
      }) 0 went
      (record { machine = l.system; process_slots = l.process_slots.items; resource_failure = l.resource_failure })
      × (length went ≡ l.i)
      × (l.yields.items ≡ yields_of (length l.fn.process_slots.items) went)
      × ((j : ℕ) → j < length went → is_idle (yields_of (length l.fn.process_slots.items) (take j went)) ≡ false);
}
