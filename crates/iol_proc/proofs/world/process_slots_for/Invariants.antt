use Rattle.std.proofs.Common.{◌≡◌, map}
use Rattle.iol_proc.specs.World.{process_slot_of}
use Rattle.iol_proc.proofs.world.process_slots_for.Given as goal

-- the processes so far, in their order
abbrev pub invariant-loop-by : goal.invariant-loop-by
invariant-loop-by g l = l.process_slots.items ≡ map process_slot_of l.yielded
