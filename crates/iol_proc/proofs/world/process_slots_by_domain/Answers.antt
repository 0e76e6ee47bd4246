use Rattle.std.proofs.Common.{map, rules}
use Rattle.std.specs.List.Sorted.{IsPermutation}
use Rattle.std.proofs.lemmas.List.Sorted.{IsNonDecreasingBy-from_sort_by_key}
use Rattle.iol_proc.specs.World.{process_slot_of}
use Rattle.iol_proc.proofs.ProcessSlots.{in_slots_rise}
use Rattle.iol_proc.proofs.world.process_slots_by_domain.Goals as goal

pub returns-clause-rising : goal.returns-clause-rising
returns-clause-rising g c =
    let same : IsPermutation (map process_slot_of c.args.processes.items) c.sort_by_key.new.self.items =
    rw (← c.in_ok-process_slots.ensures) c.sort_by_key.ensures.permutation in
    in_slots_rise c.args.processes.items c.sort_by_key.new.self.items c.requires same
    (IsNonDecreasingBy-from_sort_by_key (λ s. s.by) c.sort_by_key.new.self.items (c.in_ok-sort_by_key.ensures.sorted)
    (λ a r q k. search rules))
