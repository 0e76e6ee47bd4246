use Rattle.std.specs.Vec.{vec_ptr}
use Rattle.iol_arena.proofs.FreeCounts.{new_sound}
use Rattle.iol_arena.proofs.arena.Arena.make.Goals as goal

pub invariant_of-result : goal.invariant_of-result
invariant_of-result c =
    let new = new_sound (vec_ptr c.in_ok-memory.memory) c.in_ok-memory.memory.items c.in_ok-entries.entries.items
    c.in_ok-taken.taken.items c.in_ok-free.free.items c.args.limit c.args.chunks
    (c.in_ok-memory.ensures.items_if_clones_equal (λ y e. e)) (c.in_ok-entries.ensures.items_if_clones_equal (λ y e. e))
    (c.in_ok-taken.ensures.items_if_clones_equal (λ y e. e)) (c.in_ok-free.ensures.items_if_clones_equal (λ y e. e))
    c.requires.few c.requires.some in
    record { sound = new.0; chunks = new.1; counted = new.2 }
