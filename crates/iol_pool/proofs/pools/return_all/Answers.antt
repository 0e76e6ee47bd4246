use Rattle.std.proofs.Common.{◌≡◌, ◌+◌, ◌∙◌, sym, ap, arith, subst, drop, false, set, length, length-set, List, Bool}
use Rattle.iol_arena.specs.State.{State}
use Rattle.iol_pool.specs.Pools.{all_returned}
use Rattle.iol_pool.proofs.Owners.{returned_last, returned_on}
use Rattle.iol_pool.proofs.pools.return_all.Goals as goal

pub loop-chunk-preserved : goal.loop-chunk-preserved
loop-chunk-preserved c =
    let cs = c.args.chunks.now in
    let k = c.chunk-item.result in
    let was = c.loop-chunk.arena.taken in
    let now = ap (λ (s : State). s.taken) c.give_chunk.ensures in
    record {
      same =
          subst (λ (s : State). s ≡ record {
            memory = c.args.arena.now.memory;
            base = c.args.arena.now.base;
            entries =
                c.args.arena.now.entries;
            limit = c.args.arena.now.limit;
            taken = s.taken;
          }) (sym c.give_chunk.ensures)
          (ap (λ (s : State). record {
            memory = s.memory;
            base = s.base;
            entries = s.entries;
            limit = s.limit;
            taken =
                set was k false;
          }) c.loop-chunk.invariant.same);
      rest =
          ap (λ (l : List Bool). all_returned l (drop (c.loop-chunk.chunk-index + 1) cs)) now
          ∙ returned_on was cs c.loop-chunk.chunk-index k c.loop-chunk-test.true c.chunk-item.is
          ∙ c.loop-chunk.invariant.rest;
      long = ap (λ (l : List Bool). length l) now ∙ length-set was k false ∙ c.loop-chunk.invariant.long;
    }

pub returns : goal.returns
returns c =
    let was = c.loop-chunk.arena.taken in
    let all =
    sym (returned_last was c.args.chunks.now c.loop-chunk.chunk-index (omega (arith, c.loop-chunk-test.false)))
    ∙ c.loop-chunk.invariant.rest in
    c.loop-chunk.invariant.same
    ∙ ap (λ (l : List Bool). record {
      memory = c.args.arena.now.memory;
      base = c.args.arena.now.base;
      entries =
          c.args.arena.now.entries;
      limit = c.args.arena.now.limit;
      taken = l;
    }) all
