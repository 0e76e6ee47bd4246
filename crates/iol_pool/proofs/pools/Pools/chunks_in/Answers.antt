use Rattle.std.proofs.Common.{◌∙◌}
use Rattle.iol_pool.proofs.Counts.{few_chunks}
use Rattle.iol_pool.proofs.Owners.{within_chunks}
use Rattle.iol_pool.proofs.pools.Pools.chunks_in.Goals as goal

pub returns : goal.returns
returns c =
    let within = within_chunks c.args.arena.now c.args.self.now c.args.p c.as_slice.result.now c.chunks.result.now
    c.requires.owned c.as_slice.ensures.value c.chunks.ensures in
    record {
      value = c.as_slice.ensures.value ∙ c.chunks.ensures;
      within = within;
      few = few_chunks c.args.arena.now c.as_slice.result.now c.chunk_count-few.result c.as_slice.ensures.rising within
          c.chunk_count-few.ensures.count c.chunk_count-few.ensures.most;
    }
