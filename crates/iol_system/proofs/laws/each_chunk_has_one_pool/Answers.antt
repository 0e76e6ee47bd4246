use Rattle.iol_system.proofs.Uses.{chunk_pool}
use Rattle.iol_system.proofs.laws.each_chunk_has_one_pool.Goals as goal

pub returns : goal.returns
returns c = chunk_pool
