use Rattle.iol_system.proofs.ChunkReturns.{keeps_chunks}
use Rattle.iol_system.proofs.laws.each_step_keeps_chunks.Goals as goal

pub returns : goal.returns
returns c = keeps_chunks
