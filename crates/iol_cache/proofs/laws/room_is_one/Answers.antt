use Rattle.iol_cache.proofs.Evictions.OneRoom.{end_one, has_or_lacks, reads_or_lacks, wants_one}
use Rattle.iol_cache.proofs.laws.room_is_one.Goals as goal

pub returns : goal.returns
returns c = record { wanted = wants_one; range = has_or_lacks; end = end_one; read = reads_or_lacks }
