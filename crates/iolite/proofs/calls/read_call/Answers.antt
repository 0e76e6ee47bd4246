use Rattle.std.proofs.Common.{refl}
use Rattle.iolite.proofs.ReadTexts.{reads_second}
use Rattle.iolite.proofs.calls.read_call.Goals as goal

pub returns-in-None : goal.returns-in-None
returns-in-None c = reads_second c.read_named.result (c.in-None.ensures.none refl) c.read_named.ensures
