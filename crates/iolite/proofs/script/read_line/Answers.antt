use Rattle.std.proofs.Common.{refl}
use Rattle.iolite.proofs.ReadTexts.{reads_second}
use Rattle.iolite.proofs.script.read_line.Goals as goal

pub returns-in-None : goal.returns-in-None
returns-in-None c = reads_second c.read_event_line.result (c.in-None.ensures.none refl) c.read_event_line.ensures
