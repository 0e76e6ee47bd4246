use Rattle.std.proofs.Common.{refl}
use Rattle.iolite.proofs.outside.read_call_of.Goals as goal

pub returns-in-None : goal.returns-in-None
returns-in-None c =
    record { some = tt; can = tt; none = λ none e asked. c.in-None.ensures.none refl asked.1.0 asked.1.1 }
