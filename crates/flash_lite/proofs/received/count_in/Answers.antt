use Rattle.std.proofs.Common.{arith}
use Rattle.flash_lite.proofs.received.count_in.Goals as goal

pub returns : goal.returns
returns c =
    let same = rw c.in-None.ensures.steps.0 at c.loop-part.invariant.same in
    omega (arith, same)
