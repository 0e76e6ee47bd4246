use Rattle.std.proofs.Common.{[], false}
use Rattle.test_iol_store.proofs.tests.kernels.TestKernel.copies_in.Goals as goal

pub invariant_of-self : goal.invariant_of-self
invariant_of-self c =
    (c.write.ensures.serves (record { slots = []; failures = 0; honest = false; reported = [] })).sound
