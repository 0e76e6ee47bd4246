use Rattle.std.proofs.Common.{[], false}
use Rattle.test_iol_store.proofs.tests.kernels.TestKernel.makes_agg.Goals as goal

pub invariant_of-self : goal.invariant_of-self
invariant_of-self c =
    (c.agg_make.ensures.places.serves (record { slots = []; failures = 0; honest = false; reported = [] })).sound
