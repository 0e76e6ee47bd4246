use Rattle.test_iol_store.proofs.tests.kernels.TestKernel.copies_file_into.Goals as goal

pub copy_file_into-count-requires-clause-open : goal.copy_file_into-count-requires-clause-open
copy_file_into-count-requires-clause-open c =
    record { sound = c.self.invariant; live = c.in-Some.ensures.live; from = c.in-Some.ensures.from }
