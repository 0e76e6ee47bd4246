use Rattle.test_iol_store.proofs.tests.kernels.TestKernel.copies_file.Goals as goal

pub copy_file-copied-requires : goal.copy_file-copied-requires
copy_file-copied-requires c =
    record { sound = c.self.invariant; live = c.in-Some.ensures.live; from = c.in-Some.ensures.from }
