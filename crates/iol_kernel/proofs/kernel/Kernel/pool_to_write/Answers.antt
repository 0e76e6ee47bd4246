use Rattle.std.proofs.Common.{◌∙◌, ap, Some}
use Rattle.iol_core.specs.declared.descriptors.Descriptor.{Descriptor}
use Rattle.iol_kernel.proofs.FileCalls.Positions.{open_file}
use Rattle.iol_kernel.proofs.kernel.Kernel.pool_to_write.Goals as goal

pub test_file-requires : goal.test_file-requires
test_file-requires c =
    open_file (record {
      sound = c.requires;
      live = c.in_ok-to.ensures.live;
      from = λ f. c.in_ok-to.ensures.open f
          ∙ ap (λ (x : Descriptor). Some x) c.in-File.is;
    })
