use Rattle.std.proofs.Common.{[], ◌∙◌, sym}
use Rattle.iol_kernel.specs.Kernel.{state_of}
use Rattle.iol_kernel.specs.Readings.{bytes_over}
use Rattle.iol_kernel.proofs.Queues.PipeEnds.{end_held}
use Rattle.iol_kernel.proofs.kernel.Kernel.give_fd.Goals as goal

pub denied_pool-requires : goal.denied_pool-requires
denied_pool-requires c =
    let h = state_of c.args.self.now in
    end_held (bytes_over [] h.store) h c.args.by c.args.fd c.in-Some.given c.requires
    (sym (c.descriptor.ensures (bytes_over [] h.store)) ∙ c.in-Some.is)
