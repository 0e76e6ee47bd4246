use Rattle.std.proofs.Common.{[]}
use Rattle.iol_kernel.specs.Kernel.{state_of}
use Rattle.iol_kernel.specs.Readings.{bytes_over}
use Rattle.iol_kernel.proofs.Queues.LookUps.{is_queue}
use Rattle.iol_kernel.proofs.kernel.Kernel.waiting.Goals as goal

pub first_barred-requires : goal.first_barred-requires
first_barred-requires c =
    let h = state_of c.args.self.now in
    let e = c.in_ok-from.ensures in
    is_queue h c.args.by c.args.fd c.in_ok-from.from (e.live (bytes_over [] h.store)) (e.open (bytes_over [] h.store))
    c.requires.no_file
