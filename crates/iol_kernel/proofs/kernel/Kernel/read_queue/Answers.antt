use Rattle.std.proofs.Common.{[], ◌≡◌, rules, Some, true}
use Rattle.iol_core.specs.Calls.Reads.{can_read}
use Rattle.iol_kernel.specs.Kernel.{state_of}
use Rattle.iol_kernel.specs.Readings.{bytes_over}
use Rattle.iol_kernel.proofs.Queues.PipeEnds.{end_held}
use Rattle.iol_kernel.proofs.kernel.Kernel.read_queue.Goals as goal

pub take-requires : goal.take-requires
take-requires c =
    let h = state_of c.args.self.now in
    let f = bytes_over [] h.store in
    let held = c.requires.held in
    let readable : can_read (Some c.args.from.now) ≡ true = search (rules) in
    record {
      held = held;
      source =
          record {
            sound = held.sound;
            opened =
                end_held f h c.args.by c.args.fd c.args.from.now held.sound (held.from f);
            readable = readable;
            no_file =
                c.requires.no_file;
          };
      few = search (rules);
    }
