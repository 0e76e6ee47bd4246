use Rattle.std.proofs.Common.{[], arith}
use Rattle.iol_desc.specs.Tables.{domains_of}
use Rattle.iol_kernel.specs.Kernel.{state_of}
use Rattle.iol_kernel.specs.Readings.{bytes_over}
use Rattle.iol_kernel.proofs.FileCalls.Opens.{opened_answers}
use Rattle.iol_kernel.proofs.Queues.PipeEnds.{few_open_held}
use Rattle.iol_kernel.proofs.State.ReadOf.{live_held}
use Rattle.iol_kernel.proofs.kernel.Kernel.open_at_start.Goals as goal

pub add_fd-requires-clause-live : goal.add_fd-requires-clause-live
add_fd-requires-clause-live c = live_held _ (state_of c.args.self.now) c.args.by c.requires.has.live

pub add_fd-requires-clause-few : goal.add_fd-requires-clause-few
add_fd-requires-clause-few c =
    omega (
      arith,
      few_open_held (bytes_over [] c.args.self.now.store) (state_of c.args.self.now) c.args.by 1
          c.requires.few,
    )

pub returns : goal.returns
returns c =
    let h = state_of c.args.self.now in
    record {
      done =
          opened_answers h (domains_of c.add_fd.new.self) c.args.by c.args.file c.args.mode c.requires.has.file.sound
          (live_held _ h c.args.by c.requires.has.live) c.requires.has.file.there c.in_ok-add_fd.ensures.opened
          c.in_ok-add_fd.field-0 c.in_ok-add_fd.ensures.number;
      err = tt;
    }
