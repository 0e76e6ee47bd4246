use Rattle.std.proofs.Common.{[], arith}
use Rattle.iol_desc.specs.Tables.{domains_of}
use Rattle.iol_kernel.specs.Kernel.{state_of}
use Rattle.iol_kernel.specs.Readings.{bytes_over}
use Rattle.iol_kernel.proofs.Connections.Accept.{waiter_there, waiter_waits, accepted_answers}
use Rattle.iol_kernel.proofs.State.TableCalls.{attempted}
use Rattle.iol_kernel.proofs.Queues.PipeEnds.{few_open_held}
use Rattle.iol_kernel.proofs.State.ReadOf.{live_held}
use Rattle.iol_kernel.proofs.kernel.Kernel.open_conn.Goals as goal

pub add_fd-requires-clause-few : goal.add_fd-requires-clause-few
add_fd-requires-clause-few c =
    omega (
      arith,
      few_open_held (bytes_over [] c.args.self.now.store) (state_of c.args.self.now) c.args.by 1
          c.requires.few,
    )

pub accept-requires-clause-there : goal.accept-requires-clause-there
accept-requires-clause-there c =
    waiter_there (state_of c.args.self.now) c.args.by c.args.conn c.requires.lives.sound c.requires.waits

pub accept-requires-clause-waits : goal.accept-requires-clause-waits
accept-requires-clause-waits c =
    waiter_waits (state_of c.args.self.now) c.args.by c.args.conn c.requires.lives.sound c.requires.waits

pub returns : goal.returns
returns c =
    let h = state_of c.args.self.now in
    attempted (accepted_answers h c.args.by c.args.conn c.requires.lives.sound c.requires.waits
    (domains_of c.add_fd.new.self) (live_held _ h c.args.by c.requires.lives.live) c.in_ok-number.ensures.opened
    c.in_ok-number.number c.accept.new.self.next c.accept.new.self.conns c.in_ok-number.ensures.number
    c.accept.ensures.accepted c.accept.ensures.next)
