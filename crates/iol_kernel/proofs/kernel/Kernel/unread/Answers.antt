use Rattle.std.proofs.Common.{[], refl}
use Rattle.iol_sock.specs.Table.{no_conn}
use Rattle.iol_kernel.specs.Kernel.{state_of}
use Rattle.iol_kernel.specs.KernelState.{queue_at}
use Rattle.iol_kernel.proofs.Queues.LookUps.{as_long, conn_at-none, conn_at-there, unread-conn, unread-pipe}
use Rattle.iol_kernel.proofs.kernel.Kernel.unread.Goals as goal

pub returns-in-ReadEnd : goal.returns-in-ReadEnd
returns-in-ReadEnd c = λ f. let h = state_of c.args.self.now in
    as_long f h c.args.from.now (queue_at h.pipes c.in-ReadEnd.pipe).queue _ c.len.result
    (unread-pipe f h c.args.from.now c.in-ReadEnd.pipe c.in-ReadEnd.is) c.len.ensures.len

pub returns-in-Some : goal.returns-in-Some
returns-in-Some c = λ f.
    let h = state_of c.args.self.now in
    let seen = conn_at-there f h c.in-Connection.conn c.in-Some.found.now c.in-Some.ensures in
    as_long f h c.args.from.now c.in-Some.found.now.incoming _ c.unread.result
    (unread-conn f h c.args.from.now c.in-Connection.conn c.in-Some.found.now c.in-Connection.is seen)
    c.unread.ensures.len

pub returns-in-None : goal.returns-in-None
returns-in-None c = λ f.
    let h = state_of c.args.self.now in
    let seen = conn_at-none f h c.in-Connection.conn c.in-None.ensures in
    as_long f h c.args.from.now [] _ 0 (unread-conn f h c.args.from.now c.in-Connection.conn no_conn c.in-Connection.is
    seen) refl
