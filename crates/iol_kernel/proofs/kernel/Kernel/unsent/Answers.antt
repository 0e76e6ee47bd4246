use Rattle.std.proofs.Common.{[], refl}
use Rattle.iol_sock.specs.Table.{no_conn}
use Rattle.iol_kernel.specs.Kernel.{state_of}
use Rattle.iol_kernel.specs.KernelState.{queue_at}
use Rattle.iol_kernel.proofs.Queues.LookUps.{as_long, conn_at-none, conn_at-there, unsent-conn, unsent-pipe}
use Rattle.iol_kernel.proofs.kernel.Kernel.unsent.Goals as goal

pub returns-in-WriteEnd-clause-len : goal.returns-in-WriteEnd-clause-len
returns-in-WriteEnd-clause-len c = λ f. let h = state_of c.args.self.now in
    as_long f h c.args.to.now (queue_at h.pipes c.in-WriteEnd.pipe).queue _ c.len.result
    (unsent-pipe f h c.args.to.now c.in-WriteEnd.pipe c.in-WriteEnd.is) c.len.ensures.len

pub returns-in-Some-clause-len : goal.returns-in-Some-clause-len
returns-in-Some-clause-len c = λ f.
    let h = state_of c.args.self.now in
    let seen = conn_at-there f h c.in-Connection.conn c.in-Some.found.now c.in-Some.ensures in
    as_long f h c.args.to.now c.in-Some.found.now.outgoing _ c.unsent.result
    (unsent-conn f h c.args.to.now c.in-Connection.conn c.in-Some.found.now c.in-Connection.is seen)
    c.unsent.ensures.len

pub returns-in-None-clause-len : goal.returns-in-None-clause-len
returns-in-None-clause-len c = λ f.
    let h = state_of c.args.self.now in
    let seen = conn_at-none f h c.in-Connection.conn c.in-None.ensures in
    as_long f h c.args.to.now [] _ 0 (unsent-conn f h c.args.to.now c.in-Connection.conn no_conn c.in-Connection.is
    seen) refl
