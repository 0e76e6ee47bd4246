use Rattle.std.proofs.Common.{rules, [], None, refl}
use Rattle.iol_sock.specs.Table.{no_conn}
use Rattle.iol_kernel.specs.Kernel.{state_of}
use Rattle.iol_kernel.specs.KernelState.{queue_at}
use Rattle.iol_kernel.proofs.Queues.LookUps.{conn_at-none, conn_at-there, first_of, unread-conn, unread-pipe}
use Rattle.iol_kernel.proofs.kernel.Kernel.first_pool.Goals as goal

pub returns-in-ReadEnd : goal.returns-in-ReadEnd
returns-in-ReadEnd c = λ f keeps. let h = state_of c.args.self.now in
    first_of f h c.args.from.now keeps (queue_at h.pipes c.in-ReadEnd.pipe).queue _ c.first_pool.result
    (unread-pipe f h c.args.from.now c.in-ReadEnd.pipe c.in-ReadEnd.is) c.first_pool.ensures

pub returns-in_ok-get-in-Connection : goal.returns-in_ok-get-in-Connection
returns-in_ok-get-in-Connection c = λ f keeps.
    let h = state_of c.args.self.now in
    let there = c.in_ok-get-in-Connection in
    first_of f h c.args.from.now keeps there.field-0.now.incoming _ c.first_pool-in-Connection.result
    (unread-conn f h c.args.from.now c.in-Connection.conn there.field-0.now c.in-Connection.is
    (conn_at-there f h c.in-Connection.conn there.field-0.now there.ensures)) c.first_pool-in-Connection.ensures

pub returns-in_err-get-in-Connection : goal.returns-in_err-get-in-Connection
returns-in_err-get-in-Connection c = λ f keeps. (
    let h = state_of c.args.self.now in
    let seen = conn_at-none f h c.in-Connection.conn c.in_err-get-in-Connection.ensures in
    let none =
    first_of f h c.args.from.now keeps [] _ None
    (unread-conn f h c.args.from.now c.in-Connection.conn no_conn c.in-Connection.is seen) refl in
    search (rules, none))
