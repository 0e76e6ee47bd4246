use Rattle.std.proofs.Common.{◌≡◌, Some, ap, subst, sym, true}
use Rattle.iol_core.specs.Calls.Reads.{read_on}
use Rattle.iol_core.specs.declared.descriptors.Descriptor.{Descriptor}
use Rattle.iol_sock.specs.Table.{ConnTable}
use Rattle.iol_sock.proofs.AtPlace.{changed_to}
use Rattle.iol_kernel.specs.Calls.{Leaves}
use Rattle.iol_kernel.specs.Kernel.{state_of}
use Rattle.iol_kernel.specs.KernelState.{KernelState, IsOpenEnd, objects_of, queue_at}
use Rattle.iol_kernel.proofs.Queues.Sources.{source_covered, source_open, source_there}
use Rattle.iol_kernel.proofs.Queues.TakenBytes.{conn_skipped, pipe_skipped}
use Rattle.iol_kernel.proofs.kernel.Kernel.skip.Goals as goal
use Rattle.iol_kernel.proofs.kernel.Kernel.skip.Goals.{In-ReadEnd}

reading : (c : In-ReadEnd) → (queue_at (state_of c.args.self.now).pipes c.in-ReadEnd.pipe).reading ≡ true
reading c = subst (λ (x : Descriptor). IsOpenEnd (objects_of (state_of c.args.self.now)) (Some x)) c.in-ReadEnd.is
    c.requires.opened

pub returns-in-ReadEnd : goal.returns-in-ReadEnd
returns-in-ReadEnd c = λ d fd.
    let h = state_of c.args.self.now in
    let k : KernelState = record h { store = c.skip.new.store; pipes = c.skip.new.self.places } in
    let e = c.skip.ensures in
    subst (λ (x : Descriptor). Leaves (λ s. read_on s d fd (Some x) c.args.count) h k) (sym c.in-ReadEnd.is)
    (pipe_skipped h c.skip.new.store c.skip.new.self.places c.in-ReadEnd.pipe c.args.count c.requires.sound
    (reading (goal.at.returns-in-ReadEnd c).In-ReadEnd) e.rest e.pipes e.releases.moves e.releases.lists
    e.releases.frees e.releases.reclaims)

pub skip-requires-in-Connection-clause-there : goal.skip-requires-in-Connection-clause-there
skip-requires-in-Connection-clause-there c =
    source_there (state_of c.args.self.now) c.args.from.now c.in-Connection.conn c.requires c.in-Connection.is

pub skip-requires-in-Connection-clause-covered : goal.skip-requires-in-Connection-clause-covered
skip-requires-in-Connection-clause-covered c =
    source_covered (state_of c.args.self.now) c.args.from.now c.in-Connection.conn c.requires c.in-Connection.is

pub returns-in-Connection : goal.returns-in-Connection
returns-in-Connection c = λ d fd.
    let h = state_of c.args.self.now in
    let w = c.skip-in-Connection.new in
    let k : KernelState = record h { store = w.store; conns = w.self.conns; next_conn = w.self.next } in
    let e = c.skip-in-Connection.ensures in
    let r = e.conn.releases in
    subst (λ (x : Descriptor). Leaves (λ s. read_on s d fd (Some x) c.args.count) h k) (sym c.in-Connection.is)
    (conn_skipped h k c.in-Connection.conn c.args.count c.requires.sound
    (source_open h c.args.from.now c.in-Connection.conn c.requires c.in-Connection.is) e.conn.rest
    (ap (λ (t : ConnTable). record h { store = w.store; conns = t.conns; next_conn = t.next })
    (changed_to e.others e.conn.others)) r.moves r.lists r.frees r.reclaims)
