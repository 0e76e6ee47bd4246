use Rattle.std.proofs.Common.{ap}
use Rattle.iol_sock.specs.Table.{ConnTable, conn_in}
use Rattle.iol_sock.proofs.AtPlace.{changed_to}
use Rattle.iol_kernel.specs.Kernel.{state_of}
use Rattle.iol_kernel.specs.KernelState.{KernelState}
use Rattle.iol_kernel.proofs.Connections.Arrivals.{arrives}
use Rattle.iol_kernel.proofs.Connections.OneConnection.{conn_is, conn_open, found_conn}
use Rattle.iol_kernel.proofs.Connections.GrownQueue.{kept_table}
use Rattle.iol_kernel.proofs.Queues.QueueSlices.{few_fitting}
use Rattle.iol_kernel.proofs.kernel.Kernel.fill_conn.Goals as goal

pub arrive-requires-clause-there : goal.arrive-requires-clause-there
arrive-requires-clause-there c = conn_is (state_of c.args.self.now) c.args.conn c.requires.there

pub arrive-requires-clause-pool : goal.arrive-requires-clause-pool
arrive-requires-clause-pool c =
    let h = state_of c.args.self.now in
    conn_open h c.args.conn (conn_in h.conns c.args.conn) c.requires.sound (found_conn h c.args.conn c.requires.there)

pub returns : goal.returns
returns c =
    let h = state_of c.args.self.now in
    let k : KernelState = record h {
      store = c.arrive.new.store;
      conns = c.arrive.new.self.conns;
      next_conn =
          c.arrive.new.self.next;
    } in
    let e = c.arrive.ensures in
    let x = conn_in h.conns c.args.conn in
    let arrived =
    arrives h k c.args.conn c.args.bytes.now c.arrive.result c.requires.sound
    (conn_is h c.args.conn c.requires.there) e.conn
    (ap (λ (w : ConnTable). record h { store = c.arrive.new.store; conns = w.conns; next_conn = w.next })
    (changed_to e.others e.conn.others)) (kept_table h c.arrive.new.store c.args.self.now.conns c.arrive.new.self
    c.args.conn c.arrive.result e.others e.conn.err) in
    record {
      fills = arrived;
      slices =
          few_fitting h.store k.store x.incoming (conn_in k.conns c.args.conn).incoming x.pool c.args.bytes.now
          c.arrive.result e.conn.adds;
    }
