use Rattle.std.proofs.Common.{ap, arith}
use Rattle.iol_sock.specs.Table.{ConnTable, conn_in}
use Rattle.iol_sock.proofs.AtPlace.{changed_to}
use Rattle.iol_kernel.specs.Kernel.{state_of}
use Rattle.iol_kernel.proofs.Connections.Streams.{Lent, drains_to, lent_out}
use Rattle.iol_kernel.proofs.Connections.OneConnection.{conn_is, conn_readable, found_conn, outgoing_covered}
use Rattle.iol_kernel.proofs.kernel.Kernel.lend_out.Given.{Over}
use Rattle.iol_kernel.proofs.kernel.Kernel.lend_out.Goals as goal
use Rattle.iol_kernel.proofs.kernel.Kernel.lend_out.Goals.{After-drain_to-drained}

pub drain_to-drained-requires-clause-there : goal.drain_to-drained-requires-clause-there
drain_to-drained-requires-clause-there g c = conn_is (state_of c.args.self.now) c.args.conn c.requires.there

pub drain_to-drained-requires-clause-covered : goal.drain_to-drained-requires-clause-covered
drain_to-drained-requires-clause-covered g c =
    let h = state_of c.args.self.now in
    outgoing_covered h c.args.conn (conn_in h.conns c.args.conn) c.requires.sound
    (found_conn h c.args.conn c.requires.there)

pub drain_to-drained-requires-clause-readable : goal.drain_to-drained-requires-clause-readable
drain_to-drained-requires-clause-readable g c =
    let h = state_of c.args.self.now in
    (conn_readable h c.args.conn (conn_in h.conns c.args.conn) c.requires.sound
    (found_conn h c.args.conn c.requires.there)).1

-- the bytes taken off the output
lent : (g : Over) (c : After-drain_to-drained g)
    → Lent (state_of c.args.self.now) (record (state_of c.args.self.now) {
      store = c.drain_to-drained.new.store;
      conns =
          c.drain_to-drained.new.self.conns;
      next_conn = c.drain_to-drained.new.self.next;
    }) c.args.conn
    c.drain_to-drained.result.taken
lent g c =
    let h = state_of c.args.self.now in
    let w = c.drain_to-drained.new in
    let e = c.drain_to-drained.ensures in
    let r = e.conn.releases in
    lent_out h (record h { store = w.store; conns = w.self.conns; next_conn = w.self.next }) c.args.conn
    c.drain_to-drained.result.taken c.requires.sound (conn_is h c.args.conn c.requires.there) e.conn.rest
    (ap (λ (t : ConnTable). record h { store = w.store; conns = t.conns; next_conn = t.next })
    (changed_to e.others e.conn.others)) r.moves r.lists r.frees
    (r.reclaims (conn_readable h c.args.conn (conn_in h.conns c.args.conn) c.requires.sound
    (found_conn h c.args.conn c.requires.there)).1)

pub reclaim-requires-clause-sound : goal.reclaim-requires-clause-sound
reclaim-requires-clause-sound g c = (lent g (goal.at.reclaim-requires-clause-sound g c).After-drain_to-drained).sound

pub reclaim-requires-clause-there : goal.reclaim-requires-clause-there
reclaim-requires-clause-there g c = (lent g (goal.at.reclaim-requires-clause-there g c).After-drain_to-drained).there

pub returns-then-drained-eq0 : goal.returns-then-drained-eq0
returns-then-drained-eq0 g c =
    let h = state_of c.args.self.now in
    let w = c.drain_to-drained.new in
    let e = c.drain_to-drained.ensures.conn.writes in
    drains_to h c.args.conn c.args.max (conn_is h c.args.conn c.requires.there) (g.W.Write.contents c.args.writer.now)
    (g.W.Write.contents w.writer) (record h { store = w.store; conns = w.self.conns; next_conn = w.self.next })
    c.drain_to-drained.result e.most e.all e.fewer e.written
    ((lent g (goal.at.returns-then-drained-eq0 g c).After-drain_to-drained).nothing
    (omega (arith, c.if-drained-eq0.true)))

pub returns : goal.returns
returns g c =
    let h = state_of c.args.self.now in
    let e = c.drain_to-drained.ensures.conn.writes in
    drains_to h c.args.conn c.args.max (conn_is h c.args.conn c.requires.there) (g.W.Write.contents c.args.writer.now)
    (g.W.Write.contents c.drain_to-drained.new.writer) (state_of c.reclaim.new.self) c.drain_to-drained.result
    e.most e.all e.fewer e.written
    ((lent g (goal.at.returns g c).After-drain_to-drained).some (state_of c.reclaim.new.self)
    (λ none. omega (arith, none, c.if-drained-eq0.false)) c.reclaim.ensures.left)
