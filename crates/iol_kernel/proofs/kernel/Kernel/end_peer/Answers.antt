use Rattle.std.proofs.Common.{ap}
use Rattle.iol_core.specs.State.{conn_at, with_conn}
use Rattle.iol_core.specs.Calls.Outside.{closed_by}
use Rattle.iol_sock.specs.Table.{ConnTable, conn_in}
use Rattle.iol_sock.proofs.AtPlace.{changed_to}
use Rattle.iol_kernel.specs.Kernel.{state_of}
use Rattle.iol_kernel.proofs.Connections.OneConnection.{IsChanged, conn_is, found_conn, outgoing_covered}
use Rattle.iol_kernel.proofs.Connections.PeerClose.{peer_changed}
use Rattle.iol_kernel.proofs.kernel.Kernel.end_peer.Goals as goal
use Rattle.iol_kernel.proofs.kernel.Kernel.end_peer.Goals.{After-peer_closed}

pub peer_closed-requires-clause-there : goal.peer_closed-requires-clause-there
peer_closed-requires-clause-there c = conn_is (state_of c.args.self.now) c.args.conn c.requires.there

pub peer_closed-requires-clause-covered : goal.peer_closed-requires-clause-covered
peer_closed-requires-clause-covered c =
    let h = state_of c.args.self.now in
    outgoing_covered h c.args.conn (conn_in h.conns c.args.conn) c.requires.sound
    (found_conn h c.args.conn c.requires.there)

-- its peer closed in the reported way, whether or not the connection is removed then
reported : (c : After-peer_closed)
    → IsChanged c.args.conn (λ s. with_conn s c.args.conn (closed_by (conn_at s c.args.conn) c.args.how))
    (state_of c.args.self.now) (record (state_of c.args.self.now) {
      store = c.peer_closed.new.store;
      conns =
          c.peer_closed.new.self.conns;
      next_conn = c.peer_closed.new.self.next;
    })
reported c =
    let h = state_of c.args.self.now in
    let w = c.peer_closed.new in
    let e = c.peer_closed.ensures in
    peer_changed h (record h { store = w.store; conns = w.self.conns; next_conn = w.self.next }) c.args.conn c.args.how
    c.requires.sound (conn_is h c.args.conn c.requires.there)
    (ap (λ (t : ConnTable). record h { store = w.store; conns = t.conns; next_conn = t.next })
    (changed_to e.others e.conn.closed)) e.conn.releases.moves e.conn.releases.lists e.conn.releases.frees
    e.conn.releases.reclaims

pub reclaim-requires-clause-sound : goal.reclaim-requires-clause-sound
reclaim-requires-clause-sound c = (reported (goal.at.reclaim-requires-clause-sound c).After-peer_closed).sound

pub reclaim-requires-clause-there : goal.reclaim-requires-clause-there
reclaim-requires-clause-there c = (reported (goal.at.reclaim-requires-clause-there c).After-peer_closed).there

pub returns : goal.returns
returns c = (reported (goal.at.returns c).After-peer_closed).left (state_of c.reclaim.new.self) c.reclaim.ensures.left
