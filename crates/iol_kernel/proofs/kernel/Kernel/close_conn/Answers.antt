use Rattle.std.proofs.Common.{ap, Some}
use Rattle.iol_core.specs.Calls.Descriptors.{closed_on}
use Rattle.iol_core.specs.declared.descriptors.Descriptor.TheVariants as on
use Rattle.iol_sock.specs.Table.{ConnTable, conn_in}
use Rattle.iol_sock.proofs.AtPlace.{changed_to}
use Rattle.iol_kernel.specs.Kernel.{state_of}
use Rattle.iol_kernel.proofs.Connections.OneConnection.{IsChanged, conn_in-found, incoming_covered, open_conn-there}
use Rattle.iol_kernel.proofs.Connections.Close.{hung_changed, hung_closes}
use Rattle.iol_kernel.proofs.kernel.Kernel.close_conn.Goals as goal
use Rattle.iol_kernel.proofs.kernel.Kernel.close_conn.Goals.{After-close}

pub close-requires-clause-there : goal.close-requires-clause-there
close-requires-clause-there c = open_conn-there (state_of c.args.self.now).conns c.args.conn c.requires.opened

pub close-requires-clause-covered : goal.close-requires-clause-covered
close-requires-clause-covered c =
    let h = state_of c.args.self.now in
    incoming_covered h c.args.conn (conn_in h.conns c.args.conn) c.requires.sound
    (conn_in-found h.conns c.args.conn (open_conn-there h.conns c.args.conn c.requires.opened))

-- it is closed, whether or not it is removed then
hung : (c : After-close)
    → IsChanged c.args.conn (λ s. closed_on s (Some (on.Connection c.args.conn))) (state_of c.args.self.now)
    (record (state_of c.args.self.now) {
      store = c.close.new.store;
      conns = c.close.new.self.conns;
      next_conn =
          c.close.new.self.next;
    })
hung c =
    let h = state_of c.args.self.now in
    let w = c.close.new in
    hung_changed h (record h { store = w.store; conns = w.self.conns; next_conn = w.self.next }) c.args.conn c.requires
    (ap (λ (t : ConnTable). record h { store = w.store; conns = t.conns; next_conn = t.next })
    (changed_to c.close.ensures.others c.close.ensures.conn.closed)) c.close.ensures.conn.releases

pub reclaim-requires-clause-sound : goal.reclaim-requires-clause-sound
reclaim-requires-clause-sound c = (hung (goal.at.reclaim-requires-clause-sound c).After-close).sound

pub reclaim-requires-clause-there : goal.reclaim-requires-clause-there
reclaim-requires-clause-there c = (hung (goal.at.reclaim-requires-clause-there c).After-close).there

pub returns : goal.returns
returns c =
    let h = state_of c.args.self.now in
    let w = c.close.new in
    hung_closes h (record h { store = w.store; conns = w.self.conns; next_conn = w.self.next }) c.args.conn c.requires
    (ap (λ (t : ConnTable). record h { store = w.store; conns = t.conns; next_conn = t.next })
    (changed_to c.close.ensures.others c.close.ensures.conn.closed)) c.close.ensures.conn.releases
    (state_of c.reclaim.new.self) c.reclaim.ensures.left c.reclaim.ensures.domains c.reclaim.ensures.others
