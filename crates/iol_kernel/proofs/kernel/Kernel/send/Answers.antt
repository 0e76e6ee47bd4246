use Rattle.std.proofs.Common.{◌≡◌, ap, rules, arith}
use Rattle.iol_sock.specs.Table.{ConnTable, conn_in}
use Rattle.iol_sock.proofs.AtPlace.{changed_to}
use Rattle.iol_kernel.specs.Kernel.{state_of}
use Rattle.iol_kernel.specs.KernelState.{KernelState, objects_of}
use Rattle.iol_kernel.proofs.Connections.OneConnection.{conn_is, conn_limit, conn_readable, found_conn}
use Rattle.iol_kernel.proofs.Connections.OneConnection.{outgoing_covered}
use Rattle.iol_kernel.proofs.Connections.Transmissions.{mid_sound, mid_there, transmitted, send_kept, uses_kept}
use Rattle.iol_kernel.proofs.State.Uses.{countable}
use Rattle.iol_kernel.proofs.kernel.Kernel.send.Goals as goal

pub segment-requires-clause-there : goal.segment-requires-clause-there
segment-requires-clause-there c = conn_is (state_of c.args.self.now) c.args.conn c.requires.there

pub segment-requires-clause-covered : goal.segment-requires-clause-covered
segment-requires-clause-covered c =
    let h = state_of c.args.self.now in
    outgoing_covered h c.args.conn (conn_in h.conns c.args.conn) c.requires.sound
    (found_conn h c.args.conn c.requires.there)

pub segment-requires-clause-countable : goal.segment-requires-clause-countable
segment-requires-clause-countable c =
    let h = state_of c.args.self.now in
    let short =
    (conn_limit h c.args.conn (conn_in h.conns c.args.conn) c.requires.sound
    (found_conn h c.args.conn c.requires.there)).outgoing in
    countable h.store h.domains (objects_of h) (conn_in h.conns c.args.conn).outgoing c.requires.sound.counted
    c.requires.sound.limits (omega (arith, short))

pub segment-requires-clause-readable : goal.segment-requires-clause-readable
segment-requires-clause-readable c = let h = state_of c.args.self.now in
    (conn_readable h c.args.conn (conn_in h.conns c.args.conn) c.requires.sound
    (found_conn h c.args.conn c.requires.there)).1

pub reclaim-requires-clause-sound : goal.reclaim-requires-clause-sound
reclaim-requires-clause-sound c =
    let h = state_of c.args.self.now in
    let e = c.in_ok-segment.ensures in
    let sent = e.conn.sent in
    let readable =
    (conn_readable h c.args.conn (conn_in h.conns c.args.conn) c.requires.sound
    (found_conn h c.args.conn c.requires.there)).1 in
    mid_sound h (record h {
      store = c.segment.new.store;
      conns = c.segment.new.self.conns;
      next_conn =
          c.segment.new.self.next;
      sums = c.segment.new.sums;
    }) (state_of c.args.self.now) c.args.conn c.args.max
    c.in_ok-segment.segment.bytes c.in_ok-segment.segment.checksum c.requires.sound
    (conn_is h c.args.conn c.requires.there) e.conn.passed sent.bytes e.conn.checksum
    sent.rest
    (ap (λ (w : ConnTable). record h {
      store = c.segment.new.store;
      conns = w.conns;
      next_conn = w.next;
      sums =
          c.segment.new.sums;
    }) (changed_to e.others e.conn.others)) sent.releases.moves sent.releases.lists
    sent.releases.frees (sent.releases.reclaims readable) e.conn.right

pub reclaim-requires-clause-there : goal.reclaim-requires-clause-there
reclaim-requires-clause-there c =
    let h = state_of c.args.self.now in
    let e = c.in_ok-segment.ensures in
    let sent = e.conn.sent in
    let readable =
    (conn_readable h c.args.conn (conn_in h.conns c.args.conn) c.requires.sound
    (found_conn h c.args.conn c.requires.there)).1 in
    mid_there h (record h {
      store = c.segment.new.store;
      conns = c.segment.new.self.conns;
      next_conn =
          c.segment.new.self.next;
      sums = c.segment.new.sums;
    }) (state_of c.args.self.now) c.args.conn c.args.max
    c.in_ok-segment.segment.bytes c.in_ok-segment.segment.checksum c.requires.sound
    (conn_is h c.args.conn c.requires.there) e.conn.passed sent.bytes e.conn.checksum
    sent.rest
    (ap (λ (w : ConnTable). record h {
      store = c.segment.new.store;
      conns = w.conns;
      next_conn = w.next;
      sums =
          c.segment.new.sums;
    }) (changed_to e.others e.conn.others)) sent.releases.moves sent.releases.lists
    sent.releases.frees (sent.releases.reclaims readable) e.conn.right

pub returns : goal.returns
returns c =
    let h = state_of c.args.self.now in
    let e = c.in_ok-segment.ensures in
    let sent = e.conn.sent in
    let readable =
    (conn_readable h c.args.conn (conn_in h.conns c.args.conn) c.requires.sound
    (found_conn h c.args.conn c.requires.there)).1 in
    transmitted h (record h {
      store = c.segment.new.store;
      conns = c.segment.new.self.conns;
      next_conn =
          c.segment.new.self.next;
      sums = c.segment.new.sums;
    }) (state_of c.reclaim.new.self) c.args.conn c.args.max
    c.in_ok-segment.segment.bytes c.in_ok-segment.segment.checksum c.requires.sound
    (conn_is h c.args.conn c.requires.there) e.conn.passed sent.bytes e.conn.checksum
    sent.rest
    (ap (λ (w : ConnTable). record h {
      store = c.segment.new.store;
      conns = w.conns;
      next_conn = w.next;
      sums =
          c.segment.new.sums;
    }) (changed_to e.others e.conn.others)) sent.releases.moves sent.releases.lists
    sent.releases.frees (sent.releases.reclaims readable) e.conn.right c.reclaim.ensures.left
    (uses_kept c.reclaim.ensures.left.sums sent.uses)

pub returns-in_err-segment : goal.returns-in_err-segment
returns-in_err-segment c =
    let h = state_of c.args.self.now in
    let e = c.in_err-segment.ensures in
    let k : KernelState = record h {
      store = c.segment.new.store;
      conns = c.segment.new.self.conns;
      next_conn =
          c.segment.new.self.next;
      sums = c.segment.new.sums;
    } in
    let table = e.others.same e.conn.err.0 in
    let same : k ≡ h = λ i. record h {
      store = e.conn.err.1 i;
      conns = (table i).conns;
      next_conn = (table i).next;
      sums = e.conn.err.2 i;
    } in
    let refused = e.conn.refused in
    let kept =
    send_kept h k c.args.conn c.args.max c.in_err-segment.field-0.0 c.requires.sound
    (conn_is h c.args.conn c.requires.there) (search (rules, refused)) same in
    search (rules, kept)
