use Rattle.std.proofs.Common.{[], ◌≡◌, ◌∙◌, Option, ap, length, subst, sym}
use Rattle.iol_arena.specs.State.{pages_for}
use Rattle.iol_core.specs.Calls.Writes.{fitting, write}
use Rattle.iol_core.specs.declared.descriptors.Descriptor.{Descriptor}
use Rattle.iol_core.specs.declared.descriptors.Descriptor.TheVariants as on
use Rattle.iol_sock.specs.Table.{ConnTable, conn_in}
use Rattle.iol_sock.proofs.AtPlace.{changed_to}
use Rattle.iol_kernel.specs.Kernel.{state_of}
use Rattle.iol_kernel.specs.KernelState.{KernelState, queue_at, read_of}
use Rattle.iol_kernel.specs.WritesByCopy.{MayPut}
use Rattle.iol_kernel.specs.Readings.{Reading, bytes_over}
use Rattle.iol_kernel.proofs.Connections.ConnQueues.{conn_there_held}
use Rattle.iol_kernel.proofs.Connections.GrownQueue.{kept_table}
use Rattle.iol_kernel.proofs.Queues.QueueSlices.{few_fitting, few_put}
use Rattle.iol_kernel.proofs.Queues.WritesAfterRoom.{may_place, may_still, write_none, write_places}
use Rattle.iol_kernel.proofs.Queues.SoundPipes.{writing_held}
use Rattle.iol_kernel.proofs.Queues.NewBytes.{fills, kept_pipes, sends}
use Rattle.iol_kernel.proofs.kernel.Kernel.put.Goals as goal
use Rattle.iol_kernel.proofs.kernel.Kernel.put.Goals.{After-fitting-count, In-Connection, In-WriteEnd}

pub make_room_for-requires : goal.make_room_for-requires
make_room_for-requires c = may_place c.requires.may

-- the answer is the number of bytes that fit
counted : (c : After-fitting-count) (f : Reading)
    → (write (read_of f (state_of c.args.self.now)) c.args.by c.args.fd c.args.bytes.now).answer
    ≡ c.fitting-count.result
counted c f = ap (λ (o : Option Descriptor). fitting (read_of f (state_of c.args.self.now)) o (length c.args.bytes.now))
    (c.requires.may.to f) ∙ sym (c.fitting-count.ensures f)

pub returns-then-not-make_room_for : goal.returns-then-not-make_room_for
returns-then-not-make_room_for c =
    let r = c.make_room_for.ensures in
    record {
      places = write_none c.args.by c.args.fd c.args.to c.args.pool c.fitting-count.result c.args.bytes.now
          (state_of c.args.self.now) (state_of c.make_room_for.new.self) c.requires.may r.made
          (counted (goal.at.returns-then-not-make_room_for c).After-fitting-count)
          (r.refused c.if-not-make_room_for.true) (r.fits ∙ c.if-not-make_room_for.true);
      slices = tt;
    }

-- after room was made, the bytes may still be put into the descriptor's object

to_pipe : (c : In-WriteEnd) → MayPut c.args.by c.args.fd (on.WriteEnd c.in-WriteEnd.pipe) c.args.pool c.args.bytes.now
    (state_of c.make_room_for.new.self)
to_pipe c =
    let k = state_of c.make_room_for.new.self in
    subst (λ (x : Descriptor). MayPut c.args.by c.args.fd x c.args.pool c.args.bytes.now k) c.in-WriteEnd.is
    (may_still c.args.by c.args.fd c.args.to c.args.pool c.fitting-count.result c.args.bytes.now
    (state_of c.args.self.now) k c.requires.may c.make_room_for.ensures.made)

to_conn : (c : In-Connection)
    → MayPut c.args.by c.args.fd (on.Connection c.in-Connection.conn) c.args.pool c.args.bytes.now
    (state_of c.make_room_for.new.self)
to_conn c =
    let k = state_of c.make_room_for.new.self in
    subst (λ (x : Descriptor). MayPut c.args.by c.args.fd x c.args.pool c.args.bytes.now k) c.in-Connection.is
    (may_still c.args.by c.args.fd c.args.to c.args.pool c.fitting-count.result c.args.bytes.now
    (state_of c.args.self.now) k c.requires.may c.make_room_for.ensures.made)

pub fill-requires-clause-open : goal.fill-requires-clause-open
fill-requires-clause-open c = (may_place (to_pipe (goal.at.fill-requires-clause-open c).In-WriteEnd)).opened

pub fill-requires-clause-writing : goal.fill-requires-clause-writing
fill-requires-clause-writing c =
    let k = state_of c.make_room_for.new.self in
    let may = to_pipe (goal.at.fill-requires-clause-writing c).In-WriteEnd in
    writing_held (bytes_over [] k.store) k c.args.by c.args.fd c.in-WriteEnd.pipe may.sound
    (may.to (bytes_over [] k.store))

pub returns-in-WriteEnd : goal.returns-in-WriteEnd
returns-in-WriteEnd c =
    let k = state_of c.make_room_for.new.self in
    let l : KernelState = record k { store = c.fill.new.store; pipes = c.fill.new.self.places } in
    let r = c.make_room_for.ensures in
    let e = c.fill.ensures in
    let placed = write_places c.args.by c.args.fd c.args.to c.args.pool c.fitting-count.result c.args.bytes.now
    (state_of c.args.self.now) k c.requires.may r.made (counted (goal.at.returns-in-WriteEnd c).After-fitting-count)
    l c.fill.result
    (r.room c.if-not-make_room_for.false) (r.fits ∙ c.if-not-make_room_for.false)
    (fills k c.args.by c.args.fd c.in-WriteEnd.pipe c.args.pool c.args.bytes.now
    (to_pipe (goal.at.returns-in-WriteEnd c).In-WriteEnd) c.fill.new.store c.fill.new.self.places c.fill.result
    e.late e.adds e.pipes e.room
    (kept_pipes k c.fill.new.store c.fill.new.self.places c.fill.result e.err)) in
    record {
      places = placed;
      slices = few_put c.args.pool (pages_for c.fitting-count.result) (state_of c.args.self.now) k r.made l c.args.to
          (on.WriteEnd c.in-WriteEnd.pipe) (length c.args.bytes.now) c.fill.result c.in-WriteEnd.is
          (few_fitting k.store c.fill.new.store (queue_at k.pipes c.in-WriteEnd.pipe).queue
          (queue_at l.pipes c.in-WriteEnd.pipe).queue c.args.pool c.args.bytes.now c.fill.result e.adds);
    }

pub write-requires-clause-there : goal.write-requires-clause-there
write-requires-clause-there c =
    let may = to_conn (goal.at.write-requires-clause-there c).In-Connection in
    conn_there_held (state_of c.make_room_for.new.self) c.args.by c.args.fd c.in-Connection.conn may.sound may.to

pub write-requires-clause-pool : goal.write-requires-clause-pool
write-requires-clause-pool c = (may_place (to_conn (goal.at.write-requires-clause-pool c).In-Connection)).opened

pub returns-in-Connection : goal.returns-in-Connection
returns-in-Connection c =
    let k = state_of c.make_room_for.new.self in
    let l : KernelState = record k {
      store = c.write.new.store;
      conns = c.write.new.self.conns;
      next_conn =
          c.write.new.self.next;
    } in
    let r = c.make_room_for.ensures in
    let e = c.write.ensures in
    let n = c.in-Connection.conn in
    let placed = write_places c.args.by c.args.fd c.args.to c.args.pool c.fitting-count.result c.args.bytes.now
    (state_of c.args.self.now) k c.requires.may r.made
    (counted (goal.at.returns-in-Connection c).After-fitting-count) l c.write.result
    (r.room c.if-not-make_room_for.false) (r.fits ∙ c.if-not-make_room_for.false)
    (sends k c.args.by c.args.fd c.in-Connection.conn c.args.pool c.args.bytes.now
    (to_conn (goal.at.returns-in-Connection c).In-Connection) l c.write.result e.conn
    (ap (λ (w : ConnTable). record k { store = c.write.new.store; conns = w.conns; next_conn = w.next })
    (changed_to e.others e.conn.others))
    (kept_table k c.write.new.store c.make_room_for.new.self.conns c.write.new.self c.in-Connection.conn
    c.write.result e.others e.conn.err)) in
    record {
      places = placed;
      slices = few_put c.args.pool (pages_for c.fitting-count.result) (state_of c.args.self.now) k r.made l c.args.to
          (on.Connection n) (length c.args.bytes.now) c.write.result c.in-Connection.is
          (few_fitting k.store c.write.new.store (conn_in k.conns n).outgoing (conn_in l.conns n).outgoing c.args.pool
          c.args.bytes.now c.write.result e.conn.adds);
    }
