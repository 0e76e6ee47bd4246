use Rattle.std.proofs.Common.{◌≡◌, Some, ap, arith, rules, subst, sym}
use Rattle.iol_core.specs.declared.descriptors.Descriptor.{Descriptor}
use Rattle.iol_sock.specs.Table.{ConnTable, conn_in}
use Rattle.iol_sock.proofs.AtPlace.{changed_to}
use Rattle.iol_kernel.specs.Kernel.{state_of}
use Rattle.iol_kernel.specs.KernelState.{KernelState, IsOpenEnd, objects_of, queue_at}
use Rattle.iol_kernel.specs.QueueEnds.{GivesFront}
use Rattle.iol_kernel.proofs.Connections.OneConnection.{conn_limit}
use Rattle.iol_kernel.proofs.Connections.Reads.{conn_front}
use Rattle.iol_kernel.proofs.Queues.Sources.{source_covered, source_found, source_there}
use Rattle.iol_kernel.proofs.Queues.SoundPipes.{pipe_front, queue_short, reading_covered}
use Rattle.iol_kernel.proofs.State.Uses.{countable}
use Rattle.iol_kernel.proofs.kernel.Kernel.front.Goals as goal

pub front-requires-clause-shared : goal.front-requires-clause-shared
front-requires-clause-shared c =
    let h = state_of c.args.self.now in
    record {
      covered =
          reading_covered h c.in-ReadEnd.pipe c.requires.sound
          (subst (λ (x : Descriptor). IsOpenEnd (objects_of h) (Some x)) c.in-ReadEnd.is c.requires.opened);
      countable = countable h.store h.domains (objects_of h) (queue_at h.pipes c.in-ReadEnd.pipe).queue
          c.requires.sound.counted c.requires.sound.limits
          (omega (arith, queue_short h c.in-ReadEnd.pipe c.requires.sound));
    }

pub returns-in_ok-front-in-ReadEnd : goal.returns-in_ok-front-in-ReadEnd
returns-in_ok-front-in-ReadEnd c =
    let h = state_of c.args.self.now in
    let e = c.in_ok-front-in-ReadEnd.ensures in
    let given =
    subst
    (λ (x : Descriptor). GivesFront x c.args.by c.args.n h
    (record h { store = c.front.new.store; pipes = c.front.new.self.places }) c.in_ok-front-in-ReadEnd.field-0)
    (sym c.in-ReadEnd.is)
    (pipe_front h c.front.new.store c.front.new.self.places c.in-ReadEnd.pipe c.args.by c.args.n
    c.in_ok-front-in-ReadEnd.field-0 e.gives.given e.gives.rest e.pipes e.gives.shares
    (record { cut = e.gives.cut; few = e.gives.few; left = e.gives.left })) in
    record { given = given; table = search (rules); err = tt }

pub front-requires-in-Connection-clause-there : goal.front-requires-in-Connection-clause-there
front-requires-in-Connection-clause-there c =
    source_there (state_of c.args.self.now) c.args.from.now c.in-Connection.conn c.requires c.in-Connection.is

pub front-requires-in-Connection-clause-covered : goal.front-requires-in-Connection-clause-covered
front-requires-in-Connection-clause-covered c =
    source_covered (state_of c.args.self.now) c.args.from.now c.in-Connection.conn c.requires c.in-Connection.is

pub front-requires-in-Connection-clause-countable : goal.front-requires-in-Connection-clause-countable
front-requires-in-Connection-clause-countable c =
    let h = state_of c.args.self.now in
    let n = c.in-Connection.conn in
    let short =
    (conn_limit h n (conn_in h.conns n) c.requires.sound
    (source_found h c.args.from.now n c.requires c.in-Connection.is)).incoming in
    countable h.store h.domains (objects_of h) (conn_in h.conns n).incoming c.requires.sound.counted
    c.requires.sound.limits (omega (arith, short))

pub returns-in_ok-front-in-Connection : goal.returns-in_ok-front-in-Connection
returns-in_ok-front-in-Connection c =
    let h = state_of c.args.self.now in
    let w = c.front-in-Connection.new in
    let k : KernelState = record h { store = w.store; conns = w.self.conns; next_conn = w.self.next } in
    let e = c.in_ok-front-in-Connection.ensures in
    let gives = e.conn.gives in
    let given = subst (λ (x : Descriptor). GivesFront x c.args.by c.args.n h k c.in_ok-front-in-Connection.field-0)
    (sym c.in-Connection.is)
    (conn_front h k c.in-Connection.conn c.args.by c.args.n c.in_ok-front-in-Connection.field-0 gives.given gives.rest
    (ap (λ (t : ConnTable). record h { store = w.store; conns = t.conns; next_conn = t.next })
    (changed_to e.others e.conn.others)) gives.shares
    (record { cut = gives.cut; few = gives.few; left = gives.left })) in
    record { given = given; table = search (rules); err = tt }

pub returns-in_err-front-in-Connection : goal.returns-in_err-front-in-Connection
returns-in_err-front-in-Connection c =
    let h = state_of c.args.self.now in
    let w = c.front-in-Connection.new in
    let k : KernelState = record h { store = w.store; conns = w.self.conns; next_conn = w.self.next } in
    let e = c.in_err-front-in-Connection.ensures in
    let table = e.others.same e.conn.err.0 in
    let same : k ≡ h = λ i. record h { store = e.conn.err.1 i; conns = (table i).conns; next_conn = (table i).next } in
    search (rules, same)
