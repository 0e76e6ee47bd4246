use Rattle.std.proofs.Common.{[], ◌≡◌, ◌≤◌, ◌+◌, ◌-◌, ◌∙◌, Some, ap, length, length-append, take, arith, ℕ, rules}
use Rattle.std.specs.Prelude.{min}
use Rattle.std.proofs.lemmas.List.{length-take}
use Rattle.iol_core.specs.Calls.Writes.{iol_write}
use Rattle.iol_core.specs.declared.descriptors.Descriptor.{Descriptor}
use Rattle.iol_core.specs.declared.descriptors.Descriptor.TheVariants as on
use Rattle.iol_core.specs.declared.limits.TheConstants.{MAX_QUEUE_BYTES}
use Rattle.iol_hold.specs.Moves.{Covers, IsCountable}
use Rattle.iol_hold.specs.Places.{places, byte_len}
use Rattle.iol_hold.specs.Texts.{bufs_of}
use Rattle.iol_sock.specs.Table.{ConnTable}
use Rattle.iol_sock.proofs.AtPlace.{changed_to}
use Rattle.iol_kernel.specs.Kernel.{state_of}
use Rattle.iol_kernel.specs.Readings.{bytes_over}
use Rattle.iol_kernel.specs.KernelState.{KernelState, objects_of, queue_at}
use Rattle.iol_kernel.proofs.Connections.ConnQueues.{conn_there_held}
use Rattle.iol_kernel.proofs.Connections.Writes.{queue_refused, queued_answers}
use Rattle.iol_kernel.proofs.Queues.QueueSlices.{agg_queued}
use Rattle.iol_kernel.proofs.Queues.SoundPipes.{writing_held, queue_short, pushed_answers}
use Rattle.iol_kernel.proofs.State.Refinement.{carried_done}
use Rattle.iol_kernel.proofs.State.ReadOf.{open_row}
use Rattle.iol_kernel.proofs.State.Sound.{agg_small}
use Rattle.iol_kernel.proofs.State.Uses.{agg_covered, countable}
use Rattle.iol_kernel.proofs.kernel.Kernel.push.Goals as goal
use Rattle.iol_kernel.proofs.kernel.Kernel.push.Goals.{In-Some}

pub push-requires-clause-writing : goal.push-requires-clause-writing
push-requires-clause-writing c =
    let h = state_of c.args.self.now in
    writing_held (bytes_over [] h.store) h c.args.by c.args.fd c.in-WriteEnd.pipe c.requires.may.held.sound
    (c.requires.may.held.from (bytes_over [] h.store) ∙ ap (λ (x : Descriptor). Some x) c.in-WriteEnd.is)

-- the aggregate's buffers are counted
covered : (c : In-Some) → Covers c.args.self.now.store (bufs_of c.in-Some.found.now)
covered c = let h = state_of c.args.self.now in
    agg_covered h.store h.domains (objects_of h) c.args.by c.args.agg c.in-Some.found.now
    c.requires.may.held.sound.counted (open_row c.requires.may.held) c.in-Some.ensures

countable_there : (c : In-Some) → IsCountable c.args.self.now.store (bufs_of c.in-Some.found.now)
countable_there c =
    let h = state_of c.args.self.now in
    let sound = c.requires.may.held.sound in
    countable h.store h.domains (objects_of h) c.in-Some.found.now sound.counted sound.limits
    (agg_small h c.args.by c.args.agg c.in-Some.found.now sound c.in-Some.ensures)

pub push-requires-clause-shared : goal.push-requires-clause-shared
push-requires-clause-shared c = let found = (goal.at.push-requires-clause-shared c).In-Some in
    record { covered = covered found; countable = countable_there found }

pub queue-requires-clause-covered : goal.queue-requires-clause-covered
queue-requires-clause-covered c = covered (goal.at.queue-requires-clause-covered c).In-Some

pub queue-requires-clause-countable : goal.queue-requires-clause-countable
queue-requires-clause-countable c = countable_there (goal.at.queue-requires-clause-countable c).In-Some

pub queue-requires-clause-there : goal.queue-requires-clause-there
queue-requires-clause-there c =
    conn_there_held (state_of c.args.self.now) c.args.by c.args.fd c.in-Connection.conn c.requires.may.held.sound
    (λ f. c.requires.may.held.from f ∙ ap (λ (x : Descriptor). Some x) c.in-Connection.is)

-- the bytes that fit keep the queue within its bound
short : (old new given n : ℕ) → old ≤ MAX_QUEUE_BYTES → n ≡ min given (MAX_QUEUE_BYTES - old) → new ≤ old + n
    → new ≤ MAX_QUEUE_BYTES
short old new given n h is le = omega (arith, h, is, le)

pub returns-in_ok-push-in-WriteEnd : goal.returns-in_ok-push-in-WriteEnd
returns-in_ok-push-in-WriteEnd c =
    let h = state_of c.args.self.now in
    let qs = c.push.new.self.places in
    let p = c.in-WriteEnd.pipe in
    let n = c.in_ok-push-in-WriteEnd.field-0 in
    let from = c.in-Some.found.now in
    let e = c.in_ok-push-in-WriteEnd.ensures in
    let bound = short (byte_len (queue_at h.pipes p).queue) (byte_len (queue_at qs p).queue) (byte_len from) n
    (queue_short h p c.requires.may.held.sound) e.shares.taken
    (omega (
      arith,
      ap length e.shares.added,
      length-append (places (queue_at h.pipes p).queue) (take n (places from)),
      length-take n (places from),
    )) in
    let k : KernelState = record h { store = c.push.new.store; pipes = qs } in
    let carries = carried_done (λ s. iol_write s c.args.by c.args.fd c.args.agg) h k c.requires.may.passed n
    (pushed_answers h c.push.new.store qs c.args.fd p n c.args.by c.args.agg from c.requires.may.held.sound
    (λ f. c.requires.may.held.from f ∙ ap (λ (x : Descriptor). Some x) c.in-WriteEnd.is) c.in-Some.ensures bound
    e.shares.taken e.shares.added e.pipes e.shares.shares) in
    record {
      carries = carries;
      slices =
          agg_queued h k c.args.to.now (on.WriteEnd p) c.args.by c.args.agg n from c.in-WriteEnd.is c.in-Some.ensures
          e.shares.taken e.shares.parts;
    }

pub returns-in_ok-queue-in-Connection : goal.returns-in_ok-queue-in-Connection
returns-in_ok-queue-in-Connection c =
    let h = state_of c.args.self.now in
    let k : KernelState = record h {
      store = c.queue.new.store;
      conns = c.queue.new.self.conns;
      next_conn =
          c.queue.new.self.next;
    } in
    let n = c.in_ok-queue-in-Connection.field-0 in
    let e = c.in_ok-queue-in-Connection.ensures in
    let carries = carried_done (λ s. iol_write s c.args.by c.args.fd c.args.agg) h k c.requires.may.passed n
    (queued_answers h c.args.by c.args.fd c.args.agg c.in-Connection.conn c.in-Some.found.now c.requires.may.held.sound
    (λ f. c.requires.may.held.from f ∙ ap (λ (x : Descriptor). Some x) c.in-Connection.is) c.in-Some.ensures k n
    e.conn.shares.taken e.conn.shares.added
    (ap (λ (w : ConnTable). record h { store = c.queue.new.store; conns = w.conns; next_conn = w.next })
    (changed_to e.others e.conn.others)) e.conn.shares.shares) in
    record {
      carries = carries;
      slices = agg_queued h k c.args.to.now (on.Connection c.in-Connection.conn) c.args.by c.args.agg n
          c.in-Some.found.now c.in-Connection.is c.in-Some.ensures e.conn.shares.taken e.conn.shares.parts;
    }

pub returns-in_err-queue-in-Connection : goal.returns-in_err-queue-in-Connection
returns-in_err-queue-in-Connection c =
    let h = state_of c.args.self.now in
    let k : KernelState = record h {
      store = c.queue.new.store;
      conns = c.queue.new.self.conns;
      next_conn =
          c.queue.new.self.next;
    } in
    let e = c.in_err-queue-in-Connection.ensures in
    let table = e.others.same e.conn.err.0 in
    let same : k ≡ h = λ i. record h { store = e.conn.err.1 i; conns = (table i).conns; next_conn = (table i).next } in
    let refused = e.conn.refused in
    let kept = queue_refused h c.args.by c.args.fd c.args.agg c.in-Connection.conn c.in-Some.found.now
    c.requires.may.held.sound (λ f. c.requires.may.held.from f ∙ ap (λ (x : Descriptor). Some x) c.in-Connection.is)
    c.in-Some.ensures c.requires.may.passed k c.in_err-queue-in-Connection.field-0.0 (search (rules, refused))
    same in
    search (rules, kept)
