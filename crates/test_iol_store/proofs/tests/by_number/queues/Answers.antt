use Rattle.std.proofs.Common.{◌≡◌, List, [], ap, arith}
use Rattle.iol_agg.proofs.KnownHolds.{moved_covers, of_ok}
use Rattle.iol_hold.specs.declared.slices.Slice.{Slice}
use Rattle.iol_pipe.specs.NewBytes.{SharesFitting}
use Rattle.iol_sock.specs.Connections.{Conn, new_conn}
use Rattle.iol_sock.specs.Table.{conn_in}
use Rattle.iol_sock.proofs.WaitingList.{conn_in-there}
use Rattle.test_iol_store.proofs.Sharing.{filled_countable, is_there, queued, shared_covers, still_there}
use Rattle.test_iol_store.proofs.tests.by_number.queues.Given.{Over}
use Rattle.test_iol_store.proofs.tests.by_number.queues.Goals as goal
use Rattle.test_iol_store.proofs.tests.by_number.queues.Goals.{After-expect-queued}

pub queue-requires-clause-there : goal.queue-requires-clause-there
queue-requires-clause-there g c = is_there _ _ c.requires.one

pub queue-requires-clause-covered : goal.queue-requires-clause-covered
queue-requires-clause-covered g c = moved_covers c.filled-agg.ensures.moves

pub queue-requires-clause-countable : goal.queue-requires-clause-countable
queue-requires-clause-countable g c =
    filled_countable c.filled-agg.result c.requires.none c.filled-agg.ensures.moves (omega arith)

abbrev old : (g : Over) (c : After-expect-queued g) → List Slice
old g c = (conn_in c.args.table.now.conns c.args.conn).outgoing

abbrev new : (g : Over) (c : After-expect-queued g) → List Slice
new g c = (conn_in c.queue.new.self.conns c.args.conn).outgoing

-- what was queued
shared : (g : Over) (c : After-expect-queued g)
    → SharesFitting c.filled-agg.new.store c.queue.new.store (old g c) (new g c) c.filled-agg.result
    c.expect-queued.result
shared g c = of_ok (SharesFitting c.filled-agg.new.store c.queue.new.store (old g c) (new g c) c.filled-agg.result)
    c.queue.result c.expect-queued.result c.queue.ensures.conn.shares c.expect-queued.ensures

-- in an empty queue
empty : (g : Over) (c : After-expect-queued g) → old g c ≡ []
empty g c =
    ap (λ (x : Conn (List Slice)). x.outgoing) (conn_in-there c.args.table.now.conns c.args.conn (new_conn c.args.pool)
    c.requires.one)

pub release-requires : goal.release-requires
release-requires g c =
    let before = (goal.at.release-requires g c).After-expect-queued in
    shared_covers c.filled-agg.result (old g before) (new g before) c.expect-queued.result (empty g before)
    c.requires.none c.filled-agg.ensures.moves (shared g before)

pub returns : goal.returns
returns g c =
    let before = (goal.at.returns g c).After-expect-queued in
    record {
      there = still_there c.args.table.now c.queue.new.self c.args.conn (is_there _ _ c.requires.one)
          c.queue.ensures.others;
      queued = queued c.filled-agg.result (old g before) (new g before) c.expect-queued.result (empty g before)
          (omega arith) c.requires.none c.filled-agg.ensures.readable c.filled-agg.ensures.moves (shared g before)
          c.release.ensures.moves;
    }
