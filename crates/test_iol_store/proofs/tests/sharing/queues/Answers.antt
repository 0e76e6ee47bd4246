use Rattle.std.proofs.Common.{◌≡◌, List, [], ap, arith}
use Rattle.iol_agg.proofs.KnownHolds.{moved_covers, of_ok}
use Rattle.iol_hold.specs.declared.slices.Slice.{Slice}
use Rattle.iol_pipe.specs.NewBytes.{SharesFitting}
use Rattle.iol_sock.specs.Connections.{Conn}
use Rattle.test_iol_store.proofs.Sharing.{filled_countable, queued, shared_covers}
use Rattle.test_iol_store.proofs.tests.sharing.queues.Given.{Over}
use Rattle.test_iol_store.proofs.tests.sharing.queues.Goals as goal
use Rattle.test_iol_store.proofs.tests.sharing.queues.Goals.{After-expect}

pub queue-requires-clause-covered : goal.queue-requires-clause-covered
queue-requires-clause-covered g c = moved_covers c.filled-agg.ensures.moves

pub queue-requires-clause-countable : goal.queue-requires-clause-countable
queue-requires-clause-countable g c =
    filled_countable c.filled-agg.result c.requires c.filled-agg.ensures.moves (omega arith)

-- what was queued
shared : (g : Over) (c : After-expect g)
    → SharesFitting c.filled-agg.new.store c.queue.new.store c.new-conn.result.outgoing c.queue.new.self.outgoing
    c.filled-agg.result c.expect.result
shared g c =
    of_ok (SharesFitting c.filled-agg.new.store c.queue.new.store c.new-conn.result.outgoing c.queue.new.self.outgoing
    c.filled-agg.result) c.queue.result c.expect.result c.queue.ensures.shares c.expect.ensures

-- in an empty queue
empty : (g : Over) (c : After-expect g) → c.new-conn.result.outgoing ≡ []
empty g c = ap (λ (x : Conn (List Slice)). x.outgoing) c.new-conn.ensures

pub release-requires : goal.release-requires
release-requires g c =
    let before = (goal.at.release-requires g c).After-expect in
    shared_covers c.filled-agg.result c.new-conn.result.outgoing c.queue.new.self.outgoing c.expect.result
    (empty g before) c.requires c.filled-agg.ensures.moves (shared g before)

pub returns : goal.returns
returns g c =
    let before = (goal.at.returns g c).After-expect in
    queued c.filled-agg.result c.new-conn.result.outgoing c.queue.new.self.outgoing c.expect.result (empty g before)
    (omega arith) c.requires c.filled-agg.ensures.readable c.filled-agg.ensures.moves (shared g before)
    c.release.ensures.moves
