use Rattle.iol_arena.specs.State.{State}
use Rattle.iol_agg.proofs.KnownHolds.{of_ok}
use Rattle.iol_sock.specs.Table.{conn_in}
use Rattle.iol_sum.specs.Sums.{Sums, IsRight}
use Rattle.test_iol_store.proofs.Sharing.{there_countable, there_covers}
use Rattle.test_iol_store.proofs.tests.by_number.sends.Goals as goal

pub segment-requires-clause-covered : goal.segment-requires-clause-covered
segment-requires-clause-covered g c =
    there_covers (conn_in c.args.table.now.conns c.args.conn).outgoing c.requires.queued

pub segment-requires-clause-countable : goal.segment-requires-clause-countable
segment-requires-clause-countable g c =
    there_countable (conn_in c.args.table.now.conns c.args.conn).outgoing c.requires.queued

pub segment-requires-clause-right : goal.segment-requires-clause-right
segment-requires-clause-right g c =
    of_ok (λ (x : Sums). (s : State) → IsRight s x) c.new.result c.expect-sums.result c.new.ensures.right
    c.expect-sums.ensures c.args.store.now.arena
