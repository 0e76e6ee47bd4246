use Rattle.iol_agg.proofs.KnownHolds.{of_ok}
use Rattle.iol_pipe.specs.Queue.{GivesFirst}
use Rattle.test_iol_store.proofs.Sharing.{front_readable, there_countable, there_covers}
use Rattle.test_iol_store.proofs.tests.sharing.gives.Goals as goal

pub front-requires-clause-covered : goal.front-requires-clause-covered
front-requires-clause-covered g c = there_covers c.args.conn.now.incoming c.requires

pub front-requires-clause-countable : goal.front-requires-clause-countable
front-requires-clause-countable g c = there_countable c.args.conn.now.incoming c.requires

pub to_vec-requires : goal.to_vec-requires
to_vec-requires g c =
    let old = c.args.conn.now.incoming in
    let new = c.front.new.self.incoming in
    front_readable c.expect-front.result old new 3 c.new.result c.requires
    (of_ok (λ a. GivesFirst c.args.store.now c.front.new.store old a new 3 c.new.result) c.front.result
    c.expect-front.result c.front.ensures.gives c.expect-front.ensures)
