use Rattle.std.proofs.Common.{rules}
use Rattle.test_iol_store.proofs.Sharing.{is_there, open_there}
use Rattle.test_iol_store.proofs.tests.by_number.reads.Goals as goal

pub arrive_from-requires-clause-there : goal.arrive_from-requires-clause-there
arrive_from-requires-clause-there g c = is_there _ _ c.requires

pub arrive_from-requires-clause-pool : goal.arrive_from-requires-clause-pool
arrive_from-requires-clause-pool g c =
    open_there c.args.store.now.pools c.args.table.now.conns c.args.conn c.args.pool c.requires (search (rules))
