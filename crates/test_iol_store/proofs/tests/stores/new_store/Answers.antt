use Rattle.std.proofs.Common.{◌*◌}
use Rattle.iol_arena.specs.NewArena.{IsAllFree}
use Rattle.iol_hold.specs.StoreState.{Stored}
use Rattle.iol_agg.proofs.KnownHolds.{held_none, of_ok}
use Rattle.test_iol_store.proofs.tests.stores.new_store.Goals as goal

pub returns : goal.returns
returns g c =
    let n = c.args.config.chunks * 16 in
    held_none c.expect.result n (of_ok (λ (s : Stored). IsAllFree s.arena c.args.config.chunks c.args.config.gen_limit)
    c.new.result c.expect.result c.new.ensures.all_free c.expect.ensures).entries
