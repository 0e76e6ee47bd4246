use Rattle.iol_arena.specs.State.{State}
use Rattle.iol_agg.proofs.KnownHolds.{of_ok}
use Rattle.iol_sum.specs.Sums.{Sums, IsRight}
use Rattle.test_iol_store.proofs.Sharing.{there_countable, there_covers}
use Rattle.test_iol_store.proofs.tests.sharing.sends.Goals as goal

pub segment-requires : goal.segment-requires
segment-requires g c =
    let queue = c.args.conn.now.outgoing in
    record {
      covered = there_covers queue c.requires;
      countable = there_countable queue c.requires;
      readable = c.requires.readable;
      right = of_ok (λ (x : Sums). (s : State) → IsRight s x) c.new.result c.expect-sums.result c.new.ensures.right
          c.expect-sums.ensures c.args.store.now.arena;
    }
