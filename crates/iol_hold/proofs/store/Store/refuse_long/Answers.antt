use Rattle.std.proofs.Common.{◌≡◌, ◌≤◌, ◌∙◌, ℕ, ap, subst, length, List, false}
use Rattle.iol_pool.specs.Pools.{pool_in}
use Rattle.iol_pool.proofs.Counts.{few_chunks}
use Rattle.iol_pool.proofs.Owners.{within_chunks}
use Rattle.iol_hold.specs.Room.{has_room}
use Rattle.iol_hold.specs.StoreState.{Stored}
use Rattle.iol_hold.specs.View.{stored}
use Rattle.iol_hold.proofs.Rooms.{no_room_for_long, open_numbered}
use Rattle.iol_hold.proofs.store.Store.refuse_long.Goals as goal

pub chunks-requires : goal.chunks-requires
chunks-requires c =
    open_numbered c.self.inside.pools c.args.pool
    (ap (λ (x : Stored). (pool_in x.pools c.args.pool).closed) c.self.view_is ∙ c.requires.open)

pub returns-clause-full : goal.returns-clause-full
returns-clause-full c =
    let s : Stored = stored c.self.inside in
    let cs = c.as_slice-chunks.result.now in
    let within = within_chunks s.arena s.pools c.args.pool cs c.chunks.result.now c.self.invariant.tidy.owned
    c.as_slice-chunks.ensures.value c.chunks.ensures in
    let few = few_chunks s.arena cs c.chunk_count-most.result c.as_slice-chunks.ensures.rising within
    c.chunk_count-most.ensures.count c.chunk_count-most.ensures.most in
    let there : length (pool_in s.pools c.args.pool).chunks ≤ 256 =
    subst (λ (l : List ℕ). length l ≤ 256) (c.as_slice-chunks.ensures.value ∙ c.chunks.ensures) few in
    subst (λ (x : Stored). has_room x c.args.pool (length c.args.bytes.now) ≡ false) c.self.view_is
    (no_room_for_long s c.args.pool (length c.args.bytes.now) there c.requires.long)
