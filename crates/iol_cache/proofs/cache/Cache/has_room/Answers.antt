use Rattle.std.proofs.Common.{◌≤◌, List, ℕ, length, refl, ap, arith}
use Rattle.std.proofs.lemmas.Bool.Decides.{nat_tests}
use Rattle.iol_hold.specs.Reclaimable.{reclaimable_pages}
use Rattle.iol_hold.specs.Room.{free_of}
use Rattle.iol_hold.proofs.Rooms.{open_numbered}
use Rattle.iol_cache.specs.Cache.{cached_of}
use Rattle.iol_cache.proofs.Evictions.ReclaimablePages.{free_fits, reclaimable_count}
use Rattle.iol_cache.proofs.cache.Cache.has_room.Goals as goal

pub has_free-requires : goal.has_free-requires
has_free-requires c = open_numbered c.args.store.now.pools c.args.pool c.requires.open

pub can_free-requires : goal.can_free-requires
can_free-requires c = open_numbered c.args.store.now.pools c.args.pool c.requires.open

pub returns-then-has_free : goal.returns-then-has_free
returns-then-has_free c =
    let enough : c.args.pages ≤ length (free_of c.args.store.now c.args.pool) =
    grind (arith, nat_tests, c.has_free.ensures, c.if-has_free.true) in
    ((λ y. omega (arith, free_fits c.args.store.now (cached_of c.args.self.now) c.args.pool, enough)), (λ y. refl))

pub returns : goal.returns
returns c =
    let all = reclaimable_count c.args.store.now (cached_of c.args.self.now) c.args.pool c.requires.sound in
    let same = ap (λ (l : List ℕ). length (reclaimable_pages c.args.store.now l c.args.pool)) c.as_slice.ensures in
    ((λ y. omega (arith, c.can_free.ensures.0 y, all, same)), (λ y. c.can_free.ensures.1 (omega (arith, y, all, same))))
