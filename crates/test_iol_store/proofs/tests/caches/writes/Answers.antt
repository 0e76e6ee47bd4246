use Rattle.std.proofs.Common.{ℕ, sym, subst, arith}
use Rattle.iol_cache.specs.Cache.{holding}
use Rattle.iol_cache.specs.Overwrites.{MayWrite, Writes}
use Rattle.test_iol_store.proofs.Caching.{may_read, may_write}
use Rattle.test_iol_store.proofs.tests.caches.writes.Goals as goal

pub write-requires : goal.write-requires
write-requires g c =
    subst (λ (n : ℕ). MayWrite n 0 c.args.source.now (holding c.args.store.now c.args.cache.now)) (sym c.new.ensures)
    (may_write c.args.store.now c.args.cache.now c.args.source.now c.requires.file c.requires.there (omega arith))

pub returns : goal.returns
returns g c =
    let writes =
    subst (λ (n : ℕ). Writes n 0 c.args.source.now c.args.store.now c.args.cache.now c.write.new.store
    c.write.new.self c.write.result) c.new.ensures c.write.ensures in
    may_read c.args.store.now c.write.new.store c.args.cache.now c.write.new.self c.args.source.now c.write.result
    c.expect.result c.requires.file c.requires.there (omega arith) writes c.expect.ensures
