use Rattle.std.proofs.Common.{ap, arith, rules, List, length}
use Rattle.iol_agg.proofs.KnownHolds.{of_ok}
use Rattle.iol_cache.specs.Cache.{cached_of}
use Rattle.iol_cache.specs.Sound.{HasNoFile}
use Rattle.iol_cache.specs.declared.cache.Cache.{Cache}
use Rattle.iol_cache.specs.declared.files.CachedFile.{CachedFile}
use Rattle.test_iol_store.proofs.Caching.{file_new}
use Rattle.test_iol_store.proofs.tests.caches.make_cache.Given.{Over}
use Rattle.test_iol_store.proofs.tests.caches.make_cache.Goals as goal
use Rattle.test_iol_store.proofs.tests.caches.make_cache.Goals.{After-expect-cache}

-- the new cache
none : (g : Over) (c : After-expect-cache g) → HasNoFile 32 (cached_of c.expect-cache.result)
none g c = of_ok (λ (x : Cache). HasNoFile 32 (cached_of x)) c.new.result c.expect-cache.result c.new.ensures
    c.expect-cache.ensures

pub add_file-requires : goal.add_file-requires
add_file-requires g c =
    omega
    (arith, ap (λ (fs : List CachedFile). length fs) (none g (goal.at.add_file-requires g c).After-expect-cache).files)

pub returns : goal.returns
returns g c = file_new c.args.store.now (cached_of c.expect-cache.result) (cached_of c.add_file.new.self) c.args.pool
    c.add_file.result c.expect.result c.requires (search (rules)) (none g (goal.at.returns g c).After-expect-cache)
    c.add_file.ensures c.expect.ensures
