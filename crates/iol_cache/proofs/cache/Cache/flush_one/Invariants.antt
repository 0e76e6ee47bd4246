use Rattle.std.proofs.Common.{◌≡◌}
use Rattle.iol_cache.specs.Cache.{cached_of}
use Rattle.iol_cache.specs.Sound.{IsSound}
use Rattle.iol_cache.specs.WriteBack.{AllClean}
use Rattle.iol_cache.proofs.cache.Cache.flush_one.Given as goal

abbrev pub invariant-loop-i : goal.invariant-loop-i
invariant-loop-i g l = record {
  sound : IsSound l.store (cached_of l.self);
  same : cached_of l.self ≡ cached_of l.fn.self;
  disk : g.B.Backing.disk l.backing ≡ g.B.Backing.disk l.fn.backing;
  clean : AllClean l.i (cached_of l.fn.self);
}
