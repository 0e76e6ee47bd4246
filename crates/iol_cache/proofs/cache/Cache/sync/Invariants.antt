use Rattle.std.proofs.Common.{◌≡◌, ℕ, ◌+◌, false, None, cond}
use Rattle.iol_extent.specs.Extents.{dirty_in, dirty_count}
use Rattle.iol_cache.specs.Cache.{cached_of}
use Rattle.iol_cache.specs.CacheState.{extents_in}
use Rattle.iol_cache.specs.Sound.{IsSound}
use Rattle.iol_cache.specs.WriteBack.{AreCleaned, Syncs}
use Rattle.iol_cache.proofs.cache.Cache.sync.Given as goal

abbrev pub invariant-loop-more : goal.invariant-loop-more
invariant-loop-more g l = record {
  sound : IsSound l.store (cached_of l.self);
  syncs : Syncs l.store l.file (cached_of l.fn.self) (cached_of l.self) (g.B.Backing.disk l.fn.backing)
      (g.B.Backing.disk l.backing);
  cleaned : (n : ℕ) × AreCleaned l.store l.file n (cached_of l.fn.self) (cached_of l.self)
      (g.B.Backing.disk l.fn.backing) (g.B.Backing.disk l.backing);
  failures : (g.B.Backing.disk l.backing).failures ≡ (g.B.Backing.disk l.fn.backing).failures;
  done : l.more ≡ false → dirty_in (extents_in l.self.files.items l.file) ≡ None;
}

abbrev pub decreases-loop-more : goal.decreases-loop-more
decreases-loop-more g l = dirty_count (extents_in l.self.files.items l.file) + cond l.more 1 0
