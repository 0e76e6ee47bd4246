-- The fields of a cache, as contracts see them.
use Rattle.std.specs.Prelude.{ℕ}
use Rattle.iol_evict.specs.declared.entry.Rank.{Rank}
use Rattle.iol_hold.specs.StoreState.{Stored}
use Rattle.iol_cache.specs.declared.cache.Cache.{Cache}
use Rattle.iol_cache.specs.CacheState.{Cached}
use Rattle.iol_cache.specs.Evictions.{EvictsOne, Holding}

abbrev pub cached_of : Cache → Cached
cached_of c = record { files = c.files.items; orders = c.orders.items; marks = c.marks }

abbrev pub holding : Stored → Cache → Holding
holding s c = record { store = s; cache = cached_of c }

-- A clean extent of a sound cache over a store is evicted, and the cache is sound. If those of its pool below one rank
-- were in use, those below the other are.
abbrev pub EvictsFrom : (f at : ℕ) → (was now : Rank) → Stored → Cache → Stored → Cache → Type 0
EvictsFrom f at was now s c t d = EvictsOne f at was now (holding s c) (holding t d)
