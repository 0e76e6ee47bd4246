-- Clean extents of a pool's files that a search evicts, one after another.
use Rattle.std.proofs.Common.{◌≡◌, ℕ, ◌<◌, length, Option, Some}
use Rattle.iol_evict.specs.declared.entry.Rank.{Rank}
use Rattle.iol_evict.specs.Ranks.{least_rank}
use Rattle.iol_cache.specs.CacheState.{file_in, order_in}
use Rattle.iol_cache.specs.Sound.{IsSound}
use Rattle.iol_cache.specs.Evictions.{Holding, in_use, ArePassed, Evicts, EvictsAll, EvictsOne, FindsVictim, GivesUp}
use Rattle.iol_cache.specs.Evictions.{IsCleanAt, IsWanted}
use Rattle.iol_cache.proofs.Evictions.Victims.{evicts_fewer, none_evicted, one_more, victim_clean}
use Rattle.iol_cache.proofs.Evictions.Files.{gives_up_more, gives_up_none}
use Rattle.iol_cache.proofs.Evictions.PassedExtents.{passed_least, passed_pool}

-- so far
pub record EvictsOn (pool : ℕ) (wanted : Option ℕ) (old now : Holding) (passed : Rank) : Type 0 where
  pub sound : IsSound now.store now.cache
  pub below : ArePassed passed pool now
  pub victims : EvictsAll pool wanted old now
  pub gives_up : GivesUp old now

pub on_none : (pool : ℕ) (wanted : Option ℕ) (h : Holding) (passed : Rank) → IsSound h.store h.cache
    → passed ≡ least_rank → EvictsOn pool wanted h h passed
on_none pool wanted h passed sound is =
    record {
      sound = sound;
      below = passed_least pool passed h is;
      victims = none_evicted pool wanted h;
      gives_up =
          gives_up_none h;
    }

-- the next one
module _ {pool : ℕ} {wanted : Option ℕ} {old now : Holding} {passed rank : Rank}
    (m : EvictsOn pool wanted old now passed) (place : ℕ × ℕ) (found : FindsVictim rank pool now (Some place)) where
  pub next_clean : ((file_in now.cache.files place.0).pool ≡ pool) × IsCleanAt now.cache.files place.0 place.1
  next_clean = victim_clean (in_use now.store now.cache.files) now.store now.cache pool place m.sound found.first

  pub next_fewer : (next : Holding) → Evicts place.0 place.1 now next
      → length (order_in next.cache.orders pool).entries < length (order_in now.cache.orders pool).entries
  next_fewer next gone = evicts_fewer now next place.0 place.1 pool m.sound gone next_clean.0

  pub on_more : {next : Holding} {then : Rank} → EvictsOne place.0 place.1 rank then now next
      → IsWanted pool wanted now.store → EvictsOn pool wanted old next then
  on_more {next} {then} one wants = record {
    sound = one.sound;
    below = passed_pool (file_in now.cache.files place.0).pool pool rank then now next next_clean.0 one.below
        found.below;
    victims = one_more pool wanted place old now next m.victims m.sound wants found.first one.evicts;
    gives_up = gives_up_more old now next place.0 place.1 m.gives_up m.sound one.evicts;
  }
