use Rattle.std.proofs.Common.{◌≡◌, ◌∙◌, ◌<◌, ◌≤◌, Bool, true, false, Some, length, refl, ap, arith}
use Rattle.std.proofs.lemmas.Bool.Decides.{nat_tests}
use Rattle.iol_pool.specs.Pools.{Pool}
use Rattle.iol_hold.specs.Room.{free_of}
use Rattle.iol_hold.proofs.Rooms.{open_numbered}
use Rattle.iol_cache.specs.CacheState.{clean_held}
use Rattle.iol_cache.specs.Cache.{cached_of, holding}
use Rattle.iol_cache.proofs.Evictions.FreePages.{room_at_most, no_room_left, same_pages}
use Rattle.iol_cache.proofs.Evictions.NoneLeft.{none_beside}
use Rattle.iol_cache.proofs.Evictions.OneByOne.{next_clean, next_fewer, on_more, on_none}
use Rattle.iol_cache.proofs.cache.Cache.evict_for.Goals as goal

pub has_free-requires : goal.has_free-requires
has_free-requires c =
    open_numbered c.loop-pool.store.pools c.args.pool
    (ap (λ (x : Pool). x.closed) (c.loop-pool.invariant.gives_up.frees.pools c.args.pool c.requires.open)
    ∙ c.requires.open)

pub loop-pool-init : goal.loop-pool-init
loop-pool-init c =
    on_none c.args.pool (Some c.args.pages) (holding c.args.store.now c.args.self.now) c.least-passed.result
    c.requires.sound c.least-passed.ensures

pub evict-requires-clause-clean : goal.evict-requires-clause-clean
evict-requires-clause-clean c = (next_clean c.loop-pool.invariant c.in-Some.place c.in-Some.ensures).1

pub loop-pool-smaller : goal.loop-pool-smaller
loop-pool-smaller c =
    next_fewer c.loop-pool.invariant c.in-Some.place c.in-Some.ensures (holding c.evict.new.store c.evict.new.self)
    c.evict.ensures.evicts

pub loop-pool-preserved : goal.loop-pool-preserved
loop-pool-preserved c =
    let few : length (free_of c.loop-pool.store c.args.pool) < c.args.pages =
    grind (arith, nat_tests, c.has_free.ensures, c.loop-pool-test.true) in
    on_more c.loop-pool.invariant c.in-Some.place c.in-Some.ensures c.evict.ensures few

pub returns : goal.returns
returns c =
    let s = c.args.store.now in
    let t = c.loop-pool.store in
    let v = c.loop-pool.invariant in
    let m = v.gives_up in
    let enough : c.args.pages ≤ length (free_of t c.args.pool) =
    grind (arith, nat_tests, c.has_free.ensures, c.loop-pool-test.false) in
    record {
      room = (
        (λ y. room_at_most s t c.args.pool c.args.pages (clean_held c.args.self.now.files.items)
            (clean_held c.loop-pool.self.files.items) (same_pages s t c.args.pool m.frees c.requires.open) m.frees
            m.clean
            enough),
        (λ y. refl),
      );
      free = λ y. enough;
      victims = v.victims;
      gives_up = m;
      sound = v.sound;
    }

pub returns-in_default : goal.returns-in_default
returns-in_default c =
    let s = c.args.store.now in
    let t = c.loop-pool.store in
    let v = c.loop-pool.invariant in
    let m = v.gives_up in
    let few : length (free_of t c.args.pool) < c.args.pages =
    grind (arith, nat_tests, c.has_free.ensures, c.loop-pool-test.true) in
    record {
      room = (
        (λ y. absurd (false_true y)),
        (λ room. absurd (no_room_left s t c.args.pool c.args.pages (clean_held c.args.self.now.files.items)
            (clean_held c.loop-pool.self.files.items) (same_pages s t c.args.pool m.frees c.requires.open) m.frees
            m.clean v.sound.tidy v.sound.still
            (λ q there. none_beside t (cached_of c.loop-pool.self) c.args.pool q v.sound c.in_default.ensures.first
            there) few room)),
      );
      free = λ y. absurd (false_true y);
      victims = v.victims;
      gives_up = m;
      sound = v.sound;
    }
  where
    false_true : ◌≡◌ {A = Bool} false true → ⊥
    false_true h = cc
