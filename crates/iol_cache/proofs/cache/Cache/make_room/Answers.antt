use Rattle.std.proofs.Common.{Some, refl, arith}
use Rattle.iol_cache.specs.Cache.{cached_of, holding}
use Rattle.iol_cache.proofs.Evictions.Victims.{none_evicted}
use Rattle.iol_cache.proofs.Evictions.Files.{gives_up_none}
use Rattle.iol_cache.proofs.Evictions.ReclaimablePages.{free_fits}
use Rattle.iol_cache.proofs.cache.Cache.make_room.Goals as goal

pub returns-then-pages-eq0 : goal.returns-then-pages-eq0
returns-then-pages-eq0 c = record {
  room = (
    (λ y. omega (arith, free_fits c.args.store.now (cached_of c.args.self.now) c.args.pool, c.if-pages-eq0.true)),
    (λ y. refl),
  );
  free = λ y. omega (arith, c.if-pages-eq0.true);
  victims = none_evicted c.args.pool (Some c.args.pages) (holding c.args.store.now c.args.self.now);
  gives_up = gives_up_none (holding c.args.store.now c.args.self.now);
  sound = c.requires.sound;
  refused = λ no. refl;
}
