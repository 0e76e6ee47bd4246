use Rattle.std.proofs.Common.{◌∙◌, None, refl}
use Rattle.iol_cache.specs.Cache.{holding}
use Rattle.iol_cache.proofs.Evictions.Victims.{evicts_others, evicts_len}
use Rattle.iol_cache.proofs.Evictions.OneByOne.{next_clean, next_fewer, on_more, on_none}
use Rattle.iol_cache.proofs.cache.Cache.drop_clean_of.Goals as goal

pub loop-place-init : goal.loop-place-init
loop-place-init c =
    record {
      on = on_none c.args.pool None (holding c.args.store.now c.args.self.now) c.least-passed.result c.requires
          c.least-passed.ensures;
      others = λ q ne. refl;
      len = refl;
    }

pub evict-requires-clause-clean : goal.evict-requires-clause-clean
evict-requires-clause-clean c = (next_clean c.loop-place.invariant.on c.in-Some.place c.in-Some.ensures).1

pub loop-place-smaller : goal.loop-place-smaller
loop-place-smaller c =
    next_fewer c.loop-place.invariant.on c.in-Some.place c.in-Some.ensures (holding c.evict.new.store c.evict.new.self)
    c.evict.ensures.evicts

pub loop-place-preserved : goal.loop-place-preserved
loop-place-preserved c =
    let now = holding c.loop-place.store c.loop-place.self in
    let next = holding c.evict.new.store c.evict.new.self in
    let i = c.loop-place.invariant in
    let place = c.in-Some.place in
    let found = c.in-Some.ensures in
    let e = c.evict.ensures in
    record {
      on = on_more i.on place found e tt;
      others = λ q ne. evicts_others now next place.0 place.1 c.args.pool e.evicts (next_clean i.on place found).0 q ne
          ∙ i.others q ne;
      len = evicts_len now next place.0 place.1 e.evicts ∙ i.len;
    }
