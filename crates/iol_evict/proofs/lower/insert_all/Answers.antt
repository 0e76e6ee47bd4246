use Rattle.std.proofs.Common.{ℕ, ◌<◌, length, subst, arith}
use Rattle.iol_evict.specs.declared.entry.By.TheVariants.{Height}
use Rattle.iol_evict.specs.Indexes.{Adds}
use Rattle.iol_evict.proofs.Places.{read-key}
use Rattle.iol_evict.proofs.Heights.{live-first, rising-next, same-next}
use Rattle.iol_evict.proofs.lower.insert_all.Goals as goal

pub insert_key-requires-clause-index : goal.insert_key-requires-clause-index
insert_key-requires-clause-index c =
    record {
      live = live-first _ _ _ _ c.requires.index.live c.loop-i.invariant.same;
      rising =
          c.loop-i.invariant.rising;
    }

pub loop-i-preserved : goal.loop-i-preserved
loop-i-preserved c =
    let within : c.loop-i.i < length c.args.keys.now.items =
    omega (arith, c.loop-i-test.true, c.len-i-end.ensures, c.args.keys.now.ok.0) in
    let key = read-key c.args.keys.now.items c.loop-i.i _ c.index.ensures within in
    let adds = subst (λ (k : ℕ). Adds Height c.args.slab.now k c.loop-i.by_height.items c.insert_key.new.keys.items) key
    c.insert_key.ensures.adds in
    record {
      rising = rising-next _ _ _ _ c.loop-i.i c.requires.index.rising within c.loop-i.invariant.same
          c.loop-i.invariant.rising adds;
      same = same-next _ _ _ _ c.loop-i.i within c.loop-i.invariant.same adds;
      len = omega (arith, c.insert_key.ensures.len, c.loop-i.invariant.len);
      capacity = omega (arith, c.insert_key.ensures.capacity, c.loop-i.invariant.capacity);
    }
