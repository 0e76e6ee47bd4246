use Rattle.std.proofs.Common.{◌∙◌, ◌+◌, sym, ap, arith, rules, subst}
use Rattle.iol_core.specs.Meaning.{WantOfRoom}
use Rattle.iol_pool.specs.Pools.{pool_in}
use Rattle.iol_hold.specs.Texts.{bufs_of}
use Rattle.iol_cache.specs.declared.files.CachedFile.{CachedFile}
use Rattle.iol_cache.specs.Cache.{cached_of, holding}
use Rattle.iol_cache.specs.CacheState.{extents_in, file_in, held}
use Rattle.iol_cache.specs.Composition.{copied_pages}
use Rattle.iol_cache.specs.Preparation.{Prepares}
use Rattle.iol_cache.specs.SharedBytes.{AreHeld}
use Rattle.iol_cache.specs.Writes.{MayPutOver, PutsOver}
use Rattle.iol_cache.proofs.Extents.Lookups.{file_here}
use Rattle.iol_cache.proofs.RangeWrites.Preparation.{prepared_may}
use Rattle.iol_cache.proofs.RangeReads.FilledGaps.{leaves_as}
use Rattle.iol_cache.proofs.RangeReads.WholeRange.{file_held}
use Rattle.iol_cache.proofs.Extents.StoreSteps.{sound_to}
use Rattle.iol_cache.proofs.Extents.Steps.{covers_right}
use Rattle.iol_cache.proofs.cache.Cache.overwrite.Goals.{In-Ok}
use Rattle.iol_cache.proofs.cache.Cache.overwrite.Goals as goal

pub prepare-requires : goal.prepare-requires
prepare-requires c = record {
  some = c.requires.some;
  fits = omega (arith, c.requires.may.short);
  bytes = record {
    opened =
        ap (λ (y : CachedFile). (pool_in c.args.store.now.pools y.pool).closed)
        (file_here _ c.number.ensures c.index.ensures c.requires.may.file)
        ∙ (c.requires.may.sound.opened c.args.file c.requires.may.file).is_open;
    small = omega (arith, c.requires.may.short);
    covered = covers_right c.args.store.now (held c.args.self.now.files.items) (bufs_of c.args.source.now)
        c.requires.may.held;
    few = record { each = λ b. omega (arith, c.requires.may.few.each b) };
    readable = c.requires.may.readable;
    tidy = c.requires.may.sound.tidy;
  };
  extents =
      subst (λ (y : CachedFile). AreHeld c.args.store.now y.extents.extents)
      (sym (file_here _ c.number.ensures c.index-2.ensures c.requires.may.file))
      (file_held c.args.file c.requires.may.sound);
}

pub returns-in-Err : goal.returns-in-Err
returns-in-Err c =
    let e = c.in-Err.ensures.leaves in
    let x = file_here _ c.number.ensures c.index.ensures c.requires.may.file in
    record {
      overwrites = tt;
      same = search (rules);
      leaves =
          leaves_as (ap (λ (y : CachedFile). y.pool) x)
          (ap (λ (y : CachedFile). copied_pages y.pool c.args.source.now) x) e;
      late = subst (λ (y : CachedFile). WantOfRoom y.pool c.in-Err.refusal) x c.in-Err.ensures.late;
      sound = sound_to c.args.store.now c.prepare.new.store (cached_of c.args.self.now) c.requires.may.sound e.none
          e.lists e.given_back.pages.count;
    }

-- the prepared extents, for the file
prepares : (c : In-Ok)
    → Prepares c.args.store.now c.prepare.new.store (file_in c.args.self.now.files.items c.args.file).pool
    (extents_in c.args.self.now.files.items c.args.file) c.args.at c.args.source.now c.in-Ok.prepared.left
    c.in-Ok.prepared.right c.in-Ok.prepared.bytes
prepares c =
    let p = c.in-Ok.prepared in
    subst (λ (y : CachedFile). Prepares c.args.store.now c.prepare.new.store y.pool
    (extents_in c.args.self.now.files.items c.args.file) c.args.at c.args.source.now p.left p.right p.bytes)
    (file_here _ c.number.ensures c.index.ensures c.requires.may.file)
    (subst (λ (y : CachedFile). Prepares c.args.store.now c.prepare.new.store c.index.result.now.pool y.extents.extents
    c.args.at c.args.source.now p.left p.right p.bytes)
    (file_here _ c.number.ensures c.index-2.ensures c.requires.may.file) c.in-Ok.ensures.prepares)

pub put_over-requires : goal.put_over-requires
put_over-requires c =
    let p = c.in-Ok.prepared in
    let at = (goal.at.put_over-requires c).In-Ok in
    subst (λ n. MayPutOver c.args.file (record { from = c.args.at; to = c.args.at + n }) p
    (holding c.prepare.new.store c.args.self.now)) (sym c.len.ensures)
    (prepared_may (holding c.args.store.now c.args.self.now) c.prepare.new.store c.args.file c.args.at c.args.source.now
    p c.requires (prepares at))

pub returns : goal.returns
returns c =
    let p = c.in-Ok.prepared in
    let t = c.prepare.new.store in
    let puts = c.put_over.ensures.puts in
    record {
      overwrites = record {
        left = p.left;
        right = p.right;
        bytes = p.bytes;
        ready = t;
        prepares = prepares (goal.at.returns c).In-Ok;
        puts =
            subst (λ n. PutsOver c.args.file (record { from = c.args.at; to = c.args.at + n }) p
            (holding t c.args.self.now) (holding c.put_over.new.store c.put_over.new.self)) c.len.ensures puts;
      };
      same = tt;
      leaves = search (rules);
      late = tt;
      sound = c.put_over.ensures.sound;
    }
