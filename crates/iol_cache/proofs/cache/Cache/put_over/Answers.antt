use Rattle.std.proofs.Common.{◌∙◌, sym, ap, arith, subst}
use Rattle.iol_evict.specs.Order.{Ranking}
use Rattle.iol_cache.specs.declared.files.CachedFile.{CachedFile}
use Rattle.iol_cache.specs.CacheState.{file_in, with_file}
use Rattle.iol_cache.specs.Cache.{holding}
use Rattle.iol_cache.specs.Replacement.{indexing_of}
use Rattle.iol_cache.specs.Writes.{MayReplace, Replaces}
use Rattle.iol_cache.proofs.Extents.Lookups.{file_here, file_put, order_here, order_put, pool_bounds}
use Rattle.iol_cache.proofs.RangeWrites.ReplacedRange.{may_replace, sound_put}
use Rattle.iol_cache.proofs.cache.Cache.put_over.Goals as goal

pub overflow_sub-number : goal.overflow_sub-number
overflow_sub-number c =
    (let b = pool_bounds c.args.file c.requires.sound c.requires.file in
    omega (
      arith,
      b.0,
      c.number-2.ensures,
      ap (λ (y : CachedFile). y.pool) (file_here _ c.number.ensures c.index.ensures c.requires.file),
    ))

pub index_mut-requires : goal.index_mut-requires
index_mut-requires c =
    let b = pool_bounds c.args.file c.requires.sound c.requires.file in
    omega (
      arith,
      b.0,
      b.1,
      c.number-2.ensures,
      ap (λ (y : CachedFile). y.pool) (file_here _ c.number.ensures c.index.ensures c.requires.file),
      c.args.self.now.orders.ok.0,
    )

pub replace_range-requires : goal.replace_range-requires
replace_range-requires c =
    let f = c.args.file in
    let fs = c.args.self.now.files.items in
    let range = c.args.range in
    let put = c.args.put in
    let x = file_here _ c.number.ensures c.index_mut-2.ensures.value c.requires.file in
    let o = order_here f c.requires.sound c.requires.file (file_here _ c.number.ensures c.index.ensures c.requires.file)
    c.number-2.ensures c.index_mut.ensures.value in
    subst
    (λ (y : CachedFile). MayReplace f range put c.args.store.now
    (indexing_of y.extents c.index_mut.result.now c.args.self.now.marks)) (sym x)
    (subst
    (λ (q : Ranking). MayReplace f range put c.args.store.now
    (indexing_of (file_in fs f).extents q c.args.self.now.marks)) (sym o)
    (may_replace (holding c.args.store.now c.args.self.now) f range put c.requires))

pub returns-clause-puts : goal.returns-clause-puts
returns-clause-puts c =
    let fs = c.args.self.now.files.items in
    let f = c.args.file in
    let x = file_here _ c.number.ensures c.index_mut-2.ensures.value c.requires.file in
    let w = file_here _ c.number.ensures c.index.ensures c.requires.file in
    let o = order_here f c.requires.sound c.requires.file w c.number-2.ensures c.index_mut.ensures.value in
    let m = c.replace_range.new.extents in
    let r = c.replace_range.new.order in
    let put = c.args.put in
    let range = c.args.range in
    let e =
    subst (λ (q : Ranking). Replaces f range put c.args.store.now c.replace_range.new.store (file_in fs f).extents m
    q r c.args.self.now.marks c.replace_range.new.marks) o
    (subst (λ (y : CachedFile). Replaces f range put c.args.store.now c.replace_range.new.store y.extents m
    c.index_mut.result.now r c.args.self.now.marks c.replace_range.new.marks) x c.replace_range.ensures) in
    record {
      extents = m;
      order = r;
      is = e.is;
      adds = e.adds;
      apart = e.apart;
      files = file_put fs _ c.number.ensures c.requires.file
          ∙ ap (λ k. with_file fs f (let z : CachedFile = record { pool = k; extents = m } in z))
          (ap (λ (z : CachedFile). z.pool) x);
      orders = order_put f c.requires.sound c.requires.file r w c.number-2.ensures;
      ranks = e.ranks;
      follows = e.follows;
      moves = e.moves;
      frees = e.frees;
      lists = e.lists;
      reclaims = e.reclaims;
    }

pub returns-clause-sound : goal.returns-clause-sound
returns-clause-sound c =
    sound_put (holding c.args.store.now c.args.self.now) _ c.args.file c.args.range c.args.put c.requires.sound
    c.requires.file (returns-clause-puts c) c.requires.held c.requires
