use Rattle.std.proofs.Common.{◌≡◌, ◌∙◌, ℕ, ◌-◌, ◌<◌, ◌^◌, List, length, set, refl, sym, ap, arith, subst}
use Rattle.std.specs.List.{All}
use Rattle.iol_hold.specs.Places.{Place, places}
use Rattle.iol_hold.specs.StoreState.{Stored}
use Rattle.iol_hold.specs.Texts.{bufs_of}
use Rattle.iol_extent.specs.Extents.{Extent, ExtentMap, IsApart}
use Rattle.iol_extent.specs.Spans.{AreInOrder, IsGapSpan}
use Rattle.iol_extent.specs.declared.spans.Span.{Span}
use Rattle.iol_back.specs.Disk.{Disk}
use Rattle.iol_evict.specs.Order.{Ranking}
use Rattle.iol_hold.specs.declared.slices.Slice.{Slice}
use Rattle.iol_cache.specs.declared.files.CachedFile.{CachedFile}
use Rattle.iol_cache.specs.Marks.{HasMarksLeft, Marks, at_page}
use Rattle.iol_cache.specs.CacheState.{Cached, file_in, with_file, extents_in, order_in, with_order, all_parts}
use Rattle.iol_cache.specs.Cache.{cached_of, holding}
use Rattle.iol_cache.specs.Evictions.{Holding}
use Rattle.iol_cache.specs.ReadSteps.{FillsFile}
use Rattle.iol_cache.specs.RangeReads.{FillsRange, MayFillRange, AllBeginAt, AllWithin, AreAbsent, all_entered}
use Rattle.iol_cache.specs.RangeReads.{parts_of_spans}
use Rattle.iol_cache.specs.SharedBytes.{CountsBelow}
use Rattle.iol_cache.specs.Sound.{IsSound}
use Rattle.iol_cache.proofs.Extents.FileEntries.{numbered_bounds}
use Rattle.iol_cache.proofs.Extents.Lookups.{file_back, file_here, file_put, order_here, order_put, pool_bounds}
use Rattle.iol_cache.proofs.Extents.HeldSlices.{covers_file}
use Rattle.iol_cache.proofs.RangeReads.TakenBack.{none_gaps}
use Rattle.iol_cache.proofs.RangeReads.FilledGaps.{order_wide, reads_as}
use Rattle.iol_cache.specs.Weave.{HasSlicesWoven}
use Rattle.iol_cache.proofs.RangeReads.RangeHolds.{extents_filled}
use Rattle.iol_cache.proofs.RangeReads.PutExtents.{begins_made, zip_begins, absent_gaps}
use Rattle.iol_cache.proofs.RangeReads.WholeRange.{made_len, may_fill_range, range_held}
use Rattle.iol_cache.proofs.Evictions.Roomy.{ranks_file, same_room, sound_same}
use Rattle.iol_cache.proofs.Extents.StoreSteps.{sound_to, all_within, page_len, mark_few}
use Rattle.iol_cache.proofs.RangeReads.CompleteFile.{sound_filled}
use Rattle.iol_cache.proofs.cache.Cache.fill.Given.{Over}
use Rattle.iol_cache.proofs.cache.Cache.fill.Goals.{In-Ok}
use Rattle.iol_cache.proofs.cache.Cache.fill.Goals as goal

-- The extents made for the gaps of a range: they begin at the gaps, can be marked, and have no entries yet.
record Made (c : Cached) (f : ℕ) (m : ExtentMap) (gs : List Span) : Type 0 where
  pub begin : AllBeginAt m.extents gs
  pub within : AllWithin (length c.marks) m.extents
  pub few : HasMarksLeft c.marks (parts_of_spans m.extents gs)
  pub absent : AreAbsent (order_in c.orders (file_in c.files f).pool) f gs

all_made : {s t : Stored} {c : Cached} {f from to : ℕ} {m : ExtentMap} {beside : List Place} {gs : List Span}
    {disk : Disk} {xs : List Slice} → IsSound s c → AreInOrder from to gs → All (IsGapSpan (extents_in c.files f)) gs
    → FillsRange s t (file_in c.files f).extents m (file_in c.files f).pool beside gs from to disk f xs → to < 2 ^ 32
    → CountsBelow s (2 ^ 60) → Made c f m gs
all_made {s} {t} {c} {f} {from} {to} {m} {beside} {gs} {disk} {xs} sound order are_gaps filled small counts =
    let pool = (file_in c.files f).pool in
    let none = none_gaps (extents_in c.files f) from to gs (sound.files f).apart order are_gaps in
    let at = subst (λ (es : List Extent). (parts_of_spans es gs ≡ all_parts filled.fills.made) × AllBeginAt es gs)
    (sym filled.fills.extents)
    (begins_made (extents_in c.files f) from to gs filled.fills.made order none
    (zip_begins s filled.mid pool gs filled.fills.made filled.fills.each.each)) in
    record {
      begin = at.1;
      within = all_within m.extents (length c.marks) (sound.pages ∙ sym filled.fills.places.pages.count)
          (range_held s filled.mid (file_in c.files f).extents m pool f from to gs disk filled.fills
          (covers_file c.files f sound.covered));
      few =
          record {
            each =
                λ p. omega (
                  arith,
                  mark_few s c (2 ^ 60) p sound counts (omega arith),
                  ap (λ l. at_page p (bufs_of l)) at.0,
                  page_len p (all_parts filled.fills.made),
                  made_len s filled.mid pool from to gs filled.fills.made order
                      filled.fills.each.each,
                  small,
                );
          };
      absent = absent_gaps (order_in c.orders pool) f (extents_in c.files f) from to gs (ranks_file s c f sound).each
          none;
    }

pub fill_range-requires : goal.fill_range-requires
fill_range-requires g c =
    let part = c.args.part.now in
    let fits : MayFillRange c.args.store.now (file_in c.args.self.now.files.items part.file) part.from part.to
    c.args.gaps.now c.args.beside.now = may_fill_range c.requires in
    subst (λ (y : CachedFile). MayFillRange c.args.store.now y part.from part.to c.args.gaps.now c.args.beside.now)
    (sym (file_here _ c.number.ensures c.index_mut.ensures.value c.requires.range.file)) fits

-- Refused.

pub returns-in-Err : goal.returns-in-Err
returns-in-Err g c =
    let s = c.args.store.now in
    let old = cached_of c.args.self.now in
    let f = c.args.part.now.file in
    let file = file_here _ c.number.ensures c.index_mut.ensures.value c.requires.range.file in
    let e = c.in-Err.ensures.reads in
    let x = e.same ∙ file in
    let same = same_room old _ f c.fill_range.new.cached (numbered_bounds old.files f c.requires.range.file)
    (file_put old.files c.fill_range.new.cached c.number.ensures c.requires.range.file)
    (ap (λ (y : CachedFile). y.pool) x) (ap (λ (y : CachedFile). y.extents.extents) x)
    (λ p. refl) (λ p. refl) (λ p. refl) refl refl in
    let left = e.leaves in
    record {
      filled = tt;
      parts = tt;
      sound =
          sound_same c.fill_range.new.store old _
          (sound_to s c.fill_range.new.store old c.requires.sound left.none left.lists left.given_back.pages.count)
          same;
      reads = reads_as (ap (λ (y : CachedFile). y.pool) file) (λ h. same) e;
    }

-- Filled.

pub overflow_sub-number : goal.overflow_sub-number
overflow_sub-number g c = (let b = pool_bounds c.args.part.now.file c.requires.sound c.requires.range.file in
    omega (
      arith,
      b.0,
      c.number-2.ensures,
      ap (λ (y : CachedFile). y.pool) (file_here _ c.number.ensures c.index.ensures c.requires.range.file),
    ))

pub index_mut-requires-2 : goal.index_mut-requires-2
index_mut-requires-2 g c =
    let b = pool_bounds c.args.part.now.file c.requires.sound c.requires.range.file in
    omega (
      arith,
      b.0,
      b.1,
      c.number-2.ensures,
      ap (λ (y : CachedFile). y.pool) (file_here _ c.number.ensures c.index.ensures c.requires.range.file),
      c.args.self.now.orders.ok.0,
    )

fills : (g : Over) (c : In-Ok g)
    → FillsRange c.args.store.now c.fill_range.new.store
    (file_in c.args.self.now.files.items c.args.part.now.file).extents c.fill_range.new.cached.extents
    (file_in c.args.self.now.files.items c.args.part.now.file).pool (places c.args.beside.now) c.args.gaps.now
    c.args.part.now.from c.args.part.now.to (g.B.Backing.disk c.args.backing.now) c.args.part.now.file c.in-Ok.agg
fills g c =
    subst (λ (y : CachedFile). FillsRange c.args.store.now c.fill_range.new.store y.extents
    c.fill_range.new.cached.extents y.pool (places c.args.beside.now) c.args.gaps.now c.args.part.now.from
    c.args.part.now.to (g.B.Backing.disk c.args.backing.now) c.args.part.now.file c.in-Ok.agg)
    (file_here _ c.number.ensures c.index_mut.ensures.value c.requires.range.file) c.in-Ok.ensures.fills

made : (g : Over) (c : In-Ok g)
    → Made (cached_of c.args.self.now) c.args.part.now.file c.fill_range.new.cached.extents c.args.gaps.now
made g c =
    all_made c.requires.sound c.requires.range.in_order c.requires.range.gaps (fills g c)
    (omega (arith, c.requires.range.end)) c.requires.few

pub enter_all-requires : goal.enter_all-requires
enter_all-requires g c =
    let part = c.args.part.now in
    let gaps = c.args.gaps.now in
    let there = c.requires.range.file in
    let y = sym (file_back _ _ c.number.ensures c.index-2.ensures there) in
    let o = order_here part.file c.requires.sound there (file_here _ c.number.ensures c.index.ensures there)
    c.number-2.ensures c.index_mut-2.ensures.value in
    let m = made g (goal.at.enter_all-requires g c).In-Ok in
    record {
      apart = subst (λ (z : CachedFile). IsApart 0 z.extents.extents) y c.in-Ok.ensures.fills.fills.apart;
      begin = subst (λ (z : CachedFile). AllBeginAt z.extents.extents gaps) y m.begin;
      in_order = order_wide part.from part.to 0 4294967295 gaps (omega arith) (omega (arith, c.requires.range.end))
          c.requires.range.in_order;
      absent = subst (λ (r : Ranking). AreAbsent r part.file gaps) (sym o) m.absent;
      room = omega (arith, c.requires.range.entries, ap (λ (r : Ranking). r.room) o);
      within = subst (λ (z : CachedFile). AllWithin (length c.args.self.now.marks) z.extents.extents) y m.within;
      few = subst (λ (z : CachedFile). HasMarksLeft c.args.self.now.marks (parts_of_spans z.extents.extents gaps)) y
          m.few;
    }

pub returns : goal.returns
returns g c =
    let fs = c.args.self.now.files.items in
    let os = c.args.self.now.orders.items in
    let part = c.args.part.now in
    let gaps = c.args.gaps.now in
    let f = part.file in
    let p = (file_in fs f).pool in
    let x = c.fill_range.new.cached in
    let there = c.requires.range.file in
    let w = file_here _ c.number.ensures c.index.ensures there in
    let y = file_back _ _ c.number.ensures c.index-2.ensures there in
    let o = order_here f c.requires.sound there w c.number-2.ensures c.index_mut-2.ensures.value in
    let r = all_entered (order_in os p) f x.extents.extents gaps in
    let entered : c.enter_all.new.order ≡ r = c.enter_all.ensures.order
    ∙ ap (λ (q : Ranking). all_entered q f c.index-2.result.now.extents.extents gaps) o
    ∙ ap (λ (z : CachedFile). all_entered (order_in os p) f z.extents.extents gaps) y in
    let was = ap (λ (z : CachedFile). z.pool) (file_here _ c.number.ensures c.index_mut.ensures.value there) in
    let old = holding c.args.store.now c.args.self.now in
    let new : Holding =
    record {
      store = c.fill_range.new.store;
      cache =
          record {
            files = set fs (c.number.result - 1) x;
            orders = set os (c.number-2.result - 1) c.enter_all.new.order;
            marks = c.enter_all.new.marks;
          };
    } in
    let filled : FillsFile f part.from part.to (places c.args.beside.now) gaps (g.B.Backing.disk c.args.backing.now) old
    new c.in-Ok.agg = record {
      extents = x.extents;
      range = fills g (goal.at.returns g c).In-Ok;
      files = file_put fs x c.number.ensures there
          ∙ ap (λ k. with_file fs f (let z : CachedFile = record { pool = k; extents = x.extents } in z))
          (c.fill_range.ensures.pool ∙ was);
      orders = order_put f c.requires.sound there c.enter_all.new.order w c.number-2.ensures
          ∙ ap (with_order os p) entered;
      marks =
          subst (λ (z : CachedFile). Marks c.args.self.now.marks c.enter_all.new.marks
          (parts_of_spans z.extents.extents gaps)) y c.enter_all.ensures.marks;
    } in
    record {
      filled = filled;
      parts = subst (λ (es : List Extent). HasSlicesWoven c.args.beside.now es part.from part.to gaps c.in-Ok.agg)
          (sym (extents_filled f part.from part.to old new (places c.args.beside.now) gaps
          (g.B.Backing.disk c.args.backing.now) c.in-Ok.agg there filled)) c.in-Ok.ensures.parts;
      sound =
          sound_filled old new f part.from part.to (places c.args.beside.now) gaps (g.B.Backing.disk c.args.backing.now)
          c.in-Ok.agg c.requires.sound there c.requires.range.in_order c.requires.range.gaps filled
          c.requires.range.end;
      reads = reads_as was (λ h. tt) c.in-Ok.ensures.reads;
    }
