use Rattle.std.proofs.Common.{◌≡◌, ◌∙◌, ℕ, ◌≤◌, ◌^◌, true, List, length, Ok, Err, Some, refl, sym, ap, arith, subst}
use Rattle.iol_back.specs.Disk.{Disk, Tears, content}
use Rattle.iol_core.specs.NumberedLists.{is_numbered}
use Rattle.iol_core.specs.Text as text
use Rattle.iol_core.specs.declared.limits.TheConstants.{MAX_FILE_BYTES}
use Rattle.iol_core.specs.declared.refusals.Refusal.TheVariants.{Fault}
use Rattle.iol_hold.specs.Places.{byte_len}
use Rattle.iol_hold.specs.StoreState.{Stored}
use Rattle.iol_hold.specs.Texts.{text_of}
use Rattle.iol_hold.specs.declared.slices.Slice.{Slice}
use Rattle.iol_evict.specs.Order.{Ranking, entered, with_one_given_back}
use Rattle.iol_extent.specs.Extents.{Extent, begins_at, dirty_in, end_of, extent_of}
use Rattle.iol_cache.specs.declared.files.CachedFile.{CachedFile}
use Rattle.iol_cache.specs.Cache.{cached_of}
use Rattle.iol_cache.specs.CacheState.{Cached, extents_in, file_in, order_in, with_file, parts_in}
use Rattle.iol_cache.specs.Marks.{AreWithin, HasMarksLeft}
use Rattle.iol_cache.specs.SharedBytes.{CountsBelow}
use Rattle.iol_cache.specs.Sound.{IsLaid, IsSound}
use Rattle.iol_cache.specs.WriteBack.{Cleans, Fails, MayReclaim, MayWriteBack, Reclaims, Stores, WritesFirst}
use Rattle.iol_cache.proofs.RangeWrites.CleanExtents.{dirty_some, first_dirty}
use Rattle.iol_cache.proofs.RangeWrites.Composition.{length-bytes}
use Rattle.iol_cache.proofs.Extents.FewerExtents.{last_end-without_at}
use Rattle.iol_cache.proofs.Extents.FileEntries.{each-begins}
use Rattle.iol_cache.proofs.Extents.Lookups.{file_here, file_put, order_here, order_put, pool_bounds}
use Rattle.iol_cache.proofs.Evictions.Ready.{is_ready}
use Rattle.iol_cache.proofs.Evictions.Orders.{some_is}
use Rattle.iol_cache.proofs.Evictions.Roomy.{ranks_file}
use Rattle.iol_cache.proofs.Extents.StoreSteps.{mark_few, page_len}
use Rattle.iol_cache.proofs.RangeWrites.WriteBack.{clean_bytes, clean_mirrors, cleaned_sound, fail_bytes, fail_stored}
use Rattle.iol_cache.proofs.Extents.HeldSlices.{are_within, covers_at}
use Rattle.iol_cache.proofs.cache.Cache.store_first.Given.{Over}
use Rattle.iol_cache.proofs.cache.Cache.store_first.Goals.{In-Some}
use Rattle.iol_cache.proofs.cache.Cache.store_first.Goals as goal

-- the first dirty extent of a file
module _ (s : Stored) (c : Cached) (f : ℕ) (x : Extent) (sound : IsSound s c)
    (is : dirty_in (extents_in c.files f) ≡ Some x) where
  begins : begins_at (extents_in c.files f) x.at ≡ Some x
  begins = (first_dirty 0 (extents_in c.files f) x (sound.files f).apart is).0

  short : end_of x ≤ MAX_FILE_BYTES
  short = omega (arith, last_end-without_at (extents_in c.files f) x.at x begins, (sound.files f).short)

  may_write : MayWriteBack s x.at x.parts
  may_write = record {
    some = dirty_some 0 (extents_in c.files f) x (sound.files f).apart is;
    fits = omega (arith, short);
    readable =
        (each-begins (IsLaid s (file_in c.files f).pool) (extents_in c.files f) x.at x (sound.files f).laid
        begins).readable;
  }

  may_reclaim : CountsBelow s (2 ^ 61)
      → MayReclaim f x.at (file_in c.files f).extents (order_in c.orders (file_in c.files f).pool) c.marks
  may_reclaim few = record {
    apart = (sound.files f).apart;
    dirty = record { extent = x; is = is; begins = refl };
    ranked = ranks_file s c f sound;
    ready = is_ready c.files c.orders f sound.ready;
    within =
        subst (AreWithin (length c.marks)) (sym (ap parts_in begins))
        (are_within x.parts (length c.marks) sound.pages (covers_at c.files f x.at x begins sound.covered));
    few =
        subst (HasMarksLeft c.marks) (sym (ap parts_in begins))
        (record {
          each = λ q. omega (arith, mark_few s c (2 ^ 61) q sound few (omega arith), page_len q x.parts, short);
        });
  }

-- A write-back, or its failure, leaves each file's bytes unchanged, and the cache sound.

cleaned : (s : Stored) (f : ℕ) (old new : Cached) (d e : Disk) → IsSound s old → is_numbered old.files f ≡ true
    → Cleans s f old new d e → WritesFirst s f old new d e (Ok true)
cleaned s f old new d e sound there m = record {
  stores = m;
  keeps = record {
    bytes = λ h. record { each = clean_bytes s f old new d e sound there m h };
    stored =
        clean_mirrors s f old new d e sound there m;
  };
  sound = cleaned_sound s f old new d e sound there m;
}

failed : (s : Stored) (f : ℕ) (old : Cached) (d e : Disk) → IsSound s old → Fails f old old d e
    → WritesFirst s f old old d e (Err (Fault f))
failed s f old d e sound m = record {
  stores = (m, refl);
  keeps = record { bytes = fail_bytes s f old old d e sound m; stored = fail_stored s f old old d e sound m };
  sound = sound;
}

here : (g : Over) (c : In-Some g) → dirty_in (extents_in c.args.self.now.files.items c.args.file)
    ≡ Some (extent_of c.in-Some.at c.in-Some.agg.now true)
here g c =
    ap (λ (z : CachedFile). dirty_in z.extents.extents)
    (sym (file_here _ c.number.ensures c.index-2.ensures c.requires.file)) ∙ c.in-Some.ensures

pub returns-in_default : goal.returns-in_default
returns-in_default g c = record {
  stores =
      record {
        none =
            ap (λ (z : CachedFile). dirty_in z.extents.extents)
            (sym (file_here _ c.number.ensures c.index-2.ensures c.requires.file)) ∙ c.in_default.ensures;
        same = refl;
        disk =
            refl;
      };
  keeps = record { bytes = λ h. record { each = λ f. refl }; stored = λ h m. m };
  sound = c.requires.sound;
}

pub write_back-requires : goal.write_back-requires
write_back-requires g c =
    let first = here g (goal.at.write_back-requires g c).In-Some in
    subst (MayWriteBack c.args.store.now c.in-Some.at) (sym c.slices.ensures)
    (may_write c.args.store.now (cached_of c.args.self.now) c.args.file _ c.requires.sound first)

pub returns-in-Err : goal.returns-in-Err
returns-in-Err g c =
    let d = g.B.Backing.disk c.args.backing.now in
    let e = g.B.Backing.disk c.write_back.new.backing in
    let w = c.in-Err.ensures in
    failed c.args.store.now c.args.file (cached_of c.args.self.now) d e c.requires.sound (record {
      extent = extent_of c.in-Some.at c.in-Some.agg.now true;
      first = here g (goal.at.returns-in-Err g c).In-Some;
      same = refl;
      honest = w.honest;
      counts = w.counts;
      others = w.others;
      torn = λ h. subst (λ n. Tears c.in-Some.at n (content d.slots c.args.file) (content e.slots c.args.file))
          (length-bytes c.args.store.now c.slices.result.now ∙ ap byte_len c.slices.ensures) (w.torn h);
    })

pub overflow_sub-number : goal.overflow_sub-number
overflow_sub-number g c =
    (let b = pool_bounds c.args.file c.requires.sound c.requires.file in
    omega (
      arith,
      b.0,
      c.number-2.ensures,
      ap (λ (y : CachedFile). y.pool) (file_here _ c.number.ensures c.index.ensures c.requires.file),
    ))

pub index_mut-requires : goal.index_mut-requires
index_mut-requires g c =
    let b = pool_bounds c.args.file c.requires.sound c.requires.file in
    omega (
      arith,
      b.0,
      b.1,
      c.number-2.ensures,
      ap (λ (y : CachedFile). y.pool) (file_here _ c.number.ensures c.index.ensures c.requires.file),
      c.args.self.now.orders.ok.0,
    )

pub reclaim-requires : goal.reclaim-requires
reclaim-requires g c =
    let f = c.args.file in
    let old = cached_of c.args.self.now in
    let first = here g (goal.at.reclaim-requires g c).In-Some in
    let z = file_here _ c.number.ensures c.index_mut-2.ensures.value c.requires.file in
    let o = order_here f c.requires.sound c.requires.file (file_here _ c.number.ensures c.index.ensures c.requires.file)
    c.number-2.ensures c.index_mut.ensures.value in
    subst (λ (y : CachedFile). MayReclaim f c.in-Some.at y.extents c.index_mut.result.now old.marks) (sym z)
    (subst (λ (q : Ranking). MayReclaim f c.in-Some.at (file_in old.files f).extents q old.marks) (sym o)
    (may_reclaim c.args.store.now old f _ c.requires.sound first c.requires.few))

pub returns : goal.returns
returns g c =
    let fs = c.args.self.now.files.items in
    let marks = c.args.self.now.marks in
    let f = c.args.file in
    let at = c.in-Some.at in
    let z = file_here _ c.number.ensures c.index_mut-2.ensures.value c.requires.file in
    let w = file_here _ c.number.ensures c.index.ensures c.requires.file in
    let o = order_here f c.requires.sound c.requires.file w c.number-2.ensures c.index_mut.ensures.value in
    let x = extent_of at c.in-Some.agg.now true in
    let m = c.reclaim.new.extents in
    let r = c.reclaim.new.order in
    let kept = order_in c.args.self.now.orders.items (file_in fs f).pool in
    let s : Reclaims f at (file_in fs f).extents m kept r marks c.reclaim.new.marks =
    subst (λ (q : Ranking). Reclaims f at (file_in fs f).extents m q r marks c.reclaim.new.marks) o
    (subst (λ (y : CachedFile). Reclaims f at y.extents m c.index_mut.result.now r marks c.reclaim.new.marks) z
    c.reclaim.ensures) in
    let b = c.in_default-write_back.ensures in
    let d = g.B.Backing.disk c.args.backing.now in
    let e = g.B.Backing.disk c.write_back.new.backing in
    let first = here g (goal.at.returns g c).In-Some in
    cleaned c.args.store.now f (cached_of c.args.self.now) _ d e c.requires.sound c.requires.file (record {
      extent = x;
      first = first;
      extents = m;
      order = r;
      is = s.extents;
      apart = s.apart;
      files = file_put fs _ c.number.ensures c.requires.file
          ∙ ap (λ k. with_file fs f (let q : CachedFile = record { pool = k; extents = m } in q))
          (ap (λ (q : CachedFile). q.pool) z);
      orders = order_put f c.requires.sound c.requires.file r w c.number-2.ensures;
      ranks =
          some_is (λ q. r ≡ entered (with_one_given_back kept) f q.at (byte_len q.parts) 1) (dirty_in (extents_in fs f))
          x first s.order;
      follows = s.follows;
      honest = b.honest;
      counts = b.counts;
      others = b.others;
      stored =
          λ h. subst (λ (l : List Slice). Stores at (text.bytes_of (text_of c.args.store.now l)) (content d.slots f)
          (content e.slots f)) c.slices.ensures (b.stored h);
    })
