use Rattle.std.proofs.Common.{◌≡◌, ◌∙◌, ℕ, ◌+◌, ◌<◌, ◌≤◌, List, add-one, get_or, length, take, ap, arith}
use Rattle.std.specs.Prelude.{sum_by}
use Rattle.iol_extent.specs.Extents.{dirty_count, last_end}
use Rattle.iol_cache.specs.declared.files.CachedFile.{CachedFile}
use Rattle.iol_cache.specs.CacheState.{extents_in}
use Rattle.iol_cache.proofs.Extents.Sums.{file_index, sum_next}
use Rattle.iol_cache.proofs.cache.Cache.report.Goals as goal

-- one file more
next : (w : CachedFile → ℕ) (fs : List CachedFile) (i : ℕ) (x : CachedFile) → i < length fs → x ≡ get_or fs i x
    → sum_by w (take (i + 1) fs) ≡ sum_by w (take i fs) + w x
next w fs i x h is = ap (λ n. sum_by w (take n fs)) (add-one i) ∙ sum_next w fs i x h is

-- the extents of a file are few
few : (fs gs : List CachedFile) (i n : ℕ) (x : CachedFile) → gs ≡ fs → ((f : ℕ) → last_end (extents_in fs f) ≤ 16777216)
    → i < length gs → x ≡ get_or gs i x → n ≤ last_end x.extents.extents → n ≤ 16777216
few fs gs i n x same short h is le =
    omega (
      arith,
      le,
      short (i + 1),
      ap (λ (l : List CachedFile). last_end (extents_in l (i + 1))) same,
      ap (λ (y : CachedFile). last_end y.extents.extents) (file_index gs i x h is),
    )

pub overflow_add-extents : goal.overflow_add-extents
overflow_add-extents c =
    let v = c.loop-file.invariant in
    let gs = c.deref-file-items.result.now in
    let one = few c.args.self.now.files.items gs c.loop-file.file-index c.count-extents.result c.file-item.result
    c.deref-file-items.ensures.value c.requires.short c.loop-file-test.true c.file-item.is
    c.count-extents.ensures.few in
    omega (
      arith,
      v.few,
      one,
      c.loop-file-test.true,
      ap (λ (l : List CachedFile). length l) c.deref-file-items.ensures.value,
      c.requires.few,
    )

pub overflow_add-dirty : goal.overflow_add-dirty
overflow_add-dirty c =
    let v = c.loop-file.invariant in
    let gs = c.deref-file-items.result.now in
    let one = few c.args.self.now.files.items gs c.loop-file.file-index c.count-extents.result c.file-item.result
    c.deref-file-items.ensures.value c.requires.short c.loop-file-test.true c.file-item.is
    c.count-extents.ensures.few in
    omega (
      arith,
      v.few,
      v.fewer,
      one,
      c.count_dirty-dirty.ensures.few,
      c.count-extents.ensures.count,
      c.loop-file-test.true,
      ap (λ (l : List CachedFile). length l) c.deref-file-items.ensures.value,
      c.requires.few,
    )

pub loop-file-preserved : goal.loop-file-preserved
loop-file-preserved c =
    let v = c.loop-file.invariant in
    let gs = c.deref-file-items.result.now in
    let i = c.loop-file.file-index in
    let x = c.file-item.result in
    let one = few c.args.self.now.files.items gs i c.count-extents.result x c.deref-file-items.ensures.value
    c.requires.short c.loop-file-test.true c.file-item.is c.count-extents.ensures.few in
    record {
      extents =
          omega (
            arith,
            v.extents,
            c.count-extents.ensures.count,
            next (λ (y : CachedFile). length y.extents.extents) gs i x c.loop-file-test.true c.file-item.is,
          );
      dirty =
          omega (
            arith,
            v.dirty,
            c.count_dirty-dirty.ensures.count,
            next (λ (y : CachedFile). dirty_count y.extents.extents) gs i x c.loop-file-test.true c.file-item.is,
          );
      few = omega (arith, v.few, one);
      fewer = omega (arith, v.fewer, c.count_dirty-dirty.ensures.few, c.count-extents.ensures.count);
    }
