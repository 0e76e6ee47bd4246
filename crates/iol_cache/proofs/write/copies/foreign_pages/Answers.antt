use Rattle.std.proofs.Common.{◌≡◌, ◌∙◌, ◌+◌, ◌==◌, drop, ap, sym, arith}
use Rattle.std.proofs.lemmas.List.{drop_all}
use Rattle.iol_hold.specs.Places.{byte_len}
use Rattle.iol_hold.proofs.SlicePlaces.{byte_len-take_more, byte_len-take-le}
use Rattle.iol_cache.specs.Composition.{pages_after}
use Rattle.iol_cache.proofs.RangeWrites.Composition.{eq_no, eq_yes, after_other, after_own, pages_for-few, pages_for-is}
use Rattle.iol_cache.proofs.RangeWrites.Composition.{slice_next}
use Rattle.iol_cache.proofs.write.copies.foreign_pages.Goals as goal
use Rattle.iol_cache.proofs.write.copies.foreign_pages.Goals.{then-number, else-number}

pub overflow_add-pages : goal.overflow_add-pages
overflow_add-pages c =
    let xs = c.slices-slice-items.result.now in
    let i = c.loop-slice.slice-index in
    let some = c.slice-item.result.some in
    omega (
      arith,
      ap byte_len c.slices-slice-items.ensures,
      byte_len-take-le xs i,
      c.loop-slice.invariant.few,
      c.requires,
      pages_for-few c.loop-slice.run,
      pages_for-is c.loop-slice.run c.div_ceil-pages.result c.div_ceil-pages.ensures,
    )

pub overflow_add-run : goal.overflow_add-run
overflow_add-run c =
    let xs = c.slices-slice-items.result.now in
    let i = c.loop-slice.slice-index in
    omega (
      arith,
      ap byte_len c.slices-slice-items.ensures,
      byte_len-take_more xs i c.slice-item.result c.loop-slice-test.true c.slice-item.is,
      byte_len-take-le xs (i + 1),
      c.loop-slice.invariant.few,
      c.requires,
    )

pub loop-slice-preserved : goal.loop-slice-preserved
loop-slice-preserved c =
    let xs = c.slices-slice-items.result.now in
    let i = c.loop-slice.slice-index in
    let x = c.slice-item.result in
    let p = c.args.pool in
    let next = ap (pages_after c.loop-slice.run p) (slice_next xs i x c.loop-slice-test.true c.slice-item.is) in
    let bytes = byte_len-take_more xs i x c.loop-slice-test.true c.slice-item.is in
    let e1 : c.number.result ≡ x.hold.pool = c.number.ensures ∙ c.pool.ensures in
    let test : (x.hold.pool == p) ≡ (c.number.result == c.number-in-loop-slice.result) = ap (λ n. n == p) (sym e1)
    ∙ ap (λ n. c.number.result == n) (sym c.number-in-loop-slice.ensures) in
    elim c.if-number.branch [
      | then-number w ↦ (
          let own =
          after_own c.loop-slice.run p x (drop (i + 1) xs) (test
          ∙ eq_yes c.number.result c.number-in-loop-slice.result w.if-number.true) in
          let pages = pages_for-is c.loop-slice.run w.div_ceil-pages.result w.div_ceil-pages.ensures in
          record {
            total = omega (
              arith,
              ap (λ k. pages_after k p (drop (i + 1) xs)) w.run-is,
              w.pages-is,
              own,
              next,
              pages,
              c.loop-slice.invariant.total,
            );
            few =
                omega (
                  arith,
                  w.pages-is,
                  w.run-is,
                  pages,
                  pages_for-few c.loop-slice.run,
                  bytes,
                  c.loop-slice.invariant.few,
                );
          })
      | else-number w ↦ (
          let other =
          after_other c.loop-slice.run p x (drop (i + 1) xs) (test
          ∙ eq_no c.number.result c.number-in-loop-slice.result w.if-number.false) in
          record {
            total =
                omega (
                  arith,
                  ap (λ k. pages_after k p (drop (i + 1) xs)) w.run-is,
                  w.pages-is,
                  other,
                  next,
                  c.loop-slice.invariant.total,
                );
            few = omega (arith, w.pages-is, w.run-is, bytes, c.loop-slice.invariant.few);
          })
    ]

pub returns : goal.returns
returns c =
    let xs = c.slices-slice-items.result.now in
    let none =
    ap (pages_after c.loop-slice.run c.args.pool) (drop_all c.loop-slice.slice-index xs c.loop-slice-test.false) in
    omega (
      arith,
      c.loop-slice.invariant.total,
      none,
      pages_for-is c.loop-slice.run c.div_ceil.result c.div_ceil.ensures,
    )
