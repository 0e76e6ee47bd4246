use Rattle.std.proofs.Common.{not, take, length, sym, ap, subst, ◌∙◌, rules, arith}
use Rattle.iol_core.specs.Text as text
use Rattle.iol_core.specs.Checksum.{word_sum, folded}
use Rattle.iol_hold.specs.Texts.{text_of, slice_bytes, IsReadable}
use Rattle.iol_sum.specs.Pieces.{is_odd}
use Rattle.iol_sum.specs.Sums.{key_of, Uses, UsesEach}
use Rattle.iol_sum.proofs.PieceSums.{UsesEach-none, UsesEach-push, odd-flips, odd-stays, readable-item}
use Rattle.iol_sum.proofs.PieceSums.{length-slice_bytes, take-item, bytes-item}
use Rattle.iol_sum.proofs.cache.SumCache.sum_all.Goals as goal
use Rattle.iol_sum.proofs.cache.SumCache.sum_all.Goals.{then-slice-eq1, else-slice-eq1}

pub loop-slice-init : goal.loop-slice-init
loop-slice-init c =
    record {
      sum = search rules;
      odd = search rules;
      uses = UsesEach-none c.args.store.now c.args.self.now;
      right =
          c.requires.right;
    }

pub sum-requires-clause-readable : goal.sum-requires-clause-readable
sum-requires-clause-readable c =
    readable-item c.args.slices.now c.loop-slice.slice-index c.slice-item.result c.loop-slice-test.true c.slice-item.is
    c.requires.readable

pub loop-slice-preserved : goal.loop-slice-preserved
loop-slice-preserved c =
    let s = c.args.store.now in
    let xs = c.args.slices.now in
    let i = c.loop-slice.slice-index in
    let x = c.slice-item.result in
    let old = c.loop-slice.invariant in
    let ready : IsReadable s x = readable-item xs i x c.loop-slice-test.true c.slice-item.is c.requires.readable in
    let done = text.bytes_of (text_of s (take i xs)) in
    let more = bytes-item xs i x c.loop-slice-test.true c.slice-item.is ready in
    let len = length-slice_bytes x ready in
    record {
      sum = c.combine-sum.ensures.law done (slice_bytes s x) old.sum old.odd c.sum.ensures.value
          ∙ ap (λ w. folded (word_sum w)) (sym more);
      odd = elim c.if-slice-eq1.branch [
        | then-slice-eq1 w ↦ let one = w.if-slice-eq1.true in w.at_odd-is ∙ ap not old.odd
            ∙ odd-flips done (slice_bytes s x) (omega arith) ∙ ap (λ l. is_odd (length l)) (sym more)
        | else-slice-eq1 w ↦ let none = w.if-slice-eq1.false in w.at_odd-is ∙ old.odd
            ∙ odd-stays done (slice_bytes s x) (λ h. none (omega arith)) ∙ ap (λ l. is_odd (length l)) (sym more)
      ];
      uses =
          subst (λ l. UsesEach s c.args.self.now l c.sum.new.self)
          (sym (take-item xs i x c.loop-slice-test.true c.slice-item.is))
          (UsesEach-push s c.args.self.now c.loop-slice.self c.sum.new.self (take i xs) x old.uses
          (subst (λ n. Uses c.loop-slice.self (key_of x) n c.sum.new.self) c.sum.ensures.value c.sum.ensures.uses));
      right = c.sum.ensures.right;
    }
