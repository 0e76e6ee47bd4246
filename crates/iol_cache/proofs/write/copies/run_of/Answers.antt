use Rattle.std.proofs.Common.{refl, ◌≡◌, ◌∙◌, ◌+◌, ◌==◌, Bool, true, false, ap, sym, subst, arith}
use Rattle.std.proofs.lemmas.List.Elements.{All-more}
use mathlib.Core.Bool.{beq, not}
use Rattle.iol_hold.specs.declared.slices.Slice.{Slice}
use Rattle.iol_hold.proofs.SlicePlaces.{byte_len-take_more, byte_len-take-le}
use Rattle.iol_cache.proofs.write.copies.run_of.Goals as goal

same_bool : (a b : Bool) → not (beq a b) ≡ false → a ≡ b
same_bool true true h = refl
same_bool true false h = cc
same_bool false true h = cc
same_bool false false h = refl

pub overflow_add-bytes : goal.overflow_add-bytes
overflow_add-bytes c =
    let xs = c.args.slices.now in
    let i = c.loop-slice.slice-index in
    omega (
      arith,
      byte_len-take_more xs i c.slice-item.result c.loop-slice-test.true c.slice-item.is,
      byte_len-take-le xs (i + 1),
      c.loop-slice.invariant.bytes,
      c.requires,
    )

pub loop-slice-preserved : goal.loop-slice-preserved
loop-slice-preserved c =
    let xs = c.args.slices.now in
    let i = c.loop-slice.slice-index in
    let x = c.slice-item.result in
    let P : Slice → Type 0 = λ (x : Slice). (x.hold.pool == c.args.pool) ≡ c.args.own in
    let here : P x =
    ap (λ n. n == c.args.pool) (sym (c.number.ensures ∙ c.pool.ensures))
    ∙ ap (λ n. c.number.result == n) (sym c.number-in-loop-slice.ensures)
    ∙ same_bool (c.number.result == c.number-in-loop-slice.result) c.args.own c.if-is_own-own.false in
    record {
      count = omega (arith, c.loop-slice.invariant.count);
      bytes =
          omega (arith, byte_len-take_more xs i x c.loop-slice-test.true c.slice-item.is, c.loop-slice.invariant.bytes);
      all = All-more P xs i x c.loop-slice-test.true c.loop-slice.invariant.all (subst P c.slice-item.is here);
    }
