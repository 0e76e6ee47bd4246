use Rattle.std.proofs.Common.{◌≡◌, ◌∙◌, ◌++◌, List, [], ℕ, refl, subst}
use Rattle.std.specs.Io.KnownBytes.{Appends}
use Rattle.iolite.specs.Answers.{WritesTo}
use Rattle.iolite.proofs.ScriptAnswers.{then_on_ok}
use Rattle.iolite.proofs.Appends.{WritesTo-all, WritesTo-before, WritesTo-behind}
use Rattle.iolite.proofs.output.gather.Goals as goal

pub returns-in_err-write_out-clause-some : goal.returns-in_err-write_out-clause-some
returns-in_err-write_out-clause-some g c =
    let old = g.W.Write.contents c.args.output.now in
    let mid = g.W.Write.contents c.write_out.new.output in
    let pending = c.args.pending.now.items in
    let text = c.args.text.now in
    let some = c.write_out.ensures.some in
    let is : c.as_slice.result.now ≡ pending = c.as_slice.ensures.value ∙ c.if-keep.ensures.same refl in (
      some.0 ++ text,
      WritesTo-before old mid pending text some.0
          (subst (λ (bytes : List ℕ). WritesTo old mid bytes some.0) is some.1),
    )

pub returns-clause-some : goal.returns-clause-some
returns-clause-some g c =
    let old = g.W.Write.contents c.args.output.now in
    let mid = g.W.Write.contents c.write_out.new.output in
    let new = g.W.Write.contents c.write_out-2.new.output in
    let pending = c.args.pending.now.items in
    let is : c.as_slice.result.now ≡ pending = c.as_slice.ensures.value ∙ c.if-keep.ensures.same refl in
    let some = c.write_out-2.ensures.some in (
      some.0,
      WritesTo-behind old mid new pending c.args.text.now some.0
          (subst (Appends old mid) is c.in_ok-write_out.ensures.all) some.1,
    )

pub returns-clause-ok : goal.returns-clause-ok
returns-clause-ok g c =
    let old = g.W.Write.contents c.args.output.now in
    let mid = g.W.Write.contents c.write_out.new.output in
    let new = g.W.Write.contents c.write_out-2.new.output in
    let pending = c.args.pending.now.items in
    let text = c.args.text.now in
    let is : c.as_slice.result.now ≡ pending = c.as_slice.ensures.value ∙ c.if-keep.ensures.same refl in
    let first : Appends old mid pending = subst (Appends old mid) is c.in_ok-write_out.ensures.all in
    rw (c.clear.ensures.items)
    (then_on_ok c.write_out-2.result
    (λ all. WritesTo-behind old mid new pending text [] first (WritesTo-all mid new text all))
    c.write_out-2.ensures.all)
