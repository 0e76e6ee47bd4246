use Rattle.std.proofs.Common.{◌≡◌, ◌-◌, ◌<◌, ◌⊎◌, Some, slice_get, length, arith, inl, inr, sym, subst, ◌∙◌}
use Rattle.std.proofs.lemmas.Bool.{cases_lt, cases_eq}
use Rattle.iol_back.proofs.Contents.{reported-none, reported-some}
use Rattle.iol_tree.specs.Index.{file_lengths}
use Rattle.iol_tree.proofs.Lengths.{length_at}
use Rattle.iol_tree.proofs.backing.TreeBacking.folder_length.Goals as goal

pub returns-in-None : goal.returns-in-None
returns-in-None g c =
    let f = c.args.file in
    let reported = c.args.self.now.lengths in
    let out : (f ≡ 0) ⊎ (length reported < f) = elim (cases_eq f 0) [
      | inl none ↦ inl none
      | inr some ↦ elim (cases_lt (length reported) f) [
        | inl past ↦ inr past
        | inr there ↦
            absurd (let wrong =
            c.in-None.ensures.which.1 (omega (arith, some), omega (arith, there, c.in-None.ensures.listed.count)) in
            cc wrong)
      ]
    ] in
    sym (reported-none reported f out)

pub returns-in-Some : goal.returns-in-Some
returns-in-Some g c =
    let is : slice_get c.args.self.now.lengths (c.args.file - 1) ≡ Some c.stamp.result.length =
    rw (← c.self.view_is) (subst (λ k. slice_get (file_lengths c.self.inside.index) k ≡ Some c.stamp.result.length)
    c.in-Some.ensures.slot.1 (length_at c.self.inside.index.stamps c.in-Some.place c.stamp.result c.stamp.ensures)) in
    c.length.ensures.length
    ∙ sym (reported-some c.args.self.now.lengths c.args.file c.stamp.result.length c.in-Some.ensures.slot.0.0 is)
