use Rattle.std.proofs.Common.{◌∙◌, ℕ, Some, ap, arith}
use Rattle.std.proofs.lemmas.Grind.{common_steps}
use Rattle.iol_tree.proofs.Lengths.{length_at}
use Rattle.iol_tree.proofs.contents.read_file.Goals as goal

pub returns : goal.returns
returns g c = length_at c.args.index.now.stamps c.args.place c.stamp.result c.stamp.ensures
    ∙ ap (λ (n : ℕ). Some n) (let a = c.length-count.ensures in
    let b = c.in_ok-bytes.ensures in
    let d = c.deref_mut.ensures in
    let e = c.read_exact.ensures in
    grind (arith, common_steps, a.length, b.len, b.items, d.len, d.value))
