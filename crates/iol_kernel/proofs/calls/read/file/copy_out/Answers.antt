use Rattle.std.proofs.Common.{◌++◌, ℕ, length, ap, ◌∙◌, arith}
use Rattle.std.specs.List.{flat_map}
use Rattle.std.proofs.lemmas.List.{length-map}
use Rattle.iol_hold.specs.Texts.{text_of}
use Rattle.iol_hold.proofs.ReadSlices.{length-text_of}
use Rattle.iol_agg.proofs.Partwise.{flat_map-parts_of}
use Rattle.iol_kernel.proofs.calls.read.file.copy_out.Goals as goal

pub loop-part-init : goal.loop-part-init
loop-part-init c =
    let s = c.args.store.now in
    let agg = c.args.agg.now in
    let all = ap (flat_map (λ w. w)) (c.into_iter-part-iterator.ensures.into_iter_gives ∙ c.parts-part-items.ensures)
    ∙ flat_map-parts_of s agg c.requires.readable in
    record {
      so_far = ap (λ w. c.args.bytes.now.items ++ w) all;
      room =
          omega (
            arith,
            c.requires.room,
            ap length all,
            length-map (text_of s agg) (λ (b : ℕ × ℕ). b.0),
            length-text_of s agg,
          );
    }
