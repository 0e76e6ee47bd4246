use Rattle.std.proofs.Common.{◌++◌, length, ap, ◌∙◌, arith}
use Rattle.std.specs.List.{flat_map}
use Rattle.iol_hold.specs.Texts.{text_of}
use Rattle.iol_hold.proofs.ReadSlices.{length-text_of}
use Rattle.iol_agg.proofs.Partwise.{flat_map-parts_of}
use Rattle.iol_sock.proofs.Sends.{length-bytes_of}
use Rattle.iol_sock.proofs.outgoing.copy_all.Goals as goal

pub loop-part-init : goal.loop-part-init
loop-part-init c =
    let s = c.args.store.now in
    let from = c.args.from.now in
    let all = ap (flat_map (λ w. w)) (c.into_iter-part-iterator.ensures.into_iter_gives ∙ c.parts-part-items.ensures)
    ∙ flat_map-parts_of s from c.requires.readable in
    record {
      so_far = ap (λ w. c.args.bytes.now.items ++ w) all;
      room = omega (arith, c.requires.room, ap length all, length-bytes_of (text_of s from), length-text_of s from);
    }
