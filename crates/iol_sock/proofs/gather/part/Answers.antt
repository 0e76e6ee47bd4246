use Rattle.std.proofs.Common.{refl, ap, ◌∙◌, length, take, arith}
use Rattle.std.proofs.lemmas.List.{length-take}
use Rattle.iol_sum.proofs.PieceSums.{readable-item, length-slice_bytes}
use Rattle.iol_sock.proofs.Gathers.{part_some}
use Rattle.iol_sock.proofs.gather.part.Goals as goal

pub bytes-requires : goal.bytes-requires
bytes-requires c = readable-item c.args.queue.now c.args.i c.in-Some.slice.now (c.in-Some.ensures.there.0 refl)
    c.in-Some.ensures.item c.requires

pub slice_bounds-result-end : goal.slice_bounds-result-end
slice_bounds-result-end c =
    let x = c.in-Some.slice.now in
    let readable = readable-item c.args.queue.now c.args.i x (c.in-Some.ensures.there.0 refl) c.in-Some.ensures.item
    c.requires in
    omega (
      arith,
      c.min-len.ensures,
      length-take c.min-len.result c.bytes.result.now,
      ap length c.bytes.ensures,
      length-slice_bytes x readable,
    )

pub returns-in-Some : goal.returns-in-Some
returns-in-Some c =
    ap (take c.min-len.result) c.bytes.ensures
    ∙ part_some c.args.store.now c.args.queue.now c.args.i c.args.most c.min-len.result c.in-Some.slice.now
    (c.in-Some.ensures.there.0 refl) c.in-Some.ensures.item c.requires c.min-len.ensures
