use Rattle.std.proofs.Common.{take, ◌∙◌, ◌++◌, sym, ap}
use Rattle.iol_hold.specs.Texts.{IsReadable, text_of}
use Rattle.iol_core.specs.Text as text
use Rattle.iol_cache.proofs.RangeWrites.Composition.{bytes_more, readable_at}
use Rattle.iol_cache.proofs.write.copies.bytes_of.Goals as goal

pub bytes-requires : goal.bytes-requires
bytes-requires c = readable_at c.args.slices.now c.loop-slice.slice-index c.slice-item.result c.loop-slice-test.true
    c.slice-item.is c.requires

pub loop-slice-preserved : goal.loop-slice-preserved
loop-slice-preserved c =
    let s = c.args.store.now in
    let r : IsReadable s c.slice-item.result =
    readable_at c.args.slices.now c.loop-slice.slice-index c.slice-item.result c.loop-slice-test.true
    c.slice-item.is c.requires in
    let more = bytes_more s c.args.slices.now c.loop-slice.slice-index c.slice-item.result c.loop-slice-test.true
    c.slice-item.is r in
    c.in_ok-extend_from_slice.ensures.items ∙ ap (λ l. l ++ c.bytes.result.now) c.loop-slice.invariant
    ∙ ap (λ l. text.bytes_of (text_of s (take c.loop-slice.slice-index c.args.slices.now)) ++ l) c.bytes.ensures
    ∙ sym more
