use Rattle.std.proofs.Common.{◌≡◌, ◌∙◌, ◌-◌, slice_range, refl, ap, subst, arith}
use Rattle.std.proofs.lemmas.List.{take_all}
use Rattle.iol_hold.specs.Places.{places, byte_len}
use Rattle.iol_hold.specs.Texts.{bufs_of}
use Rattle.iol_agg.specs.Pours.{SharesPlaces}
use Rattle.iol_agg.proofs.RangeSlices.{meeting-all}
use Rattle.iol_agg.proofs.aggregates.Agg.dup.Goals as goal

pub returns : goal.returns
returns c =
    let xs = c.args.self.now in
    let n = c.self.inside.len in
    let long : n ≡ byte_len xs = c.self.invariant ∙ ap byte_len c.self.view_is in
    let all = take_all (n - 0) (places xs) (omega (arith, long)) in
    let whole = ap bufs_of (meeting-all 0 n xs refl (omega (arith, long))) in
    subst (λ ps. SharesPlaces c.args.store.now c.cut.new.store ps (bufs_of xs) c.cut.result) all
    (subst (λ bs. SharesPlaces c.args.store.now c.cut.new.store (slice_range (places xs) 0 n) bs c.cut.result) whole
    c.cut.ensures)
