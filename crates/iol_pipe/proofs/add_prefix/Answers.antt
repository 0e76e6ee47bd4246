use Rattle.std.proofs.Common.{◌-◌, ◌+◌, ◌∷◌, ◌++◌, [], map, take, drop, arith, ap, sym, ◌∙◌, append_assoc, append-nil}
use Rattle.std.proofs.lemmas.List.{map-append}
use Rattle.std.proofs.lemmas.Grind.{common_steps}
use Rattle.iol_hold.specs.Places.{slice_places, places}
use Rattle.iol_hold.specs.Texts.{bufs_of}
use Rattle.iol_hold.proofs.SlicePlaces.{places-push}
use Rattle.iol_pipe.specs.Queue.{first_parts}
use Rattle.iol_pipe.proofs.Parts.{first_parts-step, first_parts-zero, no_parts}
use Rattle.iol_pipe.proofs.Prefixes.{take_step, cut_first}
use Rattle.iol_pipe.proofs.SharedHolds.{next_held, next_countable, shares_next, bufs_next, shares_into}
use Rattle.iol_pipe.proofs.add_prefix.Goals as goal

pub returns-then-left-eq0 : goal.returns-then-left-eq0
returns-then-left-eq0 c = record {
  parts = sym (append-nil (map slice_places c.loop-slice.queue.items))
      ∙ ap (λ t. map slice_places c.loop-slice.queue.items ++ t)
      (sym (first_parts-zero c.loop-slice.left (map slice_places (drop c.loop-slice.slice-index c.args.slices.now))
      (omega (arith, c.if-left-eq0.true))))
      ∙ c.loop-slice.invariant.parts;
  added = grind (arith, common_steps);
  shares =
      shares_into c.args.queue.now.items c.loop-slice.queue.items
      (bufs_of (take c.loop-slice.slice-index c.args.slices.now)) c.loop-slice.invariant.bufs
      c.loop-slice.invariant.shares;
}

pub share-requires-clause-live : goal.share-requires-clause-live
share-requires-clause-live c =
    next_held c.args.slices.now c.loop-slice.slice-index c.slice-item.result c.loop-slice-test.true c.slice-item.is
    c.requires.shared.covered c.loop-slice.invariant.shares

pub share-requires-clause-few : goal.share-requires-clause-few
share-requires-clause-few c =
    next_countable c.args.slices.now c.loop-slice.slice-index c.slice-item.result c.loop-slice-test.true c.slice-item.is
    c.requires.shared.countable c.loop-slice.invariant.shares

pub loop-slice-preserved : goal.loop-slice-preserved
loop-slice-preserved c =
    let slices = c.args.slices.now in
    let i = c.loop-slice.slice-index in
    let slice = c.slice-item.result in
    let queue = c.loop-slice.queue.items in
    let part = c.cut-part.result in
    let rest = take (c.loop-slice.left - part.len) (places (drop (i + 1) slices)) in
    let parts = first_parts (c.loop-slice.left - part.len) (map slice_places (drop (i + 1) slices)) in
    let cut = cut_first slice c.share.result part c.loop-slice.left c.min.result c.share.ensures.places c.min.ensures
    c.cut-part.ensures.places in
    record {
      so_far = ap (λ xs. places xs ++ rest) c.push_back_reserved.ensures.items
          ∙ ap (λ t. t ++ rest) (places-push queue part)
          ∙ append_assoc (places queue) (slice_places part) rest
          ∙ ap (λ t. places queue ++ t)
          (sym (take_step slices i c.loop-slice.left slice part c.loop-slice-test.true c.slice-item.is cut))
          ∙ c.loop-slice.invariant.so_far;
      parts = ap (λ xs. map slice_places xs ++ parts) c.push_back_reserved.ensures.items
          ∙ ap (λ t. t ++ parts) (map-append slice_places queue (part ∷ []))
          ∙ append_assoc (map slice_places queue) (slice_places part ∷ []) parts
          ∙ ap (λ t. map slice_places queue ++ t)
          (sym (first_parts-step slices i c.loop-slice.left slice part c.loop-slice-test.true c.slice-item.is
          (omega (arith, c.if-left-eq0.false)) cut))
          ∙ c.loop-slice.invariant.parts;
      bufs = bufs_next slices i slice part c.args.queue.now.items queue c.push_back_reserved.new.self.items
          c.loop-slice-test.true c.slice-item.is (c.cut-part.ensures.hold ∙ c.share.ensures.hold)
          c.push_back_reserved.ensures.items c.loop-slice.invariant.bufs;
      shares = shares_next slices i slice c.loop-slice-test.true c.slice-item.is c.loop-slice.invariant.shares
          c.share.ensures.shares;
      room =
          omega (
            arith,
            c.loop-slice.invariant.room,
            c.push_back_reserved.ensures.len,
            c.push_back_reserved.ensures.capacity,
            part.some,
          );
    }

pub returns : goal.returns
returns c = record {
  parts = sym (append-nil (map slice_places c.loop-slice.queue.items))
      ∙ ap (λ t. map slice_places c.loop-slice.queue.items ++ t)
      (sym (no_parts c.loop-slice.left c.loop-slice.slice-index c.args.slices.now
      (omega (arith, c.loop-slice-test.false))))
      ∙ c.loop-slice.invariant.parts;
  added = grind (arith, common_steps);
  shares =
      shares_into c.args.queue.now.items c.loop-slice.queue.items
      (bufs_of (take c.loop-slice.slice-index c.args.slices.now)) c.loop-slice.invariant.bufs
      c.loop-slice.invariant.shares;
}
