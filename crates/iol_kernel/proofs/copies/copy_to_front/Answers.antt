use Rattle.std.proofs.Common.{◌≡◌, ◌+◌, ◌≤◌, ◌++◌, ◌∙◌, ℕ, List, length, take, ap, arith, refl, length-append, sym}
use Rattle.std.specs.List.{flat_map}
use Rattle.std.proofs.lemmas.List.{length-map}
use Rattle.iol_core.specs.Text.{bytes_of}
use Rattle.iol_hold.specs.Texts.{text_of}
use Rattle.iol_hold.specs.Places.{byte_len}
use Rattle.iol_hold.proofs.ReadSlices.{length-text_of}
use Rattle.iol_agg.proofs.Partwise.{flat_map-parts_of}
use Rattle.iol_kernel.proofs.Fronts.{front_all, front_more, rest_kept}
use Rattle.iol_kernel.proofs.copies.copy_to_front.Goals as goal

pub loop-part-init : goal.loop-part-init
loop-part-init c =
    let s = c.args.store.now in
    let agg = c.args.agg.now in
    let all = ap (flat_map (λ w. w)) (c.into_iter-part-iterator.ensures.into_iter_gives ∙ c.parts-part-items.ensures)
    ∙ flat_map-parts_of s agg c.requires.readable in
    record {
      room =
          omega (
            arith,
            c.requires.room,
            ap length all,
            length-map (text_of s agg) (λ (b : ℕ × ℕ). b.0),
            length-text_of s agg,
          );
      so_far = all;
      rest = refl;
    }

pub loop-part-preserved : goal.loop-part-preserved
loop-part-preserved c =
    let all = bytes_of (text_of c.args.store.now c.args.agg.now) in
    let h = c.loop-part.invariant in
    let at = c.loop-part.at in
    let into = c.loop-part.into in
    let new = c.put_at.new.into in
    let part = c.in-Some.part.now in
    let left : List ℕ = flat_map (λ w. w) c.next.new.self in
    let first : flat_map (λ w. w) c.loop-part.part-iterator ≡ part ++ left =
    ap (flat_map (λ w. w)) c.in-Some.ensures.steps in
    let long = ap length first ∙ length-append part left in
    let room : at + length part ≤ length into = omega (arith, h.room, long) in
    record {
      room = omega (arith, h.room, long, c.put_at.auto.into);
      so_far =
          front_more all c.args.into.now into new part left at room c.put_at.ensures
          (sym (ap (λ (w : List ℕ). take at into ++ w) first) ∙ h.so_far);
      rest = rest_kept all c.args.into.now into new part left at room c.put_at.ensures h.rest;
    }

pub returns : goal.returns
returns c =
    let s = c.args.store.now in
    let agg = c.args.agg.now in
    let h = c.loop-part.invariant in
    let none = ap (flat_map (λ w. w)) c.in-None.ensures.steps.0 in
    let long : length (bytes_of (text_of s agg)) ≡ byte_len agg = length-map (text_of s agg) (λ (b : ℕ × ℕ). b.0)
    ∙ length-text_of s agg in
    front_all (bytes_of (text_of s agg)) c.args.into.now c.loop-part.into c.loop-part.at (byte_len agg)
    (omega (arith, h.room)) long (sym (ap (λ (w : List ℕ). take c.loop-part.at c.loop-part.into ++ w) none)
    ∙ h.so_far) h.rest
