use Rattle.std.proofs.Common.{◌≡◌, ◌∙◌, ◌<◌, ap, length, length-set, vec_capacity, List, Option, Some, true, false}
use Rattle.std.proofs.Common.{arith}
use Rattle.flash_laws.specs.Client.{Client}
use Rattle.flash_lite.proofs.Order.{can_note, is_set}
use Rattle.flash_lite.proofs.table.held.Clients.advance_at.Goals as goal

pub note-requires : goal.note-requires
note-requires c =
    let s = c.self.inside in
    let within : c.number-place.result < length s.places.items = omega (arith, c.if-at-len.false, c.len.ensures) in
    let w = is_set s.places.items c.as_slice-in-Some.result.now c.number-place.result (Some c.advance.new.self) within
    c.as_slice-in-Some.ensures.value in
    let long : length c.as_slice-in-Some.result.now ≡ length s.places.items =
    ap (λ (l : List (Option Client)). length l) c.as_slice-in-Some.ensures.value
    ∙ length-set s.places.items c.number-place.result (Some c.advance.new.self) in
    record {
      held = can_note w true s.held.items (vec_capacity s.held) c.as_slice.result.now c.noted-was.result.0
          c.self.invariant.1.held_is (omega (arith, c.self.invariant.1.holds, long)) c.as_slice.ensures.value
          c.noted-was.ensures.held;
      going = can_note w false s.going.items (vec_capacity s.going) c.as_slice.result.now c.noted-was.result.1
          c.self.invariant.1.going_is (omega (arith, c.self.invariant.1.fits, long)) c.as_slice.ensures.value
          c.noted-was.ensures.going;
    }
