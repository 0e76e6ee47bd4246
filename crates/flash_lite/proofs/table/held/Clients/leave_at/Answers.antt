use Rattle.std.proofs.Common.{◌≡◌, ◌∙◌, ◌<◌, ap, length, length-set, subst, sym, vec_capacity, List, Option, true}
use Rattle.std.proofs.Common.{false, arith}
use Rattle.flash_laws.specs.Client.{Client}
use Rattle.flash_lite.proofs.Order.{can_note, is_set}
use Rattle.flash_lite.proofs.table.held.Clients.leave_at.Goals as goal

pub note-requires : goal.note-requires
note-requires c =
    let s = c.self.inside in
    let within : c.args.fd < length s.places.items =
    subst (λ (l : List (Option Client)). c.args.fd < length l) (sym c.self.view_is) c.requires.within in
    let w =
    is_set s.places.items c.as_slice-2.result.now c.args.fd c.leave.new.place within c.as_slice-2.ensures.value in
    let long : length c.as_slice-2.result.now ≡ length s.places.items =
    ap (λ (l : List (Option Client)). length l) c.as_slice-2.ensures.value
    ∙ length-set s.places.items c.args.fd c.leave.new.place in
    record {
      held = can_note w true s.held.items (vec_capacity s.held) c.as_slice.result.now c.noted-was.result.0
          c.self.invariant.1.held_is (omega (arith, c.self.invariant.1.holds, long)) c.as_slice.ensures.value
          c.noted-was.ensures.held;
      going = can_note w false s.going.items (vec_capacity s.going) c.as_slice.result.now c.noted-was.result.1
          c.self.invariant.1.going_is (omega (arith, c.self.invariant.1.fits, long)) c.as_slice.ensures.value
          c.noted-was.ensures.going;
    }
