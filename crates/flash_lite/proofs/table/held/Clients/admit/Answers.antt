use Rattle.std.proofs.Common.{◌≡◌, ◌∙◌, ap, vec_capacity, List, Option, Some, true, false, arith}
use Rattle.std.specs.Prelude.{slice_set}
use Rattle.flash_laws.specs.Client.{Client, new_client}
use Rattle.flash_laws.specs.Site.OtherConns.{grown, with_at}
use Rattle.flash_lite.proofs.Order.{can_note, is_added, long_added}
use Rattle.flash_lite.proofs.table.held.Clients.admit.Goals as goal

pub note-requires : goal.note-requires
note-requires c =
    let s = c.self.inside in
    let held = c.make_room.new.places in
    let going = c.make_room-2.new.places in
    let now : c.as_slice-2.result.now ≡ with_at s.places.items c.args.place (Some new_client) =
    c.as_slice-2.ensures.value
    ∙ (ap (λ (l : List (Option Client)). slice_set l c.args.place (Some c.new.result)) c.in_ok-reach.ensures.ok
    ∙ ap (λ (x : Client). slice_set (grown s.places.items c.args.place) c.args.place (Some x)) c.new.ensures) in
    let w = is_added s.places.items c.as_slice-2.result.now c.args.place (Some new_client) now in
    let holds = long_added s.places.items c.as_slice-2.result.now c.args.place (Some new_client) (vec_capacity held) now
    (omega (arith, c.self.invariant.1.holds, c.make_room.ensures.room)) c.in_ok-make_room.ensures.ok in
    let fits = long_added s.places.items c.as_slice-2.result.now c.args.place (Some new_client) (vec_capacity going) now
    (omega (arith, c.self.invariant.1.fits, c.make_room-2.ensures.room)) c.in_ok-make_room-2.ensures.ok in
    record {
      held = can_note w true held.items (vec_capacity held) c.as_slice.result.now c.noted-was.result.0
          (c.make_room.ensures.items ∙ c.self.invariant.1.held_is) holds c.as_slice.ensures.value
          c.noted-was.ensures.held;
      going = can_note w false going.items (vec_capacity going) c.as_slice.result.now c.noted-was.result.1
          (c.make_room-2.ensures.items ∙ c.self.invariant.1.going_is) fits c.as_slice.ensures.value
          c.noted-was.ensures.going;
    }
