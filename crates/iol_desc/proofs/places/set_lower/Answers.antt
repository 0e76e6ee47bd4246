use Rattle.std.proofs.Common.{◌≡◌, ◌∙◌, ap, arith, refl, Option, List, slice_set, None}
use Rattle.iol_core.specs.NumberedLists.{lowest}
use Rattle.iol_desc.proofs.TakenPlaces.{lowest_freed, placed_at}
use Rattle.iol_desc.proofs.places.set_lower.Goals as goal

pub set_taken-requires : goal.set_taken-requires
set_taken-requires g c =
    let xs = c.args.places.now.items in
    let is : c.lowest_from-lower.result ≡ lowest (slice_set xs c.args.place None) = c.lowest_from-lower.ensures.lowest
    ∙ ap (λ (l : List (Option g.row.T.Denot)). lowest l) (c.deref.ensures.value ∙ c.set_free.ensures.items) in
    rw c.set_free.ensures.items (placed_at xs c.args.place c.args.place c.lowest_from-lower.result c.args.value refl
    c.requires.place is).0

pub returns : goal.returns
returns g c =
    let xs = c.args.places.now.items in
    let is : c.lowest_from-lower.result ≡ lowest (slice_set xs c.args.place None) = c.lowest_from-lower.ensures.lowest
    ∙ ap (λ (l : List (Option g.row.T.Denot)). lowest l) (c.deref.ensures.value ∙ c.set_free.ensures.items) in
    record {
      lower = omega (arith, is, lowest_freed xs c.args.place c.requires.place);
      items =
          rw (c.set_taken.ensures.items, c.set_free.ensures.items)
          (placed_at xs c.args.place c.args.place c.lowest_from-lower.result c.args.value refl c.requires.place is).1;
      room = omega (arith, c.set_free.ensures.room, c.set_taken.ensures.room);
      lowest = is;
    }
