use Rattle.std.proofs.Common.{◌∙◌, ap, arith, map}
use Rattle.iol_evict.specs.Order.{Table, lowered_by}
use Rattle.iol_evict.proofs.Heights.{rising-lowered, indexed-lowered, entries-lowered}
use Rattle.iol_evict.proofs.Changes.{table-is}
use Rattle.iol_evict.proofs.entries.Entries.lower.Goals as goal

pub insert_all-requires-clause-index : goal.insert_all-requires-clause-index
insert_all-requires-clause-index c = record {
  live = c.lower_each.ensures.live;
  rising = rising-lowered _ _ _ c.args.low c.self.invariant.indexed.places c.lower_each.ensures;
}

pub invariant_of-self : goal.invariant_of-self
invariant_of-self c =
    record {
      indexed =
          indexed-lowered _ _ _ _ _ c.args.low c.self.invariant.indexed c.lower_each.ensures c.insert_all.ensures.rising
          c.insert_all.ensures.same;
      slab_room = omega (arith, c.lower_each.ensures.len, c.lower_each.ensures.capacity, c.self.invariant.slab_room);
      lens = omega (arith, c.insert_all.ensures.len);
      place_room = c.self.invariant.place_room;
      height_room =
          omega (
            arith,
            c.insert_all.ensures.len,
            c.insert_all.ensures.capacity,
            c.clear.ensures.capacity,
            c.self.invariant.lens,
            c.self.invariant.height_room,
          );
    }

pub returns : goal.returns
returns c =
    table-is _ _ _ _ (entries-lowered _ _ _ c.args.low c.lower_each.ensures
    ∙ ap (λ (t : Table). map (lowered_by c.args.low) t.entries) c.self.view_is)
    (ap (λ (t : Table). t.room) c.self.view_is)
