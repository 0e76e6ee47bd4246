use Rattle.std.proofs.Common.{List, ℕ, sym, subst, arith}
use Rattle.iol_evict.specs.Indexes.{IsIndexed}
use Rattle.iol_evict.proofs.Changes.{indexed-same}
use Rattle.iol_evict.proofs.entries.Entries.reserve.Goals as goal

pub invariant_of-self : goal.invariant_of-self
invariant_of-self c =
    let same = indexed-same _ _ _ _ c.reserve_each.ensures.slab.values c.self.invariant.indexed in
    record {
      indexed = subst (λ (l : List ℕ). IsIndexed c.reserve_each.new.slab l c.reserve_each.new.by_height.items)
          (sym c.reserve_each.ensures.places.items)
          (subst (λ (l : List ℕ). IsIndexed c.reserve_each.new.slab c.self.inside.by_place.items l)
          (sym c.reserve_each.ensures.heights.items) same);
      slab_room =
          omega (
            arith,
            c.reserve_each.ensures.slab.len,
            c.reserve_each.ensures.slab.capacity,
            c.self.invariant.slab_room,
          );
      lens =
          omega (arith, c.reserve_each.ensures.places.len, c.reserve_each.ensures.heights.len, c.self.invariant.lens);
      place_room =
          omega (
            arith,
            c.reserve_each.ensures.places.len,
            c.reserve_each.ensures.places.capacity,
            c.self.invariant.place_room,
          );
      height_room =
          omega (
            arith,
            c.reserve_each.ensures.heights.len,
            c.reserve_each.ensures.heights.capacity,
            c.self.invariant.height_room,
          );
    }

pub invariant_of-self-2 : goal.invariant_of-self-2
invariant_of-self-2 c =
    let same = indexed-same _ _ _ _ c.reserve_each.ensures.slab.values c.self.invariant.indexed in
    record {
      indexed = subst (λ (l : List ℕ). IsIndexed c.reserve_each.new.slab l c.reserve_each.new.by_height.items)
          (sym c.reserve_each.ensures.places.items)
          (subst (λ (l : List ℕ). IsIndexed c.reserve_each.new.slab c.self.inside.by_place.items l)
          (sym c.reserve_each.ensures.heights.items) same);
      slab_room = c.in_ok-reserve_each.ensures.slab.room;
      lens =
          omega (arith, c.reserve_each.ensures.places.len, c.reserve_each.ensures.heights.len, c.self.invariant.lens);
      place_room = c.in_ok-reserve_each.ensures.places.room;
      height_room = c.in_ok-reserve_each.ensures.heights.room;
    }
