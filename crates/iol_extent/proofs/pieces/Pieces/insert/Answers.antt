use Rattle.std.proofs.Common.{◌-◌, ◌<◌, length, map, insert, ap, sym, ◌∙◌, subst, arith}
use Rattle.std.proofs.lemmas.List.{length-map}
use Rattle.iol_extent.specs.Extents.{ExtentMap}
use Rattle.iol_extent.specs.Keys.{AreKeys, extent_at}
use Rattle.iol_extent.proofs.Keys.{extents_put, keys_put}
use Rattle.iol_extent.proofs.pieces.Pieces.insert.Goals as goal

pub invariant_of-self : goal.invariant_of-self
invariant_of-self c =
    let t = c.insert_reserved-key.new.self in
    let some : 0 < c.self.inside.room = rw (ap (λ (m : ExtentMap). m.room) c.self.view_is) c.requires.room in
    record {
      keys =
          subst (AreKeys t) (sym c.insert.ensures.keys)
          (keys_put c.self.inside.slab t c.self.inside.keys.keys c.args.place c.insert_reserved-key.result c.args.piece
          c.insert_reserved-key.ensures.updates c.insert_reserved-key.ensures.was_vacant c.self.invariant.keys);
      slab_room =
          omega (
            arith,
            some,
            c.insert_reserved-key.ensures.len,
            c.insert_reserved-key.ensures.capacity,
            c.self.invariant.slab_room,
          );
      key_room = omega (arith, some, c.insert.ensures.room, c.self.invariant.key_room);
    }

pub returns : goal.returns
returns c =
    let t = c.insert_reserved-key.new.self in
    record {
      extents = ap (map (extent_at t)) c.insert.ensures.keys
          ∙ extents_put c.self.inside.slab t c.self.inside.keys.keys c.args.place c.insert_reserved-key.result
          c.args.piece c.insert_reserved-key.ensures.updates c.insert_reserved-key.ensures.was_vacant
          c.self.invariant.keys
          ∙ ap (λ (m : ExtentMap). insert m.extents c.args.place c.args.piece) c.self.view_is;
      room = ap (λ (m : ExtentMap). m.room - 1) c.self.view_is;
      few = omega (
        arith,
        c.insert.ensures.few,
        length-map c.self.inside.keys.keys (extent_at c.self.inside.slab),
        ap (λ (m : ExtentMap). length m.extents) c.self.view_is,
      );
    }
