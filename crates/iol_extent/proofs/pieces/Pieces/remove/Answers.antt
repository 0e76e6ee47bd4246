use Rattle.std.proofs.Common.{◌+◌, ◌<◌, ℕ, length, map, get_or, remove, ap, sym, ◌∙◌, subst, arith}
use Rattle.std.proofs.lemmas.List.{length-map}
use Rattle.slab.specs.Slab.{ContainsKey}
use Rattle.iol_extent.specs.Extents.{ExtentMap}
use Rattle.iol_extent.specs.Keys.{AreKeys, extent_at}
use Rattle.iol_extent.proofs.Keys.{extent_there, extents_taken, keys_taken, there}
use Rattle.iol_extent.proofs.pieces.Pieces.remove.Goals as goal

pub remove-requires : goal.remove-requires
remove-requires c =
    let s = c.self.inside.slab in
    let ks = c.self.inside.keys.keys in
    let within : c.args.place < length ks =
    omega (
      arith,
      c.requires,
      length-map ks (extent_at s),
      ap (λ (m : ExtentMap). length m.extents) c.self.view_is,
    ) in
    subst (λ (k : ℕ). ContainsKey s k) (sym c.remove-key.ensures.key)
    (c.self.invariant.keys.live c.args.place c.remove-key.result within)

pub invariant_of-self : goal.invariant_of-self
invariant_of-self c =
    let s = c.self.inside.slab in
    let t = c.remove.new.self in
    let ks = c.self.inside.keys.keys in
    let within : c.args.place < length ks =
    omega (
      arith,
      c.requires,
      length-map ks (extent_at s),
      ap (λ (m : ExtentMap). length m.extents) c.self.view_is,
    ) in
    record {
      keys =
          subst (AreKeys t) (sym c.remove-key.ensures.keys)
          (keys_taken s t ks c.args.place c.remove-key.result c.remove.ensures.updates c.remove-key.ensures.key within
          c.self.invariant.keys);
      slab_room = omega (arith, c.remove.ensures.len, c.remove.ensures.capacity, c.self.invariant.slab_room);
      key_room = omega (arith, c.remove-key.ensures.room, c.self.invariant.key_room);
    }

pub returns : goal.returns
returns c =
    let s = c.self.inside.slab in
    let t = c.remove.new.self in
    let ks = c.self.inside.keys.keys in
    let e = c.remove.result in
    let within : c.args.place < length ks =
    omega (
      arith,
      c.requires,
      length-map ks (extent_at s),
      ap (λ (m : ExtentMap). length m.extents) c.self.view_is,
    ) in
    record {
      piece = sym (extent_there s ks c.args.place c.remove-key.result e within c.remove-key.ensures.key
          ∙ there s c.remove-key.result e c.remove.ensures.value)
          ∙ ap (λ (m : ExtentMap). get_or m.extents c.args.place e) c.self.view_is;
      extents = ap (map (extent_at t)) c.remove-key.ensures.keys
          ∙ extents_taken s t ks c.args.place c.remove-key.result c.remove.ensures.updates c.remove-key.ensures.key
          within c.self.invariant.keys
          ∙ ap (λ (m : ExtentMap). remove m.extents c.args.place) c.self.view_is;
      room = ap (λ (m : ExtentMap). m.room + 1) c.self.view_is;
    }
