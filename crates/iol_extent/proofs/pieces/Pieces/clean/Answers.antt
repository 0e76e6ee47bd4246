use Rattle.std.proofs.Common.{◌<◌, length, map, get_or, set, ap, sym, ◌∙◌, arith}
use Rattle.std.proofs.lemmas.List.{length-map}
use Rattle.iol_extent.specs.Extents.{Extent, ExtentMap, as_clean}
use Rattle.iol_extent.specs.Keys.{extent_at}
use Rattle.iol_extent.proofs.Keys.{extent_there, extents_changed, keys_changed}
use Rattle.iol_extent.proofs.pieces.Pieces.clean.Goals as goal

pub invariant_of-self : goal.invariant_of-self
invariant_of-self c =
    let s = c.self.inside.slab in
    let key = c.at-key.result in
    record {
      keys = keys_changed s c.clean_at.new.slab c.self.inside.keys.keys key (as_clean (extent_at s key))
          c.clean_at.ensures.updates c.self.invariant.keys;
      slab_room = omega (arith, c.clean_at.ensures.len, c.clean_at.ensures.capacity, c.self.invariant.slab_room);
      key_room = c.self.invariant.key_room;
    }

pub returns-clause-extents : goal.returns-clause-extents
returns-clause-extents c = λ d.
    let s = c.self.inside.slab in
    let ks = c.self.inside.keys.keys in
    let key = c.at-key.result in
    let within : c.args.place < length ks =
    omega (
      arith,
      c.requires,
      length-map ks (extent_at s),
      ap (λ (m : ExtentMap). length m.extents) c.self.view_is,
    ) in
    extents_changed s c.clean_at.new.slab ks c.args.place key (as_clean (extent_at s key)) c.clean_at.ensures.updates
    c.at-key.ensures within c.self.invariant.keys.distinct
    ∙ ap (λ (x : Extent). set (map (extent_at s) ks) c.args.place (as_clean x))
    (sym (extent_there s ks c.args.place key d within c.at-key.ensures))
    ∙ ap (λ (m : ExtentMap). set m.extents c.args.place (as_clean (get_or m.extents c.args.place d))) c.self.view_is
