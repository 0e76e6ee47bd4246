use Rattle.std.proofs.Common.{◌+◌, ◌∙◌, ap, sym, subst, arith}
use Rattle.iol_evict.specs.declared.entry.Rank.{Rank}
use Rattle.iol_evict.specs.declared.entry.By.TheVariants.{Place, Height}
use Rattle.iol_evict.specs.Order.{Table, entry_or, without}
use Rattle.iol_evict.specs.Ranks.{rank_by}
use Rattle.iol_evict.specs.Indexes.{HasRank, Takes}
use Rattle.iol_evict.proofs.KeptOrder.{same-others}
use Rattle.iol_evict.proofs.Indexes.{place-there, found-entry, entries-without, taken-gone}
use Rattle.iol_evict.proofs.Changes.{index-heights, stands-taken, indexed-remove, table-is, finds-taken}
use Rattle.iol_evict.proofs.entries.Entries.remove.Goals as goal

pub remove_key-key-requires-clause-there : goal.remove_key-key-requires-clause-there
remove_key-key-requires-clause-there c =
    place-there c.self.inside.slab c.self.inside.by_place.items _ _ c.args.file c.args.at _ c.self.view_is
    c.place_of.ensures c.requires

pub remove_key-requires-clause-index : goal.remove_key-requires-clause-index
remove_key-requires-clause-index c = index-heights _ _ _ c.self.invariant.indexed

pub remove_key-requires-clause-there : goal.remove_key-requires-clause-there
remove_key-requires-clause-there c =
    subst (λ (r : Rank). HasRank Height c.self.inside.slab c.self.inside.by_height.items r)
    (sym (c.rank_of.ensures ∙ ap (rank_by Height) c.read_entry-entry.ensures))
    (stands-taken _ _ _ _ _ _ c.self.invariant.indexed c.remove_key-key.ensures.takes)

pub invariant_of-self : goal.invariant_of-self
invariant_of-self c =
    let second =
    subst (λ (r : Rank). Takes Height c.self.inside.slab r c.remove_key.result c.self.inside.by_height.items
    c.remove_key.new.keys.items) (c.rank_of.ensures ∙ ap (rank_by Height) c.read_entry-entry.ensures)
    c.remove_key.ensures.takes in
    record {
      indexed = indexed-remove _ _ _ _ _ _ _ _ _ c.self.invariant.indexed c.remove_key-key.ensures.takes second
          c.remove.ensures.updates;
      slab_room = omega (arith, c.remove.ensures.len, c.remove.ensures.capacity, c.self.invariant.slab_room);
      lens = omega (arith, c.remove_key-key.ensures.len, c.remove_key.ensures.len, c.self.invariant.lens);
      place_room =
          omega (arith, c.remove_key-key.ensures.len, c.remove_key-key.ensures.capacity, c.self.invariant.place_room);
      height_room =
          omega (arith, c.remove_key.ensures.len, c.remove_key.ensures.capacity, c.self.invariant.height_room);
    }

pub returns-clause-entry : goal.returns-clause-entry
returns-clause-entry c =
    let here =
    subst (λ (r : Rank). Takes Place c.self.inside.slab r c.remove_key-key.result c.self.inside.by_place.items
    c.remove_key-key.new.keys.items) c.place_of.ensures c.remove_key-key.ensures.takes in
    c.read_entry-entry.ensures
    ∙ sym (found-entry _ _ c.args.file c.args.at _ c.self.invariant.indexed.places (finds-taken _ _ _ _ _ here))
    ∙ ap (λ (t : Table). entry_or t.entries c.args.file c.args.at) c.self.view_is

pub returns-clause-rest : goal.returns-clause-rest
returns-clause-rest c =
    let here =
    subst (λ (r : Rank). Takes Place c.self.inside.slab r c.remove_key-key.result c.self.inside.by_place.items
    c.remove_key-key.new.keys.items) c.place_of.ensures c.remove_key-key.ensures.takes in
    let same =
    same-others _ _ _ _ _ c.remove.ensures.updates
    (taken-gone Place _ _ _ _ _ c.self.invariant.indexed.places here) in
    table-is _ _ _ _ (entries-without _ _ _ _ c.args.file c.args.at _ c.self.invariant.indexed.places here same
    ∙ ap (λ (t : Table). without t.entries c.args.file c.args.at) c.self.view_is)
    (ap (λ (t : Table). t.room + 1) c.self.view_is)
