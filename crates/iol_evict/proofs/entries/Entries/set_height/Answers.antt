use Rattle.std.proofs.Common.{◌∙◌, ap, sym, subst, arith}
use Rattle.iol_evict.specs.declared.entry.Entry.{Entry}
use Rattle.iol_evict.specs.declared.entry.Rank.{Rank}
use Rattle.iol_evict.specs.declared.entry.By.TheVariants.{Place, Height}
use Rattle.iol_evict.specs.Order.{Table, with_height}
use Rattle.iol_evict.specs.Ranks.{rank_by}
use Rattle.iol_evict.specs.Indexes.{HasRank, Finds, Takes}
use Rattle.iol_evict.proofs.KeptOrder.{index-same}
use Rattle.iol_evict.proofs.Indexes.{place-there, entries-with_height}
use Rattle.iol_evict.proofs.Changes.{index-heights, index-left, stands-found, same-left, indexed-height, same-height}
use Rattle.iol_evict.proofs.Changes.{table-is}
use Rattle.iol_evict.proofs.entries.Entries.set_height.Goals as goal

pub find_key-key-requires-clause-there : goal.find_key-key-requires-clause-there
find_key-key-requires-clause-there c =
    place-there c.self.inside.slab c.self.inside.by_place.items _ _ c.args.file c.args.at _ c.self.view_is
    c.place_of.ensures c.requires

pub remove_key-requires-clause-index : goal.remove_key-requires-clause-index
remove_key-requires-clause-index c = index-heights _ _ _ c.self.invariant.indexed

pub remove_key-requires-clause-there : goal.remove_key-requires-clause-there
remove_key-requires-clause-there c =
    subst (λ (r : Rank). HasRank Height c.self.inside.slab c.self.inside.by_height.items r)
    (sym (c.rank_of.ensures ∙ ap (rank_by Height) c.read_entry-entry.ensures))
    (stands-found _ _ _ _ _ c.self.invariant.indexed c.find_key-key.ensures)

pub insert_key-requires-clause-index : goal.insert_key-requires-clause-index
insert_key-requires-clause-index c =
    let taken =
    subst (λ (r : Rank). Takes Height c.self.inside.slab r c.remove_key.result c.self.inside.by_height.items
    c.remove_key.new.keys.items) (c.rank_of.ensures ∙ ap (rank_by Height) c.read_entry-entry.ensures)
    c.remove_key.ensures.takes in
    index-same Height _ _ _ (same-left _ _ _ _ _ _ _ _ _ c.self.invariant.indexed c.find_key-key.ensures taken
    c.write_height.ensures.updates) (index-left _ _ _ _ _ _ c.self.invariant.indexed taken)

pub invariant_of-self : goal.invariant_of-self
invariant_of-self c =
    let taken =
    subst (λ (r : Rank). Takes Height c.self.inside.slab r c.remove_key.result c.self.inside.by_height.items
    c.remove_key.new.keys.items) (c.rank_of.ensures ∙ ap (rank_by Height) c.read_entry-entry.ensures)
    c.remove_key.ensures.takes in
    record {
      indexed = indexed-height _ _ _ _ _ _ _ _ _ _ c.self.invariant.indexed c.find_key-key.ensures taken
          c.write_height.ensures.updates c.insert_key.ensures.adds;
      slab_room =
          omega (arith, c.write_height.ensures.len, c.write_height.ensures.capacity, c.self.invariant.slab_room);
      lens = omega (arith, c.remove_key.ensures.len, c.insert_key.ensures.len, c.self.invariant.lens);
      place_room = c.self.invariant.place_room;
      height_room =
          omega (
            arith,
            c.remove_key.ensures.len,
            c.remove_key.ensures.capacity,
            c.insert_key.ensures.len,
            c.insert_key.ensures.capacity,
            c.self.invariant.height_room,
          );
    }

pub returns : goal.returns
returns c =
    let here = subst (λ (r : Rank). Finds Place c.self.inside.slab c.self.inside.by_place.items r c.find_key-key.result)
    c.place_of.ensures c.find_key-key.ensures in
    table-is _ _ _ _ (entries-with_height _ _ _ c.args.file c.args.at c.args.height _ c.self.invariant.indexed.places
    here c.write_height.ensures.updates
    ∙ ap (λ (t : Table). with_height t.entries c.args.file c.args.at c.args.height) c.self.view_is)
    (ap (λ (t : Table). t.room) c.self.view_is)

pub returns-then-entry-height : goal.returns-then-entry-height
returns-then-entry-height c =
    let here = subst (λ (r : Rank). Finds Place c.self.inside.slab c.self.inside.by_place.items r c.find_key-key.result)
    c.place_of.ensures c.find_key-key.ensures in
    let same = ap (λ (e : Entry). e.height) (sym c.read_entry-entry.ensures) ∙ c.if-entry-height.true in
    sym c.self.view_is
    ∙ table-is _ _ _ _ (same-height _ _ _ c.args.file c.args.at c.args.height _ c.self.invariant.indexed here same
    ∙ ap (λ (t : Table). with_height t.entries c.args.file c.args.at c.args.height) c.self.view_is)
    (ap (λ (t : Table). t.room) c.self.view_is)
