use Rattle.std.proofs.Common.{◌∙◌, ap, sym, subst}
use Rattle.iol_evict.specs.declared.entry.Rank.{Rank}
use Rattle.iol_evict.specs.declared.entry.By.TheVariants.{Place}
use Rattle.iol_evict.specs.Order.{Table, entry_or}
use Rattle.iol_evict.specs.Indexes.{Finds}
use Rattle.iol_evict.proofs.Indexes.{place-there, found-entry}
use Rattle.iol_evict.proofs.entries.Entries.get.Goals as goal

pub find_key-key-requires-clause-there : goal.find_key-key-requires-clause-there
find_key-key-requires-clause-there c =
    place-there c.self.inside.slab c.self.inside.by_place.items _ _ c.args.file c.args.at _ c.self.view_is
    c.place_of.ensures c.requires

pub returns-clause-entry : goal.returns-clause-entry
returns-clause-entry c =
    let here = subst (λ (r : Rank). Finds Place c.self.inside.slab c.self.inside.by_place.items r c.find_key-key.result)
    c.place_of.ensures c.find_key-key.ensures in
    c.read_entry.ensures ∙ sym (found-entry _ _ c.args.file c.args.at _ c.self.invariant.indexed.places here)
    ∙ ap (λ (t : Table). entry_or t.entries c.args.file c.args.at) c.self.view_is
