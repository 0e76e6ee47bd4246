use Rattle.std.proofs.Common.{◌≡◌, ◌-◌, ◌∙◌, ap, sym, subst, arith, Option, None, unwrap_or}
use Rattle.iol_evict.specs.declared.entry.Entry.{Entry}
use Rattle.iol_evict.specs.declared.entry.By.TheVariants.{Place, Height}
use Rattle.iol_evict.specs.Order.{Table, no_entry, entry_at, put_in}
use Rattle.iol_evict.proofs.KeptOrder.{index-same}
use Rattle.iol_evict.proofs.Indexes.{entries-put_in}
use Rattle.iol_evict.proofs.Changes.{index-places, index-heights, fresh-places, fresh-heights, indexed-insert, table-is}
use Rattle.iol_evict.proofs.entries.Entries.insert.Goals as goal

pub insert_key-requires-clause-index : goal.insert_key-requires-clause-index
insert_key-requires-clause-index c =
    index-same Place _ _ _ (fresh-places _ _ _ _ _ _ c.self.invariant.indexed c.insert_reserved-key.ensures.was_vacant
    c.insert_reserved-key.ensures.updates) (index-places _ _ _ c.self.invariant.indexed)

pub insert_key-requires-2-clause-index : goal.insert_key-requires-2-clause-index
insert_key-requires-2-clause-index c =
    index-same Height _ _ _ (fresh-heights _ _ _ _ _ _ c.self.invariant.indexed c.insert_reserved-key.ensures.was_vacant
    c.insert_reserved-key.ensures.updates) (index-heights _ _ _ c.self.invariant.indexed)

pub invariant_of-self : goal.invariant_of-self
invariant_of-self c =
    let absent = subst (λ (t : Table). entry_at t.entries c.args.entry.file c.args.entry.at ≡ None) (sym c.self.view_is)
    c.requires.absent in
    let some = ap (λ (t : Table). t.room) c.self.view_is in
    record {
      indexed =
          indexed-insert _ _ _ _ _ _ _ c.args.entry c.self.invariant.indexed c.insert_reserved-key.ensures.was_vacant
          c.insert_reserved-key.ensures.updates c.requires.sized absent c.insert_key.ensures.adds
          c.insert_key-2.ensures.adds;
      slab_room =
          omega (
            arith,
            some,
            c.requires.room,
            c.insert_reserved-key.ensures.len,
            c.insert_reserved-key.ensures.capacity,
            c.self.invariant.slab_room,
          );
      lens = omega (arith, c.insert_key.ensures.len, c.insert_key-2.ensures.len, c.self.invariant.lens);
      place_room =
          omega (
            arith,
            some,
            c.requires.room,
            c.insert_key.ensures.len,
            c.insert_key.ensures.capacity,
            c.self.invariant.place_room,
          );
      height_room =
          omega (
            arith,
            some,
            c.requires.room,
            c.insert_key-2.ensures.len,
            c.insert_key-2.ensures.capacity,
            c.self.invariant.height_room,
          );
    }

pub returns : goal.returns
returns c =
    let same = fresh-places _ _ _ _ _ _ c.self.invariant.indexed c.insert_reserved-key.ensures.was_vacant
    c.insert_reserved-key.ensures.updates in
    let now = ap (λ (o : Option Entry). unwrap_or o no_entry) c.insert_reserved-key.ensures.updates.changed in
    table-is _ _ _ _ (entries-put_in _ _ _ _ _ c.args.entry same now c.insert_key.ensures.adds
    ∙ ap (λ (t : Table). put_in t.entries c.args.entry) c.self.view_is)
    (ap (λ (t : Table). t.room - 1) c.self.view_is)
