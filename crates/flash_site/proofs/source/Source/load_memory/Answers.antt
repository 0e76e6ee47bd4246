use Rattle.std.proofs.Common.{◌≡◌, ◌∙◌, ◌≤◌, Option, ap, arith, length, rules, string_bytes, subst, sym}
use Rattle.std.proofs.lemmas.List.{length-map}
use Rattle.iol_tree.specs.Index.{HaveSameFiles, IndexedFiles}
use Rattle.iol_tree.specs.Store.{disk_of}
use Rattle.flash_site.specs.Reads.{Remembers}
use Rattle.flash_site.proofs.Found.{all_found}
use Rattle.flash_site.proofs.source.Source.load_memory.Goals as goal

pub returns-clause-remembers : goal.returns-clause-remembers
returns-clause-remembers g c =
    let root = c.args.self.now.root.bytes.items in
    let loaded = c.in_ok-host.field-0 in
    let after = c.in_ok-after.after in
    let stamped : length c.args.index.names ≡ length c.args.index.stamps = omega (
      arith,
      ap (λ (f : IndexedFiles). length f.names) c.index.view_is,
      ap (λ (f : IndexedFiles). length f.stamps) c.index.view_is,
      length-map c.index.inside.names.items string_bytes,
      c.index.invariant.1,
    ) in
    let few : length after.names ≤ 1024 =
    subst (λ (f : IndexedFiles). length f.names ≤ 1024) c.after.view_is c.after.invariant.0.few in
    let same : HaveSameFiles c.args.found.now after = c.is_same.ensures.0 (search rules) in
    let root-is : after.root ≡ root = search rules in
    subst (λ (found : Option IndexedFiles). Remembers root loaded.summary loaded.world found)
    (sym c.in_ok-host.ensures.index)
    (all_found root loaded.summary loaded.world c.in_ok-store.store.names (disk_of c.in_ok-store.store)
    c.args.found.now c.args.index after c.requires.part stamped same root-is few c.in_ok-store.ensures.names
    c.in_ok-host.ensures.files (c.in_ok-host.ensures.skipped ∙ c.in_ok-store.ensures.skipped)
    c.in_ok-host.ensures.world)
