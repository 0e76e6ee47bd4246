use Rattle.std.proofs.Common.{◌∙◌, rules, sym}
use Rattle.iol_tree.specs.Store.{disk_of}
use Rattle.flash_site.proofs.Begins.{begins_site, begins_site_of}
use Rattle.flash_site.proofs.source.Source.host.Goals as goal

pub invariant_of-result : goal.invariant_of-result
invariant_of-result g c = record {
  begins = begins_site c.args.store.names (disk_of c.args.store) c.in-Ok.world c.in-Ok.ensures;
  files = begins_site_of c.count.result c.args.bytes c.args.store.names (disk_of c.args.store) c.in-Ok.world
      c.in-Ok.ensures (search rules) c.requires;
  honest = c.in-Ok.ensures.over.honest ∙ sym c.is_in_memory.ensures;
}
