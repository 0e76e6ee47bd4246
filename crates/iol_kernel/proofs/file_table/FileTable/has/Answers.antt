use Rattle.std.proofs.Common.{◌∙◌, ap}
use Rattle.std.specs.Prelude.{bytes_eq}
use Rattle.std.specs.List.{list_any}
use Rattle.iol_core.specs.State as machine
use Rattle.iol_kernel.specs.Files.{NamedFiles}
use Rattle.iol_kernel.proofs.FileCalls.FileTable.{has-named}
use Rattle.iol_kernel.proofs.file_table.FileTable.has.Goals as goal

pub returns : goal.returns
returns c =
    c.contains_key.ensures ∙ has-named c.args.name.now c.self.inside.pools.entries
    ∙ ap (λ (t : NamedFiles). list_any (λ (f : machine.File). bytes_eq f.name c.args.name.now) t.files) c.self.view_is
