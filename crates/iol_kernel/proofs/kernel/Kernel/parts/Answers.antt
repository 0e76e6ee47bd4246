use Rattle.std.proofs.Common.{[], ◌∙◌, ap, sym, rules}
use Rattle.std.specs.List.{concat}
use Rattle.std.proofs.lemmas.List.Concat.{concat_is}
use Rattle.iol_core.specs.Text.{bytes_of}
use Rattle.iol_agg.specs.Parts.{parts_of}
use Rattle.iol_agg.proofs.Partwise.{flat_map-parts_of}
use Rattle.iol_kernel.specs.Kernel.{state_of}
use Rattle.iol_kernel.specs.Readings.{bytes_over}
use Rattle.iol_kernel.proofs.State.Sound.{agg_readable}
use Rattle.iol_kernel.proofs.kernel.Kernel.parts.Goals as goal

pub parts-requires : goal.parts-requires
parts-requires c = agg_readable (state_of c.args.self.now) c.args.by c.args.agg c.in_ok-found.found.now c.requires
    c.in_ok-found.ensures.ok.found

pub returns-clause-ok : goal.returns-clause-ok
returns-clause-ok c =
    let s = c.args.self.now.store in
    let xs = c.in_ok-found.found.now in
    let bytes = ap concat c.parts.ensures ∙ concat_is (parts_of s xs)
    ∙ flat_map-parts_of s xs (agg_readable (state_of c.args.self.now) c.args.by c.args.agg xs c.requires
    c.in_ok-found.ensures.ok.found) ∙ ap bytes_of (sym (c.in_ok-found.ensures.ok.text (bytes_over [] s))) in
    search (rules, bytes)
