use Rattle.std.proofs.Common.{rules, ◌≡◌, ◌+◌, ◌∙◌, ℕ, ap, sym, Option, Some}
use Rattle.std.specs.Prelude.{bytes_eq, option_map, position}
use Rattle.iol_core.specs.State as machine
use Rattle.iol_kernel.specs.Files.{NamedFiles}
use Rattle.iol_kernel.proofs.FileCalls.FileTable.{position-named}
use Rattle.iol_kernel.proofs.file_table.FileTable.find.Goals as goal

pub returns-in_err-place : goal.returns-in_err-place
returns-in_err-place c =
    let found = c.get_index_of.ensures.index ∙ position-named c.args.name.now c.self.inside.pools.entries
    ∙ ap (λ (t : NamedFiles). position (λ (f : machine.File). bytes_eq f.name c.args.name.now) t.files)
    c.self.view_is in
    search (rules, found)

pub returns : goal.returns
returns c =
    let found = c.get_index_of.ensures.index ∙ position-named c.args.name.now c.self.inside.pools.entries
    ∙ ap (λ (t : NamedFiles). position (λ (f : machine.File). bytes_eq f.name c.args.name.now) t.files)
    c.self.view_is in
    let was : c.get_index_of.result ≡ Some c.in_ok-place.place = c.in_ok-place.was in
    let number : Option ℕ = Some c.new.result in
    let reported : number ≡ option_map (λ i. i + 1) (Some c.in_ok-place.place) = ap (λ (i : ℕ). Some i) c.new.ensures in
    reported ∙ ap (option_map (λ i. i + 1)) (sym was ∙ found)
