use Rattle.std.proofs.Common.{◌≡◌, ◌∙◌, ℕ, List, [], ◌∷◌, ◌++◌, false, ap, sym, subst}
use Rattle.std.specs.Prelude.{bytes_eq, nat_eq}
use Rattle.std.specs.List.{list_any}
use Rattle.std.proofs.lemmas.List.{map-append}
use Rattle.indexmap.specs.IndexSet.{insert_key}
use Rattle.indexmap.proofs.CallerLemmas.{insert_entry-new}
use Rattle.iol_core.specs.State as machine
use Rattle.iol_kernel.specs.Files.{AreUsed, NamedFiles, file_of, files_of}
use Rattle.iol_kernel.proofs.FileCalls.FileTable.{has_name, new_name, used-push}
use Rattle.iol_kernel.proofs.file_table.FileTable.add.Goals as goal

pub invariant_of-self : goal.invariant_of-self
invariant_of-self c =
    let map = c.self.inside.pools in
    let file : machine.File = record { name = c.args.name.items; pool = c.args.pool } in
    let same = ap (λ (t : NamedFiles). t.files) c.self.view_is in
    let new : list_any (λ (f : machine.File). bytes_eq f.name c.args.name.items) (files_of map.entries) ≡ false =
    ap (λ (fs : List machine.File). list_any (λ (f : machine.File). bytes_eq f.name c.args.name.items) fs) same
    ∙ c.requires.new in
    let entries : files_of c.insert.new.self.entries ≡ files_of map.entries ++ file ∷ [] =
    ap files_of (c.in-Ok.ensures.entries
    ∙ insert_entry-new (λ a. has_name a.items) map c.args.name c.args.pool (new_name c.args.name map.entries new))
    ∙ map-append file_of map.entries ((c.args.name, c.args.pool) ∷ []) in
    let keys : c.insert-2.new.self.keys ≡ insert_key nat_eq c.self.inside.used.keys c.args.pool =
    c.in-Ok-insert.ensures.keys ∙ ap (λ (p : ℕ). insert_key nat_eq c.self.inside.used.keys p) c.number.ensures in
    subst (λ (fs : List machine.File). AreUsed fs c.insert-2.new.self.keys) (sym entries)
    (subst (λ (ks : List ℕ). AreUsed (files_of map.entries ++ file ∷ []) ks) (sym keys)
    (used-push (files_of map.entries) c.self.inside.used.keys c.args.name.items c.args.pool c.self.invariant))

pub returns : goal.returns
returns c =
    let map = c.self.inside.pools in
    let file : machine.File = record { name = c.args.name.items; pool = c.args.pool } in
    let same = ap (λ (t : NamedFiles). t.files) c.self.view_is in
    let new : list_any (λ (f : machine.File). bytes_eq f.name c.args.name.items) (files_of map.entries) ≡ false =
    ap (λ (fs : List machine.File). list_any (λ (f : machine.File). bytes_eq f.name c.args.name.items) fs) same
    ∙ c.requires.new in
    ap files_of (c.in-Ok.ensures.entries
    ∙ insert_entry-new (λ a. has_name a.items) map c.args.name c.args.pool (new_name c.args.name map.entries new))
    ∙ map-append file_of map.entries ((c.args.name, c.args.pool) ∷ [])
    ∙ ap (λ (fs : List machine.File). fs ++ file ∷ []) same
