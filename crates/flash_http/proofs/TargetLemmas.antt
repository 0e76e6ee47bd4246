-- Lemmas on request targets: parses of a target are unique.
use Rattle.std.proofs.Common.{◌≡◌, ◌≢◌, ℕ, ◌==◌, ◌||◌, not, Bool, true, false, cond, List, [], ◌∷◌, length, Option}
use Rattle.std.proofs.Common.{refl, sym, ap, ◌∙◌}
use Rattle.std.specs.Prelude.{is_some}
use Rattle.std.proofs.lemmas.Bool.{eqb-true}
use Rattle.http_uri.specs.declared.uri.Uri.{Uri}
use Rattle.http_uri.specs.Grammar.{path_of, query_of}
use Rattle.http_uri.specs.Uri.{Spells, uri_scheme, uri_authority, uri_data, uri_path, uri_query}
use Rattle.http_uri.proofs.Theorems.{Spells_unique}
use Rattle.flash_http.specs.Target.{is_served_form, IsServedUri, IsFilePath, Names, without_slash, file_name}
use Rattle.flash_http.specs.Target.{query_text}

pub with_slash : (path name : List ℕ) → path ≡ 47 ∷ name → name ≡ without_slash path
with_slash path name e = ap without_slash (sym e)

pub no_slash : (path : List ℕ) → ((rest : List ℕ) → path ≢ 47 ∷ rest) → path ≡ without_slash path
no_slash [] h = refl
no_slash (b ∷ path) h = not_cut (b == 47) refl
  where
    not_cut : (v : Bool) → (b == 47) ≡ v → b ∷ path ≡ cond v path (b ∷ path)
    not_cut true e = absurd (h path (ap (λ x. x ∷ path) (eqb-true b 47 e)))
    not_cut false e = refl

-- the parts of a URI give its path
path_by : (u v : Uri) → uri_scheme u ≡ uri_scheme v → uri_data u ≡ uri_data v → uri_path u ≡ uri_path v
path_by u v scheme data' =
    let f : Option (List ℕ) → List ℕ → List ℕ = λ s d. cond (not (length d == 0) || is_some s) (path_of d) [] in
    ap (λ s. f s (uri_data u)) scheme ∙ ap (f (uri_scheme v)) data'

-- all URIs that a target represents have the same path
pub same_path : (target : List ℕ) (u v : Uri) → Spells target u → Spells target v → uri_path u ≡ uri_path v
same_path target u v a b = let same = Spells_unique target u v a b in path_by u v same.0 same.2

pub same_query : (target : List ℕ) (u v : Uri) → Spells target u → Spells target v → uri_query u ≡ uri_query v
same_query target u v a b = let same = Spells_unique target u v a b in ap query_of same.2

pub same_form : (target : List ℕ) (u v : Uri) → Spells target u → Spells target v
    → is_served_form target (uri_scheme u) (uri_authority u) ≡ is_served_form target (uri_scheme v) (uri_authority v)
same_form target u v a b =
    let same = Spells_unique target u v a b in
    ap (λ s. is_served_form target s (uri_authority u)) same.0 ∙ ap (is_served_form target (uri_scheme v)) same.1

pub not_served : (target : List ℕ) (u : Uri) → Spells target u
    → is_served_form target (uri_scheme u) (uri_authority u) ≡ false → (v : Uri) → IsServedUri target v → ⊥
not_served target u a other v h = let same = same_form target u v a h.spells in let yes = h.form in cc

pub no_file : (target : List ℕ) (u : Uri) → IsServedUri target u → (IsFilePath (uri_path u) → ⊥) → (name query : List ℕ)
    → Names target name query → ⊥
no_file target u a unfit name query h = unfit (rw (same_path target u h.uri a.spells h.is_uri.spells) h.is_path)

pub file_named : (target : List ℕ) (u : Uri) (path name query : List ℕ) → IsServedUri target u → path ≡ uri_path u
    → IsFilePath path → name ≡ file_name path → query ≡ query_text u → Names target name query
file_named target u path name query is_uri e is_path is_name is_query =
    record { uri = u; is_uri = is_uri; is_path = rw e at is_path; is_name = rw e at is_name; is_query = is_query }
