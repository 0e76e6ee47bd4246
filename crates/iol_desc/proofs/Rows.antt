-- The rows of a table, seen as domains.
use Rattle.std.proofs.Common.{◌≡◌, ℕ, zero, suc, List, [], ◌∷◌, length, ap, refl, get_or}
use Rattle.std.specs.Prelude.{slice_set}
use Rattle.std.proofs.Math.ListN.{get_or-map}
use Rattle.std.proofs.lemmas.List.{map-set}
use Rattle.iol_core.specs.State.{Domain, no_domain}
use Rattle.iol_desc.specs.Tables.{Row, no_row, domains_of}

pub domains-get : {A : Type 0} (rows : List (Row A)) (n : ℕ)
    → get_or (domains_of rows) n (no_domain {A = A}) ≡ (get_or rows n (no_row {A = A})).domain
domains-get {A} rows n = get_or-map {A = Row A} {B = Domain A} (λ r. r.domain) rows n (no_row {A = A})

pub domains-set : {A : Type 0} (rows : List (Row A)) (n : ℕ) (r : Row A)
    → domains_of (slice_set rows n r) ≡ slice_set (domains_of rows) n r.domain
domains-set {A} rows n r = map-set {A = Row A} {B = Domain A} (λ r. r.domain) rows n r

pub length-domains : {A : Type 0} (rows : List (Row A)) → length (domains_of rows) ≡ length rows
length-domains [] = refl
length-domains (r ∷ rows) = ap suc (length-domains rows)

-- a row is replaced by one with the same domain
pub domains-kept : {A : Type 0} (rows : List (Row A)) (n : ℕ) (r : Row A)
    → r.domain ≡ (get_or rows n (no_row {A = A})).domain → domains_of (slice_set rows n r) ≡ domains_of rows
domains-kept [] n r same = refl
domains-kept {A} (x ∷ rows) zero r same = ap (λ (d : Domain A). d ∷ domains_of rows) same
domains-kept {A} (x ∷ rows) (suc n) r same = ap (λ (ds : List (Domain A)). x.domain ∷ ds) (domains-kept rows n r same)

pub ruleset row_rules = (domains-get, domains-set, domains-kept, length-domains)
