-- Connections of a pool, in a list with holes.
use Rattle.std.proofs.Common.{◌≡◌, ℕ, ◌==◌, ◌||◌, List, [], ◌∷◌, ap, refl, Option, Some, None}
use Rattle.std.specs.List.{list_any}
use Rattle.iol_hold.specs.declared.slices.Slice.{Slice}
use Rattle.iol_desc.specs.EntryLists.{there}
use Rattle.iol_sock.specs.Connections.{Conn}
use Rattle.iol_sock.specs.Table.{is_of}

pub any-there : (es : List (ℕ × Option (Conn (List Slice)))) (p : ℕ)
    → list_any (λ e. is_of p e.1) es ≡ list_any (λ e. e.1.pool == p) (there es)
any-there [] p = refl
any-there ((n, None) ∷ es) p = any-there es p
any-there ((n, Some x) ∷ es) p = ap (λ b. (x.pool == p) || b) (any-there es p)

pub ruleset pool_rules = (any-there)
