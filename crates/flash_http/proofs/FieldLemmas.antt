-- Lemmas on the fields of a head.
use Rattle.std.proofs.Common.{◌≡◌, ℕ, Bool, List, map, rules}
use Rattle.std.specs.Prelude.{◌↔◌, IsTrue}
use Rattle.std.specs.Char.{to_ascii_lowercase}
use Rattle.std.specs.Str.{str_eq_ignore_ascii_case}
use Rattle.std.proofs.lemmas.Slice.Eq.{bytes_eq-Decides}

pub same_in_any_case : (a b : List ℕ) (r : Bool) → (IsTrue r ↔ (map to_ascii_lowercase a ≡ map to_ascii_lowercase b))
    → r ≡ str_eq_ignore_ascii_case a b
same_in_any_case a b r h = search (rules, bytes_eq-Decides)
