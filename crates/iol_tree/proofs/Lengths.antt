-- The lengths in stamps.
use Rattle.std.proofs.Common.{◌≡◌, ◌∙◌, ℕ, List, Some, ap, map, slice_get, option_map}
use Rattle.std.proofs.lemmas.Option.{slice_get-map}
use Rattle.iol_tree.specs.declared.stamp.Stamp.{Stamp}

-- the length of a file by its stamp
pub length_at : (stamps : List Stamp) (k : ℕ) (s : Stamp) → slice_get stamps k ≡ Some s
    → slice_get (map (λ t. t.length) stamps) k ≡ Some s.length
length_at stamps k s is = slice_get-map (λ t. t.length) stamps k ∙ ap (option_map (λ t. t.length)) is
