-- A walk through the folders below a folder.
use Rattle.std.specs.Prelude.{◌≡◌, ◌⊎◌, ◌++◌, ◌∷◌, [], ℕ, List, map, string_bytes}
use Rattle.iol_tree.specs.declared.walk.Walk.{Walk}
use Rattle.iol_tree.specs.Index.{raised_by}

-- the names of the files that were found
abbrev pub names_of : Walk → List (List ℕ)
names_of walk = map string_bytes walk.names.items

-- the folders that are still to be read
abbrev pub folders_of : Walk → List (List ℕ)
folders_of walk = map string_bytes walk.folders.items

-- an entry of this name is a file, which was added as the last one
pub record AddsFile (name : List ℕ) (old new : Walk) : Type 0 where
  pub names : names_of new ≡ names_of old ++ name ∷ []
  pub folders : folders_of new ≡ folders_of old
  pub skipped : new.skipped ≡ old.skipped

-- it is a folder, which is still to be read
pub record AddsFolder (name : List ℕ) (old new : Walk) : Type 0 where
  pub names : names_of new ≡ names_of old
  pub folders : folders_of new ≡ folders_of old ++ name ∷ []
  pub skipped : new.skipped ≡ old.skipped

-- it was counted as neither, and nothing else has changed
abbrev pub IsSkipped : (old new : Walk) → Type 0
IsSkipped old new = new ≡ record old { skipped = raised_by old.skipped 1 }

abbrev pub TakesEntry : (name : List ℕ) (old new : Walk) → Type 0
TakesEntry name old new = AddsFile name old new ⊎ (AddsFolder name old new ⊎ IsSkipped old new)
