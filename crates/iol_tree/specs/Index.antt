-- The files below a folder, as an index lists them.
use Rattle.std.specs.Prelude.{◌≡◌, ℕ, ◌+◌, ◌-◌, ◌^◌, List, [], ◌∷◌, ◌++◌, ◌==◌, ◌≤◌, ◌⊎◌, if◌then◌else◌, Bool, ℤ, All, Contains, codes, length, map, min, take}
use Rattle.std.specs.List.{zip}
use Rattle.std.specs.Ordering.{int_cmp, is_lt, ordering_then}
use Rattle.iol_tree.specs.declared.stamp.Stamp.{Stamp}

-- The path of the folder, the names of the files, one stamp for each, and the number of entries that are not listed.
pub record IndexedFiles : Type 0 where
  pub root : List ℕ
  pub names : List (List ℕ)
  pub stamps : List Stamp
  pub skipped : ℕ

-- the lengths of the files
abbrev pub file_lengths : IndexedFiles → List ℕ
file_lengths files = map (λ s. s.length) files.stamps

-- a path below another; either may be empty
abbrev pub path_below : (above below : List ℕ) → List ℕ
path_below above below =
    if length above == 0 then below else (if length below == 0 then above else above ++ codes "/" ++ below)

-- the paths of the files: each file is below the folder
abbrev pub file_paths : IndexedFiles → List (List ℕ)
file_paths files = map (λ name. path_below files.root name) files.names

-- two indices have the same files, with the same stamps
abbrev pub HaveSameFiles : (one other : IndexedFiles) → Type 0
HaveSameFiles one other = (one.names ≡ other.names) × (one.stamps ≡ other.stamps)

-- A time is before another. Times are seconds, and nanoseconds within the second.
abbrev pub is_before : (one other : ℤ × ℤ) → Bool
is_before one other = is_lt (ordering_then (int_cmp one.0 other.0) (int_cmp one.1 other.1))

-- counts are raised up to 2^64 - 1
abbrev pub raised_by : (n more : ℕ) → ℕ
raised_by n more = min (n + more) (2 ^ 64 - 1)

-- no files
abbrev pub no_files : (root : List ℕ) → (skipped : ℕ) → IndexedFiles
no_files root skipped = record { root = root; names = []; stamps = []; skipped = skipped }

-- the index with one more file, as the last
abbrev pub with_file : IndexedFiles → List ℕ → Stamp → IndexedFiles
with_file files name stamp =
    record files { names = files.names ++ name ∷ []; stamps = files.stamps ++ stamp ∷ [] }

-- the index with one more entry that is not listed
abbrev pub with_skipped : IndexedFiles → IndexedFiles
with_skipped files = record files { skipped = raised_by files.skipped 1 }

-- a file of this name was added as the last one, and nothing else has changed
pub record Adds (name : List ℕ) (old new : IndexedFiles) : Type 0 where
  pub root : new.root ≡ old.root
  pub names : new.names ≡ old.names ++ name ∷ []
  pub stamps : take (length old.stamps) new.stamps ≡ old.stamps
  pub skipped : new.skipped ≡ old.skipped

-- the file was added, or counts as an entry that is not listed
abbrev pub AddsOrSkips : (name : List ℕ) (old new : IndexedFiles) → Type 0
AddsOrSkips name old new = Adds name old new ⊎ (new ≡ with_skipped old)

-- Some files were added as the last ones, and the others of n files count as entries that are not listed.
pub record ListsOrCounts (n : ℕ) (old new : IndexedFiles) : Type 0 where
  pub root : new.root ≡ old.root
  pub names : take (length old.names) new.names ≡ old.names
  pub few : length new.names ≤ length old.names + n
  pub skipped : new.skipped ≡ raised_by old.skipped (n - (length new.names - length old.names))

-- An index of the same folder with some of the files of another, with their names and stamps. All others count as
-- entries that are not listed.
pub record IsPartOf (all some : IndexedFiles) : Type 0 where
  pub root : some.root ≡ all.root
  pub files : All (λ file. Contains (zip all.names all.stamps) file) (zip some.names some.stamps)
  pub skipped : some.skipped ≡ raised_by all.skipped (length all.names - length some.names)
