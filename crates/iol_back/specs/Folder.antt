-- A folder as a store.
use Rattle.std.specs.Prelude.{◌≡◌, ◌≢◌, ℕ, ◌<◌, ◌≤◌, List, [], false, length, All, AllPairs}
use Rattle.std.specs.Cmp.Lexicographic.{slice_cmp}
use Rattle.std.specs.Ordering.{nat_cmp}
use Rattle.std.specs.declared.cmp.Ordering.TheVariants.{Less}
use Rattle.iol_core.specs.declared.limits.TheConstants.{MAX_FILES, MAX_NAME_BYTES}
use Rattle.iol_back.specs.Disk.{Disk}

-- a name that a file may have
abbrev pub IsSized : List ℕ → Type 0
IsSized name = (1 ≤ length name) × (length name ≤ MAX_NAME_BYTES)

-- In byte order, the first is before the second: at the first byte in which they differ it has the
-- lesser one, or it is the beginning of the second.
abbrev pub Precedes : (first second : List ℕ) → Type 0
Precedes first second = slice_cmp nat_cmp first second ≡ Less

-- each name is before all later ones
abbrev pub AreRising : List (List ℕ) → Type 0
AreRising names = AllPairs Precedes names

-- no two names are the same
abbrev pub AreDistinct : List (List ℕ) → Type 0
AreDistinct names = AllPairs (λ first second. first ≢ second) names

-- a file of this name may be added after those of these names
pub record MayFollow (names : List (List ℕ)) (name : List ℕ) : Type 0 where
  pub room : length names < MAX_FILES
  pub sized : IsSized name
  pub last : All (λ other. Precedes other name) names

-- the names of the files of a folder, that of slot 1 first
pub record AreNames (names : List (List ℕ)) : Type 0 where
  pub few : length names ≤ MAX_FILES
  pub sized : All IsSized names
  pub rising : AreRising names

-- the names of the files of a folder, and their last seen lengths
pub record Listed : Type 0 where
  pub names : List (List ℕ)
  pub lengths : List ℕ

-- the names of files, and one length for each
pub record AreListed (names : List (List ℕ)) (lengths : List ℕ) : Type 0 where
  pub is : AreNames names
  pub count : length lengths ≡ length names

-- The names of the files, their reported lengths, and the number of failures.
pub record Folder : Type 0 where
  pub names : List (List ℕ)
  pub lengths : List ℕ
  pub failures : ℕ

-- As a store: nothing is known about the files' bytes, and it is not honest, because others write
-- the files too.
abbrev pub disk_of : Folder → Disk
disk_of f = record { slots = []; failures = f.failures; honest = false; reported = f.lengths }
