-- The files below a folder, as a store.
use Rattle.std.specs.Prelude.{◌≡◌, ℕ, Bool, IsFalse, true, false, List, [], length, map}
use Rattle.iol_back.specs.Disk.{Disk, content}

-- The names of the files, the lengths that they had when they were found, the number of entries that are not among them,
-- the bytes in memory, whether reads use these, and the number of failed calls to the folder.
pub record Store : Type 0 where
  pub names : List (List ℕ)
  pub lengths : List ℕ
  pub skipped : ℕ
  pub memory : Disk
  pub in_memory : Bool
  pub failures : ℕ

-- a read or a write has changed neither the files, nor where their bytes are
pub record KeepsFiles (old new : Store) : Type 0 where
  pub names : new.names ≡ old.names
  pub lengths : new.lengths ≡ old.lengths
  pub skipped : new.skipped ≡ old.skipped
  pub in_memory : new.in_memory ≡ old.in_memory

-- a fact of a store over the folder
abbrev pub IfOnDisk : Store → Type 0 → Type 0
IfOnDisk s P = IsFalse s.in_memory → P

-- the folder as a store: it is not honest, because others write the files
abbrev pub folder_disk : Store → Disk
folder_disk s = record { slots = []; failures = s.failures; honest = false; reported = s.lengths }

abbrev pub either_disk : Bool → (memory folder : Disk) → Disk
either_disk true memory folder = memory
either_disk false memory folder = folder

-- the store: that in memory, or the folder
abbrev pub disk_of : Store → Disk
disk_of s = either_disk s.in_memory s.memory (folder_disk s)

-- slots hold these bytes as the files from 1 on, and nothing as any other file
pub record HoldsBytes (contents slots : List (List ℕ)) : Type 0 where
  pub each : (f : ℕ) → content slots f ≡ content contents f

-- the bytes of files of these lengths
abbrev pub HaveLengths : (lengths : List ℕ) → (contents : List (List ℕ)) → Type 0
HaveLengths lengths contents = map length contents ≡ lengths
