-- Files by name, and the effect of opening one.
use Rattle.std.specs.Prelude.{◌≡◌, ◌==◌, ℕ, ◌+◌, ◌++◌, ◌∷◌, List, [], map, nat_eq, bytes_eq, Option, option_map}
use Rattle.std.specs.Prelude.{position}
use Rattle.std.specs.List.{list_any}
use Rattle.std.specs.Global.{Vec}
use Rattle.iol_core.specs.Calls.Descriptors.{next_fd, opened}
use Rattle.iol_core.specs.Meaning.{Meaning, WantOfMemory}
use Rattle.iol_core.specs.State as machine
use Rattle.iol_core.specs.State.{State}
use Rattle.iol_core.specs.declared.descriptors.Descriptor.{Descriptor}

-- the files by slot, and the number of files that can be added without a request for memory
pub record NamedFiles : Type 0 where
  pub files : List machine.File
  pub room : ℕ

-- a file by its name and pool
abbrev pub file_of : Vec ℕ × ℕ → machine.File
file_of e = record { name = e.0.items; pool = e.1 }

abbrev pub files_of : List (Vec ℕ × ℕ) → List machine.File
files_of es = map file_of es

-- the slot of the first file of this name
abbrev pub slot_called : List machine.File → (name : List ℕ) → Option ℕ
slot_called files name = option_map (λ i. i + 1) (position (λ f. bytes_eq f.name name) files)

-- with a file of this name and pool in the next slot
abbrev pub with_named : List machine.File → (name : List ℕ) → (pool : ℕ) → List machine.File
with_named files name pool = files ++ record { name = name; pool = pool } ∷ []

-- these are the numbers of the files' pools
pub record AreUsed (files : List machine.File) (used : List ℕ) : Type 0 where
  pub each : (p : ℕ) → list_any (nat_eq p) used ≡ list_any (λ f. f.pool == p) files

-- x is open as the domain's next descriptor; the only refusal is for lack of memory
abbrev pub opens : State → (d : ℕ) → Descriptor → Meaning ℕ
opens s d x = record { refusals = []; Late = WantOfMemory; answer = next_fd s d; after = opened s d x }
