-- Lists of bytes, as vectors have them.
use Rattle.std.specs.Prelude.{◌≡◌, ℕ, ◌+◌, ◌<◌, ◌≤◌, List, ◌++◌, length, map, Result, IsOk, OnOk, OnErr}
use Rattle.std.specs.Global.{Vec}
use Rattle.iol_core.specs.declared.limits.TheConstants.{MAX_FILES}
use Rattle.iol_back.specs.Disk.{AllStay, IsSlot, OthersStay, content, overwritten}

abbrev pub items_of : List (Vec ℕ) → List (List ℕ)
items_of lists = map (λ v. v.items) lists

-- Bytes are written over those of a list from `at` on. An error changes nothing. If the list need not grow
-- there is no error.
pub record Overwrites {E : Type 0} (at : ℕ) (bytes old new : List ℕ)
    (r : Result (Unit {0}) E) : Type 0 where
  pub written : OnOk r (new ≡ overwritten at bytes old)
  pub err : OnErr r (new ≡ old)
  pub inside : at + length bytes ≤ length old → IsOk r

-- Bytes are written over those of a file from `at` on, as `Overwrites` says, and all other files keep their bytes.
pub record OverwritesFile {E : Type 0} (file at : ℕ) (bytes : List ℕ) (old new : List (List ℕ))
    (r : Result (Unit {0}) E) : Type 0 where
  pub this : Overwrites at bytes (content old file) (content new file) r
  pub others : OthersStay file old new

-- Bytes are written over those of a file from `at` on, for files that are vectors, as `OverwritesFile` says of their
-- items.
abbrev pub OverwritesList : {E : Type 0} → (file at : ℕ) → (bytes : List ℕ) → (old new : List (Vec ℕ))
    → Result (Unit {0}) E
    → Type 0
OverwritesList file at bytes old new r = OverwritesFile file at bytes (items_of old) (items_of new) r

-- At least one byte may be written over those of a file from `at` on: it has a slot, `at` is at most its length, and
-- there are no more lists than slots.
pub record MayOverwrite (file at : ℕ) (bytes : List ℕ) (lists : List (Vec ℕ)) : Type 0 where
  pub slot : IsSlot file
  pub few : length lists ≤ MAX_FILES
  pub begins : at ≤ length (content (items_of lists) file)
  pub some : 0 < length bytes

-- Empty lists are added until there is one with this number. If there is one already there is no error.
pub record Reaches {E : Type 0} (number : ℕ) (old new : List (Vec ℕ))
    (r : Result (Unit {0}) E) : Type 0 where
  pub stay : AllStay (items_of old) (items_of new)
  pub there : OnOk r (number ≤ length new)
  pub few : length new ≤ MAX_FILES
  pub already : number ≤ length old → IsOk r

-- Bytes are appended to a file. An error changes nothing. Appending no bytes needs no memory.
pub record Appends {E : Type 0} (file : ℕ) (bytes : List ℕ) (old new : List (List ℕ))
    (r : Result (Unit {0}) E) : Type 0 where
  pub appended : OnOk r (content new file ≡ content old file ++ bytes)
  pub others : OthersStay file old new
  pub err : OnErr r (content new file ≡ content old file)
  pub nothing : length bytes ≡ 0 → IsOk r
