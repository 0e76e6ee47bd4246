-- Invariant of positions: each descriptor on a file refers to an existing file, at a position of at most its length.
use Rattle.std.specs.Prelude.{◌≡◌, ℕ, ◌≤◌, length, Some, IsTrue}
use Rattle.iol_core.specs.NumberedLists.{is_numbered}
use Rattle.iol_core.specs.State.{State, descriptor, content}
use Rattle.iol_core.specs.declared.descriptors.Descriptor.TheVariants as on
use Rattle.iol_core.specs.declared.descriptors.Mode.{Mode}
use Rattle.iol_core.specs.declared.limits.TheConstants.{MAX_FILES}

-- a position in a file
abbrev pub IsPlace : State → (f at : ℕ) → Type 0
IsPlace s f at = IsTrue (is_numbered s.files f) × (at ≤ length (content s f))

-- each file has a slot, and the position of each descriptor is within its file
pub record ArePlaced (s : State) : Type 0 where
  pub slots : MAX_FILES ≤ length s.slots
  pub few : length s.files ≤ MAX_FILES
  pub each : (d fd f at : ℕ) (mode : Mode) → descriptor s d fd ≡ Some (on.File f at mode) → IsPlace s f at
