-- The effect of calls on a store in memory, which is honest.
use Rattle.std.specs.Prelude.{◌≡◌, ℕ, List, length, Result, IsOk, OnOk, OnErr}
use Rattle.iol_back.specs.Disk.{Disk, CanRead, Counts, IsSlot, OthersStay, Reads, Writes, content}

-- A call reads a file of a store in memory from `at` on. If it succeeds, the file has a slot, and the bytes are its
-- own. No file changes, a failed call is counted, and it fails only if the store has failed too often or has no such
-- range.
pub record ReadsMemory {E : Type 0} (file at : ℕ) (old new : Disk) (was now : List ℕ)
    (r : Result (Unit {0}) E) : Type 0 where
  pub honest : new.honest ≡ old.honest
  pub counts : Counts old new r
  pub slot : OnOk r (IsSlot file)
  pub slots : new.slots ≡ old.slots
  pub read : OnOk r (Reads at (content old.slots file) was now)
  pub succeeds : CanRead old file at (length was) → IsOk r

-- A call writes bytes to a file of a store in memory from `at` on. If it succeeds, the file has a slot, and these bytes
-- there. No other file changes, and a failed write changes no file and is counted. A write inside a file that has a
-- slot fails only if the store has failed too often.
pub record WritesMemory {E : Type 0} (file at : ℕ) (bytes : List ℕ) (old new : Disk)
    (r : Result (Unit {0}) E) : Type 0 where
  pub honest : new.honest ≡ old.honest
  pub counts : Counts old new r
  pub slot : OnOk r (IsSlot file)
  pub others : OthersStay file old.slots new.slots
  pub written : OnOk r (Writes at bytes (content old.slots file) (content new.slots file))
  pub err : OnErr r (content new.slots file ≡ content old.slots file)
  pub succeeds : CanRead old file at (length bytes) → IsOk r
