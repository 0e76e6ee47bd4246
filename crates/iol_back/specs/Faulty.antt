-- A store whose k-th call fails, over another.
use Rattle.std.specs.Prelude.{◌≡◌, ◌≢◌, ℕ, ◌-◌, ◌/◌, ◌<◌, List, length, take, Result, IsErr}
use Rattle.iol_back.specs.Disk.{Disk, Counts, IfHonest, ReadsAt, Succeeds, Writes, WritesAt, content, last_failure}
use Rattle.iol_back.specs.declared.faulty.FaultyBacking.{FaultyBacking}

-- the store below
abbrev pub inner_of : {B : Type 0} → FaultyBacking B → B
inner_of f = f.inner

-- which of the next calls fails: with 1 the next one, with 0 none
abbrev pub calls_to_fault : {B : Type 0} → FaultyBacking B → ℕ
calls_to_fault f = f.left

-- As a store: the bytes, the honesty and the lengths of the store below, and its own failures, which include each call
-- that failed below. Earlier failures of the store below are not counted.
abbrev pub disk_over : {B : Type 0} → (B → Disk) → FaultyBacking B → Disk
disk_over disk f =
    record {
      slots = (disk f.inner).slots;
      failures = f.failed;
      honest = (disk f.inner).honest;
      reported =
          (disk f.inner).reported;
    }

-- The countdown to the failing call decreases by one. The failing call fails; any other fails if the store below
-- fails. Once this store has failed too often, it no longer calls the store below.
pub record CountsDown {B E : Type 0} (disk : B → Disk) (old new : FaultyBacking B)
    (r : Result (Unit {0}) E) : Type 0 where
  pub calls : calls_to_fault new ≡ calls_to_fault old - 1
  pub due : calls_to_fault old ≡ 1 → IsErr r
  pub passed : calls_to_fault old ≢ 1 → (disk_over disk old).failures < last_failure
      → Counts (disk (inner_of old)) (disk (inner_of new)) r
  pub worn : calls_to_fault old ≢ 1 → (disk_over disk old).failures ≡ last_failure
      → inner_of new ≡ inner_of old

-- A call reads a file of a store over another, as `ReadsAt` says of any store.
abbrev pub ReadsFaulty : {B E : Type 0} → (B → Disk) → (file at : ℕ) → (old new : FaultyBacking B) → (was now : List ℕ)
    → Result (Unit {0}) E → Type 0
ReadsFaulty disk file at old new was now r = ReadsAt file at (disk_over disk old) (disk_over disk new) was now r

-- A call writes to a file of a store over another, as `WritesAt` says of any store.
abbrev pub WritesFaulty : {B E : Type 0} → (B → Disk) → (file at : ℕ) → (bytes : List ℕ) → (old new : FaultyBacking B)
    → Result (Unit {0}) E → Type 0
WritesFaulty disk file at bytes old new r = WritesAt file at bytes (disk_over disk old) (disk_over disk new) r

-- the first half of bytes, rounded down
abbrev pub first_half : List ℕ → List ℕ
first_half bytes = take (length bytes / 2) bytes

-- The failing write writes the first half of its bytes to the store below, if that is honest and does not fail.
abbrev pub WritesHalf : {B : Type 0} → (B → Disk) → (file at : ℕ) → (bytes : List ℕ) → (old new : FaultyBacking B)
    → Type 0
WritesHalf disk file at bytes old new =
    calls_to_fault old ≡ 1 → Succeeds (disk (inner_of old)) (disk (inner_of new))
    → IfHonest (disk (inner_of old))
    (Writes at (first_half bytes) (content (disk (inner_of old)).slots file) (content (disk (inner_of new)).slots file))
