-- A backing store, as contracts see it.
use Rattle.std.specs.Prelude.{◌≡◌, ◌≢◌, ℕ, ◌+◌, ◌<◌, ◌≤◌, ◌^◌, ◌-◌, ◌⊎◌, Bool, List, [], ◌++◌, length, map, take}
use Rattle.std.specs.Prelude.{drop, min, max, slice_index, Result, Ok, Err, OnOk, OnErr, IsTrue}
use Rattle.iol_core.specs.NumberedLists.{numbered_or}
use Rattle.iol_core.specs.declared.limits.TheConstants.{MAX_FILES}

-- The bytes of each file, the number of failures, whether the store is honest, and the length that
-- it reports for each file. An honest store returns what was written to it, and only its user
-- writes it. Of any other store only its failures are known, and that it reports the same length of
-- a file until it is read or written.
pub record Disk : Type 0 where
  pub slots : List (List ℕ)
  pub failures : ℕ
  pub honest : Bool
  pub reported : List ℕ

-- files have the slots 1 to 1,024
abbrev pub IsSlot : ℕ → Type 0
IsSlot f = (0 < f) × (f ≤ MAX_FILES)

-- the bytes of a file: none past the last slot
unfoldable pub content : (slots : List (List ℕ)) → (file : ℕ) → List ℕ
content slots f = numbered_or slots f []

-- the reported length of a file: 0 past the last file
unfoldable pub length_reported : (reported : List ℕ) → (file : ℕ) → ℕ
length_reported reported f = numbered_or reported f 0

-- the lengths of files of these bytes, each at most 2^32 - 1
abbrev pub lengths_of : (slots : List (List ℕ)) → List ℕ
lengths_of slots = map (λ bytes. min (length bytes) (2 ^ 32 - 1)) slots

-- failures are counted up to here: a store that failed that often always fails
abbrev pub last_failure : ℕ
last_failure = 2 ^ 64 - 1

-- one more failure is counted
abbrev pub raised : ℕ → ℕ
raised n = min (n + 1) last_failure

-- a call that did not fail: the count does not change, and was not at its maximum
abbrev pub Succeeds : (old new : Disk) → Type 0
Succeeds old new = (new.failures ≡ old.failures) × (old.failures < last_failure)

-- a call that fails counts as one failure, and no other does
abbrev pub Counts : {E : Type 0} → (old new : Disk) → Result (Unit {0}) E → Type 0
Counts old new (Ok x) = Succeeds old new
Counts old new (Err e) = new.failures ≡ raised old.failures

-- a fact that is promised of an honest store
abbrev pub IfHonest : Disk → Type 0 → Type 0
IfHonest disk P = IsTrue disk.honest → P

-- if a store is honest, n is the length of a file, or 2^32 - 1 if that is more
abbrev pub IsHonestLength : Disk → (file n : ℕ) → Type 0
IsHonestLength disk file n = IfHonest disk (n ≡ min (length (content disk.slots file)) (2 ^ 32 - 1))

-- the store has not failed too often, and its file has the range
abbrev pub CanRead : Disk → (file at count : ℕ) → Type 0
CanRead disk file at count =
    (disk.failures < last_failure) × IsSlot file × (at + count ≤ length (content disk.slots file))

-- a read that succeeded: its range is in the file, and it returned the bytes there
pub record Reads (at : ℕ) (bytes old new : List ℕ) : Type 0 where
  pub within : at + length old ≤ length bytes
  pub read : new ≡ take (length old) (drop at bytes)

-- the bytes of all files are unchanged
pub record AllStay (old new : List (List ℕ)) : Type 0 where
  pub each : (f : ℕ) → content new f ≡ content old f

-- the bytes of all files except this one are unchanged
pub record OthersStay (file : ℕ) (old new : List (List ℕ)) : Type 0 where
  pub each : (f : ℕ) → f ≢ file → content new f ≡ content old f

-- bytes written from `at` on, over the old ones; past the end the file grows
abbrev pub overwritten : (at : ℕ) → (bytes old : List ℕ) → List ℕ
overwritten at bytes old = take at old ++ bytes ++ drop (at + length bytes) old

-- a write that succeeded: it did not begin past the end
pub record Writes (at : ℕ) (bytes old new : List ℕ) : Type 0 where
  pub begins : at ≤ length old
  pub written : new ≡ overwritten at bytes old

-- A write of n bytes from `at` on that failed: the bytes outside its range are unchanged, those inside
-- are arbitrary. The length is the old one, the range's end, or between the two.
pub record Tears (at n : ℕ) (old new : List ℕ) : Type 0 where
  pub each : (i : ℕ) → (i < at) ⊎ (at + n ≤ i) → slice_index new i ≡ slice_index old i
  pub no_shorter : length old ≤ length new
  pub no_longer : length new ≤ max (length old) (at + n)

-- A call reads a file from `at` on, into bytes that were `was` and are `now`. It counts as `Counts` says, succeeds only
-- if the file has a slot, and does not change whether the store is honest. An honest store keeps its bytes, and if the
-- call succeeded, `now` are those of the range, which is in the file.
pub record ReadsAt {E : Type 0} (file at : ℕ) (old new : Disk) (was now : List ℕ)
    (r : Result (Unit {0}) E) : Type 0 where
  pub honest : new.honest ≡ old.honest
  pub counts : Counts old new r
  pub slot : OnOk r (IsSlot file)
  pub slots : IfHonest old (new.slots ≡ old.slots)
  pub read : IfHonest old (OnOk r (Reads at (content old.slots file) was now))

-- A call writes bytes to a file from `at` on. It counts as `Counts` says, succeeds only if the file has a slot, and
-- does not change whether the store is honest. In an honest store all other files keep their bytes. This one has the
-- new bytes over its own if the call succeeded, which then did not begin past its end; if the call failed, it is as
-- `Tears` says.
pub record WritesAt {E : Type 0} (file at : ℕ) (bytes : List ℕ) (old new : Disk)
    (r : Result (Unit {0}) E) : Type 0 where
  pub honest : new.honest ≡ old.honest
  pub counts : Counts old new r
  pub slot : OnOk r (IsSlot file)
  pub others : IfHonest old (OthersStay file old.slots new.slots)
  pub written : IfHonest old
      (OnOk r (Writes at bytes (content old.slots file) (content new.slots file)))
  pub torn : IfHonest old
      (OnErr r (Tears at (length bytes) (content old.slots file) (content new.slots file)))
