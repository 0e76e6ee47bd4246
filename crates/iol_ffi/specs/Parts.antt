-- The parts of an aggregate, borrowed in place by C.
use Rattle.std.specs.Prelude.{◌≡◌, ◌⊎◌, ◌+◌, ◌-◌, ◌<◌, ◌≤◌, ℕ, List, length, map, min, slice_get, slice_set, Option}
use Rattle.std.specs.Prelude.{None, Some, Result, Ok, Err}
use Rattle.std.specs.List.{concat}
use Rattle.iol_core.specs.declared.refusals.Refusal.{Refusal}
use Rattle.iol_hold.specs.Prelude.{Located}
use Rattle.iol_kernel.specs.KernelState.{KernelState}
use Rattle.iol_system.specs.LentBytes.{LocatesParts}
use Rattle.iol_ffi.specs.Replies.{IsDone, IsRefusal}
use Rattle.iol_ffi.specs.declared.Machine.{Machine}
use Rattle.iol_ffi.specs.declared.borrowed.IolPart.{IolPart}
use Rattle.iol_ffi.specs.declared.replies.IolReply.{IolReply}

-- the bytes of all parts, one part after another
abbrev pub all_bytes : (parts : List Located) → List ℕ
all_bytes parts = concat (map (λ (p : Located). p.bytes) parts)

-- C gets the number of all parts, and of all their bytes, each at most 2^64 - 1
abbrev pub AreCounted : (parts : List Located) → IolReply → Type 0
AreCounted parts r =
    IsDone r (min (length parts) 18446744073709551615) (min (length (all_bytes parts)) 18446744073709551615)

-- place i gets the address of the part and the number of its bytes, or there is no such place
abbrev pub PlacesPart : Located → (i : ℕ) → (old new : List IolPart) → Type 0
PlacesPart p i old new = ((length old ≤ i) × (new ≡ old))
    ⊎ ((x : IolPart) × (i < length old) × (x.at ≡ p.at) × (x.len ≡ length p.bytes) × (new ≡ slice_set old i x))

-- Place n - skip gets the address of the part and the number of its bytes, or there is no such place. No place is for a
-- number below `skip`, and none for 2^64 - 1.
abbrev pub WritesPart : Located → (n skip : ℕ) → (old new : List IolPart) → Type 0
WritesPart p n skip old new = ((n < skip) × (new ≡ old)) ⊎ (((18446744073709551615 ≤ n) × (new ≡ old))
    ⊎ ((skip ≤ n) × (n < 18446744073709551615) × PlacesPart p (n - skip) old new))

-- the address of the part, and the number of its bytes
pub record IsPart (p : Located) (x : IolPart) : Type 0 where
  pub at : x.at ≡ p.at
  pub len : x.len ≡ length p.bytes

abbrev pub HasPart : Located → Option IolPart → Type 0
HasPart p (Some x) = IsPart p x
HasPart p None = ⊥

-- Place i of `room` gets part skip + i, as far as there are places and parts with numbers below k. The other places
-- stay.
pub record WritesBelow (k : ℕ) (parts : List Located) (skip : ℕ) (old new : List IolPart) : Type 0 where
  pub len : length new ≡ length old
  pub written : (i : ℕ) (p : Located) → i < length old → skip + i < k → slice_get parts (skip + i) ≡ Some p
      → HasPart p (slice_get new i)
  pub kept : (i : ℕ) → k ≤ skip + i → slice_get new i ≡ slice_get old i

-- likewise for all parts, of which at most 2^64 - 1 are counted
abbrev pub WritesParts : (parts : List Located) → (skip : ℕ) → (old new : List IolPart) → Type 0
WritesParts parts skip old new = WritesBelow (min (length parts) 18446744073709551615) parts skip old new

-- C gets the parts from number `skip` on and their counts, or a refusal
abbrev pub IsBorrowed : Result (List Located) Refusal → (skip : ℕ) → IolReply → (old new : List IolPart) → Type 0
IsBorrowed (Ok parts) skip r old new = AreCounted parts r × WritesParts parts skip old new
IsBorrowed (Err why) skip r old new = IsRefusal why r × (new ≡ old)

-- C borrows a domain's aggregate in parts, each at its address in the arena, or is refused exactly when `show` is
pub record Borrows (by agg skip : ℕ) (h : KernelState) (r : IolReply) (old new : List IolPart) : Type 0 where
  pub parts : Result (List Located) Refusal
  pub lends : LocatesParts h by agg parts
  pub borrowed : IsBorrowed parts skip r old new

-- likewise for the machine in a handle
abbrev pub BorrowsTo : (by agg skip : ℕ) → Option Machine → IolReply → (old new : List IolPart) → Type 0
BorrowsTo by agg skip (Some m) r old new = Borrows by agg skip m.system.kernel r old new
BorrowsTo by agg skip o r old new = ⊥
