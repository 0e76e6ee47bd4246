-- Entries under rising numbers, some of which are holes.
use Rattle.std.specs.Prelude.{◌≡◌, ℕ, ◌+◌, ◌-◌, ◌<◌, ◌≤◌, ◌^◌, Bool, true, false, List, [], ◌∷◌, ◌++◌, length, Option}
use Rattle.std.specs.Prelude.{Some, None, slice_set, vec_len, vec_capacity, Result, OnOk, OnErr}
use Rattle.std.specs.Global.{Vec}
use Rattle.iol_core.specs.NumberedLists.{lookup, without}
use Rattle.iol_desc.specs.Tables.{exchanged, place_in}

-- the entries that are not holes
abbrev pub there : {A : Type 0} → List (ℕ × Option A) → List (ℕ × A)
there [] = []
there ((n, None) ∷ es) = there es
there ((n, Some x) ∷ es) = (n, x) ∷ there es

-- the numbers rise, and are at least one number and below another
abbrev pub Rises : {X : Type 0} → (from : ℕ) → List (ℕ × X) → (to : ℕ) → Type 0
Rises from [] to = from ≤ to
Rises from (e ∷ es) to = (from ≤ e.0) × Rises (e.0 + 1) es to

pub record IsRising {X : Type 0} (es : List (ℕ × X)) : Type 0 where
  pub reported : (to : ℕ) × Rises 0 es to

-- a list with that many holes, whose numbers are below the next
pub record IsListed {A : Type 0} (holes next : ℕ) (es : List (ℕ × Option A)) : Type 0 where
  pub rises : Rises 0 es next
  pub count : holes + length (there es) ≡ length es

-- entries, the number of the next one, and the number of entries that can be added without allocating
pub record Listed (A : Type 0) : Type 0 where
  pub entries : List (ℕ × A)
  pub next : ℕ
  pub room : ℕ

-- whether the last of `old` was a hole, and the list without it
abbrev pub DropsHole : {A : Type 0} → (is_hole : Bool) → (old new : List (ℕ × Option A)) → Type 0
DropsHole true old new = (n : ℕ) × (old ≡ new ++ (n, None) ∷ [])
DropsHole false old new = new ≡ old

-- The value of a number is replaced.
pub record Replaces {A : Type 0} (old new : Vec (ℕ × Option A)) (n : ℕ) (other : Option A) (x : A) : Type 0 where
  pub given : Some x ≡ lookup (there old.items) n
  pub items : new.items ≡ slice_set old.items (place_in old.items n) (n, other)
  pub room : vec_capacity old - vec_len old ≤ vec_capacity new - vec_len new

-- The entries and the next number are unchanged, and there is no less room. On success there is room for that many
-- more. It is refused only if there was room for fewer.
pub record ReservesEntries {A V E : Type 0} (old new : Listed A) (count : ℕ) (r : Result V E) : Type 0 where
  pub entries : new.entries ≡ old.entries
  pub next : new.next ≡ old.next
  pub room : OnOk r (count ≤ new.room)
  pub no_less : old.room ≤ new.room
  pub needed : OnErr r (old.room < count)

-- The value was added under the next number: n.
pub record AddsEntry {A : Type 0} (old new : Listed A) (x : A) (n : ℕ) : Type 0 where
  pub number : n ≡ old.next
  pub entries : new.entries ≡ old.entries ++ (old.next, x) ∷ []
  pub next : new.next ≡ old.next + 1
  pub short : length new.entries < 2 ^ 64
  pub room : old.room ≤ new.room + 1

-- The value of number n was taken.
pub record TakesEntry {A : Type 0} (old new : Listed A) (n : ℕ) (x : A) : Type 0 where
  pub given : Some x ≡ lookup old.entries n
  pub entries : new.entries ≡ without old.entries n
  pub next : new.next ≡ old.next
  pub room : old.room ≤ new.room

-- The value of number n was exchanged for another.
pub record SwapsEntry {A : Type 0} (old new : Listed A) (n : ℕ) (other x : A) : Type 0 where
  pub given : Some x ≡ lookup old.entries n
  pub entries : new.entries ≡ exchanged old.entries n other
  pub next : new.next ≡ old.next
  pub room : old.room ≤ new.room
