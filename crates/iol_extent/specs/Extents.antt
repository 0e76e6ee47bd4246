-- The extents of a file: in memory, between gaps that only the store has.
use Rattle.std.specs.Prelude.{◌≡◌, ℕ, ◌+◌, ◌-◌, ◌<◌, ◌≤◌, ◌&&◌, nat_lt, nat_le, max, Bool, true, false, if◌then◌else◌}
use Rattle.std.specs.List.{AllByRecursion}
use Rattle.std.specs.Prelude.{sum_by, List, [], ◌∷◌, Option, Some, None, slice_index_or, slice_set, ◌==◌, Result}
use Rattle.std.specs.Prelude.{OnOk, OnErr, IfSome, MatchOption, IsTrue, IsFalse, ⊤}
use Rattle.std.specs.Borrow.{Bor}
use Rattle.iol_hold.specs.declared.slices.Slice.{Slice}
use Rattle.iol_hold.specs.Places.{Place, places, byte_len}

-- the place of a byte that no extent covers
abbrev pub no_place : Place
no_place = record { pool = 0; buf = record { page = 0; generation = 0 }; at = 0 }

-- an extent: where it begins in the file, its slices, whether it is dirty
pub record Extent : Type 0 where
  pub at : ℕ
  pub parts : List Slice
  pub dirty : Bool

-- the extents of a file in the order of offsets, and the number of extents that can be inserted without allocating
pub record ExtentMap : Type 0 where
  pub extents : List Extent
  pub room : ℕ

-- the cover of a byte of a file: a place in a buffer, and whether it is dirty
pub record Cell : Type 0 where
  pub place : Place
  pub dirty : Bool

-- The room does not decrease. There is an error only if there is less than requested, and then it is unchanged.
pub record KeepsRoom {A E : Type 0} (count old new : ℕ) (r : Result A E) : Type 0 where
  pub no_less : old ≤ new
  pub needed : OnErr r (old < count)
  pub err : OnErr r (new ≡ old)

-- room was reserved for that many more extents, and the extents are unchanged
pub record Reserves {A E : Type 0} (count : ℕ) (old new : ExtentMap) (r : Result A E) : Type 0 where
  pub room : OnOk r (count ≤ new.room)
  pub same : new ≡ record old { room = new.room }
  pub keeps : KeepsRoom count old.room new.room r

abbrev pub extent_of : (at : ℕ) → (parts : List Slice) → (dirty : Bool) → Extent
extent_of at parts dirty = record { at = at; parts = parts; dirty = dirty }

abbrev pub end_of : Extent → ℕ
end_of e = e.at + byte_len e.parts

abbrev pub is_over : Extent → ℕ → Bool
is_over e i = nat_le e.at i && nat_lt i (end_of e)

abbrev pub cell_at : Extent → ℕ → Cell
cell_at e i =
    record { place = slice_index_or (places e.parts) (i - e.at) no_place; dirty = e.dirty }

-- an extent as `over` returns it, and its cell at byte i
abbrev pub extent_in : ℕ × Bor (List Slice) × Bool → Extent
extent_in found = extent_of found.0 found.1.now found.2

abbrev pub cell_in : ℕ × Bor (List Slice) × Bool → ℕ → Cell
cell_in found i = cell_at (extent_in found) i

-- the cover of byte i
abbrev pub cover : List Extent → ℕ → Option Cell
cover [] i = None
cover (e ∷ es) i = if is_over e i then Some (cell_at e i) else cover es i

-- the extent over byte i
abbrev pub extent_over : List Extent → ℕ → Option Extent
extent_over [] i = None
extent_over (e ∷ es) i = if is_over e i then Some e else extent_over es i

-- `over` finds the extent over byte i, if there is one
abbrev pub IsExtentOver : List Extent → (i : ℕ) → (found : Option (ℕ × Bor (List Slice) × Bool)) → Type 0
IsExtentOver es i found = MatchOption found (extent_over es i ≡ None) (λ x. extent_over es i ≡ Some (extent_in x))

-- `over` finds the cover of byte i, if there is one
abbrev pub HasCellOver : List Extent → (i : ℕ) → (found : Option (ℕ × Bor (List Slice) × Bool)) → Type 0
HasCellOver es i found = MatchOption found (cover es i ≡ None) (λ x. cover es i ≡ Some (cell_in x i))

-- the extents are in order from `low` on, and none is empty
abbrev pub IsApart : ℕ → List Extent → Type 0
IsApart low [] = ⊤
IsApart low (e ∷ es) = (low ≤ e.at) × (0 < byte_len e.parts) × IsApart (end_of e) es

-- the greatest end of an extent, or 0
abbrev pub last_end : List Extent → ℕ
last_end [] = 0
last_end (e ∷ es) = max (end_of e) (last_end es)

-- no extent covers a byte of from..to
pub record IsGap (es : List Extent) (from to : ℕ) : Type 0 where
  pub each : (i : ℕ) → from ≤ i → i < to → cover es i ≡ None

-- es' has the extents of es, and this one in addition
pub record Adds (es : List Extent) (e : Extent) (es' : List Extent) : Type 0 where
  pub each : (i : ℕ) → cover es' i ≡ (if is_over e i then Some (cell_at e i) else cover es i)

-- es' lacks the extent of es
pub record Lacks (es : List Extent) (e : Extent) (es' : List Extent) : Type 0 where
  pub some : 0 < byte_len e.parts
  pub adds : Adds es' e es
  pub gap : (i : ℕ) → IsTrue (is_over e i) → cover es' i ≡ None

-- the extent that begins at a place
abbrev pub begins_at : List Extent → ℕ → Option Extent
begins_at [] at = None
begins_at (e ∷ es) at = if e.at == at then Some e else begins_at es at

-- es' lacks the extent of es that begins at a place
abbrev pub LacksAt : List Extent → (at : ℕ) → List Extent → Type 0
LacksAt es at es' = IfSome (begins_at es at) (λ e. Lacks es e es')

-- the greatest end of es is the later of two: the end of its extent that begins at a place, and the greatest end of es'
abbrev pub EndsAtLater : List Extent → (at : ℕ) → List Extent → Type 0
EndsAtLater es at es' = IfSome (begins_at es at) (λ e. last_end es ≡ max (end_of e) (last_end es'))

-- the first extent that is dirty
abbrev pub dirty_in : List Extent → Option Extent
dirty_in [] = None
dirty_in (e ∷ es) = if e.dirty then Some e else dirty_in es

abbrev pub one_dirty : Extent → ℕ
one_dirty e = if e.dirty then 1 else 0

-- no extent that begins before the place is dirty
abbrev pub AreCleanBefore : (place : ℕ) → List Extent → Type 0
AreCleanBefore place es = AllByRecursion (λ (e : Extent). e.at < place → IsFalse e.dirty) es

-- where the first dirty extent begins, and its slices, if one is dirty
abbrev pub FindsDirty : List Extent → (found : Option (ℕ × Bor (List Slice))) → Type 0
FindsDirty es found = MatchOption found (dirty_in es ≡ None) (λ x. dirty_in es ≡ Some (extent_of x.0 x.1.now true))

-- the first dirty extent begins at `at`
pub record IsFirstDirty (es : List Extent) (at : ℕ) : Type 0 where
  pub extent : Extent
  pub is : dirty_in es ≡ Some extent
  pub begins : extent.at ≡ at

abbrev pub as_clean : Extent → Extent
as_clean e = extent_of e.at e.parts false

-- the extent at an index of the list became clean, and nothing else changed
abbrev pub CleansPlace : (place : ℕ) → (old new : List Extent) → Type 0
CleansPlace place old new = (d : Extent) → new ≡ slice_set old place (as_clean (slice_index_or old place d))

-- the extent that begins at a place is clean
abbrev pub cleaned_at : List Extent → (at : ℕ) → List Extent
cleaned_at [] at = []
cleaned_at (e ∷ es) at = if e.at == at then as_clean e ∷ es else e ∷ cleaned_at es at

-- the number of dirty extents
abbrev pub dirty_count : List Extent → ℕ
dirty_count es = sum_by one_dirty es

-- the extents with one more, in the order of places
abbrev pub put_in : List Extent → Extent → List Extent
put_in [] e = e ∷ []
put_in (x ∷ xs) e = if nat_lt e.at x.at then e ∷ x ∷ xs else x ∷ put_in xs e

-- the extents without the one that begins at a place
abbrev pub without_at : List Extent → (at : ℕ) → List Extent
without_at [] at = []
without_at (x ∷ xs) at = if x.at == at then xs else x ∷ without_at xs at

-- whether the extent has a byte of from..to; if `from` is `to`, whether it has a byte before it and one from there on
abbrev pub meets : (from to : ℕ) → Extent → Bool
meets from to e = nat_lt e.at to && nat_lt from (end_of e)

-- the first extent that meets from..to
abbrev pub met_in : List Extent → (from to : ℕ) → Option Extent
met_in [] from to = None
met_in (e ∷ es) from to = if meets from to e then Some e else met_in es from to

-- the extents that do not meet from..to
abbrev pub unmet : List Extent → (from to : ℕ) → List Extent
unmet [] from to = []
unmet (e ∷ es) from to = if meets from to e then unmet es from to else e ∷ unmet es from to

-- the first extent that meets from..to begins at `at`
pub record IsFirstMet (es : List Extent) (from to at : ℕ) : Type 0 where
  pub extent : Extent
  pub is : met_in es from to ≡ Some extent
  pub begins : extent.at ≡ at

-- where the first extent begins that meets from..to, if one does
abbrev pub FindsMet : List Extent → (from to : ℕ) → (found : Option ℕ) → Type 0
FindsMet es from to found = MatchOption found (met_in es from to ≡ None) (IsFirstMet es from to)
