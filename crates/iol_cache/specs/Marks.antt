-- How often clean extents hold each buffer, by the page at which it begins.
use Rattle.std.specs.Prelude.{◌≡◌, ℕ, ◌+◌, ◌-◌, ◌<◌, ◌≤◌, ◌^◌, Bool, true, false, nat_lt, List, [], ◌∷◌}
use Rattle.std.specs.Prelude.{length, slice_index, slice_set, IsTrue, IsFalse, if◌then◌else◌, ◌==◌}
use Rattle.std.specs.List.{All, list_any}
use Rattle.iol_core.specs.declared.numbers.BufId.{BufId}
use Rattle.iol_hold.specs.StoreState.{Stored, count_of}
use Rattle.iol_hold.specs.Moves.{tally}
use Rattle.iol_hold.specs.Texts.{bufs_of}
use Rattle.iol_hold.specs.declared.slices.Slice.{Slice}

-- 1 if the buffer begins at page p
abbrev pub one_at : (p : ℕ) → BufId → ℕ
one_at p b = if b.page == p then 1 else 0

-- the number of these buffers that begin at page p
unfoldable pub at_page : (p : ℕ) → List BufId → ℕ
at_page p [] = 0
at_page p (b ∷ bs) = one_at p b + at_page p bs

-- the table counts exactly these buffers
pub record Counted (marks : List ℕ) (bufs : List BufId) : Type 0 where
  pub each : (p : ℕ) → slice_index marks p ≡ at_page p bufs

-- the slices were counted
pub record Marks (old new : List ℕ) (xs : List Slice) : Type 0 where
  pub each : (p : ℕ) → slice_index new p ≡ slice_index old p + at_page p (bufs_of xs)
  pub long : length new ≡ length old

-- the slices are no longer counted
pub record Unmarks (old new : List ℕ) (xs : List Slice) : Type 0 where
  pub each : (p : ℕ) → slice_index new p + at_page p (bufs_of xs) ≡ slice_index old p
  pub long : length new ≡ length old

pub record AreWithin (pages : ℕ) (xs : List Slice) : Type 0 where
  pub each : All (λ (b : BufId). b.page < pages) (bufs_of xs)

pub record HaveMarks (marks : List ℕ) (xs : List Slice) : Type 0 where
  pub each : (p : ℕ) → at_page p (bufs_of xs) ≤ slice_index marks p

pub record HasMarksLeft (marks : List ℕ) (xs : List Slice) : Type 0 where
  pub each : (p : ℕ) → slice_index marks p + at_page p (bufs_of xs) < 2 ^ 63

-- Slices of an extent that becomes clean, or is no longer clean: they can be counted, or subtracted, and were.

abbrev pub CanTurn : (is_clean : Bool) → (marks : List ℕ) → List Slice → Type 0
CanTurn true marks xs = HasMarksLeft marks xs
CanTurn false marks xs = HaveMarks marks xs

abbrev pub Turns : (is_clean : Bool) → (old new : List ℕ) → List Slice → Type 0
Turns true old new xs = Marks old new xs
Turns false old new xs = Unmarks old new xs

-- one slice more, or one fewer, can be counted at a page
pub record CanTurnAt (is_clean : Bool) (marks : List ℕ) (page : ℕ) : Type 0 where
  pub within : page < length marks
  pub few : IsTrue is_clean → slice_index marks page < 2 ^ 63
  pub some : IsFalse is_clean → 0 < slice_index marks page

-- the mark of a page, with one slice more or fewer
abbrev pub turned : (is_clean : Bool) → (mark : ℕ) → ℕ
turned true n = n + 1
turned false n = n - 1

-- the marks, with one slice more or fewer at a page
abbrev pub with_turned : (is_clean : Bool) → (marks : List ℕ) → (page : ℕ) → List ℕ
with_turned is_clean marks page = slice_set marks page (turned is_clean (slice_index marks page))

-- anything except clean extents holds the buffer
abbrev pub is_held_more : Stored → List ℕ → BufId → Bool
is_held_more s marks b = nat_lt (slice_index marks b.page) (count_of s b)

abbrev pub is_in_use : Stored → List ℕ → List Slice → Bool
is_in_use s marks xs = list_any (λ x. is_held_more s marks x.hold.buf) xs

-- the same by the clean extents' buffers themselves
abbrev pub is_held_beside : Stored → (clean : List BufId) → BufId → Bool
is_held_beside s clean b = nat_lt (tally b clean) (count_of s b)
