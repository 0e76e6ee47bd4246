-- The writes of one step of the arena. No public clause cites these definitions.
use Rattle.std.specs.Prelude.{◌≡◌, ℕ, ◌+◌, ◌-◌, ◌*◌, ◌≤◌, Bool, List, [], ◌∷◌, length, take, if◌then◌else◌}
use Rattle.iol_core.specs.declared.limits.TheConstants.{PAGE_BYTES}
use Rattle.iol_core.specs.declared.numbers.BufId.{BufId}
use Rattle.iol_arena.specs.Adds.{Adds}
use Rattle.iol_arena.specs.Buffers.{Grows, IsUnraised, Spares}
use Rattle.iol_arena.specs.Pages.{IsSameBut, begun_on}
use Rattle.iol_arena.specs.Parts.{AreAll, filled, part_bytes, part_pages, part_room}
use Rattle.iol_arena.specs.State.{State, each_from, marked, pages_for, with_entries, with_marked}
use Rattle.iol_arena.specs.declared.pages.PageKind.{PageKind}
use Rattle.iol_arena.specs.declared.pages.PageKind.TheVariants.{Free, Pending, Head, Tail}
use Rattle.iol_arena.specs.declared.pages.Entry.{Entry}
use Rattle.iol_arena.specs.declared.pages.Part.{Part}

-- the kind of a page that is reserved, or is not
abbrev pub reserved_kind : Bool → PageKind
reserved_kind reserved = if reserved then Pending else Free

-- The part got this kind, unraised: no buffer was made or freed.
pub record MarksPart (k : PageKind) (p : Part) (old new : State) : Type 0 where
  pub arena : new ≡ with_marked old p.first p.count k 0
  pub grows : Grows old new
  pub spares : Spares old new

-- All parts got this kind, unraised: no buffer was made or freed, and nothing else changed.
pub record MarksAll (k : PageKind) (ps : List Part) (old new : State) : Type 0 where
  pub each : AreAll k new.limit new.entries ps
  pub others : IsSameBut (part_pages ps) old new
  pub unraised : IsUnraised old new
  pub memory : new.memory ≡ old.memory
  pub grows : Grows old new
  pub spares : Spares old new

-- The bytes are at the start of the part, all of which is in the memory, and each live buffer is unchanged.
pub record WritesPart (old new : State) (p : Part) (bytes : List ℕ) : Type 0 where
  pub arena : new ≡ filled old p bytes
  pub grows : Grows old new
  pub within : p.first * PAGE_BYTES + part_room p ≤ length old.memory

-- a buffer of n bytes at the start of the part, whose other pages are free
unfoldable pub published_entries : List Entry → Part → ℕ → List Entry
published_entries es p n =
    let k = pages_for n in
    each_from (p.first + k) (p.count - k) (marked Free 0)
    (each_from p.first 1 (marked (Head n) 1) (each_from (p.first + 1) (k - 1) (marked (Tail p.first) 1) es))

abbrev pub published_part : State → Part → ℕ → State
published_part s p n = with_entries s (published_entries s.entries p n)

-- The first n bytes of the part are one buffer. Its pages were raised by one, and the part's others are free again,
-- unraised.
pub record PublishesPart (old new : State) (p : Part) (n : ℕ) (b : BufId) : Type 0 where
  pub arena : new ≡ published_part old p n
  pub buf : b ≡ begun_on old p
  pub adds : Adds old new (b ∷ []) (take n (part_bytes old p))
