-- Writes to pending pages.
use Rattle.std.specs.Prelude.{◌≡◌, ℕ, ◌+◌, ◌*◌, List, slice_range}
use Rattle.std.specs.List.{All}
use Rattle.iol_core.specs.declared.limits.TheConstants.{PAGE_BYTES}
use Rattle.iol_core.specs.declared.numbers.BufId.{BufId}
use Rattle.iol_arena.specs.Prelude.{AreAll, Grows, IsSameBut, IsZero, bytes_of, part_pages, with_bytes_at}
use Rattle.iol_arena.specs.declared.pages.Part.{Part}
use Rattle.iol_arena.specs.declared.pages.PageKind.TheVariants.{Pending}
use Rattle.iol_hold.specs.StoreState.{Stored, with_arena}
use Rattle.iol_hold.specs.PendingPages.{Fills}

-- The bytes `from..to` of a live buffer were copied to offset `at` of the part, and the live buffers are unchanged.
pub record Copies (s t : Stored) (p : Part) (at : ℕ) (b : BufId) (from to : ℕ) : Type 0 where
  pub copied : t ≡ with_arena s
      (with_bytes_at s.arena (p.first * PAGE_BYTES + at) (slice_range (bytes_of s.arena b) from to))
  pub grows : Grows s.arena t.arena

-- The memory of the pending parts is zero. No entry of a page, no live buffer, no count and no pool changed.
pub record Clears (s t : Stored) (ps : List Part) : Type 0 where
  pub entries : t.arena.entries ≡ s.arena.entries
  pub pending : AreAll Pending t.arena.limit t.arena.entries ps
  pub zero : All (IsZero t.arena) ps
  pub fills : Fills s t ps
  pub others : IsSameBut (part_pages ps) s.arena t.arena
