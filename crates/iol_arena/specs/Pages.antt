-- Changes of pages: which were raised, which are unchanged, and which buffers were made on them.
use Rattle.std.specs.Prelude.{◌≡◌, ℕ, ◌+◌, ◌≤◌, List, [], ◌∷◌, length, take, map, flat_map, IsTrue}
use Rattle.std.specs.List.{Contains}
use Rattle.iol_core.specs.declared.limits.TheConstants.{PAGE_BYTES}
use Rattle.iol_core.specs.declared.numbers.BufId.{BufId}
use Rattle.iol_arena.specs.State.{State, HasRuns, entry_at, generation_at, memory_at, pages_for}
use Rattle.iol_arena.specs.Adds.{Adds}
use Rattle.iol_arena.specs.Buffers.{Grows, IsUnraised, SharesNoPage, Spares, len_of}
use Rattle.iol_arena.specs.Chunks.{usable}
use Rattle.iol_arena.specs.Parts.{AreApart, IsSameAround, filled, needed_pages, part_bytes, part_pages, spare_pages}
use Rattle.iol_arena.specs.declared.pages.Part.{Part}

-- each page of the list was raised by one, and no other was
pub record Raises (old new : State) (placed : List ℕ) : Type 0 where
  pub incremented : (q : ℕ) → Contains placed q → generation_at new q ≡ generation_at old q + 1
  pub kept : (q : ℕ) → ¬ Contains placed q → generation_at new q ≡ generation_at old q

-- all pages except those of the list are unchanged
pub record IsSameBut (pages : List ℕ) (old new : State) : Type 0 where
  pub each : (q : ℕ) → ¬ Contains pages q → entry_at new q ≡ entry_at old q

-- the memory of all pages except those of the list is unchanged
pub record KeepsMemory (pages : List ℕ) (old new : State) : Type 0 where
  pub each : (q : ℕ) → ¬ Contains pages q → memory_at new q PAGE_BYTES ≡ memory_at old q PAGE_BYTES

-- each page of the list may be used for new bytes
pub record AreUsable (s : State) (pages : List ℕ) : Type 0 where
  pub each : (q : ℕ) → Contains pages q → IsTrue (usable s q)

-- the buffer that a placing begins on a run of pages: of the next generation of its first page
abbrev pub begun_on : State → Part → BufId
begun_on s p = record { page = p.first; generation = generation_at s p.first + 1 }

-- The pages of the list were filled: each maximal run of them in a chunk is one buffer, whole, and each was raised by
-- one.
pub record MadeOn (old new : State) (bufs : List BufId) (placed : List ℕ) : Type 0 where
  pub runs : List Part
  pub apart : AreApart 0 runs
  pub cover : part_pages runs ≡ placed
  pub begun : bufs ≡ map (begun_on old) runs
  pub whole : map (λ b. pages_for (len_of new b)) bufs ≡ map (λ p. p.count) runs
  pub raises : Raises old new placed

-- The part is one buffer of these bytes, whole. Each of its pages was raised by one, and no other page changed.
pub record FillsPart (old new : State) (p : Part) (bytes : List ℕ) (b : BufId) : Type 0 where
  pub adds : Adds old new (b ∷ []) bytes
  pub begun : b ≡ begun_on old p
  pub whole : pages_for (len_of new b) ≡ p.count
  pub raises : Raises old new (part_pages (p ∷ []))
  pub around : IsSameAround p old new
  pub memory : new.memory ≡ (filled old p bytes).memory
  pub runs : HasRuns new.entries

-- The first n bytes of the parts are these buffers. Pages without a buffer are free again, unraised, and no other page
-- changed.
pub record PublishesParts (old new : State) (ps : List Part) (n : ℕ) (bufs : List BufId) : Type 0 where
  pub adds : Adds old new bufs (take n (flat_map (part_bytes old) ps))
  pub few : length bufs ≤ length ps
  pub alone : SharesNoPage new
  pub runs : HasRuns new.entries
  pub made_on : MadeOn old new bufs (needed_pages ps n)
  pub others : IsSameBut (part_pages ps) old new
  pub returned : AreUsable new (spare_pages ps n)
  pub memory : new.memory ≡ old.memory

-- The pages of the parts are free again, unraised: no buffer was made or freed, and nothing else changed.
pub record ReturnsPages (old new : State) (ps : List Part) : Type 0 where
  pub grows : Grows old new
  pub spares : Spares old new
  pub unraised : IsUnraised old new
  pub others : IsSameBut (part_pages ps) old new
  pub returned : AreUsable new (part_pages ps)
  pub memory : new.memory ≡ old.memory
  pub runs : HasRuns new.entries
