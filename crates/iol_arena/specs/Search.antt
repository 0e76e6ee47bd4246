-- The search for free pages, page by page.
use Rattle.std.specs.Prelude.{◌≡◌, ℕ, ◌+◌, ◌-◌, ◌*◌, ◌≤◌, List, [], ◌∷◌, ◌++◌, length, take}
use Rattle.std.specs.List.{filter}
use Rattle.iol_core.specs.declared.limits.TheConstants.{CHUNK_PAGES}
use Rattle.iol_arena.specs.State.{State, page_count}
use Rattle.iol_arena.specs.Chunks.{chunk_pages, if_usable, usable}
use Rattle.iol_arena.specs.Parts.{AreApart, end_of, part_pages}
use Rattle.iol_arena.specs.declared.pages.Part.{Part}

-- the parts are apart from one another, and end before the page
pub record EndBefore (page : ℕ) (ps : List Part) : Type 0 where
  pub apart : AreApart 0 ps
  pub before : end_of 0 ps ≤ page

-- The page was added after the parts, which are apart from one another and end with it.
pub record AddsPage (old new : List Part) (page : ℕ) : Type 0 where
  pub pages : part_pages new ≡ part_pages old ++ page ∷ []
  pub apart : AreApart 0 new
  pub end : end_of 0 new ≡ page + 1

-- The search is at page `from` with these parts, and continues up to page `to`: it has no more pages than are needed.
pub record IsSearching (s : State) (ps : List Part) (from to had need : ℕ) : Type 0 where
  pub within : to ≤ page_count s
  pub have : had ≤ need
  pub parts : EndBefore from ps

-- the search is at a page with these parts, and has no more pages than are needed
abbrev pub IsAtPage : State → List Part → (page had need : ℕ) → Type 0
IsAtPage s ps page had need = IsSearching s ps page (page + 1) had need

-- the search is at the first page of a chunk with these parts, and has no more pages than are needed
abbrev pub IsAtChunk : State → List Part → (chunk had need : ℕ) → Type 0
IsAtChunk s ps c had need = IsSearching s ps (c * CHUNK_PAGES) ((c + 1) * CHUNK_PAGES) had need

-- The first of the pages found were added after the search's parts, as many as were still needed. The search now has
-- `now` pages, and its parts are apart from one another and end before page `to`.
pub record TakesPages (old new : List Part) (found : List ℕ) (need had now to : ℕ) : Type 0 where
  pub pages : part_pages new ≡ part_pages old ++ take (need - had) found
  pub have : now ≡ had + length (take (need - had) found)
  pub parts : EndBefore to new

-- the page was added after the search's parts, if it may be used and was still needed; the search now has `now` pages
abbrev pub SearchesPage : State → (old new : List Part) → (page had need now : ℕ) → Type 0
SearchesPage s old new page had need now = TakesPages old new (if_usable s page) need had now (page + 1)

-- the first usable pages of a chunk were added after the search's parts, as many as were still needed; the search now
-- has `now` pages
abbrev pub SearchesChunk : State → (old new : List Part) → (chunk had need now : ℕ) → Type 0
SearchesChunk s old new c had need now =
    TakesPages old new (filter (usable s) (chunk_pages c)) need had now ((c + 1) * CHUNK_PAGES)
