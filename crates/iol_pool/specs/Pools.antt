-- Pools: the domains that may read their bytes, and the chunks that store them.
use Rattle.std.specs.Prelude.{◌≡◌, ℕ, ◌==◌, ◌&&◌, Bool, true, false, not, if◌then◌else◌, List, [], ◌∷◌, ◌++◌, length}
use Rattle.std.specs.Prelude.{flat_map, map, slice_index_or}
use Rattle.std.specs.List.{filter, list_any, list_all, range_with_len}
use Rattle.iol_core.specs.NumberedLists.{numbered_or, with_numbered}
use Rattle.iol_core.specs.Calls.Pools.{with_name}
use Rattle.iol_arena.specs.State.{State}
use Rattle.iol_arena.specs.Chunks.{chunk_pages, is_unused, spent, usable, TakesChunks}

-- the domains that may read, whether the pool is closed, and its chunks, in rising order
pub record Pool : Type 0 where
  pub domains : List ℕ
  pub closed : Bool
  pub chunks : List ℕ

abbrev pub no_pool : Pool
no_pool = record { domains = []; closed = true; chunks = [] }

unfoldable pub pool_in : List Pool → (p : ℕ) → Pool
pool_in ps p = numbered_or ps p no_pool

-- whether the pool's list names the domain
abbrev pub names_in : List Pool → (p d : ℕ) → Bool
names_in ps p d = list_any (λ e. e == d) (pool_in ps p).domains

-- An open pool of n chunks, the lowest free ones, was added for the domains of a list.
pub record AddsPool (s t : State) (old new : List Pool) (n : ℕ) (list : List ℕ) : Type 0 where
  pub chunks : List ℕ
  pub count : length chunks ≡ n
  pub taken : TakesChunks s t chunks
  pub added : new ≡ old ++ record { domains = list; closed = false; chunks = chunks } ∷ []

-- the pools, with the domain added to this one's list
unfoldable pub with_admitted : List Pool → (p d : ℕ) → List Pool
with_admitted ps p d = with_numbered ps p (record (pool_in ps p) { domains = with_name (pool_in ps p).domains d })

-- the pools, with this one closed
unfoldable pub with_closed : List Pool → (p : ℕ) → List Pool
with_closed ps p = with_numbered ps p (record (pool_in ps p) { closed = true })

-- the pools, with this one without chunks
unfoldable pub with_emptied : List Pool → (p : ℕ) → List Pool
with_emptied ps p = with_numbered ps p (record (pool_in ps p) { chunks = [] })

-- the chunks that were taken are still taken, except these
abbrev pub all_returned : List Bool → List ℕ → List Bool
all_returned taken cs =
    let still : ℕ → Bool = λ c. slice_index_or taken c true && not (list_any (λ d. d == c) cs) in
    map still (range_with_len 0 (length taken))

-- the arena, with these chunks free again
abbrev pub with_returned : State → List ℕ → State
with_returned s cs = record {
  memory = s.memory;
  base = s.base;
  entries = s.entries;
  limit = s.limit;
  taken =
      all_returned s.taken cs;
}

-- chunks are returned when their pool is closed and all their pages are empty
abbrev pub goes_back : State → List Pool → (p : ℕ) → Bool
goes_back s ps p = (pool_in ps p).closed && list_all (is_unused s) (pool_in ps p).chunks

-- the pools, and the arena, after the chunks of pool p are returned, if they are to be
unfoldable pub reclaimed : State → List Pool → (p : ℕ) → List Pool
reclaimed s ps p = if goes_back s ps p then with_emptied ps p else ps

unfoldable pub reclaimed_arena : State → List Pool → (p : ℕ) → State
reclaimed_arena s ps p = if goes_back s ps p then with_returned s (pool_in ps p).chunks else s

-- whether the page is retired, or may be used
abbrev pub is_counted : State → (retired : Bool) → ℕ → Bool
is_counted s true = spent s
is_counted s false = usable s

-- the pages of these chunks that are retired, or may be used, in order
abbrev pub counted_pages : State → (retired : Bool) → (chunks : List ℕ) → List ℕ
counted_pages s retired cs = filter (is_counted s retired) (flat_map chunk_pages cs)
