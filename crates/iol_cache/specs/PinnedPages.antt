-- The pages of a pool that can be used for new bytes, if needed after evictions.
use Rattle.std.specs.Prelude.{ℕ, ◌||◌, Bool, false, not, nat_lt, List, length, Option, Some, None}
use Rattle.std.specs.List.{filter}
use Rattle.iol_core.specs.declared.numbers.BufId.{BufId}
use Rattle.iol_arena.specs.State.{entry_at, generation_at}
use Rattle.iol_arena.specs.Firsts.{first_on}
use Rattle.iol_hold.specs.StoreState.{Stored}
use Rattle.iol_hold.specs.Releases.{buf_at}
use Rattle.iol_hold.specs.Room.{pages_of}
use Rattle.iol_cache.specs.Marks.{is_held_beside}

-- anything except clean extents holds the buffer that begins there
abbrev pub is_begun : Stored → (clean : List BufId) → Option ℕ → Bool
is_begun s clean None = false
is_begun s clean (Some p) = is_held_beside s clean (buf_at s.arena p)

-- its generation is the last, or it is in a buffer that anything except clean extents holds
unfoldable pub is_pinned : Stored → (clean : List BufId) → ℕ → Bool
is_pinned s clean q = not (nat_lt (generation_at s.arena q) s.arena.limit)
    || is_begun s clean (first_on (entry_at s.arena q).kind q)

-- the number of pinned pages of a pool
abbrev pub pinned_beside : Stored → (clean : List BufId) → (pool : ℕ) → ℕ
pinned_beside s clean p = length (filter (is_pinned s clean) (pages_of s p))
