-- The connections of clients.
use Rattle.std.specs.Prelude.{◌≡◌, ◌==◌, ◌||◌, ◌&&◌, ℕ, Bool, nat_lt, nat_le, List, Option, None, Some, get_or}
use Rattle.std.specs.Prelude.{◌<◌, IsTrue, IsFalse, false, not}
use Rattle.iol_reactor.specs.declared.links.Link.{Link}

-- the connection of the client at an index
abbrev pub link_at : List (Option Link) → (slot : ℕ) → Option Link
link_at table slot = get_or table slot None

-- No two indices have the same connection.
abbrev pub AreApart : List (Option Link) → Type 0
AreApart table = (i j : ℕ) (l : Link) → link_at table i ≡ Some l → link_at table j ≡ Some l → i ≡ j

-- The connection belongs to a world before this generation, or to this generation with a number up to the last.
abbrev pub has_come : (generation last : ℕ) → Link → Bool
has_come generation last l = nat_lt l.generation generation || ((l.generation == generation) && nat_le l.conn last)

-- The same for all connections of clients.
abbrev pub HaveCome : (generation last : ℕ) → List (Option Link) → Type 0
HaveCome generation last table = (i : ℕ) (l : Link) → link_at table i ≡ Some l → IsTrue (has_come generation last l)

-- a client has a connection of the current world
abbrev pub is_current : (generation : ℕ) → Option Link → Bool
is_current generation None = false
is_current generation (Some l) = l.generation == generation

-- a client has a connection of another world than the current one, which is an earlier one by HaveCome
abbrev pub is_earlier : (generation : ℕ) → Option Link → Bool
is_earlier generation None = false
is_earlier generation (Some l) = not (l.generation == generation)

-- No client in the first places, of this number, has a connection of an earlier world.
abbrev pub AreCurrent : (generation places : ℕ) → List (Option Link) → Type 0
AreCurrent generation places table = (j : ℕ) → j < places → IsFalse (is_earlier generation (link_at table j))
