-- The users of extents, as contracts see them.
use Rattle.std.specs.Prelude.{ℕ, Bool}
use Rattle.iol_cache.specs.declared.users.Users.{Users}
use Rattle.iol_cache.specs.Evictions.{in_use, IsCleanAt}
use Rattle.iol_cache.specs.Sound.{IsUsable}

abbrev pub is_used : Users → (f at : ℕ) → Bool
is_used u f at = in_use u.store.now u.files.now f at

-- `is_in_use` may be called for clean extents
abbrev pub CanAsk : Users → (f at : ℕ) → Type 0
CanAsk u f at = IsUsable u.store.now u.files.now u.marks.now × IsCleanAt u.files.now f at
