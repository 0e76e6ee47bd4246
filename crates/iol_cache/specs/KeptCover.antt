-- The covers of bytes of files do not change, if a call does not write them.
use Rattle.std.specs.Prelude.{◌≡◌, ◌⊎◌, ℕ, Some, IsFalse}
use Rattle.iol_extent.specs.Extents.{Cell, cover}
use Rattle.iol_cache.specs.CacheState.{Cached, extents_in}

-- each byte under an extent stays in its place, or it was clean
pub record KeepsDirty (old new : Cached) : Type 0 where
  pub each : (f i : ℕ) (c : Cell) → cover (extents_in old.files f) i ≡ Some c
      → (cover (extents_in new.files f) i ≡ Some c) ⊎ IsFalse c.dirty

-- each byte under an extent stays in its place
pub record KeepsCover (old new : Cached) : Type 0 where
  pub each : (f i : ℕ) (c : Cell) → cover (extents_in old.files f) i ≡ Some c
      → cover (extents_in new.files f) i ≡ Some c

-- the extents of every file are unchanged
pub record SameExtents (old new : Cached) : Type 0 where
  pub each : (f : ℕ) → extents_in new.files f ≡ extents_in old.files f
