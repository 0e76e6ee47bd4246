-- The replacement of a range of a file by a write.
use Rattle.std.specs.Prelude.{◌≡◌, ℕ, ◌+◌, ◌<◌, ◌^◌, List, [], ◌++◌, Result, IfErr, IfOk, IsTrue}
use Rattle.iol_core.specs.Meaning.{WantOfRoom}
use Rattle.iol_core.specs.declared.refusals.Refusal.{Refusal}
use Rattle.iol_extent.specs.Extents.{Extent}
use Rattle.iol_hold.specs.Moves.{Shares}
use Rattle.iol_hold.specs.Places.{byte_len}
use Rattle.iol_hold.specs.StoreState.{Stored}
use Rattle.iol_hold.specs.Texts.{bufs_of}
use Rattle.iol_hold.specs.declared.slices.Slice.{Slice}
use Rattle.iol_cache.specs.Composition.{Composes, MayCompose, copied_pages}
use Rattle.iol_cache.specs.Cuts.{CutsLeft, CutsRight}
use Rattle.iol_cache.specs.Loads.{PlacesOrReleases}
use Rattle.iol_cache.specs.SharedBytes.{AreHeld}
use Rattle.iol_cache.specs.declared.write.cut.Replacement.{Replacement}

-- The bytes of a source are in the file's pool, as a dirty extent that begins at a place; and the parts of extents on
-- both sides of them are shared.
pub record Prepares (s t : Stored) (pool : ℕ) (es : List Extent) (at : ℕ) (source : List Slice)
    (left right e : Extent) : Type 0 where
  pub before : CutsLeft es at left
  pub after : CutsRight es (at + byte_len source) right
  pub ends : right.at ≡ at + byte_len source
  pub begins : e.at ≡ at
  pub dirty : IsTrue e.dirty
  pub mid : Stored
  pub composes : Composes s mid pool (copied_pages pool source) source e.parts
  pub shares : Shares mid t [] (bufs_of left.parts ++ bufs_of right.parts)

-- The bytes of a source, at least one, may replace a file's bytes from a place on: they may be composed in the file's
-- pool, and the file's extents are held.
pub record MayPrepare (s : Stored) (pool : ℕ) (es : List Extent) (at : ℕ) (source : List Slice) : Type 0 where
  pub some : 0 < byte_len source
  pub fits : at + byte_len source < 2 ^ 32
  pub bytes : MayCompose s (2 ^ 61) pool source
  pub extents : AreHeld s es

-- The bytes of a source, and the parts of extents on both sides of them, were prepared. After an error, for lack of
-- room or memory, all of them are released.
pub record PreparesOrReleases (s t : Stored) (pool : ℕ) (es : List Extent) (at : ℕ) (source : List Slice)
    (r : Result Replacement Refusal) : Type 0 where
  pub prepares : IfOk r (λ x. Prepares s t pool es at source x.left x.right x.bytes)
  pub leaves : PlacesOrReleases pool (copied_pages pool source) s t r
  pub late : IfErr r (WantOfRoom pool)
