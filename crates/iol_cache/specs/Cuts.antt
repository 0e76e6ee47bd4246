-- The parts that a write cuts off: those of extents on both sides of its range.
use Rattle.std.specs.Prelude.{◌≡◌, ℕ, ◌-◌, ◌<◌, ◌^◌, List, [], take, drop, MatchOption, Result, IfOk, OnErr}
use Rattle.iol_extent.specs.Extents.{Extent, end_of, extent_over}
use Rattle.iol_hold.specs.Moves.{Covers, Shares}
use Rattle.iol_hold.specs.Places.{places}
use Rattle.iol_hold.specs.StoreState.{Stored}
use Rattle.iol_hold.specs.Texts.{bufs_of}
use Rattle.iol_cache.specs.CacheState.{all_parts}
use Rattle.iol_cache.specs.SharedBytes.{CountsBelow}

-- the bytes of an extent before a place
pub record IsBefore (place : ℕ) (x e : Extent) : Type 0 where
  pub begins : x.at ≡ e.at
  pub dirty : x.dirty ≡ e.dirty
  pub is : places x.parts ≡ take (place - e.at) (places e.parts)

-- the bytes of an extent from a place on
pub record IsAfter (place : ℕ) (x e : Extent) : Type 0 where
  pub begins : x.at ≡ place
  pub dirty : x.dirty ≡ e.dirty
  pub is : places x.parts ≡ drop (place - e.at) (places e.parts)

-- the part on the left of a range that begins at a place, which may be empty
pub record CutsLeft (es : List Extent) (from : ℕ) (x : Extent) : Type 0 where
  pub cut : MatchOption (extent_over es from) (x.parts ≡ []) (IsBefore from x)

-- the part on the right of a range that ends at a place
pub record CutsRight (es : List Extent) (to : ℕ) (x : Extent) : Type 0 where
  pub cut : MatchOption (extent_over es (to - 1)) (x.parts ≡ []) (IsAfter to x)
  pub begins : x.at ≡ to

-- Parts of these extents may be shared: they are held, and not too often.
pub record MayCut (s : Stored) (es : List Extent) : Type 0 where
  pub held : Covers s (bufs_of (all_parts es))
  pub few : CountsBelow s (2 ^ 62)

-- A part for which `is_cut` holds is shared. An error changes nothing.
pub record SharesPart {E : Type 0} (is_cut : Extent → Type 0) (s t : Stored) (r : Result Extent E) : Type 0 where
  pub cut : IfOk r is_cut
  pub shares : IfOk r (λ x. Shares s t [] (bufs_of x.parts))
  pub err : OnErr r (t ≡ s)

-- A range that has a byte: the parts of extents on both sides of it, and an extent over exactly this range.
pub record CutsAround (es : List Extent) (from to : ℕ) (left right e : Extent) : Type 0 where
  pub some : from < to
  pub before : CutsLeft es from left
  pub after : CutsRight es to right
  pub fits : end_of right < 2 ^ 32
  pub begins : e.at ≡ from
  pub ends : end_of e ≡ to
