-- Slices divided between two lists.
use Rattle.std.specs.Prelude.{◌≡◌, ℕ, ◌+◌, ◌<◌, ◌≤◌, ◌^◌, List, [], ◌∷◌, ◌++◌, length, take, drop, slice_index_or}
use Rattle.std.specs.Prelude.{Result, IfOk, IfErr, OnErr}
use Rattle.std.specs.declared.alloc.AllocFailed.{AllocFailed}
use Rattle.std.specs.declared.vec.Vec.{Vec}
use Rattle.iol_hold.specs.Moves.{Shares}
use Rattle.iol_hold.specs.Places.{slice_places, places as places_of, byte_len}
use Rattle.iol_hold.specs.StoreState.{Stored, count_of}
use Rattle.iol_hold.specs.Texts.{bufs_of}
use Rattle.iol_hold.specs.declared.slices.Slice.{Slice}
use Rattle.iol_agg.specs.Pours.{AreShareable, meeting}

-- the place is `rest` bytes past the first `whole` slices, within the next one
pub record IsPlaceOf (xs : List Slice) (place whole rest : ℕ) : Type 0 where
  pub within : whole ≤ length xs
  pub at : byte_len (take whole xs) + rest ≡ place
  pub there : 0 < rest → whole < length xs
  pub inside : (d : Slice) → 0 < rest → rest < (slice_index_or xs whole d).len

-- The first n bytes of a slice may be taken off: it has more, and its buffer is held and can get one more hold.
pub record MayDivide (s : Stored) (x : Slice) (n : ℕ) : Type 0 where
  pub some : 0 < n
  pub within : n < x.len
  pub live : 0 < count_of s x.hold.buf
  pub few : count_of s x.hold.buf < 2 ^ 63

-- The first n bytes of a slice were taken off. Both parts hold its buffer, which has one more hold.
pub record Divides (s t : Stored) (x first rest : Slice) (n : ℕ) : Type 0 where
  pub given : slice_places first ≡ take n (slice_places x)
  pub kept : slice_places rest ≡ drop n (slice_places x)
  pub given_hold : first.hold ≡ x.hold
  pub kept_hold : rest.hold ≡ x.hold
  pub shares : Shares s t [] (x.hold.buf ∷ [])

-- The first n bytes of slices may go to another list: n is 0, or less than the length of the first slice, and each
-- buffer of the slices has their holds, and can get as many again.
pub record MayMoveBytes (s : Stored) (xs : List Slice) (n : ℕ) : Type 0 where
  pub there : 0 < n → 0 < length xs
  pub inside : (d : Slice) → 0 < n → n < (slice_index_or xs 0 d).len
  pub held : AreShareable s (bufs_of xs)

-- The first n bytes of the second list of slices went to the end of the first, in a slice of their own, and the slices
-- of both hold their buffers.
pub record MovesBytes {Z : Type 0} (s t : Stored) (first second longer rest : Vec Slice Z) (n : ℕ) : Type 0 where
  pub places : places_of longer.items ≡ places_of first.items ++ take n (places_of second.items)
  pub left : places_of rest.items ≡ drop n (places_of second.items)
  pub bufs : bufs_of longer.items ≡ bufs_of first.items ++ bufs_of (meeting 0 n second.items)
  pub left_bufs : bufs_of rest.items ≡ bufs_of second.items
  pub shares : Shares s t (bufs_of first.items ++ bufs_of second.items) (bufs_of longer.items ++ bufs_of rest.items)

-- An aggregate was split: the bytes before a place, and those from it on. No slice was divided except the one over the
-- place. If there is no memory, it is returned whole.
pub record Splits (s t : Stored) (xs : List Slice) (place : ℕ)
    (r : Result (List Slice × List Slice) (AllocFailed (List Slice))) : Type 0 where
  pub first : IfOk r (λ a. places_of a.0 ≡ take place (places_of xs))
  pub second : IfOk r (λ a. places_of a.1 ≡ drop place (places_of xs))
  pub first_bufs : IfOk r (λ a. bufs_of a.0 ≡ bufs_of (meeting 0 place xs))
  pub second_bufs : IfOk r (λ a. bufs_of a.1 ≡ bufs_of (meeting place (byte_len xs) xs))
  pub shares : IfOk r (λ a. Shares s t (bufs_of xs) (bufs_of a.0 ++ bufs_of a.1))
  pub back : IfErr r (λ e. e.value ≡ xs)
  pub err : OnErr r (t ≡ s)
