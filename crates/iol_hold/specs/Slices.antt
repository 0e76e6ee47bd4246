-- Slices made, shared and cut.
use Rattle.std.specs.Prelude.{◌≡◌, ℕ, ◌-◌, [], ◌∷◌, length, slice_range}
use Rattle.iol_arena.specs.Buffers.{bytes_of}
use Rattle.iol_hold.specs.Moves.{Shares}
use Rattle.iol_hold.specs.Places.{slice_places}
use Rattle.iol_hold.specs.StoreState.{Stored, Buffer}
use Rattle.iol_hold.specs.declared.slices.Slice.{Slice}

-- the slice is all bytes of the buffer
pub record IsWhole (s : Stored) (h : Buffer) (x : Slice) : Type 0 where
  pub hold : x.hold ≡ h
  pub from : x.from ≡ 0
  pub len : x.len ≡ length (bytes_of s.arena h.buf)

-- The slice y has the bytes of x, and a further hold on their buffer.
pub record SharesSlice (s t : Stored) (x y : Slice) : Type 0 where
  pub hold : y.hold ≡ x.hold
  pub places : slice_places y ≡ slice_places x
  pub len : y.len ≡ x.len
  pub shares : Shares s t [] (x.hold.buf ∷ [])

-- y has the bytes `from..to` of x
pub record IsCut (x y : Slice) (from to : ℕ) : Type 0 where
  pub hold : y.hold ≡ x.hold
  pub places : slice_places y ≡ slice_range (slice_places x) from to
  pub len : y.len ≡ to - from
