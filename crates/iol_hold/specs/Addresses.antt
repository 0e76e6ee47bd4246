-- The addresses of bytes in memory.
use Rattle.std.specs.Prelude.{ℕ, List, length, map}
use Rattle.std.specs.Borrow.{Bor, u8}
use Rattle.std.specs.List.{range_with_len}
use Rattle.std.specs.Ptr.{Ptr, as_ptr, ptr_add}
use Rattle.iol_arena.specs.Buffers.{address_of}
use Rattle.iol_hold.specs.Places.{Place}
use Rattle.iol_hold.specs.StoreState.{Stored}
use Rattle.iol_hold.specs.Texts.{slice_bytes}
use Rattle.iol_hold.specs.declared.slices.Slice.{Slice}

-- bytes, and the address of the first
pub record Located : Type 0 where
  pub bytes : List ℕ
  pub at : Ptr

-- the bytes of a reference, and their address
abbrev pub located : Bor (List ℕ) → Located
located r = record { bytes = r.now; at = as_ptr r }

-- the bytes of a slice, and their address
abbrev pub located_slice : Stored → Slice → Located
located_slice s x = record { bytes = slice_bytes s x; at = address_of s.arena x.hold.buf x.from }

-- the addresses of bytes, one after another
abbrev pub spread : Located → List Ptr
spread p = map (λ i. ptr_add u8 i p.at) (range_with_len 0 (length p.bytes))

-- the address of the byte at a place
abbrev pub address_at : Stored → Place → Ptr
address_at s p = address_of s.arena p.buf p.at
