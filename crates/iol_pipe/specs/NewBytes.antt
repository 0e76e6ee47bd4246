-- New bytes at the end of a queue.
use Rattle.std.specs.Prelude.{◌≡◌, ℕ, List, [], ◌≤◌, ◌++◌, length, map, take}
use Rattle.iol_core.specs.Text.{labelled}
use Rattle.iol_arena.specs.Pages.{MadeOn}
use Rattle.iol_arena.specs.State.{pages_for}
use Rattle.iol_hold.specs.StoreState.{Stored, Buffer, AllReclaimed}
use Rattle.iol_hold.specs.Moves.{Moves, Shares}
use Rattle.iol_hold.specs.Pages.{KeepsPages}
use Rattle.iol_hold.specs.Places.{places, slice_places, byte_len}
use Rattle.iol_hold.specs.Room.{lowest_of}
use Rattle.iol_hold.specs.Texts.{text_of, bufs_of, AllReadable}
use Rattle.iol_hold.specs.declared.slices.Slice.{Slice}
use Rattle.iol_agg.specs.Wholes.{AreWhole}
use Rattle.iol_pipe.specs.Queue.{first_parts, fitting}

-- The queue got slices of these bytes at its end, in new buffers of the pool: one slice per buffer, and at most one per
-- page. The buffers were made on the lowest free pages of the pool, whose generations were incremented by one.
pub record AddsBytes (s t : Stored) (old new : List Slice) (pool : ℕ) (bytes : List ℕ) : Type 0 where
  pub slices : List Slice
  pub few : length slices ≤ pages_for (length bytes)
  pub added : new ≡ old ++ slices
  pub is_text : text_of t slices ≡ labelled pool bytes
  pub readable : AllReadable t slices
  pub moves : Moves s t [] (bufs_of slices)
  pub made_on : MadeOn s.arena t.arena (bufs_of slices) (lowest_of s pool (length bytes))
  pub pages : KeepsPages s t (lowest_of s pool (length bytes))
  pub reclaims : AllReclaimed s → AllReclaimed t
  pub pools : t.pools ≡ s.pools

-- The queue got one slice per buffer at its end: the whole buffer.
pub record AddsWhole (s : Stored) (old new : List Slice) (holds : List Buffer) : Type 0 where
  pub slices : List Slice
  pub added : new ≡ old ++ slices
  pub whole : AreWhole s slices holds

-- A queue got the first n bytes of these slices at its end, shared: whole slices, of which only the last may be cut.
pub record SharesPrefix (s t : Stored) (old new from : List Slice) (n : ℕ) : Type 0 where
  pub parts : map slice_places new ≡ map slice_places old ++ first_parts n (map slice_places from)
  pub added : places new ≡ places old ++ take n (places from)
  pub shares : Shares s t (bufs_of old) (bufs_of new)

-- A queue got n bytes of the slices of an aggregate at its end, as many as fit. They are shared: the queue keeps its
-- slices, and gets those of the aggregate, of which only the last may be cut.
pub record SharesFitting (s t : Stored) (old new from : List Slice) (n : ℕ) : Type 0 where
  pub taken : n ≡ fitting old (byte_len from)
  pub parts : map slice_places new ≡ map slice_places old ++ first_parts n (map slice_places from)
  pub added : places new ≡ places old ++ take n (places from)
  pub shares : Shares s t (bufs_of old) (bufs_of new)

-- A queue got n new bytes of the pool at its end, as many as fit.
pub record AddsFitting (s t : Stored) (old new : List Slice) (pool : ℕ) (bytes : List ℕ) (n : ℕ) : Type 0 where
  pub taken : n ≡ fitting old (length bytes)
  pub added : AddsBytes s t old new pool (take n bytes)
