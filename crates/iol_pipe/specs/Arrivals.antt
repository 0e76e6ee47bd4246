-- The bytes of one read.
use Rattle.std.specs.Prelude.{◌≡◌, ◌<◌, ◌≤◌, ℕ, List, [], length, take, Option, Some, None, Result, IfOk}
use Rattle.std.specs.Prelude.{IfErr, OnErr, IsTrue, IsFalse}
use Rattle.std.specs.List.{All}
use Rattle.std.specs.Io.KnownBytes.{Consumes, IsAtEnd, Keeps}
use Rattle.iol_core.specs.Prelude.{WantOfRoom}
use Rattle.iol_core.specs.declared.limits.TheConstants.{PAGE_BYTES}
use Rattle.iol_core.specs.declared.refusals.Refusal.{Refusal}
use Rattle.iol_arena.specs.Buffers.{bytes_in}
use Rattle.iol_arena.specs.Pages.{MadeOn}
use Rattle.iol_pool.specs.Pools.{pool_in}
use Rattle.iol_hold.specs.Prelude.{ReportsRoom, has_room}
use Rattle.iol_hold.specs.StoreState.{Stored, Buffer, AllReclaimed, held_bufs}
use Rattle.iol_hold.specs.Moves.{Moves}
use Rattle.iol_hold.specs.Pages.{KeepsPages}
use Rattle.iol_hold.specs.Room.{lowest_of}
use Rattle.iol_hold.specs.Texts.{IsFilled}
use Rattle.iol_hold.specs.declared.slices.Slice.{Slice}
use Rattle.iol_pipe.specs.NewBytes.{AddsBytes}
use Rattle.iol_pipe.specs.declared.arrive.Arrived.{Arrived}

-- A reader gave n of its remaining bytes, if these are known, and the queue got them. If it gave none, no generation
-- was incremented, and the pages are free again.
pub record ReadsIn (left after : Option (List ℕ)) (s t : Stored) (old new : List Slice) (pool n : ℕ) : Type 0 where
  pub bytes : List ℕ
  pub count : length bytes ≡ n
  pub given : Consumes left after bytes
  pub added : AddsBytes s t old new pool bytes

-- these buffers, or none
abbrev pub listed : Option (List Buffer) → List Buffer
listed None = []
listed (Some holds) = holds

-- A reader gave n of its remaining bytes, if these are known, and they are stored in a new buffer of the pool. If it
-- gave none, there is no buffer: no generation was incremented, and the pages are free again.
pub record MakesRead (left after : Option (List ℕ)) (s t : Stored) (holds : List Buffer) (pool n : ℕ) : Type 0 where
  pub bytes : List ℕ
  pub count : length bytes ≡ n
  pub given : Consumes left after bytes
  pub home : All (λ h. h.pool ≡ pool) holds
  pub filled : All (IsFilled t) holds
  pub few : length holds ≤ 1
  pub value : bytes_in t.arena (held_bufs holds) ≡ bytes
  pub moves : Moves s t [] (held_bufs holds)
  pub made_on : MadeOn s.arena t.arena (held_bufs holds) (lowest_of s pool (length bytes))
  pub pages : KeepsPages s t (lowest_of s pool (length bytes))
  pub reclaims : AllReclaimed s → AllReclaimed t
  pub pools : t.pools ≡ s.pools

-- The report of one read: at least one byte and at most `bound`; or no byte, since the reader is at its end or since
-- the read failed. If `end` is reported, the reader is at its end, as far as its remaining bytes are known. `failed`
-- says nothing about the reader: the contract of `Read` does not say when a read fails.
pub record IsOneRead (bound : ℕ) (after : Option (List ℕ)) (a : Arrived) : Type 0 where
  pub most : a.taken ≤ bound
  pub some : IsFalse a.end → IsFalse a.failed → 0 < a.taken
  pub either : IsTrue a.end → IsFalse a.failed
  pub ended : IsTrue a.end → (a.taken ≡ 0) × IsAtEnd after
  pub failed : IsTrue a.failed → a.taken ≡ 0

-- at most n bytes may be read into a page of an open pool
pub record MayRead (s : Stored) (pool n : ℕ) : Type 0 where
  pub opened : IsFalse (pool_in s.pools pool).closed
  pub some : 0 < n
  pub page : n ≤ PAGE_BYTES

-- One read stored at most n bytes in a buffer. If the reader gave none, there is no buffer. If the call is refused, for
-- lack of room or of memory, the store is unchanged.
pub record ReadsOnce {R : Type 0} (left : R → Option (List ℕ)) (reader after : R) (s t : Stored) (pool n : ℕ)
    (r : Result (Option (List Buffer) × Arrived) Refusal) : Type 0 where
  pub made : IfOk r (λ x. MakesRead (left reader) (left after) s t (listed x.0) pool x.1.taken)
  pub reported : IfOk r (λ x. IsOneRead n (left after) x.1)
  pub room : ReportsRoom (has_room s pool 1) r
  pub late : IfErr r (WantOfRoom pool)
  pub err : OnErr r (t ≡ s)

-- A queue got the bytes of one read, at most n, if the reader gave any. If the call is refused, for lack of room or of
-- memory, nothing changed, the reader included.
pub record FillsFrom {R : Type 0} (left : R → Option (List ℕ)) (reader after : R) (s t : Stored) (old new : List Slice)
    (pool n : ℕ) (r : Result Arrived Refusal) : Type 0 where
  pub read : IfOk r (λ a. ReadsIn (left reader) (left after) s t old new pool a.taken)
  pub reported : IfOk r (IsOneRead n (left after))
  pub room : ReportsRoom (has_room s pool 1) r
  pub late : IfErr r (WantOfRoom pool)
  pub err : OnErr r ((new ≡ old) × (t ≡ s))
  pub err_reader : OnErr r (after ≡ reader)

-- A reader wrote the first bytes of the memory, at most n: none only if it is at its end, or if n is 0. If the read
-- failed, the reader has the same remaining bytes as before.
pub record ReadsSome {E : Type 0} (left after : Option (List ℕ)) (memory : List ℕ) (n : ℕ) (r : Result ℕ E) :
    Type 0 where
  pub most : IfOk r (λ k. k ≤ n)
  pub inside : IfOk r (λ k. k ≤ length memory)
  pub given : IfOk r (λ k. Consumes left after (take k memory))
  pub end : IfOk r (λ k. k ≡ 0 → 0 < n → IsAtEnd after)
  pub err : OnErr r (Keeps left after)
