-- The effect of each call on a connection, from x to y, over the store from s to t.
use Rattle.std.specs.Prelude.{◌≡◌, ◌≢◌, ◌≤◌, ℕ, ◌-◌, ◌++◌, [], true, List, length, min, take, take_while, drop}
use Rattle.std.specs.Prelude.{Option, Result, Err, IsOk, IfOk, IfErr, OnOk, OnErr}
use Rattle.iol_core.specs.Prelude.{WantOfMemory, WantOfRoom, bytes_of, checksum as checksum_of}
use Rattle.iol_core.specs.declared.descriptors.How.{How}
use Rattle.iol_core.specs.declared.limits.TheConstants.{MAX_QUEUE_BYTES, PAGE_BYTES}
use Rattle.iol_core.specs.declared.refusals.Refusal.{Refusal}
use Rattle.iol_core.specs.declared.refusals.Refusal.TheVariants.{Memory}
use Rattle.iol_hold.specs.Prelude.{AllReadable, AllReclaimed, FreesOnly, Moves, Releases, SameLists, Stored}
use Rattle.iol_hold.specs.Prelude.{ReportsRoom}
use Rattle.iol_hold.specs.Prelude.{bufs_of, byte_len, has_room, places, text_of}
use Rattle.iol_hold.specs.declared.slices.Slice.{Slice}
use Rattle.iol_pipe.specs.Arrivals.{ReadsIn}
use Rattle.iol_pipe.specs.Prelude.{AddsFitting, GivesFirst, IsOneRead, SharesFitting, fitting, may_see}
use Rattle.iol_pipe.specs.declared.arrive.Arrived.{Arrived}
use Rattle.iol_sum.specs.Prelude.{IsRight}
use Rattle.iol_sum.specs.Sums.{Sums}
use Rattle.iol_sock.specs.Connections.{Conn, closed_by}
use Rattle.iol_sock.specs.Refusals.{IsPassed, IsRefused, arrive_late, arrive_refusals, queue_refusals}
use Rattle.iol_sock.specs.Refusals.{read_refusals, segment_refusals}
use Rattle.iol_sock.specs.SentBytes.{IsSent, Writes}
use Rattle.iol_sock.specs.declared.drain_to.Drained.{Drained}
use Rattle.iol_sock.specs.declared.outgoing.Segment.{Segment}

-- Input.

-- Bytes arrive, as many as fit, in new buffers of the connection's pool. The call is refused by the first refusal that
-- holds, else only for lack of room or memory, and a refusal changes nothing.
pub record Arrives (s t : Stored) (x y : Conn (List Slice)) (bytes : List ℕ) (r : Result ℕ Refusal) : Type 0 where
  pub passed : OnOk r (IsPassed (arrive_refusals x (length bytes)))
  pub refused : IfErr r (IsRefused (arrive_refusals x (length bytes)) (arrive_late x bytes))
  pub adds : IfOk r (AddsFitting s t x.incoming y.incoming x.pool bytes)
  pub others : y ≡ record x { incoming = y.incoming }
  pub room : ReportsRoom (has_room s x.pool (fitting x.incoming (length bytes))) r
  pub err : OnErr r ((y ≡ x) × (t ≡ s))

-- the most bytes that one read requests: the least of max, a page, and the bytes that fit
abbrev pub most_read : Conn (List Slice) → (max : ℕ) → ℕ
most_read x max = min (min max PAGE_BYTES) (MAX_QUEUE_BYTES - byte_len x.incoming)

-- The bytes of one read arrive: the first of the reader's remaining bytes, if these are known. The call is refused by
-- the first refusal that holds, else only for lack of room or memory, and a refusal changes nothing, the reader
-- included.
pub record ArrivesFrom {R : Type 0} (remaining : R → Option (List ℕ)) (reader after : R) (s t : Stored)
    (x y : Conn (List Slice))
    (max : ℕ) (r : Result Arrived Refusal) : Type 0 where
  pub passed : OnOk r (IsPassed (read_refusals x max))
  pub refused : IfErr r (IsRefused (read_refusals x max) (WantOfRoom x.pool))
  pub read : IfOk r (λ a. ReadsIn (remaining reader) (remaining after) s t x.incoming y.incoming x.pool a.taken)
  pub reported : IfOk r (IsOneRead (most_read x max) (remaining after))
  pub others : y ≡ record x { incoming = y.incoming }
  pub room : ReportsRoom (has_room s x.pool 1) r
  pub err : OnErr r ((y ≡ x) × (t ≡ s))
  pub err_reader : OnErr r (after ≡ reader)

-- A domain is given the front of the received bytes. A refusal changes nothing. If no byte is requested or queued, the
-- call is not refused.
pub record GivesFront {E : Type 0} (s t : Stored) (x y : Conn (List Slice)) (n d : ℕ) (r : Result (List Slice) E) :
    Type 0 where
  pub gives : IfOk r (λ a. GivesFirst s t x.incoming a y.incoming n d)
  pub none : min n (byte_len x.incoming) ≡ 0 → IsOk r
  pub others : y ≡ record x { incoming = y.incoming }
  pub err : OnErr r ((y ≡ x) × (t ≡ s))

-- The longest prefix of the received bytes whose pools all name the domain is copied to the front of a memory, as far
-- as there is room: n bytes. The rest of the memory is unchanged.
pub record CopiesFront (s : Stored) (x : Conn (List Slice)) (d : ℕ) (old new : List ℕ) (n : ℕ) : Type 0 where
  pub count : n ≡ length (take_while (may_see s.pools d) (take (length old) (places x.incoming)))
  pub copied : new ≡ take n (bytes_of (text_of s x.incoming)) ++ drop n old

-- The first n received bytes are released, or all if there are fewer.
pub record Skips (s t : Stored) (x y : Conn (List Slice)) (n : ℕ) : Type 0 where
  pub rest : places y.incoming ≡ drop n (places x.incoming)
  pub few : length y.incoming ≤ length x.incoming
  pub others : y ≡ record x { incoming = y.incoming }
  pub releases : Releases s t x.incoming y.incoming

-- Output.

-- An aggregate's bytes are queued to be sent, as many as fit, and are shared. The call is refused by the first refusal
-- that holds, else only for lack of memory, and not for that if no byte fits. A refusal changes nothing.
pub record QueuesShared (s t : Stored) (x y : Conn (List Slice)) (from : List Slice) (r : Result ℕ Refusal) :
    Type 0 where
  pub passed : OnOk r (IsPassed (queue_refusals x (byte_len from)))
  pub refused : IfErr r (IsRefused (queue_refusals x (byte_len from)) WantOfMemory)
  pub shares : IfOk r (SharesFitting s t x.outgoing y.outgoing from)
  pub others : y ≡ record x { outgoing = y.outgoing }
  pub none : fitting x.outgoing (byte_len from) ≡ 0 → r ≢ Err Memory
  pub err : OnErr r ((y ≡ x) × (t ≡ s))

-- New bytes of a pool are queued to be sent, as many as fit. The call is refused by the first refusal that holds, else
-- only for lack of room or memory, and a refusal changes nothing.
pub record QueuesNew (s t : Stored) (x y : Conn (List Slice)) (pool : ℕ) (bytes : List ℕ) (r : Result ℕ Refusal) :
    Type 0 where
  pub passed : OnOk r (IsPassed (queue_refusals x (length bytes)))
  pub refused : IfErr r (IsRefused (queue_refusals x (length bytes)) (WantOfRoom pool))
  pub adds : IfOk r (AddsFitting s t x.outgoing y.outgoing pool bytes)
  pub others : y ≡ record x { outgoing = y.outgoing }
  pub room : ReportsRoom (has_room s pool (fitting x.outgoing (length bytes))) r
  pub err : OnErr r ((y ≡ x) × (t ≡ s))

-- The first max bytes are sent, or all if there are fewer, with the checksum of these bytes only. The call is refused
-- by the first refusal that holds, else only for lack of memory, and a refusal changes nothing. The remembered sums
-- stay right.
pub record Segments (s t : Stored) (x y : Conn (List Slice)) (max : ℕ) (sums summed : Sums) (r : Result Segment Refusal)
    : Type 0 where
  pub passed : OnOk r (IsPassed (segment_refusals x max))
  pub refused : IfErr r (IsRefused (segment_refusals x max) WantOfMemory)
  pub sent : IfOk r (λ g. IsSent s t x.outgoing y.outgoing max sums summed g.bytes)
  pub checksum : IfOk r (λ g. g.checksum ≡ checksum_of g.bytes)
  pub others : y ≡ record x { outgoing = y.outgoing }
  pub right : IsRight t.arena summed
  pub err : OnErr r ((y ≡ x) × (t ≡ s) × (summed ≡ sums))

-- The first bytes to be sent, at most max, were passed to a writer, and those that it took left the queue.
pub record Drains {W : Type 0} (contents : W → Option (List ℕ)) (writer after : W) (s t : Stored)
    (x y : Conn (List Slice))
    (max : ℕ) (d : Drained) : Type 0 where
  pub writes : Writes contents writer after s x.outgoing max d
  pub rest : places y.outgoing ≡ drop d.taken (places x.outgoing)
  pub few : length y.outgoing ≤ length x.outgoing
  pub others : y ≡ record x { outgoing = y.outgoing }
  pub releases : Releases s t x.outgoing y.outgoing

-- The end of a connection.

-- Its peer sends no more, or also takes no more. Bytes to be sent to a peer that is gone are released.
pub record ClosesPeer (s t : Stored) (x y : Conn (List Slice)) (how : How) : Type 0 where
  pub closed : y ≡ closed_by x how
  pub releases : Releases s t x.outgoing y.outgoing

-- Its domain closes it. Unread bytes are released.
pub record Closes (s t : Stored) (x y : Conn (List Slice)) : Type 0 where
  pub closed : y ≡ record x { incoming = []; closed = true }
  pub releases : Releases s t x.incoming []

-- The references of both queues of a connection are released, no pool's list changed, and pages were at most freed. If
-- both queues were readable, and no closed pool kept chunks that were all empty, then none does afterwards.
pub record ReleasesBoth (s t : Stored) (incoming outgoing : List Slice) : Type 0 where
  pub moves : Moves s t (bufs_of incoming ++ bufs_of outgoing) []
  pub lists : SameLists s t
  pub frees : FreesOnly s t
  pub reclaims : AllReadable s (incoming ++ outgoing) → AllReclaimed s → AllReclaimed t
