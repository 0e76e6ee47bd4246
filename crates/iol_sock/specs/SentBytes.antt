-- The first bytes of a queue, which are sent.
use Rattle.std.specs.Prelude.{◌≡◌, ◌<◌, ◌≤◌, ℕ, List, Option, Result, IfOk, OnErr, length, map, take, drop}
use Rattle.std.specs.Prelude.{min, IsTrue, IsFalse}
use Rattle.std.specs.Io.KnownBytes.{Appends}
use Rattle.iol_core.specs.Prelude.{checksum as checksum_of}
use Rattle.iol_core.specs.Text.{bytes_of}
use Rattle.iol_hold.specs.StoreState.{Stored}
use Rattle.iol_hold.specs.Moves.{Covers, IsCountable}
use Rattle.iol_hold.specs.Places.{byte_len, places, slice_places}
use Rattle.iol_hold.specs.Releases.{Releases}
use Rattle.iol_hold.specs.Texts.{AllReadable, bufs_of, text_of}
use Rattle.iol_hold.specs.declared.slices.Slice.{Slice}
use Rattle.iol_pipe.specs.Prelude.{first_parts}
use Rattle.iol_sum.specs.Prelude.{IsRight}
use Rattle.iol_sum.specs.Sums.{Sums, UsesEach}
use Rattle.iol_sock.specs.declared.drain_to.Drained.{Drained}
use Rattle.iol_sock.specs.declared.outgoing.Segment.{Segment}

-- The first n bytes of a queue are the slices `sent`, the last of which is cut where these bytes end. The sum of each
-- slice was used, in order.
pub record UsesSent (s : Stored) (queue : List Slice) (n : ℕ) (old new : Sums) : Type 0 where
  pub sent : List Slice
  pub cut : map slice_places sent ≡ first_parts n (map slice_places queue)
  pub uses : UsesEach s old sent new

-- The first n bytes of a queue are sent, or all if there are fewer. They leave the queue, and their references are
-- released. The sum of each of their slices was used, in order.
pub record IsSent (s t : Stored) (old new : List Slice) (n : ℕ) (sums summed : Sums) (sent : List ℕ) : Type 0 where
  pub bytes : sent ≡ bytes_of (take n (text_of s old))
  pub rest : places new ≡ drop n (places old)
  pub few : length new ≤ length old
  pub releases : Releases s t old new
  pub uses : UsesSent s old n sums summed

-- Bytes of a queue may be sent: the reference counts cover its slices, and can be incremented once per slice; the
-- slices are readable, and the remembered sums are right.
pub record MaySend (s : Stored) (queue : List Slice) (sums : Sums) : Type 0 where
  pub covered : Covers s (bufs_of queue)
  pub countable : IsCountable s (bufs_of queue)
  pub readable : AllReadable s queue
  pub right : IsRight s.arena sums

-- The first n bytes of a queue are sent, or all if there are fewer, with the checksum of these bytes only. A refusal
-- changes nothing, and the remembered sums stay right.
pub record Sends {E : Type 0} (s t : Stored) (old new : List Slice) (n : ℕ) (sums summed : Sums) (r : Result Segment E)
    : Type 0 where
  pub sent : IfOk r (λ g. IsSent s t old new n sums summed g.bytes)
  pub checksum : IfOk r (λ g. g.checksum ≡ checksum_of g.bytes)
  pub right : IsRight t.arena summed
  pub err : OnErr r ((new ≡ old) × (t ≡ s) × (summed ≡ sums))

-- The first bytes of a queue, at most max, were passed to a writer. It took all of them; or `failed` is reported, and
-- it took fewer. The taken bytes are appended to its contents, if these are known. That a write failed is not stated:
-- the contract of `Write` does not say when it fails.
pub record Writes {W : Type 0} (contents : W → Option (List ℕ)) (writer after : W) (s : Stored) (queue : List Slice)
    (max : ℕ)
    (d : Drained) : Type 0 where
  pub most : d.taken ≤ min max (byte_len queue)
  pub all : IsFalse d.failed → d.taken ≡ min max (byte_len queue)
  pub fewer : IsTrue d.failed → d.taken < min max (byte_len queue)
  pub written : Appends (contents writer) (contents after) (take d.taken (bytes_of (text_of s queue)))
