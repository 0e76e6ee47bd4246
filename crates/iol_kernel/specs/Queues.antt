-- Pipes of which one has another queue, and the effect of each call on it.
use Rattle.std.specs.Prelude.{◌≡◌, ℕ, ◌++◌, List, [], true, length, take, take_while, drop, Option, Some, Result, IfOk}
use Rattle.std.specs.Prelude.{IfErr, OnOk, OnErr, slice_set, IsTrue}
use Rattle.iol_core.specs.Meaning.{WantOfRoom}
use Rattle.iol_core.specs.Text.{bytes_of}
use Rattle.iol_core.specs.declared.refusals.Refusal.{Refusal}
use Rattle.iol_hold.specs.Moves.{Covers}
use Rattle.iol_hold.specs.Places.{places}
use Rattle.iol_hold.specs.Releases.{Releases}
use Rattle.iol_hold.specs.Room.{ReportsRoom, has_room}
use Rattle.iol_hold.specs.StoreState.{Stored}
use Rattle.iol_hold.specs.Texts.{bufs_of, text_of}
use Rattle.iol_hold.specs.declared.slices.Slice.{Slice}
use Rattle.iol_pipe.specs.NewBytes.{AddsFitting, SharesFitting}
use Rattle.iol_pipe.specs.Queue.{GivesFirst, fitting, may_see}
use Rattle.iol_kernel.specs.Views.{Pipe}
use Rattle.iol_kernel.specs.KernelState.{queue_at}

-- a pipe whose queue is empty and whose ends are both open
abbrev pub empty_pipe : Pipe (List Slice)
empty_pipe = record { queue = []; reading = true; writing = true }

-- the pipes with the queue xs in the pipe p
abbrev pub with_queue : List (Option (Pipe (List Slice))) → (p : ℕ) → List Slice → List (Option (Pipe (List Slice)))
with_queue pipes p xs = slice_set pipes p (Some (record (queue_at pipes p) { queue = xs }))

-- the pipes with the queue that p has in others
abbrev pub with_queue_of : List (Option (Pipe (List Slice))) → (p : ℕ) → (others : List (Option (Pipe (List Slice))))
    → List (Option (Pipe (List Slice)))
with_queue_of pipes p others = with_queue pipes p (queue_at others p).queue

-- A pipe's queue gets as many bytes of these slices as fit, at its end. They are shared, and no other pipe changes. A
-- refusal changes nothing.
pub record PushesIn {E : Type 0} (s t : Stored) (old new : List (Option (Pipe (List Slice)))) (p : ℕ)
    (from : List Slice) (r : Result ℕ E) : Type 0 where
  pub shares : IfOk r (SharesFitting s t (queue_at old p).queue (queue_at new p).queue from)
  pub pipes : OnOk r (new ≡ with_queue_of old p new)
  pub err : OnErr r ((new ≡ old) × (t ≡ s))

-- A pipe's queue gets as many new bytes of a pool as fit, at its end, and no other pipe changes. This succeeds only if
-- the pool has room for them, and NoRoom is returned only if it does not. The only refusals are NoRoom and Memory, and
-- they change nothing.
pub record FillsIn (s t : Stored) (old new : List (Option (Pipe (List Slice)))) (p pool : ℕ)
    (bytes : List ℕ) (r : Result ℕ Refusal) : Type 0 where
  pub adds : IfOk r (AddsFitting s t (queue_at old p).queue (queue_at new p).queue pool bytes)
  pub pipes : OnOk r (new ≡ with_queue_of old p new)
  pub room : ReportsRoom (has_room s pool (fitting (queue_at old p).queue (length bytes))) r
  pub late : IfErr r (WantOfRoom pool)
  pub err : OnErr r ((new ≡ old) × (t ≡ s))

-- Of the first n bytes of a pipe's queue the longest prefix whose pools all name the domain is taken off, and given to
-- it. No other pipe changes. A refusal changes nothing.
pub record GivesFrontIn {E : Type 0} (s t : Stored) (old new : List (Option (Pipe (List Slice))))
    (p n d : ℕ) (r : Result (List Slice) E) : Type 0 where
  pub gives : IfOk r (λ a. GivesFirst s t (queue_at old p).queue a (queue_at new p).queue n d)
  pub pipes : OnOk r (new ≡ with_queue_of old p new)
  pub err : OnErr r ((new ≡ old) × (t ≡ s))

-- The longest prefix of a pipe's queue whose pools all name the domain is copied over the front of a memory, as much of
-- it as there is room for: n bytes. The rest of the memory is unchanged.
pub record CopiesFront (s : Stored) (pipes : List (Option (Pipe (List Slice)))) (p d : ℕ)
    (old new : List ℕ) (n : ℕ) : Type 0 where
  pub count : n ≡ length (take_while (may_see s.pools d)
      (take (length old) (places (queue_at pipes p).queue)))
  pub copied : new ≡ take n (bytes_of (text_of s (queue_at pipes p).queue)) ++ drop n old

-- A pipe's read end is open, and the slices of its queue are counted.
pub record IsTakenFrom (s : Stored) (pipes : List (Option (Pipe (List Slice)))) (p : ℕ) : Type 0 where
  pub covered : Covers s (bufs_of (queue_at pipes p).queue)
  pub reading : IsTrue (queue_at pipes p).reading

-- The first n bytes of a pipe's queue are released, or all if there are fewer. No other pipe changes.
pub record SkipsIn (s t : Stored) (old new : List (Option (Pipe (List Slice)))) (p n : ℕ) : Type 0 where
  pub rest : places (queue_at new p).queue ≡ drop n (places (queue_at old p).queue)
  pub pipes : new ≡ with_queue_of old p new
  pub releases : Releases s t (queue_at old p).queue (queue_at new p).queue
