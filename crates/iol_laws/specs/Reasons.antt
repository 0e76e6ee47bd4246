-- The condition that a refusal reports to its caller: why nothing can be read, written or accepted now. Also the calls
-- that are never refused.
use Rattle.std.specs.Prelude.{◌≡◌, ℕ, ◌≤◌, ◌⊎◌, List, [], ◌∷◌, length, Some, None, IsTrue}
use Rattle.std.specs.Prelude.{IsFalse, IsSome}
use Rattle.iol_core.specs.Text.{Text}
use Rattle.iol_core.specs.State.{State, descriptor, may_read, conn_at, pipe_at, is_gone, is_live}
use Rattle.iol_core.specs.Run.{StepsTo}
use Rattle.iol_core.specs.declared.limits.TheConstants.{MAX_QUEUE_BYTES}
use Rattle.iol_core.specs.declared.descriptors.Descriptor.{Descriptor}
use Rattle.iol_core.specs.declared.descriptors.Descriptor.TheVariants as on
use Rattle.iol_core.specs.declared.refusals.Refusal.TheVariants.{WouldBlock, BrokenPipe, Denied}
use Rattle.iol_core.specs.declared.events.Call.TheVariants as call
use Rattle.iol_core.specs.declared.events.Event.TheVariants as event
use Rattle.iol_core.specs.declared.events.Reply.{Reply}
use Rattle.iol_core.specs.declared.events.Reply.TheVariants as reply
use Rattle.iol_laws.specs.Caller.{readable_at}

-- the first byte is in this pool, which the domain may not read
pub record IsHidden (s : State) (d p : ℕ) (text : Text) : Type 0 where
  pub byte : ℕ
  pub rest : Text
  pub text_is : text ≡ (byte, p) ∷ rest
  pub may_not : IsFalse (may_read s d p)

pub record RefusalsTellWhy : Type 0 where
  -- nothing can be read, but bytes may still arrive
  pub conn_is_empty : (s t : State) (d fd c n : ℕ) → descriptor s d fd ≡ Some (on.Connection c)
      → StepsTo s (event.Call d (call.IolRead fd n)) (reply.Refused WouldBlock) t
      → ((conn_at s c).incoming ≡ []) × ((conn_at s c).peer ≡ None)
  pub pipe_is_empty : (s t : State) (d fd p n : ℕ) → descriptor s d fd ≡ Some (on.ReadEnd p)
      → StepsTo s (event.Call d (call.IolRead fd n)) (reply.Refused WouldBlock) t
      → ((pipe_at s p).queue ≡ []) × IsTrue (pipe_at s p).writing
  -- the domain may not read the first byte
  pub conn_is_hidden : (s t : State) (d fd c n q : ℕ) → descriptor s d fd ≡ Some (on.Connection c)
      → StepsTo s (event.Call d (call.IolRead fd n)) (reply.Refused (Denied q)) t
      → IsHidden s d q (conn_at s c).incoming
  pub pipe_is_hidden : (s t : State) (d fd p n q : ℕ) → descriptor s d fd ≡ Some (on.ReadEnd p)
      → StepsTo s (event.Call d (call.IolRead fd n)) (reply.Refused (Denied q)) t → IsHidden s d q (pipe_at s p).queue
  -- the queue is full
  pub conn_is_full : (s t : State) (d fd c a : ℕ) → descriptor s d fd ≡ Some (on.Connection c)
      → StepsTo s (event.Call d (call.IolWrite fd a)) (reply.Refused WouldBlock) t
      → MAX_QUEUE_BYTES ≤ length (conn_at s c).outgoing
  pub pipe_is_full : (s t : State) (d fd p a : ℕ) → descriptor s d fd ≡ Some (on.WriteEnd p)
      → StepsTo s (event.Call d (call.IolWrite fd a)) (reply.Refused WouldBlock) t
      → MAX_QUEUE_BYTES ≤ length (pipe_at s p).queue
  -- the peer receives no more
  pub peer_is_gone : (s t : State) (d fd c a : ℕ) → descriptor s d fd ≡ Some (on.Connection c)
      → StepsTo s (event.Call d (call.IolWrite fd a)) (reply.Refused BrokenPipe) t → IsTrue (is_gone (conn_at s c).peer)
  pub nobody_reads : (s t : State) (d fd p a : ℕ) → descriptor s d fd ≡ Some (on.WriteEnd p)
      → StepsTo s (event.Call d (call.IolWrite fd a)) (reply.Refused BrokenPipe) t → IsFalse (pipe_at s p).reading
  -- the input queue is full, or there is nothing to send
  pub arrival_is_full : (s t : State) (c : ℕ) (bytes : List ℕ)
      → StepsTo s (event.Arrive c bytes) (reply.Refused WouldBlock) t → MAX_QUEUE_BYTES ≤ length (conn_at s c).incoming
  pub segment_is_empty : (s t : State) (c max : ℕ) → StepsTo s (event.Transmit c max) (reply.Refused WouldBlock) t
      → (conn_at s c).outgoing ≡ []
  -- the peer closed the connection, or its domain did
  pub arrival_is_broken : (s t : State) (c : ℕ) (bytes : List ℕ)
      → StepsTo s (event.Arrive c bytes) (reply.Refused BrokenPipe) t
      → IsSome (conn_at s c).peer ⊎ IsTrue (conn_at s c).closed
  -- the domain may accept none of the waiting connections
  pub nobody_waits : (s t : State) (d c : ℕ) → StepsTo s (event.Call d call.Accept) (reply.Refused WouldBlock) t
      → IsFalse (conn_at s c).accepted → IsFalse (may_read s d (conn_at s c).pool)
  -- an existing object is closed or dropped without refusal
  pub close_is_done : (s t : State) (d fd : ℕ) (x : Descriptor) (r : Reply) → IsTrue (is_live s d)
      → descriptor s d fd ≡ Some x → StepsTo s (event.Call d (call.Close fd)) r t → r ≡ reply.Done
  pub drop_is_done : (s t : State) (d a : ℕ) (bytes : List ℕ) (r : Reply) → IsTrue (is_live s d)
      → readable_at s d a ≡ Some bytes
      → StepsTo s (event.Call d (call.AggDrop a)) r t → r ≡ reply.Done
