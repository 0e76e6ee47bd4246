-- The effect on a connection or a pipe of calls of other domains and of external events.
use Rattle.std.specs.Prelude.{◌≡◌, ℕ, ◌-◌, min, ◌⊎◌, ◌||◌, List, [], ◌++◌, length, take, drop, Some, None}
use Rattle.std.specs.Prelude.{IsTrue, IsFalse, ◌≢◌}
use Rattle.iol_core.specs.Text.{Text, bytes_of}
use Rattle.iol_core.specs.Checksum.{checksum}
use Rattle.iol_core.specs.State.{State, descriptor, pool, may_read, conn_at, no_conn, new_conn, pipe_at}
use Rattle.iol_core.specs.Calls.Outside.{closed_by}
use Rattle.iol_core.specs.Run.{StepsTo}
use Rattle.iol_core.specs.declared.limits.TheConstants.{MAX_QUEUE_BYTES}
use Rattle.iol_core.specs.declared.descriptors.How.{How}
use Rattle.iol_core.specs.declared.descriptors.Descriptor.{Descriptor}
use Rattle.iol_core.specs.declared.descriptors.Descriptor.TheVariants as on
use Rattle.iol_core.specs.declared.events.Call.{Call}
use Rattle.iol_core.specs.declared.events.Event.TheVariants as event
use Rattle.iol_core.specs.declared.events.Reply.{Reply}
use Rattle.iol_core.specs.declared.events.Reply.TheVariants as reply
use Rattle.iol_laws.specs.Order.{IsOrderly}
use Rattle.iol_laws.specs.Caller.{remains}

-- a new connection waits, with empty input and output
pub record Connects (s : State) (p c : ℕ) (t : State) : Type 0 where
  pub new : conn_at s c ≡ no_conn
  pub conn : conn_at t c ≡ new_conn p
  pub open_yet : IsFalse (pool s p).closed

abbrev pub MakesConn : State → (p : ℕ) → Reply → State → Type 0
MakesConn s p (reply.Conn c) t = Connects s p c t
MakesConn s p (reply.Refused x) t = t ≡ s
MakesConn s p r t = ⊥

-- bytes are received
pub record ComesIn (s : State) (c : ℕ) (bytes : List ℕ) (t : State) : Type 0 where
  pub open_yet : IsFalse (conn_at s c).closed
  -- and the peer did not close
  pub peer_open : (conn_at s c).peer ≡ None
  pub incoming : Text
  pub bytes_are : bytes_of incoming ≡ bytes_of (conn_at s c).incoming ++ bytes
  pub conn : conn_at t c ≡ record (conn_at s c) { incoming = incoming }

abbrev pub Arrives : State → (c : ℕ) → List ℕ → Reply → State → Type 0
Arrives s c bytes (reply.Count k) t = ComesIn s c (take k bytes) t
Arrives s c bytes (reply.Refused x) t = t ≡ s
Arrives s c bytes r t = ⊥

-- the first queued bytes, at most max, are sent; a connection that is then over is removed
pub record GoesOut (s : State) (c max : ℕ) (bytes : List ℕ) (t : State) : Type 0 where
  pub bytes_are : bytes ≡ bytes_of (take max (conn_at s c).outgoing)
  pub some : (conn_at s c).outgoing ≢ []
  pub conn : conn_at t c ≡ remains (record (conn_at s c) { outgoing = drop max (conn_at s c).outgoing })

abbrev pub Transmits : State → (c max : ℕ) → Reply → State → Type 0
Transmits s c max (reply.Segment bytes sum) t = GoesOut s c max bytes t
Transmits s c max (reply.Refused x) t = t ≡ s
Transmits s c max r t = ⊥

-- the peer closed; a connection that is then over is removed
abbrev pub PeerCloses : State → (c : ℕ) → How → Reply → State → Type 0
PeerCloses s c how reply.Done t = conn_at t c ≡ remains (closed_by (conn_at s c) how)
PeerCloses s c how (reply.Refused x) t = t ≡ s
PeerCloses s c how r t = ⊥

pub record OthersLeaveConnections : Type 0 where
  -- a call does not change a connection that its domain neither has nor may accept
  pub conn : (s t : State) (d : ℕ) (k : Call) (r : Reply) (c : ℕ) → IsOrderly s → StepsTo s (event.Call d k) r t
      → ((f : ℕ) → descriptor s d f ≢ Some (on.Connection c))
      → IsTrue (conn_at s c).accepted ⊎ IsFalse (may_read s d (conn_at s c).pool) → conn_at t c ≡ conn_at s c
  -- a call does not change a waiting connection, or accepts it
  pub waiting : (s t : State) (d : ℕ) (k : Call) (r : Reply) (c : ℕ) → IsOrderly s → StepsTo s (event.Call d k) r t
      → IsFalse (conn_at s c).accepted → (conn_at t c ≡ conn_at s c) ⊎ IsTrue (conn_at t c).accepted
  -- an accepted connection stays accepted
  pub accepted : (s t : State) (d : ℕ) (k : Call) (r : Reply) (c : ℕ) → IsOrderly s → StepsTo s (event.Call d k) r t
      → IsTrue (conn_at s c).accepted → IsTrue (conn_at t c).accepted
  -- the effect of an external event on the connection that it makes or names
  pub connect : (s t : State) (p : ℕ) (r : Reply) → IsOrderly s → StepsTo s (event.ConnNew p) r t → MakesConn s p r t
  pub arrive : (s t : State) (c : ℕ) (bytes : List ℕ) (r : Reply) → IsOrderly s → StepsTo s (event.Arrive c bytes) r t
      → Arrives s c bytes r t
  pub transmit : (s t : State) (c max : ℕ) (r : Reply) → IsOrderly s → StepsTo s (event.Transmit c max) r t
      → Transmits s c max r t
  pub peer_closed : (s t : State) (c : ℕ) (how : How) (r : Reply) → IsOrderly s → StepsTo s (event.PeerClosed c how) r t
      → PeerCloses s c how r t
  -- as many of the arriving bytes are received as fit
  pub arrive_count : (s t : State) (c : ℕ) (bytes : List ℕ) (k : ℕ) → StepsTo s (event.Arrive c bytes) (reply.Count k) t
      → k ≡ min (length bytes) (MAX_QUEUE_BYTES - length (conn_at s c).incoming)
  -- a segment has max bytes, or all queued bytes if these are fewer, and their checksum
  pub transmit_count : (s t : State) (c max : ℕ) (bytes : List ℕ) (sum : ℕ)
      → StepsTo s (event.Transmit c max) (reply.Segment bytes sum) t
      → (length bytes ≡ min max (length (conn_at s c).outgoing)) × (sum ≡ checksum bytes)

-- the unread bytes of a pipe remain in place, and more may be appended
pub record StaysUnread (s : State) (p : ℕ) (t : State) : Type 0 where
  pub more : Text
  pub queue : (pipe_at t p).queue ≡ (pipe_at s p).queue ++ more
  pub reading : IsTrue (pipe_at t p).reading

-- bytes of a pipe are removed only from its front
pub record GoesFromFront (s : State) (p : ℕ) (t : State) : Type 0 where
  pub gone : Text
  pub queue : (pipe_at s p).queue ≡ gone ++ (pipe_at t p).queue
  pub writing : IsTrue (pipe_at t p).writing

abbrev pub HasNotEnd : State → (d : ℕ) → Descriptor → Type 0
HasNotEnd s d x = (fd : ℕ) → descriptor s d fd ≢ Some x

-- Calls of a domain that does not have both ends of a pipe.
pub record OthersLeavePipes : Type 0 where
  -- a domain with neither end does not change it
  pub pipe : (s t : State) (d : ℕ) (k : Call) (r : Reply) (p : ℕ) → StepsTo s (event.Call d k) r t
      → HasNotEnd s d (on.ReadEnd p) → HasNotEnd s d (on.WriteEnd p)
      → IsTrue ((pipe_at s p).reading || (pipe_at s p).writing) → pipe_at t p ≡ pipe_at s p
  -- a domain without the read end takes nothing from it
  pub unread : (s t : State) (d : ℕ) (k : Call) (r : Reply) (p : ℕ) → StepsTo s (event.Call d k) r t
      → HasNotEnd s d (on.ReadEnd p) → IsTrue (pipe_at s p).reading → StaysUnread s p t
  -- a domain without the write end adds nothing
  pub written : (s t : State) (d : ℕ) (k : Call) (r : Reply) (p : ℕ) → StepsTo s (event.Call d k) r t
      → HasNotEnd s d (on.WriteEnd p) → IsTrue (pipe_at s p).writing → GoesFromFront s p t
