-- The effect of a call for its caller, in terms that the caller observes: bytes by number, descriptors, connections.
--
-- Each definition has three cases for the reply: its effect if the call succeeds, an unchanged state if it is refused,
-- and that no other reply is possible.
use Rattle.std.specs.Prelude.{◌≡◌, ◌≢◌, ℕ, ◌-◌, ◌<◌, ◌≤◌, ◌==◌, min, Bool, true, false, if◌then◌else◌, List, [], ◌++◌}
use Rattle.std.specs.Prelude.{is_none, length, take, drop, Option, Some, None, option_map, slice_range, IsTrue, IsFalse}
use Rattle.iol_core.specs.Text.{Text, bytes_of, admitted}
use Rattle.iol_core.specs.State.{State, Connection, aggregate, descriptor, may_read, conn_at, pipe_at, new_pipe}
use Rattle.iol_core.specs.State.{no_conn, is_gone, is_over}
use Rattle.iol_core.specs.Run.{StepsTo}
use Rattle.iol_core.specs.declared.limits.TheConstants.{MAX_QUEUE_BYTES}
use Rattle.iol_core.specs.declared.descriptors.Descriptor.{Descriptor}
use Rattle.iol_core.specs.declared.descriptors.Descriptor.TheVariants as on
use Rattle.iol_core.specs.declared.refusals.Refusal.TheVariants.{TooMany, NoRoom, Fault, Memory}
use Rattle.iol_core.specs.declared.events.Call.{Call}
use Rattle.iol_core.specs.declared.events.Call.TheVariants as call
use Rattle.iol_core.specs.declared.events.Event.TheVariants as event
use Rattle.iol_core.specs.declared.events.Reply.{Reply}
use Rattle.iol_core.specs.declared.events.Reply.TheVariants as reply
use Rattle.iol_laws.specs.Order.{IsOrderly}

-- the bytes that a domain has under a number
abbrev pub readable_at : State → (d a : ℕ) → Option (List ℕ)
readable_at s d a = option_map bytes_of (aggregate s d a)

-- whether the reply is a resource refusal: out of numbers, pages or memory, or a fault of the store
abbrev pub is_resource_failure : Reply → Bool
is_resource_failure (reply.Refused TooMany) = true
is_resource_failure (reply.Refused (NoRoom p)) = true
is_resource_failure (reply.Refused (Fault f)) = true
is_resource_failure (reply.Refused Memory) = true
is_resource_failure r = false

-- an aggregate of these bytes is made, under a new number
abbrev pub Makes : State → (d : ℕ) → List ℕ → Reply → State → Type 0
Makes s d bytes (reply.Agg n) t = (readable_at t d n ≡ Some bytes) × (readable_at s d n ≡ None)
Makes s d bytes (reply.Refused x) t = t ≡ s
Makes s d bytes r t = ⊥

-- two aggregates of these bytes are made, under two new numbers
abbrev pub MakesTwo : State → (d : ℕ) → (front back : List ℕ) → Reply → State → Type 0
MakesTwo s d front back (reply.Aggs n m) t = (readable_at t d n ≡ Some front) × (readable_at t d m ≡ Some back)
    × (readable_at s d n ≡ None) × (readable_at s d m ≡ None)
MakesTwo s d front back (reply.Refused x) t = t ≡ s
MakesTwo s d front back r t = ⊥

-- the first bytes of a connection's input, at most count, are taken as aggregate n; if count is positive and no byte is
-- taken, the peer sends no more
pub record Takes (s : State) (d c count n : ℕ) (t : State) : Type 0 where
  pub text : Text
  pub incoming : Text
  pub is_readable : readable_at t d n ≡ Some (bytes_of text)
  pub new : readable_at s d n ≡ None
  pub was : (conn_at s c).incoming ≡ text ++ incoming
  -- the longest prefix that the domain may read
  pub most : text ≡ admitted (may_read s d) (take count (conn_at s c).incoming)
  pub conn : conn_at t c ≡ record (conn_at s c) { incoming = incoming }
  pub ended : 0 < count → text ≡ [] → ((conn_at s c).incoming ≡ []) × IsFalse (is_none (conn_at s c).peer)

abbrev pub ReadsConn : State → (d c count : ℕ) → Reply → State → Type 0
ReadsConn s d c count (reply.Agg n) t = Takes s d c count n t
ReadsConn s d c count (reply.Refused x) t = t ≡ s
ReadsConn s d c count r t = ⊥

-- the first k of these bytes are queued for sending on a connection
pub record Puts (s : State) (c : ℕ) (bytes : List ℕ) (k : ℕ) (t : State) : Type 0 where
  pub text : Text
  pub within : k ≤ length bytes
  pub text_is : bytes_of text ≡ take k bytes
  -- as many as fit
  pub most : k ≡ min (length bytes) (MAX_QUEUE_BYTES - length (conn_at s c).outgoing)
  pub takes : IsFalse (is_gone (conn_at s c).peer)
  pub conn : conn_at t c ≡ record (conn_at s c) { outgoing = (conn_at s c).outgoing ++ text }

abbrev pub WritesConn : State → (c : ℕ) → List ℕ → Reply → State → Type 0
WritesConn s c bytes (reply.Count k) t = Puts s c bytes k t
WritesConn s c bytes (reply.Refused x) t = t ≡ s
WritesConn s c bytes r t = ⊥

-- the first bytes of a pipe, at most count, are taken as aggregate n; if count is positive and no byte is taken, the
-- pipe has no writer
pub record TakesFromPipe (s : State) (d p count n : ℕ) (t : State) : Type 0 where
  pub text : Text
  pub rest : Text
  pub is_readable : readable_at t d n ≡ Some (bytes_of text)
  pub new : readable_at s d n ≡ None
  pub was : (pipe_at s p).queue ≡ text ++ rest
  -- the longest prefix that the domain may read
  pub most : text ≡ admitted (may_read s d) (take count (pipe_at s p).queue)
  pub pipe : pipe_at t p ≡ record (pipe_at s p) { queue = rest }
  pub ended : 0 < count → text ≡ [] → ((pipe_at s p).queue ≡ []) × IsFalse (pipe_at s p).writing

abbrev pub ReadsPipe : State → (d p count : ℕ) → Reply → State → Type 0
ReadsPipe s d p count (reply.Agg n) t = TakesFromPipe s d p count n t
ReadsPipe s d p count (reply.Refused x) t = t ≡ s
ReadsPipe s d p count r t = ⊥

-- the first k of these bytes are appended to a pipe
pub record PutsInPipe (s : State) (p : ℕ) (bytes : List ℕ) (k : ℕ) (t : State) : Type 0 where
  pub text : Text
  pub within : k ≤ length bytes
  pub text_is : bytes_of text ≡ take k bytes
  -- as many as fit
  pub most : k ≡ min (length bytes) (MAX_QUEUE_BYTES - length (pipe_at s p).queue)
  pub takes : IsTrue (pipe_at s p).reading
  pub pipe : pipe_at t p ≡ record (pipe_at s p) { queue = (pipe_at s p).queue ++ text }

abbrev pub WritesPipe : State → (p : ℕ) → List ℕ → Reply → State → Type 0
WritesPipe s p bytes (reply.Count k) t = PutsInPipe s p bytes k t
WritesPipe s p bytes (reply.Refused x) t = t ≡ s
WritesPipe s p bytes r t = ⊥

-- a new pipe is open for reading under one new descriptor, and for writing under another
pub record OpensPipe (s : State) (d reads writes : ℕ) (t : State) : Type 0 where
  pub pipe : ℕ
  pub empty : pipe_at t pipe ≡ new_pipe
  pub read_end : descriptor t d reads ≡ Some (on.ReadEnd pipe)
  pub write_end : descriptor t d writes ≡ Some (on.WriteEnd pipe)
  pub new_reads : descriptor s d reads ≡ None
  pub new_writes : descriptor s d writes ≡ None

abbrev pub MakesPipe : State → (d : ℕ) → Reply → State → Type 0
MakesPipe s d (reply.Fds reads writes) t = OpensPipe s d reads writes t
MakesPipe s d (reply.Refused x) t = t ≡ s
MakesPipe s d r t = ⊥

-- the reply is these bytes, and nothing changes
abbrev pub Shows : State → List ℕ → Reply → State → Type 0
Shows s bytes (reply.Bytes found) t = (found ≡ bytes) × (t ≡ s)
Shows s bytes (reply.Refused x) t = t ≡ s
Shows s bytes r t = ⊥

-- an aggregate is dropped
abbrev pub Drops : State → (d a : ℕ) → Reply → State → Type 0
Drops s d a reply.Done t = readable_at t d a ≡ None
Drops s d a (reply.Refused x) t = t ≡ s
Drops s d a r t = ⊥

-- a descriptor is closed
abbrev pub Closes : State → (d fd : ℕ) → Reply → State → Type 0
Closes s d fd reply.Done t = descriptor t d fd ≡ None
Closes s d fd (reply.Refused x) t = t ≡ s
Closes s d fd r t = ⊥

-- the object of a descriptor is given to a domain as its descriptor g; if that is another domain, g is new there, and
-- fd is closed here
pub record HandsOn (s : State) (d fd to : ℕ) (x : Descriptor) (g : ℕ) (t : State) : Type 0 where
  pub open_on : descriptor t to g ≡ Some x
  pub new : d ≢ to → descriptor s to g ≡ None
  pub left : d ≢ to → descriptor t d fd ≡ None

abbrev pub GivesFd : State → (d fd to : ℕ) → Descriptor → Reply → State → Type 0
GivesFd s d fd to x (reply.Fd g) t = HandsOn s d fd to x g t
GivesFd s d fd to x (reply.Refused y) t = t ≡ s
GivesFd s d fd to x r t = ⊥

-- an aggregate is given to a domain, under a new number there
abbrev pub GivesAgg : State → (to : ℕ) → List ℕ → Reply → State → Type 0
GivesAgg s to bytes (reply.Agg n) t = (readable_at t to n ≡ Some bytes) × (readable_at s to n ≡ None)
GivesAgg s to bytes (reply.Refused x) t = t ≡ s
GivesAgg s to bytes r t = ⊥

-- the rest of a connection: it is removed exactly if it is over
abbrev pub remains : Connection → Connection
remains x = if is_over x then no_conn else x

-- A connection that is closed loses its unread input; no other field changes. It is then removed if it is over.
abbrev pub ClosesConn : State → (c : ℕ) → Reply → State → Type 0
ClosesConn s c reply.Done t = conn_at t c ≡ remains (record (conn_at s c) { incoming = []; closed = true })
ClosesConn s c (reply.Refused x) t = t ≡ s
ClosesConn s c r t = ⊥

-- a pipe whose write end is closed keeps its bytes while its read end is open
abbrev pub ClosesWriteEnd : State → (p : ℕ) → Reply → State → Type 0
ClosesWriteEnd s p reply.Done t = IsFalse (pipe_at t p).writing
    × (IsTrue (pipe_at s p).reading → pipe_at t p ≡ record (pipe_at s p) { writing = false })
ClosesWriteEnd s p (reply.Refused x) t = t ≡ s
ClosesWriteEnd s p r t = ⊥

-- a pipe whose read end is closed loses its bytes
abbrev pub ClosesReadEnd : State → (p : ℕ) → Reply → State → Type 0
ClosesReadEnd s p reply.Done t = IsFalse (pipe_at t p).reading × ((pipe_at t p).queue ≡ [])
    × ((pipe_at t p).writing ≡ (pipe_at s p).writing)
ClosesReadEnd s p (reply.Refused x) t = t ≡ s
ClosesReadEnd s p r t = ⊥

-- a waiting connection is accepted, as descriptor fd
pub record TakesConn (s : State) (d fd : ℕ) (t : State) : Type 0 where
  pub conn : ℕ
  pub waited : IsFalse (conn_at s conn).accepted
  pub may : IsTrue (may_read s d (conn_at s conn).pool)
  pub open_on : descriptor t d fd ≡ Some (on.Connection conn)
  pub new : descriptor s d fd ≡ None
  pub conn_is : conn_at t conn ≡ record (conn_at s conn) { accepted = true }
  pub others : (k : ℕ) → conn ≢ k → conn_at t k ≡ conn_at s k

abbrev pub Accepts : State → (d : ℕ) → Reply → State → Type 0
Accepts s d (reply.Fd fd) t = TakesConn s d fd t
Accepts s d (reply.Refused x) t = t ≡ s
Accepts s d r t = ⊥

-- Each call, from a state between two events.
pub record CallsServeTheirDomain : Type 0 where
  pub make : (s t : State) (d : ℕ) (bytes : List ℕ) (r : Reply) → IsOrderly s
      → StepsTo s (event.Call d (call.AggMake bytes)) r t → Makes s d bytes r t
  pub cut : (s t : State) (d a from to : ℕ) (bytes : List ℕ) (r : Reply) → IsOrderly s → readable_at s d a ≡ Some bytes
      → StepsTo s (event.Call d (call.AggCut a from to)) r t → Makes s d (slice_range bytes from to) r t
  pub split : (s t : State) (d a at : ℕ) (bytes : List ℕ) (r : Reply) → IsOrderly s → readable_at s d a ≡ Some bytes
      → StepsTo s (event.Call d (call.AggSplit a at)) r t → MakesTwo s d (take at bytes) (drop at bytes) r t
  pub join : (s t : State) (d a b : ℕ) (xs ys : List ℕ) (r : Reply) → IsOrderly s → readable_at s d a ≡ Some xs
      → readable_at s d b ≡ Some ys → StepsTo s (event.Call d (call.AggJoin a b)) r t → Makes s d (xs ++ ys) r t
  pub dup : (s t : State) (d a : ℕ) (bytes : List ℕ) (r : Reply) → IsOrderly s → readable_at s d a ≡ Some bytes
      → StepsTo s (event.Call d (call.AggDup a)) r t → Makes s d bytes r t
  pub replace : (s t : State) (d a from to b : ℕ) (xs ys : List ℕ) (r : Reply) → IsOrderly s
      → readable_at s d a ≡ Some xs
      → readable_at s d b ≡ Some ys → StepsTo s (event.Call d (call.AggReplace a from to b)) r t
      → Makes s d (take from xs ++ ys ++ drop to xs) r t
  pub shows : (s t : State) (d a : ℕ) (bytes : List ℕ) (r : Reply) → readable_at s d a ≡ Some bytes
      → StepsTo s (event.Call d (call.Show a)) r t → Shows s bytes r t
  pub drops : (s t : State) (d a : ℕ) (r : Reply) → IsOrderly s → StepsTo s (event.Call d (call.AggDrop a)) r t
      → Drops s d a r t
  pub read_conn : (s t : State) (d fd c n : ℕ) (r : Reply) → IsOrderly s → descriptor s d fd ≡ Some (on.Connection c)
      → StepsTo s (event.Call d (call.IolRead fd n)) r t → ReadsConn s d c n r t
  pub write_conn : (s t : State) (d fd c a : ℕ) (bytes : List ℕ) (r : Reply) → IsOrderly s
      → descriptor s d fd ≡ Some (on.Connection c) → readable_at s d a ≡ Some bytes
      → StepsTo s (event.Call d (call.IolWrite fd a)) r t → WritesConn s c bytes r t
  pub makes_pipe : (s t : State) (d : ℕ) (r : Reply) → StepsTo s (event.Call d call.Pipe) r t → MakesPipe s d r t
  pub read_pipe : (s t : State) (d fd p n : ℕ) (r : Reply) → IsOrderly s → descriptor s d fd ≡ Some (on.ReadEnd p)
      → StepsTo s (event.Call d (call.IolRead fd n)) r t → ReadsPipe s d p n r t
  pub write_pipe : (s t : State) (d fd p a : ℕ) (bytes : List ℕ) (r : Reply) → IsOrderly s
      → descriptor s d fd ≡ Some (on.WriteEnd p) → readable_at s d a ≡ Some bytes
      → StepsTo s (event.Call d (call.IolWrite fd a)) r t → WritesPipe s p bytes r t
  pub closes_write_end : (s t : State) (d fd p : ℕ) (r : Reply) → IsOrderly s → descriptor s d fd ≡ Some (on.WriteEnd p)
      → StepsTo s (event.Call d (call.Close fd)) r t → ClosesWriteEnd s p r t
  pub closes_read_end : (s t : State) (d fd p : ℕ) (r : Reply) → IsOrderly s → descriptor s d fd ≡ Some (on.ReadEnd p)
      → StepsTo s (event.Call d (call.Close fd)) r t → ClosesReadEnd s p r t
  pub gives_fd : (s t : State) (d fd to : ℕ) (x : Descriptor) (r : Reply) → descriptor s d fd ≡ Some x
      → StepsTo s (event.Call d (call.GiveFd fd to)) r t → GivesFd s d fd to x r t
  pub gives_agg : (s t : State) (d a to : ℕ) (bytes : List ℕ) (r : Reply) → IsOrderly s → readable_at s d a ≡ Some bytes
      → StepsTo s (event.Call d (call.AggGive a to)) r t → GivesAgg s to bytes r t
  pub closes : (s t : State) (d fd : ℕ) (r : Reply) → StepsTo s (event.Call d (call.Close fd)) r t → Closes s d fd r t
  pub closes_conn : (s t : State) (d fd c : ℕ) (r : Reply) → IsOrderly s → descriptor s d fd ≡ Some (on.Connection c)
      → StepsTo s (event.Call d (call.Close fd)) r t → ClosesConn s c r t
  pub accepts : (s t : State) (d : ℕ) (r : Reply) → IsOrderly s → StepsTo s (event.Call d call.Accept) r t
      → Accepts s d r t

-- whether the reply has this number of an aggregate, or of a descriptor
abbrev pub is_agg : Reply → (a : ℕ) → Bool
is_agg (reply.Agg b) a = b == a
is_agg r a = false

abbrev pub is_fd : Reply → (g : ℕ) → Bool
is_fd (reply.Fd f) g = f == g
is_fd r g = false

-- whether the number in the reply is the receiver's
abbrev pub gives_away : Call → Bool
gives_away (call.AggGive a to) = true
gives_away (call.GiveFd f to) = true
gives_away k = false

-- The numbers that a domain gets from its calls are new, and the number of an aggregate names an existing one.
pub record NumbersAreNew : Type 0 where
  pub agg : (s t : State) (d : ℕ) (k : Call) (r : Reply) (a : ℕ) → IsOrderly s → StepsTo s (event.Call d k) r t
      → IsFalse (gives_away k) → IsTrue (is_agg r a) → readable_at s d a ≡ None
  pub named : (s t : State) (d : ℕ) (k : Call) (r : Reply) (a : ℕ) → IsOrderly s → StepsTo s (event.Call d k) r t
      → IsFalse (gives_away k) → IsTrue (is_agg r a) → (bytes : List ℕ) × (readable_at t d a ≡ Some bytes)
  pub fd : (s t : State) (d : ℕ) (k : Call) (r : Reply) (g : ℕ) → IsOrderly s → StepsTo s (event.Call d k) r t
      → IsFalse (gives_away k) → IsTrue (is_fd r g) → descriptor s d g ≡ None
