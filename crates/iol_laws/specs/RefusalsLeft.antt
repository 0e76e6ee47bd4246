-- The refusals that a call may still get if the domain lives and the objects and arguments of the call are valid, with
-- one definition for each set of refusals. Also the calls that may get WouldBlock.
use Rattle.std.specs.Prelude.{◌≡◌, ◌≢◌, ℕ, ◌+◌, ◌≤◌, ◌<◌, Bool, true, false, List, ◌++◌, length, take, drop, Some, None}
use Rattle.std.specs.Prelude.{⊤, IsTrue, IsFalse}
use Rattle.std.specs.List.{list_all}
use Rattle.iol_core.specs.State.{State, domain, descriptor, file, content, conn_at, is_live, is_pool, may_read, pool}
use Rattle.iol_core.specs.Meaning.{FaultIn}
use Rattle.iol_core.specs.Run.{StepsTo}
use Rattle.iol_core.specs.Calls.Files.{file_called}
use Rattle.iol_core.specs.Calls.Outside.{lacks_conn}
use Rattle.iol_core.specs.Calls.Pools.{has_place, is_busy}
use Rattle.iol_core.specs.Calls.Reads.{can_read, reads}
use Rattle.iol_core.specs.Calls.Writes.{can_write, is_file, writes}
use Rattle.iol_core.specs.declared.limits.TheConstants.{MAX_AGGREGATE_BYTES, MAX_CHUNKS, MAX_FILE_BYTES, MAX_NAME_BYTES}
use Rattle.iol_core.specs.declared.descriptors.Descriptor.{Descriptor}
use Rattle.iol_core.specs.declared.descriptors.Descriptor.TheVariants as on
use Rattle.iol_core.specs.declared.descriptors.How.{How}
use Rattle.iol_core.specs.declared.descriptors.Mode.{Mode}
use Rattle.iol_core.specs.declared.refusals.Refusal.{Refusal}
use Rattle.iol_core.specs.declared.refusals.Refusal.TheVariants.{TooMany, Denied, PoolBusy, BrokenPipe, WouldBlock}
use Rattle.iol_core.specs.declared.refusals.Refusal.TheVariants.{NoRoom, Fault, Memory}
use Rattle.iol_core.specs.declared.events.Call.{Call}
use Rattle.iol_core.specs.declared.events.Call.TheVariants as call
use Rattle.iol_core.specs.declared.events.Event.{Event}
use Rattle.iol_core.specs.declared.events.Event.TheVariants as event
use Rattle.iol_core.specs.declared.events.Reply.TheVariants as reply
use Rattle.iol_laws.specs.Caller.{readable_at}

-- the calls that may get WouldBlock
abbrev pub may_wait : Call → Bool
may_wait call.Accept = true
may_wait (call.IolRead fd n) = true
may_wait (call.IolWrite fd a) = true
may_wait (call.Read fd n) = true
may_wait (call.Write fd bytes) = true
may_wait k = false

-- the events that may get WouldBlock
abbrev pub event_may_wait : Event → Bool
event_may_wait (event.Call d k) = may_wait k
event_may_wait (event.Arrive c bytes) = true
event_may_wait (event.Transmit c max) = true
event_may_wait e = false

-- out of numbers or of memory
abbrev pub LacksNumbers : Refusal → Type 0
LacksNumbers TooMany = ⊤
LacksNumbers Memory = ⊤
LacksNumbers x = ⊥

-- out of numbers, of pages in this pool, or of memory
abbrev pub LacksNumbersOrRoom : (pool : ℕ) → Refusal → Type 0
LacksNumbersOrRoom pool TooMany = ⊤
LacksNumbersOrRoom pool (NoRoom p) = p ≡ pool
LacksNumbersOrRoom pool Memory = ⊤
LacksNumbersOrRoom pool x = ⊥

-- out of numbers or of memory, or the receiver may not read the aggregate
abbrev pub LacksNumbersOrIsDenied : Refusal → Type 0
LacksNumbersOrIsDenied TooMany = ⊤
LacksNumbersOrIsDenied (Denied p) = ⊤
LacksNumbersOrIsDenied Memory = ⊤
LacksNumbersOrIsDenied x = ⊥

-- out of numbers or of memory, or no connection is waiting
abbrev pub LacksNumbersOrWaits : Refusal → Type 0
LacksNumbersOrWaits TooMany = ⊤
LacksNumbersOrWaits WouldBlock = ⊤
LacksNumbersOrWaits Memory = ⊤
LacksNumbersOrWaits x = ⊥

-- there is nothing to read, or nothing that the domain may read; or out of memory
abbrev pub HasNothingToRead : Refusal → Type 0
HasNothingToRead (Denied p) = ⊤
HasNothingToRead WouldBlock = ⊤
HasNothingToRead Memory = ⊤
HasNothingToRead x = ⊥

-- the same, or out of numbers for the result
abbrev pub LacksNumbersOrHasNothingToRead : Refusal → Type 0
LacksNumbersOrHasNothingToRead TooMany = ⊤
LacksNumbersOrHasNothingToRead x = HasNothingToRead x

-- there is no reader, or the queue is full; or out of memory
abbrev pub CannotPut : Refusal → Type 0
CannotPut BrokenPipe = ⊤
CannotPut WouldBlock = ⊤
CannotPut Memory = ⊤
CannotPut x = ⊥

-- the same, or out of pages in this pool
abbrev pub CannotPutOrLacksRoom : (pool : ℕ) → Refusal → Type 0
CannotPutOrLacksRoom pool (NoRoom p) = p ≡ pool
CannotPutOrLacksRoom pool x = CannotPut x

-- a fault at this file, or out of memory or of pages in its pool
abbrev pub CannotLoad : (pool file : ℕ) → Refusal → Type 0
CannotLoad pool file (NoRoom p) = p ≡ pool
CannotLoad pool file (Fault f) = f ≡ file
CannotLoad pool file Memory = ⊤
CannotLoad pool file x = ⊥

-- the same, or out of numbers for the result
abbrev pub CannotFetch : (pool file : ℕ) → Refusal → Type 0
CannotFetch pool file TooMany = ⊤
CannotFetch pool file x = CannotLoad pool file x

-- out of memory or of pages in this pool
abbrev pub LacksRoom : (pool : ℕ) → Refusal → Type 0
LacksRoom pool (NoRoom p) = p ≡ pool
LacksRoom pool Memory = ⊤
LacksRoom pool x = ⊥

-- there is nothing to send, or out of memory
abbrev pub HasNothingToSend : Refusal → Type 0
HasNothingToSend WouldBlock = ⊤
HasNothingToSend Memory = ⊤
HasNothingToSend x = ⊥

-- a file or a live connection uses the pool
abbrev pub IsInUse : State → (p : ℕ) → Refusal → Type 0
IsInUse s p (PoolBusy q) = (q ≡ p) × IsTrue (is_busy s p)
IsInUse s p x = ⊥

-- the pool's list is full, and does not have the domain
abbrev pub HasNoPlace : State → (p d : ℕ) → Refusal → Type 0
HasNoPlace s p d TooMany = IsFalse (has_place (pool s p).domains d)
HasNoPlace s p d x = ⊥

pub record RefusalsThatAreLeft : Type 0 where
  pub waits : (s t : State) (d : ℕ) (k : Call) → StepsTo s (event.Call d k) (reply.Refused WouldBlock) t
      → IsTrue (may_wait k)
  -- an event that gets WouldBlock changes nothing
  pub event_waits : (s t : State) (e : Event) → StepsTo s e (reply.Refused WouldBlock) t
      → IsTrue (event_may_wait e) × (t ≡ s)
  pub domain_new : (s t : State) (d : ℕ) (x : Refusal) → IsTrue (is_live s d)
      → StepsTo s (event.Call d call.DomainNew) (reply.Refused x) t → LacksNumbers x
  -- if the domain has a default pool, which is open
  pub make : (s t : State) (d p : ℕ) (bytes : List ℕ) (x : Refusal) → IsTrue (is_live s d)
      → (domain s d).default ≡ Some p
      → IsFalse (pool s p).closed → length bytes ≤ MAX_AGGREGATE_BYTES
      → StepsTo s (event.Call d (call.AggMake bytes)) (reply.Refused x) t → LacksNumbersOrRoom p x
  pub dup : (s t : State) (d a : ℕ) (bytes : List ℕ) (x : Refusal) → IsTrue (is_live s d)
      → readable_at s d a ≡ Some bytes
      → StepsTo s (event.Call d (call.AggDup a)) (reply.Refused x) t → LacksNumbers x
  pub cut : (s t : State) (d a from to : ℕ) (bytes : List ℕ) (x : Refusal) → IsTrue (is_live s d)
      → readable_at s d a ≡ Some bytes
      → from ≤ to → to ≤ length bytes → StepsTo s (event.Call d (call.AggCut a from to)) (reply.Refused x) t
      → LacksNumbers x
  pub split : (s t : State) (d a at : ℕ) (bytes : List ℕ) (x : Refusal) → IsTrue (is_live s d)
      → readable_at s d a ≡ Some bytes
      → at ≤ length bytes → StepsTo s (event.Call d (call.AggSplit a at)) (reply.Refused x) t → LacksNumbers x
  pub join : (s t : State) (d a b : ℕ) (xs ys : List ℕ) (x : Refusal) → IsTrue (is_live s d)
      → readable_at s d a ≡ Some xs
      → readable_at s d b ≡ Some ys → a ≢ b → length xs + length ys ≤ MAX_AGGREGATE_BYTES
      → StepsTo s (event.Call d (call.AggJoin a b)) (reply.Refused x) t → LacksNumbers x
  pub shows : (s t : State) (d a : ℕ) (bytes : List ℕ) (x : Refusal) → IsTrue (is_live s d)
      → readable_at s d a ≡ Some bytes
      → StepsTo s (event.Call d (call.Show a)) (reply.Refused x) t → x ≡ Memory
  pub gives_agg : (s t : State) (d a to : ℕ) (bytes : List ℕ) (x : Refusal) → IsTrue (is_live s d)
      → IsTrue (is_live s to)
      → readable_at s d a ≡ Some bytes → StepsTo s (event.Call d (call.AggGive a to)) (reply.Refused x) t
      → LacksNumbersOrIsDenied x
  pub pipe : (s t : State) (d : ℕ) (x : Refusal) → IsTrue (is_live s d)
      → StepsTo s (event.Call d call.Pipe) (reply.Refused x) t → LacksNumbers x
  pub gives_fd : (s t : State) (d fd to : ℕ) (y : Descriptor) (x : Refusal) → IsTrue (is_live s d)
      → IsTrue (is_live s to)
      → descriptor s d fd ≡ Some y → StepsTo s (event.Call d (call.GiveFd fd to)) (reply.Refused x) t
      → LacksNumbersOrIsDenied x
  pub accepts : (s t : State) (d : ℕ) (x : Refusal) → IsTrue (is_live s d)
      → StepsTo s (event.Call d call.Accept) (reply.Refused x) t → LacksNumbersOrWaits x
  -- for a pipe's read end or a connection
  pub reads_queue : (s t : State) (d fd n : ℕ) (y : Descriptor) (x : Refusal) → IsTrue (is_live s d)
      → descriptor s d fd ≡ Some y → IsFalse (is_file (Some y)) → IsTrue (can_read (Some y))
      → StepsTo s (event.Call d (call.IolRead fd n)) (reply.Refused x) t → LacksNumbersOrHasNothingToRead x
  pub copies_queue : (s t : State) (d fd n : ℕ) (y : Descriptor) (x : Refusal) → IsTrue (is_live s d)
      → descriptor s d fd ≡ Some y → IsFalse (is_file (Some y)) → IsTrue (can_read (Some y))
      → StepsTo s (event.Call d (call.Read fd n)) (reply.Refused x) t → HasNothingToRead x
  -- for a pipe's write end or a connection
  pub writes_queue : (s t : State) (d fd a : ℕ) (y : Descriptor) (bytes : List ℕ) (x : Refusal) → IsTrue (is_live s d)
      → descriptor s d fd ≡ Some y → IsFalse (is_file (Some y)) → IsTrue (can_write (Some y))
      → readable_at s d a ≡ Some bytes
      → StepsTo s (event.Call d (call.IolWrite fd a)) (reply.Refused x) t → CannotPut x
  pub copies_to_queue : (s t : State) (d fd p : ℕ) (y : Descriptor) (bytes : List ℕ) (x : Refusal)
      → IsTrue (is_live s d)
      → descriptor s d fd ≡ Some y → IsFalse (is_file (Some y)) → IsTrue (can_write (Some y))
      → (domain s d).default ≡ Some p
      → IsFalse (pool s p).closed → StepsTo s (event.Call d (call.Write fd bytes)) (reply.Refused x) t
      → CannotPutOrLacksRoom p x
  -- for a file whose pool the domain may read
  pub reads_file : (s t : State) (d fd f at n : ℕ) (mode : Mode) (x : Refusal) → IsTrue (is_live s d)
      → descriptor s d fd ≡ Some (on.File f at mode) → IsTrue (reads mode) → IsTrue (may_read s d (file s f).pool)
      → StepsTo s (event.Call d (call.IolRead fd n)) (reply.Refused x) t → CannotFetch (file s f).pool f x
  pub copies_file : (s t : State) (d fd f at n : ℕ) (mode : Mode) (x : Refusal) → IsTrue (is_live s d)
      → descriptor s d fd ≡ Some (on.File f at mode) → IsTrue (reads mode) → IsTrue (may_read s d (file s f).pool)
      → StepsTo s (event.Call d (call.Read fd n)) (reply.Refused x) t → CannotLoad (file s f).pool f x
  -- for a file that stays within its limit
  pub writes_file : (s t : State) (d fd f at a : ℕ) (mode : Mode) (bytes : List ℕ) (x : Refusal) → IsTrue (is_live s d)
      → descriptor s d fd ≡ Some (on.File f at mode) → IsTrue (writes mode) → readable_at s d a ≡ Some bytes
      → at + length bytes ≤ MAX_FILE_BYTES → StepsTo s (event.Call d (call.IolWrite fd a)) (reply.Refused x) t
      → LacksRoom (file s f).pool x
  pub copies_to_file : (s t : State) (d fd f at : ℕ) (mode : Mode) (bytes : List ℕ) (x : Refusal) → IsTrue (is_live s d)
      → descriptor s d fd ≡ Some (on.File f at mode) → IsTrue (writes mode) → at + length bytes ≤ MAX_FILE_BYTES
      → StepsTo s (event.Call d (call.Write fd bytes)) (reply.Refused x) t → LacksRoom (file s f).pool x
  -- for a name that no file has yet, and a slot whose bytes are within the limit
  pub file_new : (s t : State) (d p : ℕ) (name : List ℕ) (x : Refusal) → IsTrue (is_live s d)
      → file_called s name ≡ None
      → 0 < length name → length name ≤ MAX_NAME_BYTES → length (content s (length s.files + 1)) ≤ MAX_FILE_BYTES
      → IsTrue (may_read s d p) → IsFalse (pool s p).closed
      → StepsTo s (event.Call d (call.FileNew name p)) (reply.Refused x) t → LacksNumbers x
  pub open_file : (s t : State) (d f : ℕ) (name : List ℕ) (mode : Mode) (x : Refusal) → IsTrue (is_live s d)
      → file_called s name ≡ Some f → IsTrue (may_read s d (file s f).pool)
      → StepsTo s (event.Call d (call.OpenFile name mode)) (reply.Refused x) t → LacksNumbers x
  pub syncs : (s t : State) (d fd f at : ℕ) (mode : Mode) (x : Refusal) → IsTrue (is_live s d)
      → descriptor s d fd ≡ Some (on.File f at mode) → StepsTo s (event.Call d (call.Fsync fd)) (reply.Refused x) t
      → x ≡ Fault f
  pub replace : (s t : State) (d a from to b : ℕ) (xs ys : List ℕ) (x : Refusal) → IsTrue (is_live s d)
      → readable_at s d a ≡ Some xs → readable_at s d b ≡ Some ys → from ≤ to → to ≤ length xs
      → length (take from xs ++ ys ++ drop to xs) ≤ MAX_AGGREGATE_BYTES
      → StepsTo s (event.Call d (call.AggReplace a from to b)) (reply.Refused x) t → LacksNumbers x
  -- for live domains; TooMany also if they exceed the limit of a list
  pub pool_create : (s t : State) (d chunks : ℕ) (list : List ℕ) (x : Refusal) → IsTrue (is_live s d)
      → IsTrue (list_all (λ e. is_live s e) list) → 0 < length list → 0 < chunks → chunks ≤ MAX_CHUNKS
      → StepsTo s (event.Call d (call.PoolCreate chunks list)) (reply.Refused x) t
      → LacksNumbersOrRoom (length s.pools + 1) x
  -- for an open pool that the domain may read
  pub pool_close : (s t : State) (d p : ℕ) (x : Refusal) → IsTrue (is_live s d) → IsTrue (may_read s d p)
      → IsFalse (pool s p).closed → StepsTo s (event.Call d (call.PoolClose p)) (reply.Refused x) t → IsInUse s p x
  pub pool_admit : (s t : State) (d p e : ℕ) (x : Refusal) → IsTrue (is_live s d) → IsTrue (is_live s e)
      → IsTrue (may_read s d p) → IsFalse (pool s p).closed
      → StepsTo s (event.Call d (call.PoolAdmit p e)) (reply.Refused x) t → HasNoPlace s p e x
  -- external events on an open pool, on an existing connection, and on the store
  pub connects : (s t : State) (p : ℕ) (x : Refusal) → IsTrue (is_pool s p) → IsFalse (pool s p).closed
      → StepsTo s (event.ConnNew p) (reply.Refused x) t → LacksNumbers x
  pub arrives : (s t : State) (c : ℕ) (bytes : List ℕ) (x : Refusal) → IsFalse (lacks_conn s c)
      → StepsTo s (event.Arrive c bytes) (reply.Refused x) t → CannotPutOrLacksRoom (conn_at s c).pool x
  pub transmits : (s t : State) (c max : ℕ) (x : Refusal) → IsFalse (lacks_conn s c) → 0 < max
      → StepsTo s (event.Transmit c max) (reply.Refused x) t → HasNothingToSend x
  pub flushes : (s t : State) (x : Refusal) → StepsTo s event.Flush (reply.Refused x) t → FaultIn s x
  -- these calls are never refused
  pub set_pool : (s t : State) (d p : ℕ) (x : Refusal) → IsTrue (is_live s d) → IsTrue (may_read s d p)
      → IsFalse (pool s p).closed → ¬ StepsTo s (event.Call d (call.SetPool p)) (reply.Refused x) t
  pub seeks : (s t : State) (d fd f was at : ℕ) (mode : Mode) (x : Refusal) → IsTrue (is_live s d)
      → descriptor s d fd ≡ Some (on.File f was mode) → at ≤ length (content s f)
      → ¬ StepsTo s (event.Call d (call.Seek fd at)) (reply.Refused x) t
  pub measures : (s t : State) (d fd f at : ℕ) (mode : Mode) (x : Refusal) → IsTrue (is_live s d)
      → descriptor s d fd ≡ Some (on.File f at mode) → ¬ StepsTo s (event.Call d (call.Length fd)) (reply.Refused x) t
  pub closes : (s t : State) (d fd : ℕ) (y : Descriptor)
      (x : Refusal) → IsTrue (is_live s d) → descriptor s d fd ≡ Some y
      → ¬ StepsTo s (event.Call d (call.Close fd)) (reply.Refused x) t
  pub drops : (s t : State) (d a : ℕ) (bytes : List ℕ) (x : Refusal) → IsTrue (is_live s d) → readable_at s d a ≡ Some bytes
      → ¬ StepsTo s (event.Call d (call.AggDrop a)) (reply.Refused x) t
  pub exits : (s t : State) (d : ℕ) (x : Refusal) → IsTrue (is_live s d)
      → ¬ StepsTo s (event.Call d call.Exit) (reply.Refused x) t
  pub peer_closes : (s t : State) (c : ℕ) (how : How) (x : Refusal) → IsFalse (lacks_conn s c)
      → ¬ StepsTo s (event.PeerClosed c how) (reply.Refused x) t
  pub drops_clean : (s t : State) (x : Refusal) → ¬ StepsTo s event.DropClean (reply.Refused x) t
