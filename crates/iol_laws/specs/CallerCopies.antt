-- The effect of the copying calls for their caller: `write` of its own bytes, and `read` without an aggregate. They
-- write and read the same bytes as `iol_write` and `iol_read`.
use Rattle.std.specs.Prelude.{◌≡◌, ℕ, ◌+◌, ◌<◌, List, [], ◌++◌, length, take, drop, Some, is_none, IsTrue}
use Rattle.std.specs.Prelude.{IsFalse}
use Rattle.iol_core.specs.Text.{Text, bytes_of, admitted}
use Rattle.iol_core.specs.State.{State, descriptor, content, file, may_read, conn_at, pipe_at, is_live}
use Rattle.iol_core.specs.Positions.{ArePlaced}
use Rattle.iol_core.specs.Calls.Reads.{reads}
use Rattle.iol_core.specs.Calls.Writes.{writes}
use Rattle.iol_core.specs.Run.{StepsTo}
use Rattle.iol_core.specs.declared.descriptors.Mode.{Mode}
use Rattle.iol_core.specs.declared.descriptors.Descriptor.TheVariants as on
use Rattle.iol_core.specs.declared.events.Call.TheVariants as call
use Rattle.iol_core.specs.declared.events.Event.TheVariants as event
use Rattle.iol_core.specs.declared.events.Reply.{Reply}
use Rattle.iol_core.specs.declared.events.Reply.TheVariants as reply
use Rattle.iol_laws.specs.Order.{IsOrderly}
use Rattle.iol_laws.specs.Caller.{readable_at, is_resource_failure, WritesConn, WritesPipe}
use Rattle.iol_laws.specs.CallerFiles.{WritesFile}

-- the domain keeps all its aggregates
abbrev pub SameReadable : State → (d : ℕ) → State → Type 0
SameReadable s d t = (a : ℕ) → readable_at t d a ≡ readable_at s d a

-- the reply is these bytes of a file, and the position moves past them
pub record ReportsFile (s : State) (d fd f at : ℕ) (mode : Mode) (bytes found : List ℕ) (t : State) : Type 0 where
  pub found_is : found ≡ bytes
  pub proceeds : descriptor t d fd ≡ Some (on.File f (at + length bytes) mode)
  pub readable : SameReadable s d t

abbrev pub CopiesFile : State → (d fd f at : ℕ) → Mode → List ℕ → Reply → State → Type 0
CopiesFile s d fd f at mode bytes (reply.Bytes found) t = ReportsFile s d fd f at mode bytes found t
CopiesFile s d fd f at mode bytes (reply.Refused x) t = IsTrue (is_resource_failure (reply.Refused x)) × (t ≡ s)
CopiesFile s d fd f at mode bytes r t = ⊥

-- the reply is the first bytes of a connection's input, at most count, which are removed; if count is positive and
-- there are none, the peer sends no more
pub record ReportsConn (s : State) (d c count : ℕ) (found : List ℕ) (t : State) : Type 0 where
  pub text : Text
  pub incoming : Text
  pub found_is : found ≡ bytes_of text
  pub was : (conn_at s c).incoming ≡ text ++ incoming
  -- the longest prefix that the domain may read
  pub most : text ≡ admitted (may_read s d) (take count (conn_at s c).incoming)
  pub conn : conn_at t c ≡ record (conn_at s c) { incoming = incoming }
  pub readable : SameReadable s d t
  pub ended : 0 < count → text ≡ [] → ((conn_at s c).incoming ≡ []) × IsFalse (is_none (conn_at s c).peer)

abbrev pub CopiesConn : State → (d c count : ℕ) → Reply → State → Type 0
CopiesConn s d c count (reply.Bytes found) t = ReportsConn s d c count found t
CopiesConn s d c count (reply.Refused x) t = t ≡ s
CopiesConn s d c count r t = ⊥

-- the same for a pipe; if count is positive and there are none, the pipe has no writer
pub record ReportsPipe (s : State) (d p count : ℕ) (found : List ℕ) (t : State) : Type 0 where
  pub text : Text
  pub rest : Text
  pub found_is : found ≡ bytes_of text
  pub was : (pipe_at s p).queue ≡ text ++ rest
  -- the longest prefix that the domain may read
  pub most : text ≡ admitted (may_read s d) (take count (pipe_at s p).queue)
  pub pipe : pipe_at t p ≡ record (pipe_at s p) { queue = rest }
  pub readable : SameReadable s d t
  pub ended : 0 < count → text ≡ [] → ((pipe_at s p).queue ≡ []) × IsFalse (pipe_at s p).writing

abbrev pub CopiesPipe : State → (d p count : ℕ) → Reply → State → Type 0
CopiesPipe s d p count (reply.Bytes found) t = ReportsPipe s d p count found t
CopiesPipe s d p count (reply.Refused x) t = t ≡ s
CopiesPipe s d p count r t = ⊥

-- Each of the two calls, on a file, a connection and a pipe.
pub record CopyingCallsServeTheirDomain : Type 0 where
  pub write_file : (s t : State) (d fd f at : ℕ) (mode : Mode) (bytes : List ℕ) (r : Reply) → ArePlaced s
      → IsTrue (is_live s d) → IsTrue (writes mode) → descriptor s d fd ≡ Some (on.File f at mode)
      → StepsTo s (event.Call d (call.Write fd bytes)) r t → WritesFile s d fd f at mode bytes r t
  pub write_conn : (s t : State) (d fd c : ℕ) (bytes : List ℕ) (r : Reply) → IsOrderly s
      → descriptor s d fd ≡ Some (on.Connection c) → StepsTo s (event.Call d (call.Write fd bytes)) r t
      → WritesConn s c bytes r t
  pub write_pipe : (s t : State) (d fd p : ℕ) (bytes : List ℕ) (r : Reply) → IsOrderly s
      → descriptor s d fd ≡ Some (on.WriteEnd p) → StepsTo s (event.Call d (call.Write fd bytes)) r t
      → WritesPipe s p bytes r t
  pub read_file : (s t : State) (d fd f at n : ℕ) (mode : Mode) (r : Reply) → IsTrue (is_live s d)
      → IsTrue (may_read s d (file s f).pool) → IsTrue (reads mode) → descriptor s d fd ≡ Some (on.File f at mode)
      → StepsTo s (event.Call d (call.Read fd n)) r t → CopiesFile s d fd f at mode (take n (drop at (content s f))) r t
  pub read_conn : (s t : State) (d fd c n : ℕ) (r : Reply) → IsOrderly s → descriptor s d fd ≡ Some (on.Connection c)
      → StepsTo s (event.Call d (call.Read fd n)) r t → CopiesConn s d c n r t
  pub read_pipe : (s t : State) (d fd p n : ℕ) (r : Reply) → IsOrderly s → descriptor s d fd ≡ Some (on.ReadEnd p)
      → StepsTo s (event.Call d (call.Read fd n)) r t → CopiesPipe s d p n r t
