-- The pools of the bytes that calls make and write: those of their source.
use Rattle.std.specs.Prelude.{◌≡◌, ℕ, ◌==◌, Bool, false, List, [], ◌++◌, take, Option, Some, IsTrue, IsFalse}
use Rattle.std.specs.List.{list_all}
use Rattle.iol_core.specs.Text.{Text, labelled, admitted}
use Rattle.iol_core.specs.State.{State, text, descriptor, file, content, may_read, pipe_at}
use Rattle.iol_core.specs.Calls.Aggregates.{default_pool}
use Rattle.iol_core.specs.Calls.Reads.{unread}
use Rattle.iol_core.specs.Run.{StepsTo}
use Rattle.iol_core.specs.declared.descriptors.Descriptor.{Descriptor}
use Rattle.iol_core.specs.declared.descriptors.Descriptor.TheVariants as on
use Rattle.iol_core.specs.declared.refusals.Refusal.TheVariants.{Denied}
use Rattle.iol_core.specs.declared.events.Call.TheVariants as call
use Rattle.iol_core.specs.declared.events.Event.{Event}
use Rattle.iol_core.specs.declared.events.Event.TheVariants as event
use Rattle.iol_core.specs.declared.events.Reply.{Reply}
use Rattle.iol_core.specs.declared.events.Reply.TheVariants as reply
use Rattle.iol_laws.specs.Order.{IsOrderly}
use Rattle.iol_laws.specs.Aggregates.{brings}

-- whether each byte is in one of these pools
abbrev pub lie_in : (pools : ℕ → Bool) → Text → Bool
lie_in pools t = list_all (λ b. pools b.1) t

-- the bytes that a read takes from: the file, or the queue of a pipe or connection
abbrev pub read_from : State → Option Descriptor → Text
read_from s (Some (on.File f at mode)) = labelled (file s f).pool (content s f)
read_from s o = unread s o

-- the source of an event's new aggregates, and of the bytes that it adds to a queue
abbrev pub taken_from : State → Event → Text
taken_from s (event.Call by (call.AggMake bytes)) = labelled (default_pool s by) bytes
taken_from s (event.Call by (call.AggDup a)) = text s by a
taken_from s (event.Call by (call.AggCut a from to)) = text s by a
taken_from s (event.Call by (call.AggSplit a at)) = text s by a
taken_from s (event.Call by (call.AggJoin a b)) = text s by a ++ text s by b
taken_from s (event.Call by (call.AggReplace a from to b)) = text s by a ++ text s by b
taken_from s (event.Call by (call.AggGive a to)) = text s by a
taken_from s (event.Call by (call.IolRead fd n)) = read_from s (descriptor s by fd)
taken_from s (event.Call by (call.IolWrite fd a)) = text s by a
taken_from s (event.Call by (call.Write fd bytes)) = labelled (default_pool s by) bytes
taken_from s e = []

abbrev pub is_write_end : (p : ℕ) → Option Descriptor → Bool
is_write_end p (Some (on.WriteEnd q)) = q == p
is_write_end p o = false

-- whether the event may write to this pipe
abbrev pub writes_pipe : State → Event → (p : ℕ) → Bool
writes_pipe s (event.Call by (call.IolWrite fd a)) p = is_write_end p (descriptor s by fd)
writes_pipe s (event.Call by (call.Write fd bytes)) p = is_write_end p (descriptor s by fd)
writes_pipe s e p = false

-- whether the domain may read each of these pools
abbrev pub MayReadAll : State → (d : ℕ) → (pools : ℕ → Bool) → Type 0
MayReadAll s d pools = (q : ℕ) → IsTrue (pools q) → IsTrue (may_read s d q)

-- Bytes keep the pool in which they were created when they are cut, joined, passed on or read.
pub record LabelsFollow : Type 0 where
  -- an aggregate is in these pools after an event if its source is, or, if it is not new, if it was before
  pub aggs : (pools : ℕ → Bool) (s t : State) (e : Event) (r : Reply) (d a : ℕ) → IsOrderly s → StepsTo s e r t
      → (IsTrue (brings e r d a) → IsTrue (lie_in pools (taken_from s e)))
      → (IsFalse (brings e r d a) → IsTrue (lie_in pools (text s d a))) → IsTrue (lie_in pools (text t d a))
  -- the same for the bytes of a pipe
  pub pipes : (pools : ℕ → Bool) (s t : State) (e : Event) (r : Reply) (p : ℕ) → StepsTo s e r t
      → (IsTrue (writes_pipe s e p) → IsTrue (lie_in pools (taken_from s e)))
      → IsTrue (lie_in pools (pipe_at s p).queue)
      → IsTrue (lie_in pools (pipe_at t p).queue)
  -- new bytes are in the pool in which they are created, and two joined texts are in these pools if each is
  pub fresh : (pools : ℕ → Bool) (p : ℕ) (bytes : List ℕ) → IsTrue (pools p) → IsTrue (lie_in pools (labelled p bytes))
  pub both : (pools : ℕ → Bool) (x y : Text) → IsTrue (lie_in pools x) → IsTrue (lie_in pools y)
      → IsTrue (lie_in pools (x ++ y))
  -- a domain that may read all these pools is never denied bytes in them, and gets all bytes that it requests
  pub reads : (pools : ℕ → Bool) (s t : State) (d fd p n q : ℕ) → MayReadAll s d pools
      → IsTrue (lie_in pools (pipe_at s p).queue) → descriptor s d fd ≡ Some (on.ReadEnd p)
      → ¬ StepsTo s (event.Call d (call.IolRead fd n)) (reply.Refused (Denied q)) t
  pub copies : (pools : ℕ → Bool) (s t : State) (d fd p n q : ℕ) → MayReadAll s d pools
      → IsTrue (lie_in pools (pipe_at s p).queue) → descriptor s d fd ≡ Some (on.ReadEnd p)
      → ¬ StepsTo s (event.Call d (call.Read fd n)) (reply.Refused (Denied q)) t
  pub whole : (pools : ℕ → Bool) (s : State) (d p n : ℕ) → MayReadAll s d pools
      → IsTrue (lie_in pools (pipe_at s p).queue)
      → admitted (may_read s d) (take n (pipe_at s p).queue) ≡ take n (pipe_at s p).queue
