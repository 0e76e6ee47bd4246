-- Length limits of files, aggregates and queues.
use Rattle.std.specs.Prelude.{◌≡◌, ℕ, ◌≤◌, ◌&&◌, Bool, List, length, Some, nat_le, IsTrue}
use Rattle.std.specs.List.{list_all}
use Rattle.iol_core.specs.Text.{Text}
use Rattle.iol_core.specs.NumberedLists.{is_numbered}
use Rattle.iol_core.specs.State.{State, Connection, domain, content, pipe_at, conn_at, new_state}
use Rattle.iol_core.specs.Positions.{ArePlaced}
use Rattle.iol_core.specs.Run.{StepsTo, Run}
use Rattle.iol_core.specs.declared.limits.TheConstants.{MAX_AGGREGATE_BYTES, MAX_FILES, MAX_FILE_BYTES, MAX_QUEUE_BYTES}
use Rattle.iol_core.specs.declared.events.Event.{Event}
use Rattle.iol_core.specs.declared.events.Reply.{Reply}
use Rattle.iol_laws.specs.Caller.{readable_at}

-- whether the text is within the limit of an aggregate
abbrev pub fits_aggregate : Text → Bool
fits_aggregate t = nat_le (length t) MAX_AGGREGATE_BYTES

-- whether the text is within the limit of a queue
abbrev pub fits_queue : Text → Bool
fits_queue t = nat_le (length t) MAX_QUEUE_BYTES

abbrev pub both_fit : Connection → Bool
both_fit k = fits_queue k.incoming && fits_queue k.outgoing

pub record AreShort (s : State) : Type 0 where
  -- each file is within its limit; a slot without a file may exceed it
  pub files : (f : ℕ) → IsTrue (is_numbered s.files f) → length (content s f) ≤ MAX_FILE_BYTES
  -- each aggregate of a domain is within its limit
  pub aggs : (d : ℕ) → IsTrue (list_all (λ e. fits_aggregate e.1) (domain s d).aggs)
  -- the queue of a pipe, and both queues of a connection, are within theirs
  pub pipes : (p : ℕ) → IsTrue (fits_queue (pipe_at s p).queue)
  pub conns : IsTrue (list_all (λ e. both_fit e.1) s.conns)

pub record LengthsStayBounded : Type 0 where
  pub new : (slots : List (List ℕ)) → AreShort (new_state slots)
  -- if positions are within files
  pub step : (s t : State) (e : Event) (r : Reply) → ArePlaced s → AreShort s → StepsTo s e r t → AreShort t
  -- the same in each reachable state
  pub reached : (slots : List (List ℕ)) (t : State) (es : List Event) (rs : List Reply) → MAX_FILES ≤ length slots
      → Run (new_state slots) es rs t → AreShort t
  -- the aggregate that a domain has under a number, and the bytes in a queue
  pub readable : (s : State) (d a : ℕ) (bytes : List ℕ) → AreShort s → readable_at s d a ≡ Some bytes
      → length bytes ≤ MAX_AGGREGATE_BYTES
  pub written : (s : State) (p : ℕ) → AreShort s → length (pipe_at s p).queue ≤ MAX_QUEUE_BYTES
  pub incoming : (s : State) (c : ℕ) → AreShort s → length (conn_at s c).incoming ≤ MAX_QUEUE_BYTES
  pub outgoing : (s : State) (c : ℕ) → AreShort s → length (conn_at s c).outgoing ≤ MAX_QUEUE_BYTES
