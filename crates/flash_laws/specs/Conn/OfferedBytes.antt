-- The bytes that the server offers for a request are the next bytes of the response to it, for the outcome of the calls
-- made for it.
--
-- The laws are about single steps, undisturbed or not: the machine's data of a response remains, unless a call consumes
-- or moves an object that the connection uses. That this holds over a whole run is not stated here.
use Rattle.std.specs.Prelude.{◌≡◌, ◌⊎◌, ℕ, ◌+◌, ◌==◌, Bool, true, false, if◌then◌else◌, List, [], ◌++◌, length, drop}
use Rattle.std.specs.Prelude.{Some, None, IsTrue, IsFalse}
use Rattle.iol_core.specs.Access.{HasAccess}
use Rattle.iol_core.specs.State.{State, descriptor, is_live, is_gone, conn_at}
use Rattle.iol_core.specs.Run.{StepsTo}
use Rattle.iol_core.specs.Values.{gives_up}
use Rattle.iol_core.specs.declared.descriptors.Descriptor.TheVariants as on
use Rattle.iol_core.specs.declared.descriptors.Mode.TheVariants as modes
use Rattle.iol_core.specs.declared.refusals.Refusal.TheVariants as no
use Rattle.iol_core.specs.declared.events.Call.{Call}
use Rattle.iol_core.specs.declared.events.Call.TheVariants as call
use Rattle.iol_core.specs.declared.events.Event.{Event}
use Rattle.iol_core.specs.declared.events.Event.TheVariants as event
use Rattle.iol_core.specs.declared.events.Reply.{Reply}
use Rattle.iol_core.specs.declared.events.Reply.TheVariants as reply
use Rattle.iol_laws.specs.Caller.{readable_at}
use Rattle.iol_laws.specs.Frame.{touches_fd}
use Rattle.iol_laws.specs.Order.{IsOrderly}
use Rattle.iol_laws.specs.Reasons.{IsHidden}
use Rattle.flash_http.specs.Request.{Answer, serve, refuse}
use Rattle.flash_laws.specs.Answers.{Outcome, Found, Failed, error_text, response}
use Rattle.flash_laws.specs.Conn.{Conn, uses_agg, uses_fd, next_call, begins, status_of, after_reply}
use Rattle.flash_laws.specs.declared.phase.Phase.{Phase}
use Rattle.flash_laws.specs.declared.phase.Phase.TheVariants.{Receiving, Opening, Reading, SendingWhole, CuttingPiece}
use Rattle.flash_laws.specs.declared.phase.Phase.TheVariants.{SendingPiece, DroppingPiece, DroppingSent}
use Rattle.flash_laws.specs.declared.phase.Phase.TheVariants.{AbortingPiece, Aborting, Disconnecting, Closed}
use Rattle.flash_laws.specs.Conn.Fits.{Has, Names, is_closing}
use Rattle.flash_laws.specs.Conn.Progress.{Rank, Nears, CanMake, is_busy}
use Rattle.flash_laws.specs.Conn.Policy.{is_later}
use Rattle.flash_laws.specs.Site.{server}

-- the machine has the data that the response with this outcome needs; before an outcome is known it needs none
abbrev pub HasAnswer : State → Conn → Outcome → Type 0
HasAnswer m x o = Has m x.request (response x.request o) x.phase

-- the first call for a request opens the file of its name; a refused request needs none
abbrev pub FirstCall : Answer → Call → Type 0
FirstCall (serve w) k = k ≡ call.OpenFile w.name modes.Read
FirstCall (refuse status head_only close) k = k ≡ call.AggMake (error_text status head_only close)

-- The outcome of the calls, after the reply to one: the file is refused, its bytes are read, or its length is returned,
-- as that of some bytes; other calls leave it unchanged.
abbrev pub Updates : Phase → Reply → (received : List ℕ) → (before after : Outcome) → Type 0
Updates Opening (reply.Refused x) received before after = after ≡ Failed (status_of x)
Updates (Reading f) (reply.Agg n) received before after = after ≡ Found received
Updates (Reading f) (reply.Count n) received before after = (bytes : List ℕ) × (n ≡ length bytes)
    × (after ≡ Found bytes)
Updates (Reading f) (reply.Refused x) received before after = after ≡ Failed (status_of x)
Updates d r received before after = after ≡ before

-- the number of bytes of the response that are taken
abbrev pub taken_of : Phase → ℕ
taken_of (SendingWhole s) = s.taken
taken_of (CuttingPiece s) = s.taken
taken_of (SendingPiece s piece) = s.taken
taken_of (DroppingPiece s piece) = s.taken
taken_of (DroppingSent a taken more) = taken
taken_of d = 0

-- the number of bytes that the connection at fd takes by this reply
abbrev pub newly_taken : (fd : ℕ) → Call → Reply → ℕ
newly_taken fd (call.IolWrite g a) (reply.Count k) = if g == fd then k else 0
newly_taken fd k r = 0

-- whether queued output is dropped
abbrev pub is_dropping : Phase → Bool
is_dropping (AbortingPiece piece a more) = true
is_dropping (Aborting a more) = true
is_dropping d = false

-- the bytes of an aggregate are the next of the response, after those that are taken
pub record IsNextOf (m : State) (q : Answer) (o : Outcome) (a taken : ℕ) : Type 0 where
  pub bytes : List ℕ
  pub after : List ℕ
  pub is_readable : readable_at m server a ≡ Some bytes
  pub next : bytes ++ after ≡ drop taken (response q o)

-- whether a call with this reply may be retried: it was refused, but not for lack of a reader
abbrev pub may_repeat : Call → Reply → Bool
may_repeat (call.IolWrite fd a) (reply.Refused no.BrokenPipe) = false
may_repeat k (reply.Refused x) = true
may_repeat k r = false

pub record OffersTheResponse : Type 0 where
  -- when a request begins, nothing is needed
  pub starts : (m : State) (fd : ℕ) (buffered : List ℕ) (q : Answer) (o : Outcome)
      → FirstCall q (next_call fd (record { buffered = buffered; request = q; phase = begins q }))
      × HasAnswer m (record { buffered = buffered; request = q; phase = begins q }) o
  -- after the reply to its call the outcome is the result of the call, or unchanged, and the machine has the data for
  -- the next step
  pub replied : (m n : State) (fd c : ℕ) (x : Conn) (r : Reply) (received : List ℕ) (before : Outcome)
      → IsOrderly m → HasAccess m
      → IsTrue (is_live m server) → descriptor m server fd ≡ Some (on.Connection c)
      → IsFalse (is_closing x.phase)
      → HasAnswer m x before → StepsTo m (event.Call server (next_call fd x)) r n → Names n r received
      → (after : Outcome) × Updates x.phase r received before after × HasAnswer n (after_reply x r received) after
  -- the same for any other event that consumes and moves no object that the connection uses
  pub stays : (m n : State) (x : Conn) (e : Event) (r : Reply) (o : Outcome) → StepsTo m e r n
      → ((a : ℕ) → IsTrue (uses_agg x.phase a) → IsFalse (gives_up e server a))
      → ((g : ℕ) → IsTrue (uses_fd x.phase g) → IsFalse (touches_fd m e server g)) → HasAnswer m x o
      → HasAnswer n x o
  -- the bytes offered to the connection are the next ones
  pub offers : (m : State) (fd a : ℕ) (x : Conn) (o : Outcome) → HasAnswer m x o
      → next_call fd x ≡ call.IolWrite fd a
      → IsNextOf m x.request o a (taken_of x.phase)
  -- the bytes that the connection took count as taken, while the response is neither over nor aborted
  pub takes : (m n : State) (fd c : ℕ) (x : Conn) (r : Reply) (received : List ℕ) (o : Outcome) → IsOrderly m
      → descriptor m server fd ≡ Some (on.Connection c) → HasAnswer m x o
      → StepsTo m (event.Call server (next_call fd x)) r n
      → IsFalse (is_dropping x.phase) → IsFalse (is_dropping (after_reply x r received).phase)
      → IsTrue (is_busy (after_reply x r received).phase)
      → taken_of (after_reply x r received).phase ≡ taken_of x.phase + newly_taken fd (next_call fd x) r
  -- after it is sent all of it is taken
  pub whole : (m : State) (x : Conn) (o : Outcome) (a taken : ℕ) → x.phase ≡ DroppingSent a taken None → HasAnswer m x o
      → drop taken (response x.request o) ≡ []
  -- it is aborted only if its peer is gone
  pub breaks : (m n : State) (fd c : ℕ) (x : Conn) (r : Reply) (received : List ℕ) (o : Outcome)
      → descriptor m server fd ≡ Some (on.Connection c) → IsTrue (is_busy x.phase) → HasAnswer m x o
      → StepsTo m (event.Call server (next_call fd x)) r n → IsFalse (is_dropping x.phase)
      → IsTrue (is_dropping (after_reply x r received).phase) → IsTrue (is_gone (conn_at m c).peer)
  -- a connection that is to be closed is closed by its next call, and then over
  pub closes : (m n : State) (fd c : ℕ) (x : Conn) (r : Reply) (received : List ℕ) → IsOrderly m
      → IsTrue (is_live m server)
      → descriptor m server fd ≡ Some (on.Connection c) → x.phase ≡ Disconnecting
      → StepsTo m (event.Call server (next_call fd x)) r n
      → (r ≡ reply.Done) × ((after_reply x r received).phase ≡ Closed) × IsTrue (conn_at n c).closed
  -- each reply reduces the rank of a request, unless its call is retried later
  pub rank : Conn → Rank
  pub nears : (m n : State) (fd c : ℕ) (x : Conn) (r : Reply) (received : List ℕ) (o : Outcome) → IsOrderly m
      → IsTrue (is_live m server) → descriptor m server fd ≡ Some (on.Connection c) → IsTrue (is_busy x.phase)
      → HasAnswer m x o → CanMake m (next_call fd x) → StepsTo m (event.Call server (next_call fd x)) r n
      → Names n r received
      → Nears rank x r (after_reply x r received)
  -- a connection that reads the stream retries only later, or if the bytes are not for the server
  pub reads : (m n : State) (fd c : ℕ) (x : Conn) (r : Reply) (received : List ℕ) → IsTrue (is_live m server)
      → descriptor m server fd ≡ Some (on.Connection c) → x.phase ≡ Receiving
      → StepsTo m (event.Call server (next_call fd x)) r n → after_reply x r received ≡ x
      → IsTrue (is_later r) ⊎ ((p : ℕ) × IsHidden m server p (conn_at m c).incoming)
  -- a successful call is not repeated
  pub moves : (m n : State) (fd : ℕ) (x : Conn) (r : Reply) (received : List ℕ) → IsFalse (is_closing x.phase)
      → StepsTo m (event.Call server (next_call fd x)) r n → after_reply x r received ≡ x
      → IsTrue (may_repeat (next_call fd x) r)
