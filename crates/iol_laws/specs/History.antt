-- The bytes received and sent on each connection, by number, over events and their replies.
use Rattle.std.specs.Prelude.{◌≡◌, ℕ, ◌==◌, Bool, false, List, [], ◌∷◌, ◌++◌, take, if◌then◌else◌, IsFalse}
use Rattle.std.specs.List.{list_any}
use Rattle.iol_core.specs.Text.{bytes_of}
use Rattle.iol_core.specs.State.{State, conn_at}
use Rattle.iol_core.specs.Run.{Run}
use Rattle.iol_core.specs.declared.descriptors.How.TheVariants.{Gone}
use Rattle.iol_core.specs.declared.events.Event.{Event}
use Rattle.iol_core.specs.declared.events.Event.TheVariants as event
use Rattle.iol_core.specs.declared.events.Reply.{Reply}
use Rattle.iol_core.specs.declared.events.Reply.TheVariants as reply
use Rattle.iol_laws.specs.Order.{IsOrderly}

-- the bytes that an event adds to a connection's input: the first of the arriving bytes, as many as the reply counts
abbrev pub came_by : (c : ℕ) → Event → Reply → List ℕ
came_by c (event.Arrive e bytes) (reply.Count k) = if e == c then take k bytes else []
came_by c e r = []

-- the bytes that the event sends
abbrev pub sent_by : (c : ℕ) → Event → Reply → List ℕ
sent_by c (event.Transmit e max) (reply.Segment bytes sum) = if e == c then bytes else []
sent_by c e r = []

-- over events and their replies, in order
unfoldable pub stream_of : (c : ℕ) → List Event → List Reply → List ℕ
stream_of c (e ∷ es) (r ∷ rs) = came_by c e r ++ stream_of c es rs
stream_of c es rs = []

unfoldable pub sent_of : (c : ℕ) → List Event → List Reply → List ℕ
sent_of c (e ∷ es) (r ∷ rs) = sent_by c e r ++ sent_of c es rs
sent_of c es rs = []

-- whether the event drops queued output: the peer receives no more
abbrev pub drops_unsent : Event → (c : ℕ) → Bool
drops_unsent (event.PeerClosed e Gone) c = e == c
drops_unsent e c = false

-- The unread bytes are the last of the former unread bytes followed by the received ones: bytes are read from the
-- front, in order.
pub record IsEndOf (was came unread : List ℕ) : Type 0 where
  pub taken : List ℕ
  pub all : was ++ came ≡ taken ++ unread

-- The queued output is sent first, followed by bytes written later: nothing is lost or reordered.
pub record GoesFirst (was sent unsent : List ℕ) : Type 0 where
  pub written : List ℕ
  pub all : was ++ written ≡ sent ++ unsent

-- All received bytes follow the former unread bytes, and nothing was sent.
pub record IsAllUnread (s : State) (c : ℕ) (came sent : List ℕ) (t : State) : Type 0 where
  pub unread : bytes_of (conn_at t c).incoming ≡ bytes_of (conn_at s c).incoming ++ came
  pub none : sent ≡ []

pub record HistoriesAddUp : Type 0 where
  -- the history of a run is that of its first part, followed by that of its second part
  pub stream : (old now : State) (past future : List Event) (rs qs : List Reply) (c : ℕ) → Run old past rs now
      → stream_of c (past ++ future) (rs ++ qs) ≡ stream_of c past rs ++ stream_of c future qs
  pub sent : (old now : State) (past future : List Event) (rs qs : List Reply) (c : ℕ) → Run old past rs now
      → sent_of c (past ++ future) (rs ++ qs) ≡ sent_of c past rs ++ sent_of c future qs
  -- the input is read in order, over any run
  pub unread : (old new : State) (es : List Event) (rs : List Reply) (c : ℕ) → IsOrderly old → Run old es rs new
      → IsEndOf (bytes_of (conn_at old c).incoming) (stream_of c es rs) (bytes_of (conn_at new c).incoming)
  -- the output is sent in order, over a run during which the peer receives
  pub unsent : (old new : State) (es : List Event) (rs : List Reply) (c : ℕ) → IsOrderly old → Run old es rs new
      → IsFalse (list_any (λ e. drops_unsent e c) es)
      → GoesFirst (bytes_of (conn_at old c).outgoing) (sent_of c es rs) (bytes_of (conn_at new c).outgoing)
  -- over a run at whose end the connection is not yet accepted
  pub waiting : (old new : State) (es : List Event) (rs : List Reply) (c : ℕ) → IsOrderly old → Run old es rs new
      → IsFalse (conn_at old c).accepted → IsFalse (conn_at new c).accepted
      → IsAllUnread old c (stream_of c es rs) (sent_of c es rs) new
