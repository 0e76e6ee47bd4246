-- The bytes received and sent on each connection, by number, over choices and their replies.
--
-- For a single event it is the `History` of `iol_laws`. A turn neither receives nor sends: a process reads and writes
-- the queues, and external events fill and drain them.
use Rattle.std.specs.Prelude.{◌≡◌, ◌⊎◌, ℕ, Bool, true, false, List, [], ◌∷◌, ◌++◌, length, IsTrue, IsFalse}
use Rattle.std.specs.List.{list_any}
use Rattle.iol_core.specs.Text.{bytes_of}
use Rattle.iol_core.specs.State.{State, conn_at}
use Rattle.iol_core.specs.Run.{Run}
use Rattle.iol_core.specs.declared.events.Call.{Call}
use Rattle.iol_core.specs.declared.events.Event.{Event}
use Rattle.iol_core.specs.declared.events.Event.TheVariants as event
use Rattle.iol_core.specs.declared.events.Reply.{Reply}
use Rattle.iol_core.specs.declared.events.Reply.TheVariants as reply
use Rattle.iol_core.specs.declared.refusals.Refusal.TheVariants.{Memory, NoDomain}
use Rattle.iol_laws.specs.History.{came_by, sent_by, stream_of, sent_of, drops_unsent, IsEndOf, GoesFirst, IsAllUnread}
use Rattle.iol_laws.specs.Order.{IsOrderly}
use Rattle.iol_system.specs.Machine.{SystemState}
use Rattle.iol_system.specs.Promises.{Chain}
use Rattle.iol_proc.specs.Turns.{TransitionRelation}
use Rattle.iol_proc.specs.World.{WorldState, copying, sharing, WorldRun}
use Rattle.iol_proc.specs.declared.choice.Choice.{Choice}
use Rattle.iol_proc.specs.declared.choice.Choice.TheVariants as choice

-- the bytes that a choice adds to a connection's input: the first of the arriving bytes, as many as the reply counts
abbrev pub came_with : (c : ℕ) → Choice → Reply → List ℕ
came_with c (choice.Outside e) r = came_by c e r
came_with c (choice.Turn by) r = []

-- the bytes that a choice sends
abbrev pub sent_with : (c : ℕ) → Choice → Reply → List ℕ
sent_with c (choice.Outside e) r = sent_by c e r
sent_with c (choice.Turn by) r = []

-- over choices and their replies, in order
unfoldable pub stream_over : (c : ℕ) → List Choice → List Reply → List ℕ
stream_over c (x ∷ xs) (r ∷ rs) = came_with c x r ++ stream_over c xs rs
stream_over c xs rs = []

unfoldable pub sent_over : (c : ℕ) → List Choice → List Reply → List ℕ
sent_over c (x ∷ xs) (r ∷ rs) = sent_with c x r ++ sent_over c xs rs
sent_over c xs rs = []

-- whether the choice drops queued output: the peer receives no more
abbrev pub drops_with : Choice → (c : ℕ) → Bool
drops_with (choice.Outside e) c = drops_unsent e c
drops_with (choice.Turn by) c = false

-- whether this may be the reply of a turn without call: the process yields, is out of memory, or does not exist
abbrev pub may_be_no_call : Reply → Bool
may_be_no_call reply.Done = true
may_be_no_call (reply.Refused Memory) = true
may_be_no_call (reply.Refused NoDomain) = true
may_be_no_call r = false

-- a list of events that begins with e, with the reply r
abbrev pub Begin : Event → Reply → (List Event → List Reply → Type 0) → List Event → List Reply → Type 0
Begin e r Rest (f ∷ es) (s ∷ qs) = (f ≡ e) × (s ≡ r) × Rest es qs
Begin e r Rest es qs = ⊥

-- Choices with these replies cause exactly these events, with their replies: an external event is itself an event, and
-- a turn is one call of its own domain, or none.
abbrev pub BringAbout : List Choice → List Reply → List Event → List Reply → Type 0
BringAbout [] [] es qs = (es ≡ []) × (qs ≡ [])
BringAbout (choice.Outside e ∷ xs) (r ∷ rs) es qs = Begin e r (BringAbout xs rs) es qs
BringAbout (choice.Turn by ∷ xs) (r ∷ rs) es qs =
    (IsTrue (may_be_no_call r) × BringAbout xs rs es qs)
    ⊎ ((c : Call) × Begin (event.Call by c) r (BringAbout xs rs) es qs)
BringAbout xs rs es qs = ⊥

-- The choices are events in a run of the machine, and each connection has the same history.
pub record RunsAs {M : Type 0} (Runs : M → List Event → List Reply → M → Type 0) (old : M) (xs : List Choice)
    (rs : List Reply) (new : M) : Type 0 where
  pub events : List Event
  pub replies : List Reply
  pub runs : Runs old events replies new
  pub brought : BringAbout xs rs events replies
  pub stream : (c : ℕ) → stream_of c events replies ≡ stream_over c xs rs
  pub sent : (c : ℕ) → sent_of c events replies ≡ sent_over c xs rs
  pub drops : (c : ℕ) → list_any (λ e. drops_unsent e c) events ≡ list_any (λ x. drops_with x c) xs

-- The choices extend an earlier run of the machine, and each connection's history is extended by that of the choices.
pub record Proceeds (first : State) (past : List Event) (ps : List Reply) (xs : List Choice) (rs : List Reply)
    (new : State) : Type 0 where
  pub events : List Event
  pub replies : List Reply
  pub run : Run first (past ++ events) (ps ++ replies) new
  pub brought : BringAbout xs rs events replies
  pub stream : (c : ℕ) → stream_of c (past ++ events) (ps ++ replies) ≡ stream_of c past ps ++ stream_over c xs rs
  pub sent : (c : ℕ) → sent_of c (past ++ events) (ps ++ replies) ≡ sent_of c past ps ++ sent_over c xs rs

pub record HistoriesOfChoices {P : Type 0} (turns : TransitionRelation P) : Type 0 where
  -- a run of a world is a run of the copying machine and, over any store, of the system
  pub machine : (w after : WorldState State P) (xs : List Choice) (rs : List Reply)
      → WorldRun copying turns w xs rs after
      → RunsAs Run w.machine xs rs after.machine
  pub system : (w after : WorldState SystemState P) (xs : List Choice) (rs : List Reply)
      → WorldRun sharing turns w xs rs after
      → RunsAs Chain w.machine xs rs after.machine
  -- the choices extend histories by the bytes that they receive and send
  pub proceeds : (first : State) (past : List Event) (ps : List Reply) (w after : WorldState State P)
      (xs : List Choice) (rs : List Reply)
      → Run first past ps w.machine → WorldRun copying turns w xs rs after → Proceeds first past ps xs rs after.machine
  -- two successive runs are one run, whose history is that of the first followed by that of the second
  pub follows : (w mid after : WorldState State P) (past future : List Choice) (rs qs : List Reply)
      → WorldRun copying turns w past rs mid
      → WorldRun copying turns mid future qs after → WorldRun copying turns w (past ++ future) (rs ++ qs) after
  pub stream : (w mid : WorldState State P) (past future : List Choice) (rs qs : List Reply) (c : ℕ)
      → WorldRun copying turns w past rs mid
      → stream_over c (past ++ future) (rs ++ qs) ≡ stream_over c past rs ++ stream_over c future qs
  pub sent : (w mid : WorldState State P) (past future : List Choice) (rs qs : List Reply) (c : ℕ)
      → WorldRun copying turns w past rs mid
      → sent_over c (past ++ future) (rs ++ qs) ≡ sent_over c past rs ++ sent_over c future qs
  -- one more choice adds the bytes that it receives and sends
  pub stream_more : (xs : List Choice) (rs : List Reply) (x : Choice) (r : Reply) (c : ℕ) → length xs ≡ length rs
      → stream_over c (xs ++ x ∷ []) (rs ++ r ∷ []) ≡ stream_over c xs rs ++ came_with c x r
  pub sent_more : (xs : List Choice) (rs : List Reply) (x : Choice) (r : Reply) (c : ℕ) → length xs ≡ length rs
      → sent_over c (xs ++ x ∷ []) (rs ++ r ∷ []) ≡ sent_over c xs rs ++ sent_with c x r
  -- the input is read in order, over any run
  pub unread : (w after : WorldState State P) (xs : List Choice) (rs : List Reply) (c : ℕ) → IsOrderly w.machine
      → WorldRun copying turns w xs rs after
      → IsEndOf (bytes_of (conn_at w.machine c).incoming) (stream_over c xs rs)
      (bytes_of (conn_at after.machine c).incoming)
  -- the output is sent in order, over a run during which the peer receives
  pub unsent : (w after : WorldState State P) (xs : List Choice) (rs : List Reply) (c : ℕ) → IsOrderly w.machine
      → WorldRun copying turns w xs rs after → IsFalse (list_any (λ x. drops_with x c) xs)
      → GoesFirst (bytes_of (conn_at w.machine c).outgoing) (sent_over c xs rs)
      (bytes_of (conn_at after.machine c).outgoing)
  -- over a run at whose end the connection is not yet accepted
  pub waiting : (w after : WorldState State P) (xs : List Choice) (rs : List Reply) (c : ℕ) → IsOrderly w.machine
      → WorldRun copying turns w xs rs after → IsFalse (conn_at w.machine c).accepted
      → IsFalse (conn_at after.machine c).accepted
      → IsAllUnread w.machine c (stream_over c xs rs) (sent_over c xs rs) after.machine
