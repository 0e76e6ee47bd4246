-- The action of a connection after a reply to its call.
use Rattle.std.specs.Prelude.{◌≡◌, ℕ, ◌||◌, Bool, true, false, List, [], Some, drop, IsTrue, IsFalse}
use Rattle.iol_core.specs.declared.events.Reply.{Reply}
use Rattle.iol_core.specs.declared.events.Reply.TheVariants.{Agg}
use Rattle.flash_http.specs.Request.{Answer}
use Rattle.flash_http.specs.Window.{window_in}
use Rattle.flash_laws.specs.Conn.{Conn, begins, after_reply, after_receive, next_call, Starts, Readies, IsAwaiting}
use Rattle.flash_laws.specs.Conn.Policy.{has_answered, is_later, is_bare, leaves_off}
use Rattle.flash_laws.specs.Conn.Wants.{can_begin}
use Rattle.flash_laws.specs.Site.OtherConns.{left_over}
use Rattle.flash_laws.specs.declared.phase.Phase.{Phase}
use Rattle.flash_laws.specs.declared.phase.Phase.TheVariants.{Receiving, Closed}
use Rattle.flash_lite.specs.Small.{IsSmall}
use Rattle.flash_lite.specs.declared.conn.Onward.{Onward}
use Rattle.flash_lite.specs.declared.conn.Onward.TheVariants.{Asks, Leaves}

abbrev pub is_over : Phase → Bool
is_over Closed = true
is_over d = false

-- a connection in this phase
abbrev pub in_phase : Conn → Phase → Conn
in_phase x d = record x { phase = d }

-- more of its stream was read
abbrev pub with_received : Conn → (agg : ℕ) → (received : List ℕ) → Conn
with_received x agg received = after_receive x.buffered x.request (Agg agg) received

-- a request was begun, whose head ends after the first len bytes of the buffered input
abbrev pub begun_with : (len : ℕ) → Answer → Conn → Conn
begun_with len q x = record { buffered = drop len x.buffered; request = q; phase = begins q }

-- a phase in which the turn of a connection may pass to others
pub record CanRest (x : Conn) (d : Phase) : Type 0 where
  pub small : IsSmall d
  pub awaits : IsAwaiting (record x { phase = d })

-- it continues at once: the reply is processed, it becomes ready, and this is its call
pub record Proceeds (x : Conn) (r : Reply) (received : List ℕ) (y : Conn) : Type 0 where
  pub on : IsFalse (leaves_off (left_over (after_reply x r received)) r)
  pub stays : left_over (after_reply x r received) ≡ Some (after_reply x r received)
  pub readies : Readies (after_reply x r received) y

-- its turn passes to others, it is unchanged, and the reply is processed by the phase in which it continues
pub record IsLeft (x : Conn) (r : Reply) (received : List ℕ) (d : Phase) (y : Conn) : Type 0 where
  pub off : IsTrue (leaves_off (left_over (after_reply x r received)) r)
  pub after_reply_is : after_reply x r received ≡ record x { phase = d }
  pub can_rest : CanRest x d
  pub unchanged : y ≡ x

abbrev pub IsOnward : (fd : ℕ) → Conn → Reply → (received : List ℕ) → Onward → Conn → Type 0
IsOnward fd x r received (Asks call) y = Proceeds x r received y × (call ≡ next_call fd y)
IsOnward fd x r received (Leaves d) y = IsLeft x r received d y

-- From a phase that becomes idle: the first buffered request begins, or there is none.
abbrev pub Frees : (fd : ℕ) → Conn → Onward → Conn → Type 0
Frees fd x (Asks call) y =
    IsFalse (is_bare (record x { phase = Receiving }))
    × Starts (record x { phase = Receiving }) y
    × (call ≡ next_call fd y)
Frees fd x (Leaves d) y = (d ≡ Receiving) × (x.buffered ≡ []) × (y ≡ x)

-- an idle connection has buffered input, and a request can begin
abbrev pub WantsToStart : Conn → Type 0
WantsToStart x = IsFalse (is_bare (record x { phase = Receiving })) × IsTrue (can_begin (window_in x.buffered))

-- whether its turn passes in this phase: its call is to be retried later, or its response is taken whole and more input
-- is buffered
abbrev pub passes : Conn → Phase → Reply → Bool
passes x d r = is_later r || has_answered (in_phase x d)

-- From a phase that is not idle: it continues now or later.
abbrev pub GoesWith : (fd : ℕ) → Conn → Reply → Phase → Onward → Conn → Type 0
GoesWith fd x r d (Asks call) y = IsFalse (passes x d r) × (y ≡ in_phase x d) × (call ≡ next_call fd y)
GoesWith fd x r d (Leaves e) y = IsTrue (passes x d r) × (e ≡ d) × (y ≡ x)
