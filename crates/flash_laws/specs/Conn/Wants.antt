-- The uses of memory by a connection: to buffer bytes that it reads, to begin a request, and for the bytes of a call.
use Rattle.std.specs.Prelude.{◌⊎◌, ◌<◌, ℕ, Bool, true, false, List, length, IsTrue, IsFalse}
use Rattle.iol_core.specs.declared.events.Reply.{Reply}
use Rattle.iol_core.specs.declared.events.Reply.TheVariants as reply
use Rattle.flash_http.specs.Window.{window_in}
use Rattle.flash_http.specs.declared.windows.Window.{Window}
use Rattle.flash_http.specs.declared.windows.Window.TheVariants.{Wait}
use Rattle.flash_laws.specs.Conn.{Conn, after_reply}
use Rattle.flash_laws.specs.Conn.Policy.{leaves_off}
use Rattle.flash_laws.specs.Site.OtherConns.{left_over}
use Rattle.flash_laws.specs.declared.phase.Phase.{Phase}
use Rattle.flash_laws.specs.declared.phase.Phase.TheVariants.{Receiving, Opening, MakingHead}

-- whether the call of a phase has bytes of its own: a name, or a head
abbrev pub has_bytes : Phase → Bool
has_bytes Opening = true
has_bytes (MakingHead k) = true
has_bytes d = false

-- whether a request can begin: its head is complete, or cannot become complete
abbrev pub can_begin : Window → Bool
can_begin Wait = false
can_begin w = true

-- whether a connection that continues at once begins a request, or makes such a call
abbrev pub needs_memory : Conn → Bool
needs_memory x = by x.phase
  where
    by : Phase → Bool
    by Receiving = can_begin (window_in x.buffered)
    by d = has_bytes d

-- it was reading, and a byte arrived
abbrev pub Receives : Phase → Reply → (received : List ℕ) → Type 0
Receives Receiving (reply.Agg n) received = 0 < length received
Receives d r received = ⊥

-- a connection needs memory after a reply: to buffer bytes, or to continue at once
abbrev pub WantsOn : Conn → Reply → (received : List ℕ) → Type 0
WantsOn x r received =
    Receives x.phase r received
    ⊎ (IsFalse (leaves_off (left_over (after_reply x r received)) r)
    × IsTrue (needs_memory (after_reply x r received)))
