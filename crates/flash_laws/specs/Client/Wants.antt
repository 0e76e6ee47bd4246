-- The uses of memory by a client: to buffer bytes that it reads, to begin a request, and for the bytes of a call.
use Rattle.std.specs.Prelude.{◌⊎◌, ◌<◌, ℕ, Bool, true, List, length, Option, Some, None, IsTrue, IsFalse}
use Rattle.iol_core.specs.declared.events.Reply.{Reply}
use Rattle.iol_core.specs.declared.events.Reply.TheVariants as reply
use Rattle.flash_laws.specs.Client.{Client, is_for_script, left_over}
use Rattle.flash_laws.specs.Serves.Rounds.{leaves_off}
use Rattle.flash_laws.specs.Run.Wants.{makes_any}
use Rattle.flash_laws.specs.Conn.Wants as wanting
use Rattle.flash_laws.specs.declared.phase.Phase.{Phase}
use Rattle.flash_laws.specs.declared.phase.Phase.TheVariants.{Reading}
use Rattle.flash_laws.specs.declared.script_run.Running.{Running}

-- it was reading, and a byte arrived: of its stream, or of the text of a script
abbrev pub Receives : (script : Bool) → Phase → Reply → (received : List ℕ) → Type 0
Receives true (Reading f) (reply.Agg n) received = 0 < length received
Receives script d r received = wanting.Receives d r received

abbrev pub ClientReceives : (scripts : Bool) → Client → Reply → (received : List ℕ) → Type 0
ClientReceives scripts x r received = by x.run
  where
    by : Option Running → Type 0
    by None = Receives (is_for_script scripts x.conn.request) x.conn.phase r received
    by (Some y) = ⊥

-- whether its next call has bytes of its own
abbrev pub makes_bytes : Client → Bool
makes_bytes x = by x.run
  where
    by : Option Running → Bool
    by None = wanting.has_bytes x.conn.phase
    by (Some y) = makes_any y

-- whether a client that continues at once begins a request, or makes such a call
abbrev pub needs_memory : Client → Bool
needs_memory x = by x.run
  where
    by : Option Running → Bool
    by None = wanting.needs_memory x.conn
    by (Some y) = makes_any y

-- to buffer bytes, or to continue at once
abbrev pub WantsOn : (scripts : Bool) → (t x : Client) → Reply → (received : List ℕ) → Type 0
WantsOn scripts t x r received = ClientReceives scripts x r received
    ⊎ (IsFalse (leaves_off (left_over t) r) × IsTrue (needs_memory t))
