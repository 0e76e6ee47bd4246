-- The definitions on connections agree with the copying machine, for every reading of the places of bytes.
use Rattle.std.specs.Prelude.{◌≡◌, ℕ, List, [], ◌∷◌, length, Option, Some}
use Rattle.iol_core.specs.NumberedLists.{lookup}
use Rattle.iol_core.specs.State as machine
use Rattle.iol_core.specs.State.{State}
use Rattle.iol_core.specs.Meaning.{◌when◌, first}
use Rattle.iol_core.specs.Calls.Outside as outside
use Rattle.iol_core.specs.Calls.Writes as writing
use Rattle.iol_core.specs.declared.descriptors.Descriptor.{Descriptor}
use Rattle.iol_core.specs.declared.descriptors.Descriptor.TheVariants as on
use Rattle.iol_core.specs.declared.descriptors.How.{How}
use Rattle.iol_core.specs.declared.refusals.Refusal.{Refusal}
use Rattle.iol_core.specs.declared.refusals.Refusal.TheVariants.{BrokenPipe, WouldBlock}
use Rattle.iol_hold.specs.Layout.{read}
use Rattle.iol_hold.specs.Places.{Place}
use Rattle.iol_hold.specs.declared.slices.Slice.{Slice}
use Rattle.iol_pipe.specs.Queue.{fitting}
use Rattle.iol_sock.specs.Connections.{Conn, conn_view, closed_by, is_over}
use Rattle.iol_sock.specs.Refusals.{arrive_refusals, queue_refusals, segment_refusals, arrive_late}

-- a reading: for each place a byte and its pool
abbrev pub Reading : Type 0
Reading = Place → ℕ × ℕ

-- the machine's connection of that number is x, as f reads it
abbrev pub IsConn : Reading → State → (c : ℕ) → Conn (List Slice) → Type 0
IsConn f s c x = lookup s.conns c ≡ Some (conn_view (read f) x)

-- a connection is over exactly when the machine's connection is, for every reading
abbrev pub IsOverAsMeant : Type 0
IsOverAsMeant = (f : Reading) (x : Conn (List Slice)) → machine.is_over (conn_view (read f) x) ≡ is_over x

-- the reading of a connection whose peer closes it is the machine's connection whose peer closes it
abbrev pub ClosesAsMeant : Type 0
ClosesAsMeant = (f : Reading) (x : Conn (List Slice)) (how : How) → outside.closed_by (conn_view (read f) x) how
    ≡ conn_view (read f) (closed_by x how)

-- the first refusal of bytes that arrive is the machine's
abbrev pub ArrivesAsMeant : Type 0
ArrivesAsMeant = (f : Reading) (s : State) (c : ℕ) (x : Conn (List Slice)) (bytes : List ℕ) → IsConn f s c x
    → first (outside.arrive s c bytes).refusals ≡ first (arrive_refusals x (length bytes))

-- the number of arriving bytes that fit is the number that the machine takes
abbrev pub TakesAsMeant : Type 0
TakesAsMeant = (f : Reading) (s : State) (c : ℕ) (x : Conn (List Slice)) (bytes : List ℕ) → IsConn f s c x
    → (outside.arrive s c bytes).answer ≡ fitting x.incoming (length bytes)

-- a late refusal of bytes that arrive is one of the machine's
abbrev pub WantsAsMeant : Type 0
WantsAsMeant = (f : Reading) (s : State) (c : ℕ) (x : Conn (List Slice)) (bytes : List ℕ) (r : Refusal)
    → IsConn f s c x → arrive_late x bytes r → outside.arrive_late s c bytes r

-- the first refusal to send bytes is the machine's
abbrev pub SendsAsMeant : Type 0
SendsAsMeant = (f : Reading) (s : State) (c max : ℕ) (x : Conn (List Slice)) → IsConn f s c x
    → first (outside.transmit s c max).refusals ≡ first (segment_refusals x max)

-- a descriptor that is open on the connection of that number
abbrev pub open_on : (c : ℕ) → Option Descriptor
open_on c = Some (on.Connection c)

-- the first refusal of bytes to be sent is the machine's, for a descriptor that is open on the connection
abbrev pub QueuesAsMeant : Type 0
QueuesAsMeant = (f : Reading) (s : State) (c n : ℕ) (x : Conn (List Slice)) → IsConn f s c x →
    first ((BrokenPipe when writing.is_broken s (open_on c)) ∷
    (WouldBlock when writing.takes_none s (open_on c) n) ∷ []) ≡ first (queue_refusals x n)

-- the number of bytes to be sent that fit is the number that the machine takes
abbrev pub FitsAsMeant : Type 0
FitsAsMeant = (f : Reading) (s : State) (c n : ℕ) (x : Conn (List Slice)) → IsConn f s c x
    → writing.fitting s (open_on c) n ≡ fitting x.outgoing n
