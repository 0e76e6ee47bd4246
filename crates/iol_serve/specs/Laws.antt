-- A consequence for a served connection.
use Rattle.std.specs.Prelude.{ℕ, false, List, [], Option, IsTrue}
use Rattle.iol_core.specs.Calls.Outside.{lacks_conn}
use Rattle.iol_core.specs.State.{State, conn_at}
use Rattle.iol_core.specs.Text.{bytes_of}
use Rattle.iol_laws.specs.History.{GoesFirst}
use Rattle.iol_laws.specs.Order.{IsOrderly}
use Rattle.iol_proc.specs.Turns.{TransitionRelation}
use Rattle.iol_proc.specs.World.{WorldState}
use Rattle.iol_serve.specs.Service.{Serves}

-- If its peer was never reported as gone and the connection was removed, all bytes were sent, in order: those queued
-- before, then those written since. Nothing of it is left.
abbrev pub OverIsWhole : {P : Type 0} → TransitionRelation P → Type 0
OverIsWhole {P} turns = (c : ℕ) (left rest held now : Option (List ℕ)) (w after : WorldState State P)
    → IsOrderly w.machine
    → (served : Serves turns c false left rest held now w after) → IsTrue (lacks_conn after.machine c)
    → GoesFirst (bytes_of (conn_at w.machine c).outgoing) served.sent []
