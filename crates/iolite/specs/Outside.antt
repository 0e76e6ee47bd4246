-- The events in the lines of a script: a call of a domain, or an external event of the network.
use Rattle.std.specs.Prelude.{◌≡◌, ◌⊎◌, ℕ, List, codes, ⊤}
use Rattle.iol_core.specs.declared.descriptors.How.{How}
use Rattle.iol_core.specs.declared.descriptors.How.TheVariants.{Done, Gone}
use Rattle.iol_core.specs.declared.events.Call.{Call}
use Rattle.iol_core.specs.declared.events.Event.{Event}
use Rattle.iol_core.specs.declared.events.Event.TheVariants as event
use Rattle.percent_encoding.specs.Percent.{percent_decode as decoded}
use Rattle.iolite.specs.declared.outside.EventLine.{EventLine}
use Rattle.iolite.specs.declared.outside.EventLine.TheVariants as line
use Rattle.iolite.specs.Calls.{CanBeMade, IsCall, call_of}
use Rattle.iolite.specs.Words.{IsShort, rest_of, value, word}

-- how a peer closed its connection
abbrev pub how_word : How → List ℕ
how_word Done = codes "done"
how_word Gone = codes "gone"

-- each name, with its arguments
abbrev pub IsConnNew : (rest : List ℕ) → Event → Type 0
IsConnNew rest e = IsShort rest × (e ≡ event.ConnNew (value rest))

abbrev pub IsArrive : (rest : List ℕ) → Event → Type 0
IsArrive rest e = IsShort (word rest) × (e ≡ event.Arrive (value (word rest)) (decoded (rest_of rest)))

abbrev pub IsPeerClosed : (rest : List ℕ) → Event → Type 0
IsPeerClosed rest e = IsShort (word rest)
    × ((how : How) × (rest_of rest ≡ how_word how) × (e ≡ event.PeerClosed (value (word rest)) how))

abbrev pub IsTransmit : (rest : List ℕ) → Event → Type 0
IsTransmit rest e = IsShort (word rest) × IsShort (rest_of rest)
    × (e ≡ event.Transmit (value (word rest)) (value (rest_of rest)))

-- the external event of a name
abbrev pub Happens : (name rest : List ℕ) → Event → Type 0
Happens name rest e =
    ((name ≡ codes "conn_new") × IsConnNew rest e)
    ⊎ (((name ≡ codes "arrive") × IsArrive rest e)
    ⊎ (((name ≡ codes "peer_closed") × IsPeerClosed rest e)
    ⊎ ((name ≡ codes "transmit") × IsTransmit rest e)))

-- a call of the domain with the number of the first word
abbrev pub IsCallOf : (first rest : List ℕ) → Event → Type 0
IsCallOf first rest e = IsShort first × ((c : Call) × IsCall rest c × (e ≡ event.Call (value first) c))

abbrev pub IsEvent : (first rest : List ℕ) → Event → Type 0
IsEvent first rest e = IsCallOf first rest e ⊎ Happens first rest e

-- the event of a parsed line whose texts are still encoded
abbrev pub event_of : EventLine → Event
event_of (line.Whole e) = e
event_of (line.Arrive c text) = event.Arrive c (decoded text.now)
event_of (line.Call by c) = event.Call by (call_of c)

abbrev pub CanHappen : EventLine → Type 0
CanHappen (line.Whole e) = ⊤
CanHappen (line.Arrive c text) = ⊤
CanHappen (line.Call by c) = CanBeMade c
