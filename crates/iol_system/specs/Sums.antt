-- The remembered sums after an event.
use Rattle.std.specs.Prelude.{◌≡◌}
use Rattle.iol_core.specs.declared.events.Event.{Event}
use Rattle.iol_core.specs.declared.events.Event.TheVariants as event
use Rattle.iol_core.specs.declared.events.Reply.{Reply}
use Rattle.iol_core.specs.declared.events.Reply.TheVariants as reply
use Rattle.iol_sock.specs.SentBytes.{UsesSent}
use Rattle.iol_sock.specs.Table.{conn_in}
use Rattle.iol_kernel.specs.KernelState.{KernelState}

-- Sending uses the sum of each slice sent, in order; no other event changes the remembered sums.
abbrev pub Remembers : KernelState → Event → Reply → KernelState → Type 0
Remembers old (event.Transmit c max) (reply.Segment bytes sum) new =
    UsesSent old.store (conn_in old.conns c).outgoing max old.sums new.sums
Remembers old e r new = new.sums ≡ old.sums
