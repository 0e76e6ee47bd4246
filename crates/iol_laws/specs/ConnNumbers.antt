-- Numbers of connections ascend, and no number is used again.
use Rattle.std.specs.Prelude.{◌≡◌, ℕ, ◌+◌, ◌≤◌}
use Rattle.iol_core.specs.State.{State}
use Rattle.iol_core.specs.Run.{StepsTo}
use Rattle.iol_core.specs.declared.events.Event.{Event}
use Rattle.iol_core.specs.declared.events.Event.TheVariants as event
use Rattle.iol_core.specs.declared.events.Reply.{Reply}
use Rattle.iol_core.specs.declared.events.Reply.TheVariants as reply

pub record ConnectionNumbersRise : Type 0 where
  -- no event lowers the next number of a connection
  pub rises : (s t : State) (e : Event) (r : Reply) → StepsTo s e r t → s.next_conn ≤ t.next_conn
  -- a new connection gets the next number
  pub next : (s t : State) (p c : ℕ) → StepsTo s (event.ConnNew p) (reply.Conn c) t → (c ≡ s.next_conn)
      × (t.next_conn ≡ s.next_conn + 1)
