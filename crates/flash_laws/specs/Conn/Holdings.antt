-- The server keeps nothing of a finished response: the results of its calls belong to the connection for which they are
-- made, and are given up when that connection no longer uses them.
--
-- As in `Conn/OfferedBytes`, the laws are about each call of the server, undisturbed or not.
use Rattle.std.specs.Prelude.{◌≡◌, ◌⊎◌, ℕ, List, Some, None, IsTrue, IsFalse}
use Rattle.iol_core.specs.Access.{HasAccess}
use Rattle.iol_core.specs.State.{State, descriptor, is_live}
use Rattle.iol_core.specs.Run.{StepsTo}
use Rattle.iol_core.specs.Values.{gives_up}
use Rattle.iol_core.specs.declared.descriptors.Descriptor.TheVariants as on
use Rattle.iol_core.specs.declared.events.Call.{Call}
use Rattle.iol_core.specs.declared.events.Event.TheVariants as event
use Rattle.iol_core.specs.declared.events.Reply.{Reply}
use Rattle.iol_core.specs.declared.events.Reply.TheVariants as reply
use Rattle.iol_laws.specs.Caller.{readable_at}
use Rattle.iol_laws.specs.Frame.{touches_fd, touches_conn, touches_pipe, changes_files, admits_to}
use Rattle.iol_laws.specs.Order.{IsOrderly}
use Rattle.flash_laws.specs.Answers.{Outcome}
use Rattle.flash_laws.specs.Conn.{Conn, uses_agg, uses_fd, next_call, after_reply}
use Rattle.flash_laws.specs.declared.phase.Phase.{Phase}
use Rattle.flash_laws.specs.Conn.OfferedBytes.{HasAnswer}
use Rattle.flash_laws.specs.Site.{server}

-- A call that touches only the objects of a connection: `fd` is its descriptor, on connection c.
pub record TouchesItsOwn (m : State) (fd c : ℕ) (d : Phase) (k : Call) : Type 0 where
  -- it consumes only an aggregate that it uses
  pub aggs : (a : ℕ) → IsTrue (gives_up (event.Call server k) server a) → IsTrue (uses_agg d a)
  -- it moves or closes only its file's descriptor, or the connection's own
  pub fds : (g : ℕ) → IsTrue (touches_fd m (event.Call server k) server g) → IsTrue (uses_fd d g) ⊎ (fd ≡ g)
  pub conns : (e : ℕ) → IsTrue (touches_conn m (event.Call server k) e) → c ≡ e
  pub pipes : (p : ℕ) → IsFalse (touches_pipe m (event.Call server k) p)
  pub files : IsFalse (changes_files m (event.Call server k))
  pub pools : (p : ℕ) → IsFalse (admits_to (event.Call server k) p)

pub record KeepsNothing : Type 0 where
  -- an aggregate returned by a call for a connection is used by it
  pub brought : (m n : State) (fd c : ℕ) (x : Conn) (o : Outcome) (r : Reply) (received bytes : List ℕ) (a : ℕ)
      → IsOrderly m → HasAccess m → IsTrue (is_live m server) → descriptor m server fd ≡ Some (on.Connection c)
      → HasAnswer m x o → StepsTo m (event.Call server (next_call fd x)) r n
      → readable_at m server a ≡ None → readable_at n server a ≡ Some bytes
      → IsTrue (uses_agg (after_reply x r received).phase a)
  -- the same for a descriptor
  pub opened : (m n : State) (fd f : ℕ) (x : Conn) (received : List ℕ)
      → StepsTo m (event.Call server (next_call fd x)) (reply.Fd f) n
      → IsTrue (uses_fd (after_reply x (reply.Fd f) received).phase f)
  -- the server no longer has an aggregate that the connection no longer uses
  pub left : (m n : State) (fd : ℕ) (x : Conn) (r : Reply) (received : List ℕ) (a : ℕ) → IsOrderly m
      → StepsTo m (event.Call server (next_call fd x)) r n
      → IsTrue (uses_agg x.phase a) → IsFalse (uses_agg (after_reply x r received).phase a)
      → readable_at n server a ≡ None
  -- the same for the descriptor of a file
  pub shut : (m n : State) (fd : ℕ) (x : Conn) (r : Reply) (received : List ℕ) (g : ℕ)
      → StepsTo m (event.Call server (next_call fd x)) r n
      → IsTrue (uses_fd x.phase g) → IsFalse (uses_fd (after_reply x r received).phase g) → descriptor n server g ≡ None
  -- its calls touch only its own objects, including the last, which closes it
  pub alone : (m : State) (fd c : ℕ) (x : Conn) (o : Outcome) → descriptor m server fd ≡ Some (on.Connection c)
      → HasAnswer m x o
      → TouchesItsOwn m fd c x.phase (next_call fd x)
