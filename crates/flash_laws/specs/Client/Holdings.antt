-- The server keeps nothing of a finished response, of a file or of a script: the results of its calls belong to the
-- client for which they are made, and are given up when that client no longer uses them.
--
-- As in `Client/OfferedBytes`, the laws are about each call of the server, undisturbed or not.
use Rattle.std.specs.Prelude.{◌≡◌, ℕ, ◌==◌, ◌||◌, ◌&&◌, Bool, not, List, [], Option, Some, None, IsTrue}
use Rattle.std.specs.Prelude.{IsFalse}
use Rattle.iol_core.specs.Access.{HasAccess}
use Rattle.iol_core.specs.State.{State, descriptor, is_live}
use Rattle.iol_core.specs.Run.{StepsTo}
use Rattle.iol_core.specs.declared.descriptors.Descriptor.TheVariants as on
use Rattle.iol_core.specs.declared.events.Event.TheVariants as event
use Rattle.iol_core.specs.declared.events.Reply.{Reply}
use Rattle.iol_core.specs.declared.events.Reply.TheVariants as reply
use Rattle.iol_laws.specs.Caller.{readable_at}
use Rattle.iol_laws.specs.Order.{IsOrderly}
use Rattle.flash_laws.specs.Client.{Client, new_client, uses_agg, is_for_script, next_call, Readies, keeps_text, awaits}
use Rattle.flash_laws.specs.Client.{after_reply}
use Rattle.flash_laws.specs.Client.OfferedBytes.{is_ending}
use Rattle.flash_laws.specs.Conn as conn
use Rattle.flash_laws.specs.Conn.{is_head_only}
use Rattle.flash_laws.specs.Client.ResponseState.{Known, is_read, HasKnown}
use Rattle.flash_laws.specs.Run.Holdings.{has_end}
use Rattle.flash_laws.specs.Site.{server}
use Rattle.flash_laws.specs.declared.script_run.Running.{Running}

-- whether it has this descriptor, of a file or of an end of a script's output pipe
abbrev pub has_fd : Client → (g : ℕ) → Bool
has_fd x g = by x.run
  where
    by : Option Running → Bool
    by None = conn.uses_fd x.conn.phase g
    by (Some y) = has_end y g

-- whether a script whose text was read will run for it
abbrev pub is_to_run : (scripts : Bool) → Client → Bool
is_to_run scripts x = by x.run
  where
    by : Option Running → Bool
    by None = is_for_script scripts x.conn.request && (not (is_head_only x.conn.request) && is_read x.conn.phase)
    by (Some y) = keeps_text y

-- no text is held except that of a script that will run
abbrev pub HoldsNoOther : (scripts : Bool) → Client → Type 0
HoldsNoOther scripts x = IsFalse (is_to_run scripts x) → x.script ≡ []

pub record ClientKeepsNothing (scripts : Bool) : Type 0 where
  -- an aggregate returned by a call for a client is used by it
  pub brought : (m n : State) (fd c worker : ℕ) (x : Client) (known : Known) (r : Reply) (received bytes : List ℕ)
      (a : ℕ)
      → IsOrderly m → HasAccess m → IsTrue (is_live m server) → descriptor m server fd ≡ Some (on.Connection c)
      → IsFalse (is_ending x) → HasKnown scripts m x known → StepsTo m (event.Call server (next_call scripts fd x)) r n
      → readable_at m server a ≡ None → readable_at n server a ≡ Some bytes
      → IsTrue (uses_agg (after_reply scripts worker x r received) a)
  -- the same for the descriptor of a file, and for both ends of a pipe
  pub opened : (m n : State) (fd worker f : ℕ) (x : Client) (received : List ℕ) → x.run ≡ None
      → StepsTo m (event.Call server (next_call scripts fd x)) (reply.Fd f) n
      → IsTrue (has_fd (after_reply scripts worker x (reply.Fd f) received) f)
  pub piped : (m : State) (worker from write : ℕ) (x : Client) (known : Known) (received : List ℕ) (g : ℕ)
      → IsTrue (awaits x)
      → HasKnown scripts m x known → IsTrue ((from == g) || (write == g))
      → IsTrue (has_fd (after_reply scripts worker x (reply.Fds from write) received) g)
  -- the server no longer has an aggregate that the client no longer uses
  pub left : (m n : State) (fd worker : ℕ) (x : Client) (known : Known) (r : Reply) (received : List ℕ) (a : ℕ)
      → IsOrderly m
      → HasKnown scripts m x known → StepsTo m (event.Call server (next_call scripts fd x)) r n
      → IsTrue (uses_agg x a) → IsFalse (uses_agg (after_reply scripts worker x r received) a)
      → readable_at n server a ≡ None
  -- the same for the descriptor of a file, and for each end of a pipe, which is closed, or given to the worker
  pub shut : (m n : State) (fd worker : ℕ) (x : Client) (known : Known) (r : Reply) (received : List ℕ) (g : ℕ)
      → HasKnown scripts m x known → StepsTo m (event.Call server (next_call scripts fd x)) r n
      → IsTrue (has_fd x g) → IsFalse (has_fd (after_reply scripts worker x r received) g)
      → descriptor n server g ≡ None
  -- no text is held except that of a script that will run: a new client has none, and replies preserve this
  pub fresh : HoldsNoOther scripts new_client
  pub held : (worker : ℕ) (x : Client) (r : Reply) (received : List ℕ) → HoldsNoOther scripts x
      → HoldsNoOther scripts (after_reply scripts worker x r received)
  pub ready : (x y : Client) → HoldsNoOther scripts x → Readies x y → HoldsNoOther scripts y

abbrev pub ClientsLeaveNothing : Type 0
ClientsLeaveNothing = (scripts : Bool) → ClientKeepsNothing scripts
