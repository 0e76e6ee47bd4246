-- The pool of the bytes received on a connection.
use Rattle.std.specs.Prelude.{◌≡◌, ℕ, ◌==◌, Bool, List, Some, IsTrue}
use Rattle.std.specs.List.{list_all}
use Rattle.iol_core.specs.Text.{Text}
use Rattle.iol_core.specs.State.{State, descriptor, may_read, conn_at, new_state}
use Rattle.iol_core.specs.Run.{StepsTo, Run}
use Rattle.iol_core.specs.declared.descriptors.Descriptor.TheVariants as on
use Rattle.iol_core.specs.declared.refusals.Refusal.TheVariants.{Denied}
use Rattle.iol_core.specs.declared.events.Call.TheVariants as call
use Rattle.iol_core.specs.declared.events.Event.{Event}
use Rattle.iol_core.specs.declared.events.Event.TheVariants as event
use Rattle.iol_core.specs.declared.events.Reply.{Reply}
use Rattle.iol_core.specs.declared.events.Reply.TheVariants as reply

-- whether each byte is in this pool
abbrev pub lies_in : (pool : ℕ) → Text → Bool
lies_in pool t = list_all (λ b. b.1 == pool) t

-- the unread bytes of each connection are in the connection's pool
abbrev pub AreInOwnPool : State → Type 0
AreInOwnPool s = IsTrue (list_all (λ e. lies_in e.1.pool e.1.incoming) s.conns)

pub record ArrivalsLieInTheirPool : Type 0 where
  pub new : (slots : List (List ℕ)) → AreInOwnPool (new_state slots)
  pub step : (s t : State) (e : Event) (r : Reply) → AreInOwnPool s → StepsTo s e r t → AreInOwnPool t
  -- the same in each reachable state
  pub reached : (slots : List (List ℕ)) (t : State) (es : List Event) (rs : List Reply) → Run (new_state slots) es rs t
      → AreInOwnPool t
  pub each : (s : State) (c : ℕ) → AreInOwnPool s → IsTrue (lies_in (conn_at s c).pool (conn_at s c).incoming)
  -- a domain that may read the pool is never denied a read
  pub reads : (s t : State) (d fd c n p : ℕ) → AreInOwnPool s → descriptor s d fd ≡ Some (on.Connection c)
      → IsTrue (may_read s d (conn_at s c).pool)
      → ¬ StepsTo s (event.Call d (call.IolRead fd n)) (reply.Refused (Denied p)) t
  pub copies : (s t : State) (d fd c n p : ℕ) → AreInOwnPool s → descriptor s d fd ≡ Some (on.Connection c)
      → IsTrue (may_read s d (conn_at s c).pool)
      → ¬ StepsTo s (event.Call d (call.Read fd n)) (reply.Refused (Denied p)) t
