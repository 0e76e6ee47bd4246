-- Aggregates are added and removed: a domain gets one only under a number in a reply, and a consumed one is removed.
use Rattle.std.specs.Prelude.{◌≡◌, ℕ, ◌==◌, ◌&&◌, ◌||◌, Bool, true, false, None, IsTrue, IsFalse}
use Rattle.iol_core.specs.State.{State}
use Rattle.iol_core.specs.Run.{StepsTo}
use Rattle.iol_core.specs.Values.{gives_up}
use Rattle.iol_core.specs.declared.events.Call.TheVariants as call
use Rattle.iol_core.specs.declared.events.Event.{Event}
use Rattle.iol_core.specs.declared.events.Event.TheVariants as event
use Rattle.iol_core.specs.declared.events.Reply.{Reply}
use Rattle.iol_core.specs.declared.events.Reply.TheVariants as reply
use Rattle.iol_laws.specs.Order.{IsOrderly}
use Rattle.iol_laws.specs.Caller.{readable_at}

-- whether the reply gives the domain this number of an aggregate: as the caller, or as the receiver of a given
-- aggregate
abbrev pub brings : Event → Reply → (d a : ℕ) → Bool
brings (event.Call by (call.AggGive b to)) (reply.Agg n) d a = (to == d) && (n == a)
brings (event.Call by k) (reply.Agg n) d a = (by == d) && (n == a)
brings (event.Call by k) (reply.Aggs n m) d a = (by == d) && ((n == a) || (m == a))
brings e r d a = false

abbrev pub is_refusal : Reply → Bool
is_refusal (reply.Refused x) = true
is_refusal r = false

pub record AggregatesComeAndGo : Type 0 where
  -- a number without aggregate has none after a step that does not give the domain this number
  pub none : (s t : State) (e : Event) (r : Reply) (d a : ℕ) → StepsTo s e r t → readable_at s d a ≡ None
      → IsFalse (brings e r d a) → readable_at t d a ≡ None
  -- an aggregate that a successful call consumes is removed
  pub gone : (s t : State) (e : Event) (r : Reply) (d a : ℕ) → IsOrderly s → StepsTo s e r t → IsTrue (gives_up e d a)
      → IsFalse (is_refusal r) → readable_at t d a ≡ None
