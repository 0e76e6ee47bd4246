-- Each aggregate of a domain has a unique number, below the next one.
use Rattle.std.proofs.Common.{◌≡◌, ℕ, ◌≤◌, List, ◌∙◌, refl, arith, None}
use Rattle.iol_core.specs.Text.{Text}
use Rattle.iol_core.specs.NumberedLists.{lookup}
use Rattle.iol_core.specs.State.{State, domain}
use Rattle.iol_core.specs.Run.{meaning}
use Rattle.iol_core.specs.declared.events.Call.{Call}
use Rattle.iol_core.specs.declared.events.Call.TheVariants as call
use Rattle.iol_core.specs.declared.events.Event.{Event}
use Rattle.iol_core.specs.declared.events.Event.TheVariants as event
use Rattle.iol_laws.specs.Order.{Once}
use Rattle.iol_laws.proofs.AggsOfEach.{Brings, BringsIn, IsOfAggs, of_meant}
use Rattle.iol_laws.proofs.Connections.{once-push, once-without}
use Rattle.iol_laws.proofs.Places.{lookup-push_other, lookup-without_none}

-- the numbers of aggregates are unique, and below the next one
pub record IsNumbered (kept : List (ℕ × Text)) (n : ℕ) : Type 0 where
  pub below : (a : ℕ) → n ≤ a → lookup kept a ≡ None
  pub once : Once kept

abbrev IsBelow : (d : ℕ) → List (ℕ × Text) → (next : ℕ) → Type 0
IsBelow d kept n = IsNumbered kept n

abbrev Any : (d n : ℕ) → Text → Type 0
Any d n t = Unit {0}

stays_below : IsOfAggs IsBelow Any
stays_below = record {
  none = λ d n. record { below = λ a more. refl; once = tt };
  added = λ d n kept t brings was. record {
    below = λ a more. lookup-push_other kept n a t (λ same. omega (arith, same, more))
        ∙ was.below a (omega (arith, more));
    once = once-push kept n t (was.below n (omega arith)) was.once;
  };
  gone = λ d n kept a was. record {
    below = λ b more. lookup-without_none kept a b (was.below b more);
    once =
        once-without kept a was.once;
  };
}

any_call : (s : State) (by : ℕ) (k : Call) → Brings Any s by k
any_call s by (call.AggSplit a at) = (tt, tt)
any_call s by k = tt

any_event : (s : State) (e : Event) → BringsIn Any s e
any_event s (event.Call by k) = any_call s by k
any_event s e = tt

abbrev pub AllBelow : State → Type 0
AllBelow s = (d : ℕ) → IsNumbered (domain s d).aggs (domain s d).next_agg

pub below_meant : (s : State) (e : Event) → AllBelow s → AllBelow (meaning s e).after
below_meant s e below = of_meant IsBelow Any stays_below s e (any_event s e) below
