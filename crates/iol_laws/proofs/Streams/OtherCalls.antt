-- The effect of calls of another domain on a connection.
use Rattle.std.proofs.Common.{inl, inr, ◌≡◌, ℕ, ◌==◌, ◌⊎◌, ap, ◌∙◌, refl, sym, arith, Option, Some, true, false}
use Rattle.std.specs.Prelude.{unwrap_or, not, is_none, ◌&&◌}
use Rattle.std.specs.List.{list_any}
use Rattle.std.proofs.lemmas.Bool.{cases_eq}
use Rattle.std.proofs.lemmas.Bool.Decides.{nat_tests}
use Rattle.iol_core.specs.State.{State, Connection, descriptor, may_read, conn_at}
use Rattle.iol_core.specs.Run.{called, StepsTo, outcome}
use Rattle.iol_core.specs.Calls.Descriptors as fds
use Rattle.iol_core.specs.declared.refusals.Refusal.TheVariants as refuse
use Rattle.iol_core.specs.declared.descriptors.Descriptor.{Descriptor}
use Rattle.iol_core.specs.declared.descriptors.Descriptor.TheVariants as on
use Rattle.iol_core.specs.declared.events.Call.{Call}
use Rattle.iol_core.specs.declared.events.Call.TheVariants as call
use Rattle.iol_core.specs.declared.events.Event.TheVariants as event
use Rattle.iol_core.specs.declared.events.Reply.{Reply}
use Rattle.iol_core.specs.declared.events.Reply.TheVariants as reply
use Rattle.iol_core.proofs.TestedLists.{passed, when-none}
use Rattle.iol_laws.specs.Frame.{operands, is_conn}
use Rattle.iol_laws.specs.Order.{IsOrderly}
use Rattle.iol_laws.specs.Caller.{Accepts}
use Rattle.iol_laws.proofs.Streams.Accept.{accepted_called, accepted_outcome}
use Rattle.iol_laws.proofs.Caller.Descriptors.{does_accept}
use Rattle.iol_laws.proofs.Changes.{operands-none}
use Rattle.iol_laws.proofs.Frame.Steps.{leaves_step}
use Rattle.iol_laws.proofs.Tests.{both-false, is_some-or}
use Rattle.iol_laws.proofs.Streams.WaitingConn.{waiting-is}

not-on : (c : ℕ) (o : Option Descriptor) → (o ≡ Some (on.Connection c) → ⊥) → is_conn c o ≡ false
not-on c (Some (on.Connection e)) never =
    elim (cases_eq e c) [
      | inl same ↦ absurd (never (ap (λ n. Some (on.Connection n)) same))
      | inr differ ↦
          grind (arith, nat_tests, differ)
    ]
not-on c o never = refl

-- a connection that the domain neither has nor may accept
pub other_conn : (s t : State) (d : ℕ) (k : Call) (r : Reply) (c : ℕ) → IsOrderly s → StepsTo s (event.Call d k) r t
    → ((f : ℕ) → descriptor s d f ≡ Some (on.Connection c) → ⊥)
    → ((conn_at s c).accepted ≡ true) ⊎ (may_read s d (conn_at s c).pool ≡ false) → conn_at t c ≡ conn_at s c
other_conn s t d call.Accept (reply.Refused x) c order step never free = ap (λ (u : State). conn_at u c) step.1
other_conn s t d call.Accept (reply.Fd fd) c order step never free =
    let found =
    is_some-or (fds.waiting s d)
    (when-none refuse.WouldBlock (is_none (fds.waiting s d)) (passed (fds.accept s d).refusals 2 step.0)) in
    let it = waiting-is s d (unwrap_or (fds.waiting s d) 0) order found in
    (leaves_step s t (event.Call d call.Accept) (reply.Fd fd) step).conns c (another (unwrap_or (fds.waiting s d) 0) it)
  where
    another : (e : ℕ) → ((conn_at s e).accepted ≡ false) × (may_read s d (conn_at s e).pool ≡ true) → (e == c) ≡ false
    another e it = elim (cases_eq e c) [
      | inr differ ↦ grind (arith, nat_tests, differ)
      | inl same ↦ absurd (elim free [
        | inl taken ↦ (let a = ap (λ n. (conn_at s n).accepted) same in let b = it.0 in cc (a, b, taken))
        | inr barred ↦ (let a = ap (λ n. may_read s d (conn_at s n).pool) same in let b = it.1 in cc (a, b, barred))
      ])
    ]
other_conn s t d call.Accept r c order step never free = (let e = step.1 in absurd (cc))
other_conn s t d k r c order step never free =
    (leaves_step s t (event.Call d k) r step).conns c
    (both-false (list_any (is_conn c) (operands s (event.Call d k))) false
    (operands-none (is_conn c) s d k (λ f. not-on c (descriptor s d f) (never f))) refl)

-- a waiting connection is unchanged, or accepted
pub other_waiting : (s t : State) (d : ℕ) (k : Call) (r : Reply) (c : ℕ) → IsOrderly s → StepsTo s (event.Call d k) r t
    → (conn_at s c).accepted ≡ false → (conn_at t c ≡ conn_at s c) ⊎ ((conn_at t c).accepted ≡ true)
other_waiting s t d k r c order step waits = by k r step
  where
    nobody : (f : ℕ) → descriptor s d f ≡ Some (on.Connection c) → ⊥
    nobody f is =
        (let both = order.all_stand d f (on.Connection c) is in
        let no_one : ((conn_at s c).accepted && not (conn_at s c).closed) ≡ false =
        ap (λ b. b && not (conn_at s c).closed) waits in absurd (cc (both, no_one)))

    accepts : (r : Reply) → Accepts s d r t → (conn_at t c ≡ conn_at s c) ⊎ ((conn_at t c).accepted ≡ true)
    accepts (reply.Fd fd) took = elim (cases_eq took.conn c) [
      | inl same ↦ inr (ap (λ n. (conn_at t n).accepted) (sym same) ∙ ap (λ (x : Connection). x.accepted) took.conn_is)
      | inr differ ↦ inl (took.others c differ)
    ]
    accepts (reply.Refused x) same = inl (ap (λ (u : State). conn_at u c) same)
    accepts r did = absurd did

    by : (k : Call) (r : Reply) → StepsTo s (event.Call d k) r t → (conn_at t c ≡ conn_at s c)
        ⊎ ((conn_at t c).accepted ≡ true)
    by call.Accept r step = accepts r (does_accept s t d r order step)
    by k r step =
        inl
        ((leaves_step s t (event.Call d k) r step).conns c
        (both-false (list_any (is_conn c) (operands s (event.Call d k))) false
        (operands-none (is_conn c) s d k (λ f. not-on c (descriptor s d f) (nobody f))) refl))

pub other_accepted : (s t : State) (d : ℕ) (k : Call) (r : Reply) (c : ℕ) → IsOrderly s → StepsTo s (event.Call d k) r t
    → (conn_at s c).accepted ≡ true → (conn_at t c).accepted ≡ true
other_accepted s t d k r c order step was =
    accepted_outcome (called s d k) s t (outcome r) c (accepted_called s d k c order.once was) was step
