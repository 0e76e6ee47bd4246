-- The events that may get WouldBlock, and the reason for external events.
use Rattle.std.proofs.Common.{◌≡◌, ℕ, ◌≤◌, ◌==◌, List, [], ◌∷◌, length, refl, arith, Bool, Some, true}
use Rattle.std.specs.Prelude.{min, nat_lt, ◌&&◌, ◌-◌}
use Rattle.std.proofs.lemmas.Bool.Decides.{nat_tests}
use Rattle.iol_core.specs.State.{State, conn_at}
use Rattle.iol_core.specs.Meaning.{first, ◌when◌}
use Rattle.iol_core.specs.Run.{StepsTo, meaning}
use Rattle.iol_core.specs.Calls.Outside as outside
use Rattle.iol_core.specs.declared.limits.TheConstants.{MAX_QUEUE_BYTES}
use Rattle.iol_core.specs.declared.refusals.Refusal.{Refusal}
use Rattle.iol_core.specs.declared.refusals.Refusal.TheVariants as refuse
use Rattle.iol_core.specs.declared.events.Event.{Event}
use Rattle.iol_core.specs.declared.events.Event.TheVariants as event
use Rattle.iol_core.specs.declared.events.Reply.TheVariants as reply
use Rattle.iol_laws.specs.RefusalsLeft.{event_may_wait}
use Rattle.iol_laws.proofs.Refusals.Reasons.{said, other, this, when-some, when-differs}
use Rattle.iol_laws.proofs.Refusals.Calls.{IsNoWait, may, others, who_waits}

-- if the result is the last of three refusals, and the others differ from it, its condition holds
last : (x y : Refusal) (a b c : Bool) → (x ≡ refuse.WouldBlock → ⊥) → (y ≡ refuse.WouldBlock → ⊥)
    → first ((x when a) ∷ (y when b) ∷ (refuse.WouldBlock when c) ∷ []) ≡ Some refuse.WouldBlock → c ≡ true
last x y a b c x_not y_not is =
    let back =
    other (y when b) ((refuse.WouldBlock when c) ∷ []) refuse.WouldBlock (when-differs y refuse.WouldBlock b y_not)
    (other (x when a) ((y when b) ∷ (refuse.WouldBlock when c) ∷ []) refuse.WouldBlock
    (when-differs x refuse.WouldBlock a x_not) is) in
    when-some refuse.WouldBlock c (this (refuse.WouldBlock when c) [] refuse.WouldBlock (λ e. cc) back)

-- arriving bytes, if none of them fits

none-fits : (n came : ℕ) → (nat_lt 0 n && (min n (MAX_QUEUE_BYTES - came) == 0)) ≡ true → MAX_QUEUE_BYTES ≤ came
none-fits n came is = grind (arith, nat_tests, is)

pub arrival_is_full : (s t : State) (c : ℕ) (bytes : List ℕ)
    → StepsTo s (event.Arrive c bytes) (reply.Refused refuse.WouldBlock) t
    → MAX_QUEUE_BYTES ≤ length (conn_at s c).incoming
arrival_is_full s t c [] step =
    none-fits 0 (length (conn_at s c).incoming)
    (last refuse.BadFd refuse.BrokenPipe _ _ _ (λ e. cc) (λ e. cc)
    (said (first (outside.arrive s c []).refusals) refuse.WouldBlock step.0))
arrival_is_full s t c (b ∷ bytes) step =
    none-fits (length (b ∷ bytes)) (length (conn_at s c).incoming)
    (last refuse.BadFd refuse.BrokenPipe _ _ _ (λ e. cc) (λ e. cc)
    (said (first (outside.arrive s c (b ∷ bytes)).refusals) refuse.WouldBlock step.0))

-- a segment, if there is no output

none-left : {A : Type 0} (xs : List A) → (length xs == 0) ≡ true → xs ≡ []
none-left [] is = refl
none-left (x ∷ xs) is = absurd (grind (arith, nat_tests, is))

pub segment_is_empty : (s t : State) (c max : ℕ) → StepsTo s (event.Transmit c max) (reply.Refused refuse.WouldBlock) t
    → (conn_at s c).outgoing ≡ []
segment_is_empty s t c max step =
    none-left (conn_at s c).outgoing
    (last refuse.BadFd refuse.BadRange _ _ _ (λ e. cc) (λ e. cc)
    (said (first (outside.transmit s c max).refusals) refuse.WouldBlock step.0))

-- the events that may get WouldBlock

waits : (s t : State) (e : Event) → StepsTo s e (reply.Refused refuse.WouldBlock) t → event_may_wait e ≡ true
waits s t (event.Call d k) step = who_waits s t d k step
waits s t (event.ConnNew p) step =
    absurd (others (meaning s (event.ConnNew p)).refusals (meaning s (event.ConnNew p)).Late (
      may IsNoWait refuse.NoPool _ refl,
      (may IsNoWait refuse.TooMany _ refl, (may IsNoWait (refuse.PoolClosed p) _ refl, tt)),
    ) (λ late. absurd late) step.0)
waits s t (event.PeerClosed c how) step =
    absurd (others (meaning s (event.PeerClosed c how)).refusals (meaning s (event.PeerClosed c how)).Late
    (may IsNoWait refuse.BadFd _ refl, tt) (λ late. absurd late) step.0)
waits s t event.Flush step =
    absurd (others (meaning s event.Flush).refusals (meaning s event.Flush).Late tt (λ late. absurd late) step.0)
waits s t event.DropClean step =
    absurd (others (meaning s event.DropClean).refusals (meaning s event.DropClean).Late tt (λ late. absurd late)
    step.0)
waits s t e step = refl

pub which_waits : (s t : State) (e : Event) → StepsTo s e (reply.Refused refuse.WouldBlock) t
    → (event_may_wait e ≡ true) × (t ≡ s)
which_waits s t e step = (waits s t e step, step.1)
