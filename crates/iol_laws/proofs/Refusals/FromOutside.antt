-- The refusals that an external event can still get, and the reason for which arriving bytes are refused with
-- BrokenPipe.
use Rattle.std.proofs.Common.{◌≡◌, ℕ, ◌<◌, ◌⊎◌, List, [], ◌∷◌, ap, arith, Some, true, false, Bool}
use Rattle.std.specs.Prelude.{not, is_some}
use Rattle.std.proofs.lemmas.Bool.Decides.{nat_tests}
use Rattle.iol_core.specs.State.{State, is_pool, pool, conn_at}
use Rattle.iol_core.specs.Meaning.{first, ◌when◌, Never, WantOfMemory, FaultIn}
use Rattle.iol_core.specs.Run.{StepsTo, meaning}
use Rattle.iol_core.specs.Calls.Outside as outside
use Rattle.iol_core.specs.Calls.Outside.{lacks_conn}
use Rattle.iol_core.specs.declared.refusals.Refusal.{Refusal}
use Rattle.iol_core.specs.declared.refusals.Refusal.TheVariants as refuse
use Rattle.iol_core.specs.declared.descriptors.How.{How}
use Rattle.iol_core.specs.declared.events.Event.TheVariants as event
use Rattle.iol_core.specs.declared.events.Reply.TheVariants as reply
use Rattle.iol_laws.specs.RefusalsLeft.{CannotPutOrLacksRoom, HasNothingToSend, LacksNumbers}
use Rattle.iol_laws.proofs.Refusals.Reasons.{broken-said, other, said, when-differs}
use Rattle.iol_laws.proofs.Refusals.Calls.{left, may, not-so, of-memory, of-room}
use Rattle.iol_laws.proofs.Tests.{either}

pub left_connect : (s t : State) (p : ℕ) (x : Refusal) → is_pool s p ≡ true → (pool s p).closed ≡ false
    → StepsTo s (event.ConnNew p) (reply.Refused x) t → LacksNumbers x
left_connect s t p x there open_yet step =
    let Is = LacksNumbers in
    left Is WantOfMemory (meaning s (event.ConnNew p)).refusals x (
      not-so Is refuse.NoPool _ (ap (λ b. not b) there),
      (may Is refuse.TooMany _ tt, (not-so Is (refuse.PoolClosed p) _ open_yet, tt)),
    ) (of-memory Is x tt) step.0

pub left_arrive : (s t : State) (c : ℕ) (bytes : List ℕ) (x : Refusal) → lacks_conn s c ≡ false
    → StepsTo s (event.Arrive c bytes) (reply.Refused x) t → CannotPutOrLacksRoom (conn_at s c).pool x
left_arrive s t c bytes x there step =
    let Is = CannotPutOrLacksRoom (conn_at s c).pool in
    left Is (outside.arrive_late s c bytes) (meaning s (event.Arrive c bytes)).refusals x
    (not-so Is refuse.BadFd _ there, (may Is refuse.BrokenPipe _ tt, (may Is refuse.WouldBlock _ tt, tt)))
    (late bytes) step.0
  where
    late : (bytes : List ℕ) → outside.arrive_late s c bytes x → CannotPutOrLacksRoom (conn_at s c).pool x
    late [] never = absurd never
    late (b ∷ bytes) want = of-room (CannotPutOrLacksRoom (conn_at s c).pool) (conn_at s c).pool x tt (λ q is. is) want

pub left_transmit : (s t : State) (c max : ℕ) (x : Refusal) → lacks_conn s c ≡ false → 0 < max
    → StepsTo s (event.Transmit c max) (reply.Refused x) t → HasNothingToSend x
left_transmit s t c max x there some step =
    let Is = HasNothingToSend in
    left Is WantOfMemory (meaning s (event.Transmit c max)).refusals x (
      not-so Is refuse.BadFd _ there,
      (not-so Is refuse.BadRange _ (grind (arith, nat_tests, some)), (may Is refuse.WouldBlock _ tt, tt)),
    )
    (of-memory Is x tt) step.0

pub left_peer_closed : (s t : State) (c : ℕ) (how : How) (x : Refusal) → lacks_conn s c ≡ false
    → StepsTo s (event.PeerClosed c how) (reply.Refused x) t → ⊥
left_peer_closed s t c how x there step =
    left Never Never (meaning s (event.PeerClosed c how)).refusals x (not-so Never refuse.BadFd _ there, tt)
    (λ late. late) step.0

pub left_flush : (s t : State) (x : Refusal) → StepsTo s event.Flush (reply.Refused x) t → FaultIn s x
left_flush s t x step = step.0

pub left_drop_clean : (s t : State) (x : Refusal) → StepsTo s event.DropClean (reply.Refused x) t → ⊥
left_drop_clean s t x step = step.0

-- arriving bytes that are refused with BrokenPipe

second : (a b c : Bool) → first ((refuse.BadFd when a) ∷ (refuse.BrokenPipe when b) ∷ (refuse.WouldBlock when c) ∷ [])
    ≡ Some refuse.BrokenPipe → b ≡ true
second a b c is =
    broken-said b c (other (refuse.BadFd when a) ((refuse.BrokenPipe when b) ∷ (refuse.WouldBlock when c) ∷ [])
    refuse.BrokenPipe (when-differs refuse.BadFd refuse.BrokenPipe a (λ e. cc)) is)

pub arrival_is_broken : (s t : State) (c : ℕ) (bytes : List ℕ)
    → StepsTo s (event.Arrive c bytes) (reply.Refused refuse.BrokenPipe) t → (is_some (conn_at s c).peer ≡ true)
    ⊎ ((conn_at s c).closed ≡ true)
arrival_is_broken s t c [] step =
    either _ _ (second _ _ false (said (first (outside.arrive s c []).refusals) refuse.BrokenPipe step.0))
arrival_is_broken s t c (b ∷ bytes) step =
    either _ _ (second _ _ _ (said (first (outside.arrive s c (b ∷ bytes)).refusals) refuse.BrokenPipe step.0))
