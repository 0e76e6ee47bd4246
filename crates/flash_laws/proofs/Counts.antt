-- Bytes that are read are bounded, and their count is exact.
use Rattle.std.proofs.Common.{◌≡◌, ℕ, zero, suc, ◌≤◌, List, [], ◌∷◌, length, take, refl, arith, None, true, false, Bool}
use Rattle.std.specs.Prelude.{nat_lt}
use Rattle.std.proofs.lemmas.Bool.Decides.{nat_tests}
use Rattle.iol_core.specs.State.{State}
use Rattle.iol_core.specs.Run.{meaning, StepsTo}
use Rattle.iol_core.specs.Meaning.{◌when◌}
use Rattle.iol_core.specs.declared.limits.TheConstants.{MAX_AGGREGATE_BYTES}
use Rattle.iol_core.specs.declared.refusals.Refusal.{Refusal}
use Rattle.iol_core.specs.declared.refusals.Refusal.TheVariants as refuse
use Rattle.iol_core.specs.declared.events.Call.TheVariants as call
use Rattle.iol_core.specs.declared.events.Event.TheVariants as event
use Rattle.iol_core.specs.declared.events.Reply.TheVariants as reply
use Rattle.iol_core.proofs.TestedLists.{passed}
use Rattle.flash_laws.specs.Conn.{count_of}

pub counted : (bytes : List ℕ) → length bytes ≤ 16777216 → count_of bytes ≡ length bytes
counted bytes short = omega (arith, short)

pub short-take : (k : ℕ) (bytes : List ℕ) → length (take k bytes) ≤ k
short-take zero bytes = omega arith
short-take (suc k) [] = omega arith
short-take (suc k) (b ∷ bytes) = let e = short-take k bytes in omega (arith, e)

when-false : (x : Refusal) (b : Bool) → (x when b) ≡ None → b ≡ false
when-false x true is = absurd (cc)
when-false x false is = refl

-- an aggregate that is made has at most `MAX_AGGREGATE_BYTES` bytes
pub made-short : (s t : State) (d n : ℕ) (bytes : List ℕ)
    → StepsTo s (event.Call d (call.AggMake bytes)) (reply.Agg n) t → length bytes ≤ 16777216
made-short s t d n bytes step =
    let not_long : nat_lt MAX_AGGREGATE_BYTES (length bytes) ≡ false =
    when-false refuse.TooLong (nat_lt MAX_AGGREGATE_BYTES (length bytes))
    (passed (meaning s (event.Call d (call.AggMake bytes))).refusals 2 step.0) in
    grind (arith, nat_tests, not_long)
