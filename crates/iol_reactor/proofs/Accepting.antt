-- Clients accepted, one after another.
use Rattle.std.proofs.Common.{ℕ, Option, None, Some, Result, Ok, Err, arith}
use Rattle.iol_reactor.specs.Accepting.{Counts, Falls, StaysWithin}

pub within_same : (given left : Option ℕ) → StaysWithin given left given left
within_same given None = tt
within_same None (Some left) = tt
within_same (Some n) (Some left) = omega arith

pub within_then : (g1 l1 g2 l2 g3 l3 : Option ℕ) → StaysWithin g1 l1 g2 l2 → StaysWithin g2 l2 g3 l3
    → StaysWithin g1 l1 g3 l3
within_then g1 None g2 l2 g3 l3 a b = tt
within_then None (Some l) g2 l2 g3 l3 a b = tt
within_then (Some n) (Some l) None l2 g3 l3 a b = absurd a
within_then (Some n) (Some l) (Some m) None g3 l3 a b = absurd a
within_then (Some n) (Some l) (Some m) (Some k) None l3 a b = absurd b
within_then (Some n) (Some l) (Some m) (Some k) (Some o) None a b = absurd b
within_then (Some n) (Some l) (Some m) (Some k) (Some o) (Some j) a b = omega (arith, a, b)

-- one more client
pub within_next : {A E : Type 0} (given now left rest : Option ℕ) (r : Result A E) → Counts given now r
    → Falls left rest → StaysWithin given left now rest
within_next given now None rest r counts falls = tt
within_next None now (Some l) rest r counts falls = tt
within_next (Some n) None (Some l) rest r counts falls = absurd counts
within_next (Some n) (Some m) (Some l) None r counts falls = absurd falls
within_next (Some n) (Some m) (Some l) (Some k) (Ok x) counts falls = omega (arith, counts, falls)
within_next (Some n) (Some m) (Some l) (Some k) (Err e) counts falls = omega (arith, counts, falls)

-- no client
pub within_refused : (A : Type 0) {E : Type 0} (given now left : Option ℕ) (e : E) → Counts {A = A} given now (Err e)
    → StaysWithin given left now left
within_refused A given now None e counts = tt
within_refused A None now (Some l) e counts = tt
within_refused A (Some n) None (Some l) e counts = absurd counts
within_refused A (Some n) (Some m) (Some l) e counts = omega (arith, counts)
