-- From the parse of a head to its answer.
use Rattle.std.proofs.Common.{◌≡◌, ℕ, List, false, Some, None, Result, Ok, Err}
use Rattle.std.specs.Prelude.{IfOk, OnErr}
use Rattle.flash_http.specs.declared.requests.Asked.{Asked}
use Rattle.flash_http.specs.Target.{has_fragment}
use Rattle.flash_http.specs.Request.{Reading, Reads, Asks, answer, refusal, IsAnswerTo, LooksAtTarget}

pub asked_of : {E : Type 0} (bytes : List ℕ) (r : Reading) (a : Result Asked E) → Reads bytes (Some r)
    → IfOk a (λ x. Asks (Some r) (answer x)) → IfOk a (λ x. IsAnswerTo bytes (answer x))
asked_of bytes r (Ok x) reads asks = (Some r, reads, asks)
asked_of bytes r (Err e) reads asks = tt

pub looked_at : {E : Type 0} (bytes : List ℕ) (r : Reading) (a : Result Asked E) → Reads bytes (Some r)
    → OnErr a (refusal r ≡ None) → OnErr a (has_fragment r.target ≡ false) → OnErr a (LooksAtTarget bytes)
looked_at bytes r (Ok x) reads none no_fragment = tt
looked_at bytes r (Err e) reads none no_fragment = (r, reads, none, no_fragment)
