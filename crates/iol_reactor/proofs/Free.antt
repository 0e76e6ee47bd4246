-- Free places.
use Rattle.std.proofs.Common.{◌≡◌, ◌∙◌, ◌-◌, ◌++◌, ◌∷◌, ℕ, List, [], Some, ap, arith, length}
use Rattle.std.proofs.Math.Seq.{get_or-append_seam}
use Rattle.std.proofs.lemmas.List.{length-append}
use Rattle.std.proofs.lemmas.Option.{slice_get-get_or}
use Rattle.std.specs.Prelude.{slice_get}
use Rattle.iol_reactor.specs.Served.{next_free}

pub next_free_pushed : (free : List ℕ) (slot : ℕ) → next_free (free ++ slot ∷ []) ≡ Some slot
next_free_pushed free slot = let long = length-append free (slot ∷ []) in
    ap (λ k. slice_get (free ++ slot ∷ []) k) (omega (arith, long))
    ∙ (slice_get-get_or (free ++ slot ∷ []) (length free) 0 (omega (arith, long))
    ∙ ap (λ (k : ℕ). Some k) (get_or-append_seam free slot [] 0))
