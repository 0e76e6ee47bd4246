-- The domains of the processes differ.
use Rattle.std.proofs.Common.{◌≡◌, ℕ, List, [], ◌∷◌, nat_eq, sym, subst, refl}
use Rattle.std.specs.List.{IsDistinct}

pub two_are_apart : IsDistinct nat_eq (2 ∷ 1 ∷ [])
unfolding IsDistinct
two_are_apart = ((refl, tt), (tt, tt))

pub two_apart : (ns : List ℕ) → ns ≡ 2 ∷ 1 ∷ [] → IsDistinct nat_eq ns
two_apart ns is = subst (λ l. IsDistinct nat_eq l) (sym is) two_are_apart

pub none_are_apart : IsDistinct nat_eq []
unfolding IsDistinct
none_are_apart = tt

pub none_apart : (ns : List ℕ) → ns ≡ [] → IsDistinct nat_eq ns
none_apart ns is = subst (λ l. IsDistinct nat_eq l) (sym is) none_are_apart
