-- The five domains differ.
use Rattle.std.proofs.Common.{◌≡◌, ℕ, List, [], ◌∷◌, nat_eq, sym, subst, refl}
use Rattle.std.specs.List.{IsDistinct}

pub five_are_apart : IsDistinct nat_eq (1 ∷ 2 ∷ 3 ∷ 4 ∷ 5 ∷ [])
unfolding IsDistinct
five_are_apart =
    ((refl, (refl, (refl, (refl, tt)))), ((refl, (refl, (refl, tt))), ((refl, (refl, tt)), ((refl, tt), (tt, tt)))))

pub five_apart : (ns : List ℕ) → ns ≡ 1 ∷ 2 ∷ 3 ∷ 4 ∷ 5 ∷ [] → IsDistinct nat_eq ns
five_apart ns is = subst (λ l. IsDistinct nat_eq l) (sym is) five_are_apart
