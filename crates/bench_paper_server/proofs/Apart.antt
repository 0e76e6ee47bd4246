-- The domains of the processes differ, since there is one.
use Rattle.std.proofs.Common.{◌≡◌, ℕ, List, [], ◌∷◌, nat_eq, sym, subst}
use Rattle.std.specs.List.{IsDistinct}

pub one_is_apart : (n : ℕ) → IsDistinct nat_eq (n ∷ [])
unfolding IsDistinct
one_is_apart n = (tt, tt)

pub one_apart : (n : ℕ) (ns : List ℕ) → ns ≡ n ∷ [] → IsDistinct nat_eq ns
one_apart n ns is = subst (λ l. IsDistinct nat_eq l) (sym is) (one_is_apart n)
