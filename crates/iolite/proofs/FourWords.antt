-- A list of four, by its elements.
use Rattle.std.proofs.Common.{◌≡◌, ◌<◌, ◌≤◌, List, [], ◌∷◌, length, get_or, sym, ap, ◌∙◌, arith}

pub four : {A : Type 0} (ws : List A) (n p r k : A) → 4 ≤ length ws → length ws < 5 → n ≡ get_or ws 0 n
    → p ≡ get_or ws 1 p → r ≡ get_or ws 2 r → k ≡ get_or ws 3 k → ws ≡ n ∷ p ∷ r ∷ k ∷ []
four [] n p r k lo hi e0 e1 e2 e3 = absurd (omega (arith, lo))
four (a ∷ []) n p r k lo hi e0 e1 e2 e3 = absurd (omega (arith, lo))
four (a ∷ b ∷ []) n p r k lo hi e0 e1 e2 e3 = absurd (omega (arith, lo))
four (a ∷ b ∷ d ∷ []) n p r k lo hi e0 e1 e2 e3 = absurd (omega (arith, lo))
four (a ∷ b ∷ d ∷ e ∷ []) n p r k lo hi e0 e1 e2 e3 =
    ap (λ z. z ∷ b ∷ d ∷ e ∷ []) (sym e0)
    ∙ (ap (λ z. n ∷ z ∷ d ∷ e ∷ []) (sym e1)
    ∙ (ap (λ z. n ∷ p ∷ z ∷ e ∷ []) (sym e2)
    ∙ ap (λ z. n ∷ p ∷ r ∷ z ∷ []) (sym e3)))
four (a ∷ b ∷ d ∷ e ∷ x ∷ xs) n p r k lo hi e0 e1 e2 e3 = absurd (omega (arith, hi))
