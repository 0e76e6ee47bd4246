-- If nothing can be taken, the queue is empty and no more arrives.
use Rattle.std.proofs.Common.{zero, suc, ◌≡◌, ℕ, ◌==◌, ◌<◌, [], ◌∷◌, length, take, ap, ◌∙◌, refl, sym, subst, arith}
use Rattle.std.proofs.Common.{None, true, false, Bool}
use Rattle.std.specs.Prelude.{option_map, nat_lt, min, ◌&&◌}
use Rattle.std.proofs.lemmas.Bool.Decides.{nat_tests}
use Rattle.std.proofs.lemmas.Grind.{common_steps}
use Rattle.iol_core.specs.Text.{Text, admitted, barred}
use Rattle.std.proofs.Common.{cond}
use Rattle.std.specs.List.{list_all}
use Rattle.std.proofs.lemmas.List.Sums.{take_while-cons}
use Rattle.iol_core.specs.declared.refusals.Refusal.TheVariants.{Denied}
use Rattle.iol_core.proofs.TestedLists.{list_all-barred}

-- if the first byte is not denied and no byte is taken, the queue is empty
pub none-admitted : (may : ℕ → Bool) (n : ℕ) (q : Text) → 0 < n
    → option_map Denied (barred may (take (min n 1) q)) ≡ None → admitted may (take n q) ≡ [] → q ≡ []
none-admitted may n [] some free none = refl
none-admitted may zero (x ∷ q) some free none = absurd (let e : 0 < zero = some in omega (arith, e))
none-admitted may (suc m) (x ∷ q) some free none =
    let all = list_all-barred may (take (min (suc m) 1) (x ∷ q)) free in
    let one : min (suc m) 1 ≡ 1 = grind (arith, nat_tests) in
    let here : list_all (λ b. may b.1) (take 1 (x ∷ q)) ≡ true =
    subst (λ k. list_all (λ b. may b.1) (take k (x ∷ q)) ≡ true) one all in
    let is : may x.1 ≡ true = grind (arith, common_steps, here) in
    let e : x ∷ admitted may (take m q) ≡ [] = sym (ap (λ b. cond b (x ∷ admitted may (take m q)) []) is)
    ∙ (sym (take_while-cons (λ b. may b.1) x (take m q)) ∙ none) in
    absurd (cc (e))

pub none-comes : (n : ℕ) (q : Text) (more : Bool) → 0 < n → q ≡ [] → (nat_lt 0 n && (length q == 0) && more) ≡ false
    → more ≡ false
none-comes n q more some none still =
    let e : (nat_lt 0 n && (length {A = ℕ × ℕ} [] == 0) && more) ≡ false =
    subst (λ (l : Text). (nat_lt 0 n && (length l == 0) && more) ≡ false) none still in
    grind (arith, nat_tests, common_steps, some, e)
