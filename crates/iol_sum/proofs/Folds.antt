-- Numbers with the same folded sum: equal modulo 65535, and only 0 has the sum 0.
use Rattle.std.proofs.Common.{◌≡◌, ℕ, ◌+◌, ◌-◌, ◌*◌, ◌%◌, ◌/◌, ◌<◌, ◌≤◌, refl, sym, ap, ◌∙◌, arith, inl, inr}
use Rattle.std.proofs.lemmas.Bool.{cases_lt}
use Rattle.std.proofs.lemmas.Bool.Decides.{nat_tests}
use Rattle.iol_core.specs.Checksum.{folded}
use Rattle.iol_sum.specs.Pieces.{swapped}

pub folded-some : (n : ℕ) → 0 < n → folded n ≡ 1 + (n - 1) % 65535
folded-some n h = grind (arith, nat_tests)

pub folded-none : (n : ℕ) → n ≡ 0 → folded n ≡ 0
folded-none n e = grind (arith, nat_tests)

-- a number that is greater by a multiple of 65535 has the same sum, unless only one of the two is 0
pub folded-more : (m n k : ℕ) → m ≡ n + 65535 * k → (n ≡ 0 → k ≡ 0) → folded m ≡ folded n
folded-more m n k e z = elim (cases_lt 0 n) [
  | inl h ↦ let a = folded-some n h in let b = folded-some m (omega arith) in omega arith
  | inr h ↦ let k0 : k ≡ 0 = z (omega arith) in let a = folded-none n (omega arith) in let b =
      folded-none m (omega arith) in omega arith
]

-- a number is its sum, and a multiple of 65535
pub folded-rest : (n : ℕ) → (k : ℕ) × (n ≡ folded n + 65535 * k) × (folded n ≡ 0 → k ≡ 0)
folded-rest n = elim (cases_lt 0 n) [
  | inl h ↦ let a = folded-some n h in ((n - 1) / 65535, omega arith, λ z. absurd (omega arith))
  | inr h ↦ let a = folded-none n (omega arith) in (0, omega arith, λ z. refl)
]

pub folded-add : (a c : ℕ) → folded (folded a + c) ≡ folded (a + c)
folded-add a c = let r = folded-rest a in
    sym (folded-more (a + c) (folded a + c) r.0 (omega arith) (λ z. r.2 (omega arith)))

pub alike-add : (a b c : ℕ) → folded a ≡ folded b → folded (a + c) ≡ folded (b + c)
alike-add a b c e = sym (folded-add a c) ∙ ap (λ n. folded (n + c)) e ∙ folded-add b c

pub alike-before : (a b c : ℕ) → folded a ≡ folded b → folded (c + a) ≡ folded (c + b)
alike-before a b c e =
    let l : c + a ≡ a + c = omega arith in
    let r : b + c ≡ c + b = omega arith in
    ap folded l ∙ alike-add a b c e ∙ ap folded r

folded-times : (a : ℕ) → folded (256 * folded a) ≡ folded (256 * a)
folded-times a = let r = folded-rest a in
    sym (folded-more (256 * a) (256 * folded a) (256 * r.0) (omega arith) (λ z. let y : r.0 ≡ 0 = r.2 (omega arith) in
    omega arith))

folded-swapped : (n : ℕ) → folded (256 * n) ≡ folded (swapped n)
folded-swapped n = folded-more (256 * n) (swapped n) (n / 256) (omega arith) (λ z. omega arith)

-- a rest at an even place, and at an odd one
pub joined-even : (a b : ℕ) → folded (folded a + folded b) ≡ folded (a + b)
joined-even a b = folded-add a (folded b)
    ∙ (let l : a + folded b ≡ folded b + a = omega arith in let r : b + a ≡ a + b = omega arith in
    ap folded l ∙ folded-add b a ∙ ap folded r)

pub joined-odd : (a b : ℕ) → folded (folded a + swapped (folded b)) ≡ folded (a + 256 * b)
joined-odd a b = folded-add a (swapped (folded b))
    ∙ alike-before (swapped (folded b)) (256 * b) a (sym (folded-swapped (folded b)) ∙ folded-times b)

-- a number of 16 bits is its own sum
pub folded-small : (n : ℕ) → n ≤ 65535 → folded n ≡ n
folded-small n h = elim (cases_lt 0 n) [
  | inl p ↦ let a = folded-some n p in omega arith
  | inr p ↦ let a = folded-none n (omega arith) in omega arith
]

pub folded-fits : (n : ℕ) → folded n ≤ 65535
folded-fits n = elim (cases_lt 0 n) [
  | inl p ↦ let a = folded-some n p in omega arith
  | inr p ↦ let a = folded-none n (omega arith) in omega arith
]

-- a sum with its bytes swapped is the sum of 256 times the number
pub swapped-back : (n : ℕ) → swapped (folded n) ≡ folded (256 * n)
swapped-back n =
    let fits = folded-fits n in
    sym (folded-small (swapped (folded n)) (omega arith)) ∙ sym (folded-swapped (folded n)) ∙ folded-times n
