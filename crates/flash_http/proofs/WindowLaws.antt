-- The window of a stream when more bytes arrive.
use Rattle.std.proofs.Common.{◌≡◌, ℕ, ◌+◌, ◌<◌, ◌≤◌, ◌==◌, Bool, true, false, cond, List, [], ◌∷◌, ◌++◌, length, Option}
use Rattle.std.proofs.Common.{Some, None, IfSome, refl, sym, ap, ◌∙◌, arith, inl, inr, length-append, append-nil}
use Rattle.std.specs.Prelude.{◌⊎◌, ◌≢◌, nat_lt, nat_le}
use Rattle.std.proofs.lemmas.Bool.Decides.{nat_tests}
use Rattle.flash_http.specs.declared.windows.Window.{Window}
use Rattle.flash_http.specs.declared.windows.Window.TheVariants.{Wait, Head, TooLarge}
use Rattle.flash_http.specs.declared.scan.Line.{Line}
use Rattle.flash_http.specs.declared.scan.Line.TheVariants.{Fresh}
use Rattle.flash_http.specs.Window.{window_at, no_head, window_in, FitsIn, WindowsStay}
use Rattle.flash_http.specs.Scan.{next_line, is_text, found_from}
use Rattle.flash_http.proofs.ScanLemmas.{window_start, found_beyond}

-- the results of a search in the first bytes and in all bytes agree
abbrev Agree : ℕ → Option (ℕ × ℕ) → Option (ℕ × ℕ) → Type 0
Agree total None r = IfSome r (λ p. total < p.0 + p.1)
Agree total (Some p) r = (r ≡ Some p) × (p.0 + p.1 ≤ total) × (0 < p.1)

both_hold : {A B : Type 0} (P : A → B → Type 0) (v : Bool) (x y : A) (z w : B) → P x z → P y w
    → P (cond v x y) (cond v z w)
both_hold P true x y z w p q = p
both_hold P false x y z w p q = q

agree_at : (m n : ℕ) (q r : Option (ℕ × ℕ)) → m ≡ n → Agree m q r → Agree n q r
agree_at m n None None e h = tt
agree_at m n None (Some r) e h = omega (arith, h)
agree_at m n (Some q) r e h = (h.0, omega (arith, h.1), h.2)

found_agrees : (bytes more : List ℕ) (begun : Bool) (skip len : ℕ) (line : Line)
    → Agree (skip + len + length bytes) (found_from begun skip len line bytes)
    (found_from begun skip len line (bytes ++ more))
found_agrees [] more begun skip len line =
    agree_at (skip + len) (skip + len + 0) None (found_from begun skip len line more) (omega arith)
    (found_beyond more begun skip len line)
found_agrees (b ∷ bytes) more begun skip len line =
    let P : Option (ℕ × ℕ) → Option (ℕ × ℕ) → Type 0 = Agree (skip + len + length (b ∷ bytes)) in
    both_hold P (b == 10) _ _ _ _
    (both_hold P (is_text line) _ _ _ _
    (agree_at (skip + (len + 1) + length bytes) _ _ _ (omega arith) (found_agrees bytes more true skip (len + 1) Fresh))
    (both_hold P begun _ _ _ _ (refl, omega arith, omega arith)
    (agree_at (skip + (len + 1) + 0 + length bytes) _ _ _ (omega arith)
    (found_agrees bytes more false (skip + (len + 1)) 0 Fresh))))
    (agree_at (skip + (len + 1) + length bytes) _ _ _ (omega arith)
    (found_agrees bytes more begun skip (len + 1) (next_line line b)))

le_true : (a b : ℕ) → nat_le a b ≡ true → a ≤ b
le_true a b h = grind (arith, nat_tests)

le_false : (a b : ℕ) → nat_le a b ≡ false → b < a
le_false a b h = grind (arith, nat_tests)

lt_true : (a b : ℕ) → nat_lt a b ≡ true → a < b
lt_true a b h = grind (arith, nat_tests)

lt_false : (a b : ℕ) → nat_lt a b ≡ false → b ≤ a
lt_false a b h = grind (arith, nat_tests)

is_lt_false : (a b : ℕ) → b ≤ a → nat_lt a b ≡ false
is_lt_false a b h = grind (arith, nat_tests)

is_le_false : (a b : ℕ) → b < a → nat_le a b ≡ false
is_le_false a b h = grind (arith, nat_tests)

at_none : (n : ℕ) → 8192 ≤ n → no_head n ≡ TooLarge
at_none n h = ap (λ v. cond v Wait TooLarge) (is_lt_false n 8192 h)

at_past : (p : ℕ × ℕ) (n : ℕ) → 8192 < p.0 + p.1 → 8192 ≤ n → window_at (Some p) n ≡ TooLarge
at_past p n past h = ap (λ v. cond v (Head p.0 p.1) (no_head n)) (is_le_false (p.0 + p.1) 8192 past) ∙ at_none n h

fits_none : (n : ℕ) (v : Bool) → nat_lt n 8192 ≡ v → FitsIn n (cond v Wait TooLarge)
fits_none n true e = lt_true n 8192 e
fits_none n false e = lt_false n 8192 e

fits_some : (p : ℕ × ℕ) (n : ℕ) (v : Bool) → nat_le (p.0 + p.1) 8192 ≡ v → (p.0 + p.1 ≤ n) × (0 < p.1)
    → FitsIn n (cond v (Head p.0 p.1) (no_head n))
fits_some p n true e h = (h.1, h.0, le_true (p.0 + p.1) 8192 e)
fits_some p n false e h = fits_none n (nat_lt n 8192) refl

fits_at : (r : Option (ℕ × ℕ)) (n : ℕ) → Agree n r r → FitsIn n (window_at r n)
fits_at None n h = fits_none n (nat_lt n 8192) refl
fits_at (Some p) n h = fits_some p n (nat_le (p.0 + p.1) 8192) refl (h.1, h.2)

stays_none : (r : Option (ℕ × ℕ)) (m n : ℕ) (v : Bool) → nat_lt m 8192 ≡ v → m ≤ n → Agree m None r
    → (cond v Wait TooLarge ≡ Wait) ⊎ (window_at r n ≡ cond v Wait TooLarge)
stays_none r m n true e le h = inl refl
stays_none None m n false e le h = let big = lt_false m 8192 e in inr (at_none n (omega arith))
stays_none (Some p) m n false e le h = let big = lt_false m 8192 e in inr (at_past p n (omega (arith, h)) (omega arith))

stays_some : (p : ℕ × ℕ) (m n : ℕ) (v : Bool) → nat_le (p.0 + p.1) 8192 ≡ v → m ≤ n → p.0 + p.1 ≤ m
    → cond v (Head p.0 p.1) (no_head n) ≡ cond v (Head p.0 p.1) (no_head m)
stays_some p m n true e le h = refl
stays_some p m n false e le h = let past = le_false (p.0 + p.1) 8192 e in at_none n (omega arith)
    ∙ sym (at_none m (omega arith))

stays_at : (q r : Option (ℕ × ℕ)) (m n : ℕ) → m ≤ n → Agree m q r
    → (window_at q m ≡ Wait) ⊎ (window_at r n ≡ window_at q m)
stays_at None r m n le h = stays_none r m n (nat_lt m 8192) refl le h
stays_at (Some p) r m n le h =
    inr (ap (λ x. window_at x n) h.0 ∙ stays_some p m n (nat_le (p.0 + p.1) 8192) refl le h.1)

settled : {A : Type 0} (w : Window) → w ≢ Wait → (w ≡ Wait) ⊎ A → A
settled w other (inl waits) = absurd (other waits)
settled w other (inr a) = a

-- the received bytes determine the window, unless it is `Wait`
pub window_stays : WindowsStay
window_stays stream more other =
    let q = found_from false 0 0 Fresh stream in
    let r = found_from false 0 0 Fresh (stream ++ more) in
    settled (window_in stream) other
    (rw (← window_start stream, ← window_start (stream ++ more))
    (stays_at q r (0 + 0 + length stream) (0 + 0 + length (stream ++ more)) (omega (arith, length-append stream more))
    (found_agrees stream more false 0 0 Fresh)))

pub window_fits : (stream : List ℕ) (w : Window) → w ≡ window_in stream → FitsIn (length stream) w
window_fits stream w e =
    let q = found_from false 0 0 Fresh stream in
    let whole =
    agree_at (0 + 0 + length stream) (length stream) q q (omega arith)
    (rw append-nil at (found_agrees stream [] false 0 0 Fresh)) in
    let count : 0 + 0 + length stream ≡ length stream = omega arith in
    let is : w ≡ window_at q (length stream) = e ∙ sym (window_start stream) ∙ ap (window_at q) count in
    rw is (fits_at q (length stream) whole)
