-- The window of a stream is that of its first bytes, if they contain the head that it finds.
use Rattle.std.proofs.Common.{◌≡◌, ℕ, ◌+◌, ◌<◌, ◌==◌, Bool, true, false, cond, List, [], ◌∷◌, ◌++◌, length, Option}
use Rattle.std.proofs.Common.{Some, None, IfSome, refl, sym, subst, ap, ◌∙◌, arith}
use Rattle.std.specs.Prelude.{◌≢◌, nat_lt, nat_le}
use Rattle.flash_http.specs.declared.windows.Window.{Window}
use Rattle.flash_http.specs.declared.windows.Window.TheVariants.{Wait, Head, TooLarge}
use Rattle.flash_http.specs.Window.{window_at, no_head, window_in}
use Rattle.flash_http.specs.Scan.{next_line, is_text, found_from}
use Rattle.flash_http.proofs.ScanLemmas.{window_start, found_beyond}

-- a head that is found in the first bytes is found in all, and one that is not found there ends after them
abbrev Agree : (total : ℕ) → (first all : Option (ℕ × ℕ)) → Type 0
Agree total None all = IfSome all (λ p. total < p.0 + p.1)
Agree total (Some p) all = all ≡ Some p

both_hold : {A B : Type 0} (P : A → B → Type 0) (v : Bool) (x y : A) (z w : B) → P x z → P y w
    → P (cond v x y) (cond v z w)
both_hold P true x y z w p q = p
both_hold P false x y z w p q = q

agree_at : (m n : ℕ) (q r : Option (ℕ × ℕ)) → m ≡ n → Agree m q r → Agree n q r
agree_at m n None None e h = tt
agree_at m n None (Some r) e h = omega (arith, h)
agree_at m n (Some q) r e h = h

-- ---- the head of a window

abbrev ends_at : Window → ℕ
ends_at Wait = 0
ends_at (Head skip len) = skip + len
ends_at TooLarge = 0

at_limit : (v : Bool) (skip len : ℕ) → cond v Wait TooLarge ≡ Head skip len → ⊥
at_limit true skip len is = absurd (cc (is))
at_limit false skip len is = absurd (cc (is))

head_at : (p : ℕ × ℕ) (n skip len : ℕ) (v : Bool) → cond v (Head p.0 p.1) (no_head n) ≡ Head skip len
    → p.0 + p.1 ≡ skip + len
head_at p n skip len true is = ap (λ w. ends_at w) is
head_at p n skip len false is = absurd (at_limit (nat_lt n 8192) skip len is)

head_ends : (r : Option (ℕ × ℕ)) (n total skip len : ℕ) → window_at r n ≡ Head skip len
    → IfSome r (λ p. total < p.0 + p.1) → total < skip + len
head_ends None n total skip len is past = absurd (at_limit (nat_lt n 8192) skip len is)
head_ends (Some p) n total skip len is past = let ends = head_at p n skip len (nat_le (p.0 + p.1) 8192) is in
    omega (arith, past, ends)

no_wait : (p : ℕ × ℕ) (m n skip len : ℕ) (v : Bool) → cond v (Head p.0 p.1) (no_head n) ≡ Head skip len
    → cond v (Head p.0 p.1) (no_head m) ≡ Wait → ⊥
no_wait p m n skip len true is waits = absurd (cc (waits))
no_wait p m n skip len false is waits = at_limit (nat_lt n 8192) skip len is

found_whole : (q r : Option (ℕ × ℕ)) (m n skip len : ℕ) → Agree m q r → m ≡ skip + len → window_at r n ≡ Head skip len
    → window_at q m ≡ Wait → ⊥
found_whole None r m n skip len agree whole is waits = let past = head_ends r n m skip len is agree in
    omega (arith, past, whole)
found_whole (Some p) r m n skip len agree whole is waits =
    no_wait p m n skip len (nat_le (p.0 + p.1) 8192) (ap (λ o. window_at o n) (sym agree) ∙ is) waits

-- ---- the search for a head, byte by byte

-- A search that has found `begun`, skip and len bytes, and a part of a line (`line`) continues with a byte.
module _ {L : Type 0} (found : (begun : Bool) → (skip len : ℕ) → L → List ℕ → Option (ℕ × ℕ)) (fresh : L) (next : L → ℕ
    → L) (text : L → Bool)
    (ends : (begun : Bool) (skip len : ℕ) (line : L) → found begun skip len line [] ≡ None)
    (goes : (begun : Bool) (skip len : ℕ) (line : L) (b : ℕ) (bytes : List ℕ) → found begun skip len line (b ∷ bytes)
    ≡ cond (b == 10)
    (cond (text line) (found true skip (len + 1) fresh bytes)
    (cond begun (Some (skip, len + 1)) (found false (skip + (len + 1)) 0 fresh bytes)))
    (found begun skip (len + 1) (next line b) bytes))
    (beyond : (bytes : List ℕ) (begun : Bool) (skip len : ℕ) (line : L)
    → IfSome (found begun skip len line bytes) (λ p. skip + len < p.0 + p.1))
    (start : (s : List ℕ) → window_at (found false 0 0 fresh s) (0 + 0 + length s) ≡ window_in s) where
  abbrev after : (begun : Bool) (skip len : ℕ) → L → (b : ℕ) → List ℕ → Option (ℕ × ℕ)
  after begun skip len line b bytes = cond (b == 10)
      (cond (text line) (found true skip (len + 1) fresh bytes)
      (cond begun (Some (skip, len + 1)) (found false (skip + (len + 1)) 0 fresh bytes)))
      (found begun skip (len + 1) (next line b) bytes)

  after_agrees : (b : ℕ) (bytes more : List ℕ) (begun : Bool) (skip len : ℕ) (line : L)
      → Agree (skip + (len + 1) + length bytes) (found true skip (len + 1) fresh bytes)
      (found true skip (len + 1) fresh (bytes ++ more))
      → Agree (skip + (len + 1) + 0 + length bytes) (found false (skip + (len + 1)) 0 fresh bytes)
      (found false (skip + (len + 1)) 0 fresh (bytes ++ more))
      → Agree (skip + (len + 1) + length bytes) (found begun skip (len + 1) (next line b) bytes)
      (found begun skip (len + 1) (next line b) (bytes ++ more))
      → Agree (skip + len + length (b ∷ bytes)) (after begun skip len line b bytes)
      (after begun skip len line b (bytes ++ more))
  after_agrees b bytes more begun skip len line in_head in_front in_line =
      let P : Option (ℕ × ℕ) → Option (ℕ × ℕ) → Type 0 = Agree (skip + len + length (b ∷ bytes)) in
      let here : P (Some (skip, len + 1)) (Some (skip, len + 1)) = refl in
      both_hold P (b == 10) _ _ _ _
      (both_hold P (text line) _ _ _ _
      (agree_at (skip + (len + 1) + length bytes) _ _ _ (omega arith) in_head)
      (both_hold P begun _ _ _ _ here (agree_at (skip + (len + 1) + 0 + length bytes) _ _ _ (omega arith) in_front)))
      (agree_at (skip + (len + 1) + length bytes) _ _ _ (omega arith) in_line)

  found_agrees : (bytes more : List ℕ) (begun : Bool) (skip len : ℕ) (line : L)
      → Agree (skip + len + length bytes) (found begun skip len line bytes) (found begun skip len line (bytes ++ more))
  found_agrees [] more begun skip len line =
      subst (λ (q : Option (ℕ × ℕ)). Agree (skip + len + 0) q (found begun skip len line more))
      (sym (ends begun skip len line))
      (agree_at (skip + len) (skip + len + 0) None (found begun skip len line more) (omega arith)
      (beyond more begun skip len line))
  found_agrees (b ∷ bytes) more begun skip len line =
      subst
      (λ (q : Option (ℕ × ℕ)). Agree (skip + len + length (b ∷ bytes)) q
      (found begun skip len line (b ∷ (bytes ++ more)))) (sym (goes begun skip len line b bytes))
      (subst (λ (r : Option (ℕ × ℕ)). Agree (skip + len + length (b ∷ bytes)) (after begun skip len line b bytes) r)
      (sym (goes begun skip len line b (bytes ++ more)))
      (after_agrees b bytes more begun skip len line
      (found_agrees bytes more true skip (len + 1) fresh) (found_agrees bytes more false (skip + (len + 1)) 0 fresh)
      (found_agrees bytes more begun skip (len + 1) (next line b))))

  search_finds : (first more : List ℕ) (skip len : ℕ) → window_in (first ++ more) ≡ Head skip len
      → length first ≡ skip + len → window_in first ≢ Wait
  search_finds first more skip len is whole waits =
      found_whole (found false 0 0 fresh first) (found false 0 0 fresh (first ++ more)) (0 + 0 + length first)
      (0 + 0 + length (first ++ more)) skip len
      (found_agrees first more false 0 0 fresh) (omega (arith, whole)) (start (first ++ more) ∙ is) (start first
      ∙ waits)

-- The window of bytes that are a whole head is not Wait.
pub head_is_there : (first more : List ℕ) (skip len : ℕ) → window_in (first ++ more) ≡ Head skip len
    → length first ≡ skip + len → window_in first ≢ Wait
head_is_there =
    search_finds found_from _ next_line is_text (λ begun skip len line. refl) (λ begun skip len line b bytes. refl)
    found_beyond window_start
