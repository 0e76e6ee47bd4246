-- The search through the bytes finds the window of their lines.
use Rattle.std.proofs.Common.{◌≡◌, ℕ, ◌+◌, ◌<◌, ◌≤◌, ◌==◌, Bool, true, false, cond, List, [], ◌∷◌, ◌++◌, length, Option}
use Rattle.std.proofs.Common.{Some, None, IfSome, option_map, refl, sym, ap, ◌∙◌, arith, add-zero, zero-add}
use Rattle.std.proofs.Common.{length-append, append-nil}
use Rattle.std.proofs.lemmas.Bool.Decides.{nat_tests}
use Rattle.flash_http.specs.declared.windows.Window.{Window}
use Rattle.flash_http.specs.declared.windows.Window.TheVariants.{Wait, TooLarge}
use Rattle.flash_http.specs.declared.scan.Line.{Line}
use Rattle.flash_http.specs.declared.scan.Line.TheVariants.{Fresh, Return, Text}
use Rattle.flash_http.specs.declared.scan.Scan.{Scan}
use Rattle.flash_http.specs.Window.{lines_from, lines, is_empty_line, skip_len, after_skip, head_len, head_in}
use Rattle.flash_http.specs.Window.{window_at, window_in}
use Rattle.flash_http.specs.Scan.{next_line, is_text, found_from, window_from}

cond_holds : {A : Type 0} (P : A → Type 0) (v : Bool) (x y : A) → P x → P y → P (cond v x y)
cond_holds P true x y p q = p
cond_holds P false x y p q = q

pub beyond : (r : Option (ℕ × ℕ)) (a b : ℕ) → a ≤ b → IfSome r (λ p. b < p.0 + p.1) → IfSome r (λ p. a < p.0 + p.1)
beyond None a b h p = p
beyond (Some x) a b h p = omega (arith, p)

-- a head that is found ends after the bytes already searched
pub found_beyond : (bytes : List ℕ) (begun : Bool) (skip len : ℕ) (line : Line)
    → IfSome (found_from begun skip len line bytes) (λ p. skip + len < p.0 + p.1)
found_beyond [] begun skip len line = tt
found_beyond (b ∷ bytes) begun skip len line =
    let P : Option (ℕ × ℕ) → Type 0 = λ r. IfSome r (λ p. skip + len < p.0 + p.1) in
    cond_holds P (b == 10) _ _
    (cond_holds P (is_text line) _ _
    (beyond (found_from true skip (len + 1) Fresh bytes) (skip + len) (skip + (len + 1)) (omega arith)
    (found_beyond bytes true skip (len + 1) Fresh))
    (cond_holds P begun _ _ (omega arith)
    (beyond (found_from false (skip + (len + 1)) 0 Fresh bytes) (skip + len) (skip + (len + 1) + 0) (omega arith)
    (found_beyond bytes false (skip + (len + 1)) 0 Fresh))))
    (beyond (found_from begun skip (len + 1) (next_line line b) bytes) (skip + len) (skip + (len + 1)) (omega arith)
    (found_beyond bytes begun skip (len + 1) (next_line line b)))

at_full : (r : Option (ℕ × ℕ)) (n : ℕ) → 8192 ≤ n → IfSome r (λ p. 8192 < p.0 + p.1) → window_at r n ≡ TooLarge
at_full None n h p = grind (arith, nat_tests)
at_full (Some x) n h p = grind (arith, nat_tests)

-- if the limit is reached, the window is `TooLarge`
pub window_full : (s : Scan) (rest : List ℕ) → s.skip + s.len ≡ 8192 → window_from s rest ≡ TooLarge
window_full s rest h =
    let after = found_beyond rest s.begun s.skip s.len s.line in
    at_full (found_from s.begun s.skip s.len s.line rest) (s.skip + s.len + length rest) (omega arith) (rw h at after)

-- the state after the received bytes of a line
abbrev line_of : List ℕ → Line
line_of [] = Fresh
line_of (b ∷ []) = next_line Fresh b
line_of (b ∷ c ∷ bytes) = Text

line_of-more : (line : List ℕ) (b : ℕ) → line_of (line ++ b ∷ []) ≡ next_line (line_of line) b
line_of-more [] b = refl
line_of-more (a ∷ []) b =
    elim (a == 13) as (λ v. Text ≡ next_line (cond v Return Text) b) [ true ↦ refl | false ↦ refl ]
line_of-more (a ∷ c ∷ line) b = refl

empty_line_of : (line : List ℕ) → is_text (line_of line) ≡ cond (is_empty_line line) false true
empty_line_of [] = refl
empty_line_of (a ∷ []) =
    elim (a == 13) as (λ v. is_text (cond v Return Text) ≡ cond v false true) [ true ↦ refl | false ↦ refl ]
empty_line_of (a ∷ c ∷ line) = refl

length_more : (line : List ℕ) (b : ℕ) → length (line ++ b ∷ []) ≡ length line + 1
length_more line b = length-append line (b ∷ [])

-- the counts add up
regroup_in : (r : Option ℕ) (skip front n : ℕ)
    → option_map {U = ℕ × ℕ} (λ k. (skip, front + n + 1 + k)) r ≡ option_map {U = ℕ × ℕ} (λ k. (skip, front + k))
    (option_map (λ k. n + 1 + k) r)
regroup_in None skip front n = refl
regroup_in (Some k) skip front n = let e : front + n + 1 + k ≡ front + (n + 1 + k) = omega arith in
    ap (λ v. Some (skip, v)) e

regroup_skip : (r : Option ℕ) (skip n others : ℕ)
    → option_map {U = ℕ × ℕ} (λ p. (skip + (n + 1) + p.0, p.1)) (option_map {U = ℕ × ℕ} (λ len. (others, len)) r)
    ≡ option_map {U = ℕ × ℕ} (λ p. (skip + p.0, p.1)) (option_map {U = ℕ × ℕ} (λ len. (n + 1 + others, len)) r)
regroup_skip None skip n others = refl
regroup_skip (Some k) skip n others = let e : skip + (n + 1) + others ≡ skip + (n + 1 + others) = omega arith in
    ap (λ v. Some (v, k)) e

regroup_begin : (r : Option ℕ) (skip n : ℕ)
    → option_map {U = ℕ × ℕ} (λ k. (skip, n + 1 + k)) r ≡ option_map {U = ℕ × ℕ} (λ p. (skip + p.0, p.1))
    (option_map {U = ℕ × ℕ} (λ len. (0, len)) (option_map (λ k. n + 1 + k) r))
regroup_begin None skip n = refl
regroup_begin (Some k) skip n = let e : skip ≡ skip + 0 = omega arith in ap (λ v. Some (v, n + 1 + k)) e

-- in a head, of which the complete lines so far have `front` bytes
found_in_head : (bytes line : List ℕ) (skip front : ℕ) → found_from true skip (front + length line) (line_of line) bytes
    ≡ option_map {U = ℕ × ℕ} (λ n. (skip, front + n)) (head_len (lines_from line bytes))
found_in_head [] line skip front = refl
found_in_head (b ∷ bytes) line skip front =
    elim (b == 10) as
    (λ v. cond v (cond (is_text (line_of line)) (found_from true skip (front + length line + 1) Fresh bytes)
    (Some (skip, front + length line + 1)))
    (found_from true skip (front + length line + 1) (next_line (line_of line) b) bytes)
    ≡ option_map {U = ℕ × ℕ} (λ n. (skip, front + n))
    (head_len (cond v (line ∷ lines_from [] bytes) (lines_from (line ++ b ∷ []) bytes)))) [
      | true ↦ rw (empty_line_of line)
          (elim (is_empty_line line) as
          (λ v. cond (cond v false true) (found_from true skip (front + length line + 1) Fresh bytes)
          (Some (skip, front + length line + 1))
          ≡ option_map {U = ℕ × ℕ} (λ n. (skip, front + n))
          (cond v (Some (length line + 1))
          (option_map (λ n. length line + 1 + n) (head_len (lines_from [] bytes))))) [
            | true ↦ (let e : front + length line + 1 ≡ front + (length line + 1) = omega arith in
                ap (λ v. Some (skip, v)) e)
            | false ↦ ap (λ n. found_from true skip n Fresh bytes) (sym (add-zero (front + length line + 1)))
                ∙ found_in_head bytes [] skip (front + length line + 1)
                ∙ regroup_in (head_len (lines_from [] bytes)) skip front (length line)
          ])
      | false ↦ (let e : front + length line + 1 ≡ front + length (line ++ b ∷ []) =
          omega (arith, length_more line b) in
          ap (λ n. found_from true skip n (next_line (line_of line) b) bytes) e
          ∙ ap (λ s. found_from true skip (front + length (line ++ b ∷ [])) s bytes) (sym (line_of-more line b))
          ∙ found_in_head bytes (line ++ b ∷ []) skip front)
    ]

-- at the end of a line
ends_before_head : (line others bytes : List ℕ) (skip : ℕ) (v : Bool) → is_empty_line line ≡ v
    → found_from false (skip + (length line + 1)) 0 Fresh bytes ≡ option_map {U =
    ℕ × ℕ} (λ p. (skip + (length line + 1) + p.0, p.1)) (head_in (lines_from [] bytes))
    → cond (is_text (line_of line)) (found_from true skip (length line + 1) Fresh bytes)
    (found_from false (skip + (length line + 1)) 0 Fresh bytes)
    ≡ option_map {U = ℕ × ℕ} (λ p. (skip + p.0, p.1)) (head_in (line ∷ lines_from [] bytes))
ends_before_head line others bytes skip true h rest =
    rw (empty_line_of line, h) (rest ∙ regroup_skip (head_len (after_skip (lines_from [] bytes))) skip (length line)
    (skip_len (lines_from [] bytes)))
ends_before_head line others bytes skip false h rest =
    rw (empty_line_of line, h, h)
    (ap (λ n. found_from true skip n Fresh bytes) (sym (add-zero (length line + 1)))
    ∙ found_in_head bytes [] skip (length line + 1)
    ∙ regroup_begin (head_len (lines_from [] bytes)) skip (length line))

-- among the empty lines before a head, which have `skip` bytes so far
found_before_head : (bytes line : List ℕ) (skip : ℕ)
    → found_from false skip (length line) (line_of line) bytes ≡ option_map {U = ℕ × ℕ} (λ p. (skip + p.0, p.1))
    (head_in (lines_from line bytes))
found_before_head [] line skip = refl
found_before_head (b ∷ bytes) line skip =
    elim (b == 10) as
    (λ v. cond v (cond (is_text (line_of line)) (found_from true skip (length line + 1) Fresh bytes)
    (found_from false (skip + (length line + 1)) 0 Fresh bytes))
    (found_from false skip (length line + 1) (next_line (line_of line) b) bytes)
    ≡ option_map {U = ℕ × ℕ} (λ p. (skip + p.0, p.1))
    (head_in (cond v (line ∷ lines_from [] bytes) (lines_from (line ++ b ∷ []) bytes)))) [
      | true ↦
          ends_before_head line [] bytes skip (is_empty_line line) refl
          (found_before_head bytes [] (skip + (length line + 1)))
      | false ↦ ap (λ n. found_from false skip n (next_line (line_of line) b) bytes) (sym (length_more line b))
          ∙ ap (λ s. found_from false skip (length (line ++ b ∷ [])) s bytes) (sym (line_of-more line b))
          ∙ found_before_head bytes (line ++ b ∷ []) skip
    ]

same_pair : (r : Option (ℕ × ℕ)) → option_map {U = ℕ × ℕ} (λ p. (0 + p.0, p.1)) r ≡ r
same_pair None = refl
same_pair (Some p) = let e : 0 + p.0 ≡ p.0 = omega arith in ap (λ v. Some (v, p.1)) e

-- the start of the search
abbrev pub start : Scan
start = record { skip = 0; len = 0; begun = false; line = Fresh }

pub window_start : (stream : List ℕ) → window_from start stream ≡ window_in stream
window_start stream =
    ap (λ r. window_at r (0 + length stream)) (found_before_head stream [] 0 ∙ same_pair (head_in (lines stream)))
    ∙ ap (window_at (head_in (lines stream))) (zero-add (length stream))

pub window_waits : (s : Scan) → s.skip + s.len < 8192 → window_from s [] ≡ Wait
window_waits s h = grind (arith, nat_tests)

pub window_found : (stream : List ℕ) (w : Window) → ((rest : List ℕ) → window_from start (stream ++ rest) ≡ w)
    → w ≡ window_in stream
window_found stream w h = sym (h []) ∙ ap (window_from start) (append-nil stream) ∙ window_start stream

pub window_not_yet : (stream : List ℕ) (s : Scan)
    → ((rest : List ℕ) → window_from start (stream ++ rest) ≡ window_from s rest) → s.skip + s.len < 8192
    → Wait ≡ window_in stream
window_not_yet stream s h room = sym (window_waits s room) ∙ sym (h []) ∙ ap (window_from start) (append-nil stream)
    ∙ window_start stream
