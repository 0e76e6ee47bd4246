-- The answer to a stream, request by request.
use Rattle.std.proofs.Common.{◌≡◌, ℕ, ◌+◌, ◌≤◌, List, [], ◌∷◌, ◌++◌, length, take, drop, ap, ◌∙◌, refl, sym, subst}
use Rattle.std.proofs.Common.{arith, Some, true, false, length-drop}
use Rattle.std.specs.Prelude.{unwrap_or, ◌&&◌, not}
use Rattle.std.specs.List.{list_all}
use Rattle.std.proofs.lemmas.Bool.{and_from, and_parts}
use Rattle.std.proofs.lemmas.List.{take-append-le, drop-append-le}
use Rattle.std.proofs.lemmas.List.Folds.{list_all-append}
use Rattle.flash_http.specs.declared.windows.Window.{Window}
use Rattle.flash_http.specs.declared.windows.Window.TheVariants.{Wait, Head, TooLarge}
use Rattle.flash_http.specs.Window.{window_in, FitsIn, WindowsStay, WindowsFit}
use Rattle.flash_http.specs.Request.{Answer, IsAnswerTo}
use Rattle.flash_laws.specs.Answers.{keeps, NextIn, Next, Reads, last_may_close, last_closes}

pub some-inj : {A : Type 0} (a b : A) → Some a ≡ Some b → a ≡ b
some-inj a b e = ap (λ o. unwrap_or o a) e

-- the laws of windows in `flash_http`
pub record WindowLaws : Type 0 where
  pub stay : WindowsStay
  pub fit : WindowsFit

-- ---- requests

pub all-more : (qs : List Answer) (q : Answer) → list_all (λ p. keeps p) qs ≡ true → keeps q ≡ true
    → list_all (λ p. keeps p) (qs ++ q ∷ []) ≡ true
all-more qs q is k = list_all-append (λ p. keeps p) qs (q ∷ [])
    ∙ and_from (list_all (λ p. keeps p) qs) (keeps q && true) is (and_from (keeps q) true k refl)

pub order-all : (qs : List Answer) → list_all (λ p. keeps p) qs ≡ true → last_may_close qs ≡ true
order-all (q ∷ p ∷ qs) is =
    let both = and_parts (keeps q) (list_all (λ p. keeps p) (p ∷ qs)) is in
    and_from (keeps q) (last_may_close (p ∷ qs)) both.0 (order-all (p ∷ qs) both.1)
order-all x is = refl

pub order-more : (qs : List Answer) (q : Answer) → list_all (λ p. keeps p) qs ≡ true
    → last_may_close (qs ++ q ∷ []) ≡ true
order-more [] q is = refl
order-more (p ∷ []) q is = let both = and_parts (keeps p) true is in and_from (keeps p) true both.0 refl
order-more (p ∷ r ∷ qs) q is =
    let both = and_parts (keeps p) (list_all (λ p. keeps p) (r ∷ qs)) is in
    and_from (keeps p) (last_may_close (r ∷ (qs ++ q ∷ []))) both.0 (order-more (r ∷ qs) q both.1)

pub reads-more : (s : List ℕ) (qs : List Answer) (mid : List ℕ) (q : Answer) (rest : List ℕ)
    → Reads s qs mid → Next mid q rest → Reads s (qs ++ q ∷ []) rest
reads-more s [] mid q rest is next = (rest, subst (λ (l : List ℕ). Next l q rest) is next, refl)
reads-more s (p ∷ qs) mid q rest is next = (is.0, is.1, reads-more is.0 qs mid q rest is.2 next)

-- the first request of a stream is unchanged if more bytes follow
module _ (laws : WindowLaws) where
  pub next-append : (s t : List ℕ) (q : Answer) (rest : List ℕ) → Next s q rest → Next (s ++ t) q (rest ++ t)
  next-append s t q rest next = by (window_in s) refl next
    where
      by : (w : Window) → window_in s ≡ w → NextIn w s q rest → Next (s ++ t) q (rest ++ t)
      by Wait is next = absurd next
      by (Head skip len) is next =
          let fits : FitsIn (length s) (Head skip len) = subst (λ (w : Window). FitsIn (length s) w) is (laws.fit s) in
          let front : skip ≤ length s = omega (arith, fits.1) in
          let both : len ≤ length (drop skip s) = omega (arith, fits.1, length-drop skip s) in
          let stays : window_in (s ++ t) ≡ Head skip len = laws.stay s t (λ w. let e = sym is ∙ w in absurd (cc))
          ∙ is in
          subst (λ (w : Window). NextIn w (s ++ t) q (rest ++ t)) (sym stays) (
            subst (λ (l : List ℕ). IsAnswerTo l q) (sym (ap (λ (l : List ℕ). take len l) (drop-append-le skip s t front)
                ∙ take-append-le len (drop skip s) t both)) next.0,
            ap (λ (l : List ℕ). l ++ t) next.1 ∙ sym (drop-append-le (skip + len) s t fits.1),
          )
      by TooLarge is next =
          let stays : window_in (s ++ t) ≡ TooLarge = laws.stay s t (λ w. let e = sym is ∙ w in absurd (cc)) ∙ is in
          subst (λ (w : Window). NextIn w (s ++ t) q (rest ++ t)) (sym stays)
          (next.0, ap (λ (l : List ℕ). l ++ t) next.1)

  pub reads-append : (s t : List ℕ) (qs : List Answer) (rest : List ℕ) → Reads s qs rest → Reads (s ++ t) qs (rest ++ t)
  reads-append s t [] rest is = ap (λ (l : List ℕ). l ++ t) is
  reads-append s t (q ∷ qs) rest is = (is.0 ++ t, next-append s t q is.0 is.1, reads-append is.0 t qs rest is.2)

pub last-more : (qs : List Answer) (q : Answer) → keeps q ≡ false → last_closes (qs ++ q ∷ []) ≡ true
last-more (p ∷ r ∷ qs) q is = last-more (r ∷ qs) q is
last-more x q is = ap not is
