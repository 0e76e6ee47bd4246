-- Requests that are handed in one after another are whole requests of the connection's stream.
use Rattle.std.proofs.Common.{◌≡◌, ℕ, ◌+◌, true, false, List, [], ◌∷◌, ◌++◌, length, take, drop, ap, ◌∙◌, refl, sym}
use Rattle.std.proofs.Common.{subst, arith, length-take-le, take-append-drop, take-take}
use Rattle.std.specs.Prelude.{◌≢◌, ◌&&◌}
use Rattle.std.specs.List.{list_all}
use Rattle.std.proofs.lemmas.List.{drop-take, drop_all}
use Rattle.std.proofs.lemmas.List.Folds.{list_all-append}
use Rattle.flash_http.specs.declared.windows.Window.{Window}
use Rattle.flash_http.specs.declared.windows.Window.TheVariants.{Wait, Head, TooLarge}
use Rattle.flash_http.specs.Window.{window_in, FitsIn}
use Rattle.flash_http.specs.Request.{Answer, IsAnswerTo}
use Rattle.flash_laws.specs.Answers.{keeps, NextIn, Next, Reads}
use Rattle.flash_laws.proofs.Conn.Responses.{WindowLaws, all-more, reads-append, reads-more}
use Rattle.flash_clients.specs.Requests.{AreKept, Closes, IsFirst, RequestsAreKept}
use Rattle.flash_clients.proofs.Truncated.{head_is_there}

-- if the last request closes the connection, not all requests keep it
closed-more : (qs : List Answer) (q : Answer) → list_all (λ p. keeps p) qs ≡ true → keeps q ≡ false
    → list_all (λ p. keeps p) (qs ++ q ∷ []) ≡ false
closed-more qs q keep close = list_all-append (λ p. keeps p) qs (q ∷ [])
    ∙ (ap (λ b. b && (keeps q && true)) keep ∙ ap (λ b. b && true) close)

module _ (laws : WindowLaws) where
  -- the window of the first bytes of a stream, if it is not Wait
  first_window : (s : List ℕ) (size : ℕ) → window_in (take size s) ≢ Wait → window_in (take size s) ≡ window_in s
  first_window s size other = sym (laws.stay (take size s) (drop size s) other)
      ∙ ap (λ (l : List ℕ). window_in l) (take-append-drop size s)

  -- the first request by itself, and the rest after it
  first_next : (s : List ℕ) (size : ℕ) (q : Answer) (w : Window) → window_in s ≡ w → IsFirst w s size q
      → (rest : List ℕ) × Next (take size s) q rest × (keeps q ≡ true → rest ≡ [])
  first_next s size q Wait is first = absurd first
  first_next s size q (Head skip len) is first =
      ([], subst (λ (v : Window). NextIn v (take size s) q []) (sym window) (answer, none), λ keep. refl)
    where
      fits : FitsIn (length s) (Head skip len)
      fits = subst (λ (v : Window). FitsIn (length s) v) is (laws.fit s)

      count : length (take size s) ≡ skip + len
      count = length-take-le size s (omega (arith, fits.1, first.1)) ∙ first.1

      window : window_in (take size s) ≡ Head skip len
      window =
          first_window s size
          (head_is_there (take size s) (drop size s) skip len
          (ap (λ (l : List ℕ). window_in l) (take-append-drop size s) ∙ is) count) ∙ is

      same : take len (drop skip (take size s)) ≡ take len (drop skip s)
      same = ap (λ n. take len (drop skip (take n s))) first.1
          ∙ (ap (λ (l : List ℕ). take len l) (drop-take skip len s) ∙ take-take len len (drop skip s) (omega arith))

      answer : IsAnswerTo (take len (drop skip (take size s))) q
      answer = subst (λ (l : List ℕ). IsAnswerTo l q) (sym same) first.0

      none : [] ≡ drop (skip + len) (take size s)
      none = sym (drop_all (skip + len) (take size s) (omega (arith, count)))
  first_next s size q TooLarge is first = (
    take size s,
    subst (λ (v : Window). NextIn v (take size s) q (take size s)) (sym window) (first.0, refl),
    λ keep. absurd (closes keep),
  )
    where
      fits : FitsIn (length s) TooLarge
      fits = subst (λ (v : Window). FitsIn (length s) v) is (laws.fit s)

      other : window_in (take size s) ≢ Wait
      other waits = let short =
          subst (λ (v : Window). FitsIn (length (take size s)) v) waits (laws.fit (take size s)) in
          omega (arith, short, fits, first.1, length-take-le size s (omega (arith, fits, first.1)))

      window : window_in (take size s) ≡ TooLarge
      window = first_window s size other ∙ is

      closes : keeps q ≡ true → ⊥
      closes keep = let bad = ap (λ (a : Answer). keeps a) (sym first.0) ∙ keep in absurd (cc (bad))

  -- one more request
  module _ (came waiting : List ℕ) (size : ℕ) (q : Answer) (kept : AreKept came)
      (first : IsFirst (window_in waiting) waiting size q) where
    reads_one : (rest : List ℕ) → Next (take size waiting) q rest
        → Reads (came ++ take size waiting) (kept.qs ++ q ∷ []) rest
    reads_one rest next =
        reads-more (came ++ take size waiting) kept.qs (take size waiting) q rest
        (reads-append laws came (take size waiting) kept.qs [] kept.reads) next

    kept_more : keeps q ≡ true → AreKept (came ++ take size waiting)
    kept_more keep =
        let one = first_next waiting size q (window_in waiting) refl first in record {
          qs = kept.qs ++ q ∷ [];
          reads = subst (λ (l : List ℕ). Reads (came ++ take size waiting) (kept.qs ++ q ∷ []) l) (one.2 keep)
              (reads_one one.0 one.1);
          keep = all-more kept.qs q kept.keep keep;
        }

    closes_more : keeps q ≡ false → Closes (came ++ take size waiting)
    closes_more close =
        let one = first_next waiting size q (window_in waiting) refl first in record {
          qs = kept.qs ++ q ∷ [];
          rest = one.0;
          reads = reads_one one.0 one.1;
          close = closed-more kept.qs q kept.keep close;
        }

pub requests_kept : WindowLaws → RequestsAreKept
requests_kept laws = record {
  none = record { qs = []; reads = refl; keep = refl };
  keep = λ came waiting size q kept first keep. kept_more laws came waiting size q kept first keep;
  close = λ came waiting size q kept first close. closes_more laws came waiting size q kept first close;
}
