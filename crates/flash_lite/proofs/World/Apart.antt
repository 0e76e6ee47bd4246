-- The processes of a site: their domains are distinct, in ascending order.
use Rattle.std.proofs.Common.{◌≡◌, ◌∙◌, ℕ, zero, suc, ◌+◌, ◌<◌, List, [], ◌∷◌, ◌++◌, length, map, nat_eq, refl, sym, ap}
use Rattle.std.proofs.Common.{subst, arith, append_assoc, append-nil, zero-add, Some, false}
use Rattle.std.specs.Prelude.{slice_index}
use Rattle.std.specs.List.{AllByRecursion, IsDistinct, range_with_len, slice_get}
use Rattle.std.specs.List.Sorted.{IsStrictlyIncreasing}
use Rattle.std.proofs.lemmas.Bool.Decides.{nat_tests}
use Rattle.std.proofs.lemmas.List.{length-append}
use Rattle.flash_cgi.specs.declared.worker.Worker.{Worker}
use Rattle.flash_laws.specs.World.Consistency.{Actor, Serving, Working}
use Rattle.flash_lite.specs.Setup.{AreActors, HasWorkers, IsWorkerAt, workers_used}
use Rattle.flash_lite.specs.declared.site.Site.{Site}

-- ---- one more

module _ {X : Type 0} (P : ℕ → X → Type 0) where
  each_more : (ws : List X) (x : X) (a : ℕ) → ((k : ℕ) (y : X) → slice_get ws k ≡ Some y → P (a + k) y)
      → P (a + length ws) x
      → (k : ℕ) (y : X) → slice_get (ws ++ x ∷ []) k ≡ Some y → P (a + k) y
  each_more [] x a old new zero y is = subst (λ (z : X). P (a + 0) z) (cc (is)) new
  each_more [] x a old new (suc k) y is = absurd (cc (is))
  each_more (w ∷ ws) x a old new zero y is = old 0 y is
  each_more (w ∷ ws) x a old new (suc k) y is =
      let e : (j : ℕ) → a + suc j ≡ (a + 1) + j = λ j. omega arith in
      subst (λ (n : ℕ). P n y) (sym (e k))
      (each_more ws x (a + 1) (λ j z at. subst (λ (n : ℕ). P n z) (e j) (old (suc j) z at))
      (subst (λ (n : ℕ). P n x) (e (length ws)) new) k y is)

pub one_more : (first ps : List (ℕ × Actor Worker)) (n : ℕ) (p : ℕ × Actor Worker) → HasWorkers first n ps
    → IsWorkerAt n p
    → HasWorkers first (n + 1) (ps ++ p ∷ [])
one_more first ps n p h new =
    let len = length-append h.workers (p ∷ []) in
    let many = h.many in
    let old : (k : ℕ) (q : ℕ × Actor Worker) → slice_get h.workers k ≡ Some q → IsWorkerAt (0 + k) q = λ k q is.
    subst (λ (j : ℕ). IsWorkerAt j q) (sym (zero-add k)) (h.each k q is) in
    let behind : IsWorkerAt (0 + length h.workers) p =
    subst (λ (j : ℕ). IsWorkerAt j p) (sym (zero-add (length h.workers) ∙ h.many)) new in
    record {
      workers = h.workers ++ p ∷ [];
      are = ap (λ (l : List (ℕ × Actor Worker)). l ++ p ∷ []) h.are ∙ append_assoc first h.workers (p ∷ []);
      many = omega (arith, len, many);
      each =
          λ k q is. subst (λ (j : ℕ). IsWorkerAt j q) (zero-add k)
          (each_more (λ (j : ℕ) (x : ℕ × Actor Worker). IsWorkerAt j x) h.workers p 0 old behind k q is);
    }

pub none_yet : (first : List (ℕ × Actor Worker)) → HasWorkers first 0 first
none_yet first = record {
  workers = [];
  are = sym (append-nil first);
  many = refl;
  each = λ k p is. absurd (cc (is));
}

-- ---- their domains

in_domain : (k : ℕ) (p : ℕ × Actor Worker) → IsWorkerAt k p → p.0 ≡ k + 2
in_domain k (d, Serving s) is = absurd is
in_domain k (d, Working w) is = is.0

workers_in : (ws : List (ℕ × Actor Worker)) (a : ℕ)
    → ((k : ℕ) (p : ℕ × Actor Worker) → slice_get ws k ≡ Some p → p.0 ≡ a + k)
    → map (λ p. p.0) ws ≡ range_with_len a (length ws)
workers_in [] a each = refl
workers_in (w ∷ ws) a each =
    let first : w.0 ≡ a = each 0 w refl ∙ (let e : a + 0 ≡ a = omega arith in e) in
    let rest =
    workers_in ws (a + 1) (λ k p is. each (suc k) p is ∙ (let e : a + suc k ≡ (a + 1) + k = omega arith in e)) in
    ap (λ (d : ℕ). d ∷ map (λ p. p.0) ws) first ∙ ap (λ (l : List ℕ). a ∷ l) rest

pub domains_are : (s : Site) (ps : List (ℕ × Actor Worker)) → AreActors s ps
    → map (λ p. p.0) ps ≡ range_with_len 1 (suc (workers_used s))
domains_are s ps are =
    let each : (k : ℕ) (p : ℕ × Actor Worker) → slice_get are.workers k ≡ Some p → p.0 ≡ 2 + k = λ k p is.
    in_domain k p (are.each k p is) ∙ (let e : k + 2 ≡ 2 + k = omega arith in e) in
    ap (λ (l : List (ℕ × Actor Worker)). map (λ p. p.0) l) are.are
    ∙ (ap (λ (l : List ℕ). 1 ∷ l) (workers_in are.workers 2 each) ∙ ap (λ (n : ℕ). 1 ∷ range_with_len 2 n) are.many)

differ : (x y : ℕ) → x < y → nat_eq x y ≡ false
differ x y less = grind (arith, nat_tests)

past : (x a n : ℕ) → x < a → AllByRecursion (λ y. nat_eq x y ≡ false) (range_with_len a n)
past x a zero less = tt
past x a (suc n) less = (differ x a less, past x (a + 1) n (omega (arith, less)))

range_apart : (a n : ℕ) → IsDistinct nat_eq (range_with_len a n)
unfolding IsDistinct
range_apart a zero = tt
range_apart a (suc n) = (past a (a + 1) n (omega arith), range_apart (a + 1) n)

pub range_rises : (a n : ℕ) → IsStrictlyIncreasing (range_with_len a n)
range_rises a zero k less = absurd (omega (arith, less))
range_rises a (suc zero) k less = absurd (omega (arith, less))
range_rises a (suc (suc n)) zero less = omega arith
range_rises a (suc (suc n)) (suc k) less =
    let next : suc (k + 1) ≡ suc k + 1 = omega arith in
    subst (λ j. slice_index (range_with_len (a + 1) (suc n)) k < slice_index (range_with_len a (suc (suc n))) j) next
    (range_rises (a + 1) (suc n) k (omega (arith, less)))

pub actors_apart : (s : Site) (ps : List (ℕ × Actor Worker)) → AreActors s ps → IsDistinct nat_eq (map (λ p. p.0) ps)
actors_apart s ps are =
    subst (λ (l : List ℕ). IsDistinct nat_eq l) (sym (domains_are s ps are)) (range_apart 1 (suc (workers_used s)))
