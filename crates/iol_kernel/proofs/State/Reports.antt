-- Reports of pools, one after another.
use Rattle.std.proofs.Common.{◌≡◌, ◌≢◌, ℕ, zero, suc, ◌+◌, ◌*◌, Bool, List, [], ◌∷◌, ◌++◌, length, map, true, false}
use Rattle.std.proofs.Common.{cond, refl, sym, ap, ◌∙◌, arith}
use Rattle.std.specs.List.{filter, range_with_len}
use Rattle.std.proofs.lemmas.List.{map-append, append-nil}
use Rattle.std.proofs.lemmas.Bool.Decides.{nat_tests}
use Rattle.iol_arena.specs.Chunks.{free_pages, retired_pages}
use Rattle.iol_pool.specs.declared.report.PoolReport.{PoolReport}
use Rattle.iol_hold.specs.StoreState.{Stored}
use Rattle.iol_kernel.specs.Report.{stands, chunks_in, pool_report, reports_of}

range_more : (a n : ℕ) → range_with_len a (n + 1) ≡ range_with_len a n ++ (a + n) ∷ []
range_more a zero = let e : a + 0 ≡ a = omega arith in ap (λ k. k ∷ []) (sym e)
range_more a (suc n) = let e : (a + 1) + n ≡ a + suc n = omega arith in let m : suc n + 1 ≡ suc (n + 1) = omega arith in
    ap (range_with_len a) m ∙ ap (λ t. a ∷ t) (range_more (a + 1) n)
    ∙ ap (λ k. a ∷ range_with_len (a + 1) n ++ k ∷ []) e

filter-more : (f : ℕ → Bool) (xs : List ℕ) (x : ℕ) → filter f (xs ++ x ∷ []) ≡ filter f xs ++ cond (f x) (x ∷ []) []
filter-more f [] x = elim (f x) as (λ b. cond b (x ∷ []) [] ≡ cond b (x ∷ []) []) [ true ↦ refl | false ↦ refl ]
filter-more f (y ∷ xs) x =
    elim (f y) as (λ b. cond b (y ∷ filter f (xs ++ x ∷ [])) (filter f (xs ++ x ∷ []))
    ≡ cond b (y ∷ filter f xs) (filter f xs) ++ cond (f x) (x ∷ []) []) [
      | true ↦ ap (λ t. y ∷ t) (filter-more f xs x)
      | false ↦ filter-more f xs x
    ]

-- the next pool, which has chunks
pub reports-more : (s : Stored) (n : ℕ) → stands s (n + 1) ≡ true
    → reports_of s (n + 1) ≡ reports_of s n ++ pool_report s (n + 1) ∷ []
reports-more s n there =
    let e : 1 + n ≡ n + 1 = omega arith in
    ap (λ xs. map (pool_report s) (filter (stands s) xs)) (range_more 1 n ∙ ap (λ k. range_with_len 1 n ++ k ∷ []) e)
    ∙ ap (map (pool_report s)) (filter-more (stands s) (range_with_len 1 n) (n + 1)
    ∙ ap (λ b. filter (stands s) (range_with_len 1 n) ++ cond b ((n + 1) ∷ []) []) there)
    ∙ map-append (pool_report s) (filter (stands s) (range_with_len 1 n)) ((n + 1) ∷ [])

-- or has none
pub reports-same : (s : Stored) (n : ℕ) → stands s (n + 1) ≡ false → reports_of s (n + 1) ≡ reports_of s n
reports-same s n gone =
    let e : 1 + n ≡ n + 1 = omega arith in
    ap (λ xs. map (pool_report s) (filter (stands s) xs)) (range_more 1 n ∙ ap (λ k. range_with_len 1 n ++ k ∷ []) e)
    ∙ ap (map (pool_report s)) (filter-more (stands s) (range_with_len 1 n) (n + 1)
    ∙ ap (λ b. filter (stands s) (range_with_len 1 n) ++ cond b ((n + 1) ∷ []) []) gone
    ∙ append-nil (filter (stands s) (range_with_len 1 n)))

pub same_report : (s : Stored) (p : ℕ) (r : PoolReport) → r.pool ≡ p → r.pages ≡ 16 * length (chunks_in s p)
    → r.free ≡ length (free_pages s.arena (chunks_in s p)) → r.retired ≡ length (retired_pages s.arena (chunks_in s p))
    → r ≡ pool_report s p
same_report s p r a b c d = λ i. record { pool = a i; pages = b i; free = c i; retired = d i }

pub some_pages : (s : Stored) (p n : ℕ) → n ≡ 16 * length (chunks_in s p) → n ≢ 0 → stands s p ≡ true
some_pages s p n e some = grind (arith, nat_tests, e, some)

pub no_pages : (s : Stored) (p n : ℕ) → n ≡ 16 * length (chunks_in s p) → n ≡ 0 → stands s p ≡ false
no_pages s p n e none = grind (arith, nat_tests, e, none)
