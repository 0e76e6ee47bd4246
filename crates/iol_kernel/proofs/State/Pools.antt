-- Pools are added, are closed and lose chunks; those of connections and files stay open.
use Rattle.std.proofs.Common.{◌≡◌, ◌≢◌, ℕ, zero, suc, get_or, refl, Bool, ◌-◌, ◌<◌, ◌≤◌, ◌==◌, List, [], ◌∷◌, ◌++◌}
use Rattle.std.proofs.Common.{length, length-append, map, ap, ◌∙◌, sym, subst, arith, true, false, inl, inr}
use Rattle.std.specs.Prelude.{◌||◌}
use Rattle.std.specs.List.{list_any, AllByRecursion}
use Rattle.std.proofs.lemmas.Bool.{cases_eq, cases_lt}
use Rattle.std.proofs.lemmas.Bool.Decides.{nat_tests}
use Rattle.std.proofs.lemmas.List.{get_or_append_left, get_or_past}
use Rattle.iol_core.specs.NumberedLists.{numbered_or, is_numbered}
use Rattle.iol_core.specs.State as machine
use Rattle.iol_pool.specs.Pools.{Pool, no_pool, pool_in, with_admitted, with_closed}
use Rattle.iol_pool.proofs.Admission.{closed-admitted, length-admitted}
use Rattle.iol_pool.proofs.Owners.{length-closed, pool_in-closed}
use Rattle.iol_hold.specs.StoreState.{Stored}
use Rattle.iol_hold.specs.Moves.{SameLists, pool_meant}
use Rattle.iol_hold.specs.declared.slices.Slice.{Slice}
use Rattle.iol_sock.specs.Connections.{Conn}
use Rattle.iol_cache.specs.CacheState.{file_in, no_file}
use Rattle.iol_cache.specs.declared.files.CachedFile.{CachedFile}
use Rattle.iol_cache.proofs.Extents.FileEntries.{numbered_bounds}
use Rattle.iol_kernel.specs.KernelState.{ArePooled, AreFiled}
use Rattle.iol_kernel.proofs.State.Views.{numbered_or-map, length-map'}
use Rattle.iol_kernel.proofs.State.Sound.{each-weaker}

-- a pool among those that the machine has
abbrev meant_in : List machine.Pool → (p : ℕ) → machine.Pool
meant_in ps p = numbered_or ps p machine.no_pool

pool_in-meant : (ps : List Pool) (p : ℕ) → (meant_in (map pool_meant ps) p).closed ≡ (pool_in ps p).closed
unfolding pool_in
pool_in-meant ps p = ap (λ (x : machine.Pool). x.closed) (numbered_or-map pool_meant ps p no_pool)

abbrev IsOpen : List machine.Pool → (p : ℕ) → Type 0
IsOpen ps p = (meant_in ps p).closed ≡ false

-- if the pools that are open for the machine stay open, those of connections and files do
pooled_as : (ps qs : List Pool) (cs : List (ℕ × Conn (List Slice))) (fs : List CachedFile)
    → ((p : ℕ) → IsOpen (map pool_meant ps) p → IsOpen (map pool_meant qs) p) → length qs ≤ 1024 → ArePooled ps cs fs
    → ArePooled qs cs fs
pooled_as ps qs cs fs keeps few pooled = record {
  few = few;
  opened =
      each-weaker (λ (e : ℕ × Conn (List Slice)). (pool_in ps e.1.pool).closed ≡ false)
      (λ (e : ℕ × Conn (List Slice)). (pool_in qs e.1.pool).closed ≡ false) cs
      (λ e is. sym (pool_in-meant qs e.1.pool) ∙ keeps e.1.pool (pool_in-meant ps e.1.pool ∙ is)) pooled.opened;
  files_open = λ n there. sym (pool_in-meant qs (file_in fs n).pool)
      ∙ keeps (file_in fs n).pool (pool_in-meant ps (file_in fs n).pool ∙ pooled.files_open n there);
}

-- lists that are the same for the machine
pub same_pooled : (s t : Stored) (cs : List (ℕ × Conn (List Slice))) (fs : List CachedFile) → SameLists s t
    → ArePooled s.pools cs fs → ArePooled t.pools cs fs
same_pooled s t cs fs lists pooled =
    pooled_as s.pools t.pools cs fs (λ p. subst (λ (ps : List machine.Pool). IsOpen ps p) (sym lists))
    (omega (arith, pooled.few, ap length lists, length-map' pool_meant s.pools, length-map' pool_meant t.pools)) pooled

pub pools_pooled : (s t : Stored) (cs : List (ℕ × Conn (List Slice))) (fs : List CachedFile) → t.pools ≡ s.pools
    → ArePooled s.pools cs fs → ArePooled t.pools cs fs
pools_pooled s t cs fs same pooled = subst (λ (ps : List Pool). ArePooled ps cs fs) (sym same) pooled

-- one pool more

open_there : (ps : List machine.Pool) (p : ℕ) → IsOpen ps p → (p ≢ 0) × (p - 1 < length ps)
open_there ps p is = elim (cases_eq p 0) [
  | inl k ↦ absurd (no (subst (λ n. IsOpen ps n) k is))
  | inr k ↦ elim (cases_lt (p - 1) (length ps)) [
    | inl l ↦ (k, l)
    | inr l ↦ (let past = get_or_past ps (p - 1) machine.no_pool l in
        let e : meant_in ps p ≡ machine.no_pool = grind (arith, nat_tests, k, past) in
        absurd (no (sym (ap (λ (x : machine.Pool). x.closed) e) ∙ is)))
  ]
]
  where
    no : ◌≡◌ {A = _} true false → ⊥
    no e = cc

open_more : (ps : List machine.Pool) (x : machine.Pool) (p : ℕ) → IsOpen ps p → IsOpen (ps ++ x ∷ []) p
open_more ps x p is =
    let there = open_there ps p is in
    let some = there.0 in
    let same = get_or_append_left ps (x ∷ []) machine.no_pool (p - 1) there.1 in
    let e : meant_in (ps ++ x ∷ []) p ≡ meant_in ps p = grind (arith, nat_tests, some, same) in
    ap (λ (y : machine.Pool). y.closed) e ∙ is

pub one_more_pool : (s t : Stored) (cs : List (ℕ × Conn (List Slice))) (fs : List CachedFile) (x : machine.Pool)
    → map pool_meant t.pools ≡ map pool_meant s.pools ++ x ∷ [] → length s.pools < 1024 → ArePooled s.pools cs fs
    → ArePooled t.pools cs fs
one_more_pool s t cs fs x added few pooled =
    pooled_as s.pools t.pools cs fs
    (λ p is. subst (λ (ps : List machine.Pool). IsOpen ps p) (sym added)
    (open_more (map pool_meant s.pools) x p is))
    (omega (
      arith,
      few,
      ap length added,
      length-append (map pool_meant s.pools) (x ∷ []),
      length-map' pool_meant s.pools,
      length-map' pool_meant t.pools,
    )) pooled

-- the list of one pool names one more domain
pub one_admitted : (ps : List Pool) (p d : ℕ) (cs : List (ℕ × Conn (List Slice))) (fs : List CachedFile)
    → is_numbered ps p ≡ true → ArePooled ps cs fs → ArePooled (with_admitted ps p d) cs fs
one_admitted ps p d cs fs there pooled =
    pooled_as ps (with_admitted ps p d) cs fs (λ q is. pool_in-meant (with_admitted ps p d) q
    ∙ closed-admitted ps p d q there ∙ sym (pool_in-meant ps q) ∙ is)
    (omega (arith, pooled.few, length-admitted ps p d)) pooled

-- one that no connection is of is closed

others_open : (ps : List Pool) (p : ℕ) (cs : List (ℕ × Conn (List Slice))) → list_any (λ e. e.1.pool == p) cs ≡ false
    → AllByRecursion (λ e. (pool_in ps e.1.pool).closed ≡ false) cs
    → AllByRecursion (λ e. (pool_in (with_closed ps p) e.1.pool).closed ≡ false) cs
others_open ps p [] idle e = tt
others_open ps p (c ∷ cs) idle e = elim (cases_eq c.1.pool p) [
  | inl k ↦ absurd (no (sym (busy k) ∙ idle))
  | inr k ↦
      (ap (λ (x : Pool). x.closed) (pool_in-closed ps p c.1.pool k) ∙ e.0, others_open ps p cs (rest k ∙ idle) e.1)
]
  where
    no : ◌≡◌ {A = _} true false → ⊥
    no e = cc

    busy : c.1.pool ≡ p → list_any (λ e. e.1.pool == p) (c ∷ cs) ≡ true
    busy k = grind (arith, nat_tests, k)

    rest : c.1.pool ≢ p → list_any (λ e. e.1.pool == p) cs ≡ list_any (λ e. e.1.pool == p) (c ∷ cs)
    rest k = grind (arith, nat_tests, k)

neither : (a b : Bool) → (a || b) ≡ false → (a ≡ false) × (b ≡ false)
neither true b e = absurd (cc e)
neither false b e = (refl, e)

any-map : {A : Type 0} (g : A → ℕ) (p : ℕ) (xs : List A)
    → list_any (λ x. g x == p) xs ≡ list_any (λ q. q == p) (map g xs)
any-map g p [] = refl
any-map g p (x ∷ xs) = ap (λ b. (g x == p) || b) (any-map g p xs)

none_is : (p : ℕ) (fs : List CachedFile) (n : ℕ) → list_any (λ (x : CachedFile). x.pool == p) fs ≡ false → n < length fs
    → (get_or fs n no_file).pool ≢ p
none_is p [] n none there = absurd (omega (arith, there))
none_is p (x ∷ fs) zero none there = λ e. (let busy : list_any (λ (y : CachedFile). y.pool == p) (x ∷ fs) ≡ true =
    grind (arith, nat_tests, e) in absurd (cc (sym busy ∙ none)))
none_is p (x ∷ fs) (suc n) none there =
    none_is p fs n (neither (x.pool == p) (list_any (λ (y : CachedFile). y.pool == p) fs) none).1 (omega (arith, there))

-- no file is of a pool that is not busy
no_file_of : (files : List machine.File) (fs : List CachedFile) (p n : ℕ) → AreFiled files fs
    → list_any (λ x. x.pool == p) files ≡ false → is_numbered fs n ≡ true → (file_in fs n).pool ≢ p
unfolding file_in
no_file_of files fs p n filed none there =
    let same : list_any (λ (x : CachedFile). x.pool == p) fs ≡ false = any-map (λ (x : CachedFile). x.pool) p fs
    ∙ ap (λ (ps : List ℕ). list_any (λ q. q == p) ps) filed ∙ sym (any-map (λ (x : machine.File). x.pool) p files)
    ∙ none in
    let bounds = numbered_bounds fs n there in
    let is : numbered_or fs n no_file ≡ get_or fs (n - 1) no_file = grind (arith, nat_tests, bounds.0) in
    λ e. none_is p fs (n - 1) same (omega (arith, bounds.0, bounds.1)) (ap (λ (x : CachedFile). x.pool) (sym is) ∙ e)

pub one_closed : (s t : Stored) (cs : List (ℕ × Conn (List Slice))) (files : List machine.File) (fs : List CachedFile)
    (p : ℕ) → AreFiled files fs → (list_any (λ x. x.pool == p) files || list_any (λ e. e.1.pool == p) cs) ≡ false
    → map pool_meant t.pools ≡ map pool_meant (with_closed s.pools p) → ArePooled s.pools cs fs
    → ArePooled t.pools cs fs
one_closed s t cs files fs p filed idle closed pooled =
    let both = neither (list_any (λ x. x.pool == p) files) (list_any (λ e. e.1.pool == p) cs) idle in
    pooled_as (with_closed s.pools p) t.pools cs fs (λ q. subst (λ (ps : List machine.Pool). IsOpen ps q) (sym closed))
    (omega (
      arith,
      pooled.few,
      ap length closed,
      length-map' pool_meant (with_closed s.pools p),
      length-map' pool_meant t.pools,
      length-closed s.pools p,
    ))
    (record {
      few = omega (arith, pooled.few, length-closed s.pools p);
      opened =
          others_open s.pools p cs both.1 pooled.opened;
      files_open =
          λ n there. ap (λ (x : Pool). x.closed)
          (pool_in-closed s.pools p (file_in fs n).pool (no_file_of files fs p n filed both.0 there))
          ∙ pooled.files_open n there;
    })
