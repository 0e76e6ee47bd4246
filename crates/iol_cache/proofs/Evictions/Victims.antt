-- Victims, and evictions one after another.
use Rattle.std.proofs.Common.{◌≡◌, ◌≢◌, ℕ, ◌+◌, ◌<◌, true, false, cond, eqb, List, [], ◌∷◌, length, Option, None, refl}
use Rattle.std.proofs.Common.{sym, ap, ◌∙◌, arith, subst, add-one}
use Rattle.iol_hold.specs.StoreState.{Stored}
use Rattle.iol_evict.specs.Order.{Ranking, evicted_at}
use Rattle.iol_evict.specs.Victims.{IsVictim}
use Rattle.std.specs.Prelude.{Bool, not, ◌&&◌}
use Rattle.std.proofs.lemmas.Bool.Decides.{nat_tests}
use Rattle.std.proofs.lemmas.List.Sums.{sum_by-cons}
use Rattle.iol_extent.specs.Extents.{Extent}
use Rattle.iol_cache.specs.CacheState.{Cached, file_in, extents_in, order_in, begins_clean, clean_at, entries_at}
use Rattle.iol_cache.specs.Sound.{IsSound}
use Rattle.iol_cache.specs.Evictions.{Holding, in_use, IsCleanAt, IsWanted, AllDirty, Evicts, EvictsAll, EvictsPools}
use Rattle.iol_cache.proofs.Extents.FileEntries.{order_same, order_other, length-with_order, numbered_bounds}
use Rattle.iol_cache.proofs.Extents.FileEntries.{numbered_yes}
use Rattle.iol_cache.proofs.Evictions.RankedEntries.{member_counts, ranked_clean, clean_ranked, entry_found}
use Rattle.iol_cache.proofs.Evictions.RankedEntries.{evicted_fewer}
use Rattle.iol_cache.proofs.Extents.HeldSlices.{clean_numbered}

-- the victim is a clean extent of the pool's files
pub victim_clean : (u : ℕ → ℕ → Bool) (s : Stored) (c : Cached) (p : ℕ) (place : ℕ × ℕ) → IsSound s c
    → IsVictim u (order_in c.orders p).entries place → ((file_in c.files place.0).pool ≡ p)
    × IsCleanAt c.files place.0 place.1
victim_clean u s c p place sound h =
    let v = h.victim in
    let clean =
    ranked_clean c.files c.orders p v.file v.at sound.ranked (sound.files v.file)
    (member_counts (order_in c.orders p).entries v h.there) in
    let P : ℕ × ℕ → Type 0 = λ q. ((file_in c.files q.0).pool ≡ p) × IsCleanAt c.files q.0 q.1 in
    subst P (sym h.lies) clean

-- the order of its pool has fewer entries after its eviction
pub evicts_fewer : (old new : Holding) (f at p : ℕ) → IsSound old.store old.cache → Evicts f at old new
    → (file_in old.cache.files f).pool ≡ p
    → length (order_in new.cache.orders p).entries < length (order_in old.cache.orders p).entries
evicts_fewer old new f at p sound gone pool =
    let there = gone.there in
    let n = clean_numbered there in
    let os = old.cache.orders in
    let q = (file_in old.cache.files f).pool in
    let b = numbered_bounds os q (sound.opened f (numbered_yes old.cache.files f n.0 n.1)).ordered in
    let some =
    entry_found (order_in os q).entries f at
    (clean_ranked old.cache.files os f at sound.ranked (sound.files f) there) in
    let fewer = evicted_fewer (order_in os q) f at some.0 some.1 in
    let now : order_in new.cache.orders q ≡ evicted_at (order_in os q) f at = ap (λ l. order_in l q) gone.orders
    ∙ order_same os q (evicted_at (order_in os q) f at) b.0 b.1 in
    let P : ℕ → Type 0 = λ m. length (order_in new.cache.orders m).entries < length (order_in os m).entries in
    subst P pool (omega (arith, fewer, ap (λ (r : Ranking). length r.entries) now))

pub none_evicted : (p : ℕ) (wanted : Option ℕ) (h : Holding) → EvictsAll p wanted h h
none_evicted p wanted h = record { places = []; each = refl }

pub one_more : (p : ℕ) (wanted : Option ℕ) (place : ℕ × ℕ) (a b c : Holding) → EvictsAll p wanted a b
    → IsSound b.store b.cache → IsWanted p wanted b.store
    → IsVictim (in_use b.store b.cache.files) (order_in b.cache.orders p).entries place → Evicts place.0 place.1 b c
    → EvictsAll p wanted a c
one_more p wanted place a b c m sound wants first gone = record {
  places = place ∷ m.places;
  each = (
    b,
    m.each,
    record {
      wants = wants;
      pool =
          (victim_clean (in_use b.store b.cache.files) b.store b.cache p place sound first).0;
      first = first;
      evicts =
          gone;
    },
  );
}

-- An eviction leaves the orders of other pools unchanged.
pub evicts_others : (old new : Holding) (f at p : ℕ) → Evicts f at old new → (file_in old.cache.files f).pool ≡ p
    → (q : ℕ) → q ≢ p → order_in new.cache.orders q ≡ order_in old.cache.orders q
evicts_others old new f at p gone pool q ne =
    let os = old.cache.orders in
    let r = (file_in old.cache.files f).pool in
    ap (λ l. order_in l q) gone.orders ∙ order_other os r q (evicted_at (order_in os r) f at) (λ e. ne (e ∙ pool))

pub evicts_len : (old new : Holding) (f at : ℕ) → Evicts f at old new
    → length new.cache.orders ≡ length old.cache.orders
evicts_len old new f at gone = ap length gone.orders
    ∙ length-with_order old.cache.orders (file_in old.cache.files f).pool
    (evicted_at (order_in old.cache.orders (file_in old.cache.files f).pool) f at)

-- Pools one after another.
pub pools_more : (n m : ℕ) (a b c : Holding) → n ≡ m + 1 → EvictsPools m a b → EvictsAll n None b c → EvictsPools n a c
pools_more n m a b c is before here =
    let e = is ∙ add-one m in
    subst (λ k. EvictsPools k a c) (sym e) (b, before, subst (λ k. EvictsAll k None b c) e here)

dirty_all : (es : List Extent) → ((at : ℕ) → clean_at at es ≡ 0) → AllDirty es
dirty_all [] none = tt
dirty_all (x ∷ xs) none =
    (pick x.dirty refl, dirty_all xs (λ at. omega (arith, none at, sum_by-cons (begins_clean at) x xs)))
  where
    one : (n : ℕ) → eqb n n ≡ true
    one n = grind (arith, nat_tests)

    pick : (d : Bool) → x.dirty ≡ d → d ≡ true
    pick true is = refl
    pick false is =
        absurd
        (omega (
          arith,
          none x.at,
          sum_by-cons (begins_clean x.at) x xs,
          ap (λ e. cond {A = ℕ} (e && not x.dirty) 1 0) (one x.at),
          ap (λ d. cond {A = ℕ} (not d) 1 0) is,
        ))

-- if all orders are empty, no extent is clean
pub all_dirty : (s : Stored) (c : Cached) → IsSound s c → ((p : ℕ) → (order_in c.orders p).entries ≡ []) → (f : ℕ)
    → AllDirty (extents_in c.files f)
all_dirty s c sound none f =
    dirty_all (extents_in c.files f) (λ at. sym (self (file_in c.files f).pool (clean_at at (extents_in c.files f)))
    ∙ sym (sound.ranked.each (file_in c.files f).pool f at) ∙ ap (entries_at f at) (none (file_in c.files f).pool))
  where
    self : (m k : ℕ) → cond {A = ℕ} (eqb m m) k 0 ≡ k
    self m k = grind (arith, nat_tests)
