-- A file and the order of its pool, as code has them that indexed them by their numbers.
use Rattle.std.proofs.Common.{◌≡◌, ◌∙◌, ℕ, ◌-◌, ◌<◌, ◌≤◌, true, List, length, get_or, set, ap, arith}
use Rattle.std.proofs.lemmas.List.{get_or-set_same}
use Rattle.iol_core.specs.NumberedLists.{is_numbered}
use Rattle.iol_hold.specs.StoreState.{Stored}
use Rattle.iol_evict.specs.Order.{Ranking}
use Rattle.iol_cache.specs.declared.files.CachedFile.{CachedFile}
use Rattle.iol_cache.specs.CacheState.{Cached, file_in, with_file, order_in, with_order}
use Rattle.iol_cache.specs.Sound.{IsSound}
use Rattle.iol_cache.proofs.Extents.FileEntries.{file_at_number, file_set, numbered_bounds, order_at_number, order_set}

pub file_here : (fs : List CachedFile) {f n : ℕ} {x : CachedFile} → n ≡ f → x ≡ get_or fs (n - 1) x
    → is_numbered fs f ≡ true → x ≡ file_in fs f
file_here fs {f} {n} {x} is at numbered = file_at_number fs f n x is (numbered_bounds fs f numbered) at

-- a file that was put back
pub file_back : (fs : List CachedFile) {f n : ℕ} (x : CachedFile) {y : CachedFile} → n ≡ f
    → y ≡ get_or (set fs (n - 1) x) (n - 1) y → is_numbered fs f ≡ true → y ≡ x
file_back fs {f} {n} x {y} is at numbered =
    let b = numbered_bounds fs f numbered in
    at ∙ get_or-set_same fs (n - 1) x y (omega (arith, is, b.0, b.1))

pub file_put : (fs : List CachedFile) {f n : ℕ} (x : CachedFile) → n ≡ f → is_numbered fs f ≡ true
    → set fs (n - 1) x ≡ with_file fs f x
file_put fs {f} x is numbered = ap (λ k. set fs (k - 1) x) is ∙ file_set fs f x (numbered_bounds fs f numbered).0

-- the order of the file's pool
module _ (f : ℕ) {s : Stored} {c : Cached} (sound : IsSound s c) (numbered : is_numbered c.files f ≡ true) where
  pub pool_bounds : (0 < (file_in c.files f).pool) × ((file_in c.files f).pool ≤ length c.orders)
  pool_bounds = numbered_bounds c.orders (file_in c.files f).pool (sound.opened f numbered).ordered

  pub order_here : {m : ℕ} {x : CachedFile} {r : Ranking} → x ≡ file_in c.files f → m ≡ x.pool
      → r ≡ get_or c.orders (m - 1) r → r ≡ order_in c.orders (file_in c.files f).pool
  order_here {m} {x} {r} here is at =
      order_at_number c.orders (file_in c.files f).pool m r (is ∙ ap (λ (y : CachedFile). y.pool) here) pool_bounds at

  pub order_put : {m : ℕ} {x : CachedFile} (r : Ranking) → x ≡ file_in c.files f → m ≡ x.pool
      → set c.orders (m - 1) r ≡ with_order c.orders (file_in c.files f).pool r
  order_put {m} {x} r here is = ap (λ k. set c.orders (k - 1) r) (is ∙ ap (λ (y : CachedFile). y.pool) here)
      ∙ order_set c.orders (file_in c.files f).pool r pool_bounds.0
