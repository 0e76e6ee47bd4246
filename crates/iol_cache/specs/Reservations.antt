-- Room for extents, and for the entries that they have in their pool's order once they are clean.
use Rattle.std.specs.Prelude.{ℕ, ◌≤◌, Result, OnOk, IsTrue}
use Rattle.iol_core.specs.NumberedLists.{is_numbered}
use Rattle.iol_cache.specs.CacheState.{Cached, file_in, order_in}
use Rattle.iol_cache.specs.RangeReads.{SameButRoom}

-- the pool of a file has an order
abbrev pub HasOrder : (f : ℕ) → Cached → Type 0
HasOrder f c = IsTrue (is_numbered c.orders (file_in c.files f).pool)

-- If it succeeds, there is room for n more extents of a file, and for their entries. Nothing else changed.
pub record ReservesPlaces {A E : Type 0} (f n : ℕ) (old new : Cached) (r : Result A E) : Type 0 where
  pub same : SameButRoom old new
  pub extents : OnOk r (n ≤ (file_in new.files f).extents.room)
  pub entries : OnOk r (n ≤ (order_in new.orders (file_in old.files f).pool).room)
