use Rattle.std.proofs.Common.{◌≡◌, ◌∙◌, ℕ, ◌-◌, ◌<◌, ◌≤◌, List, length, set, refl, ap, arith, rules}
use Rattle.iol_extent.specs.Extents.{ExtentMap}
use Rattle.iol_evict.specs.Order.{Ranking}
use Rattle.iol_cache.specs.declared.files.CachedFile.{CachedFile}
use Rattle.iol_cache.specs.RangeReads.{SameButRoom}
use Rattle.iol_cache.specs.CacheState.{Cached, file_in, order_in, with_order}
use Rattle.iol_cache.specs.Cache.{cached_of}
use Rattle.iol_cache.proofs.Extents.FileEntries.{file_set, file_same, order_at_number, order_set, order_same}
use Rattle.iol_cache.proofs.Extents.FileEntries.{numbered_bounds, length-with_order}
use Rattle.iol_cache.proofs.Extents.Lookups.{file_here, file_put}
use Rattle.iol_cache.proofs.Evictions.Roomy.{same_room, order_room, order_kept, order_low}
use Rattle.iol_cache.proofs.cache.Cache.reserve_places.Goals.{After-reserve-2}
use Rattle.iol_cache.proofs.cache.Cache.reserve_places.Goals as goal

set_orders : (os : List Ranking) (p n : ℕ) (r : Ranking) → n ≡ p → 0 < p → set os (n - 1) r ≡ with_order os p r
set_orders os p n r is some = ap (λ k. set os (k - 1) r) is ∙ order_set os p r some

pub overflow_sub-number : goal.overflow_sub-number
overflow_sub-number c =
    let b = numbered_bounds c.args.self.now.orders.items (file_in c.args.self.now.files.items c.args.file).pool
    c.requires.order in
    omega (
      arith,
      b.0,
      c.number-2.ensures,
      ap (λ (y : CachedFile). y.pool) (file_here _ c.number.ensures c.index.ensures c.requires.file),
    )

pub index_mut-requires-2 : goal.index_mut-requires-2
index_mut-requires-2 c =
    let b = numbered_bounds c.args.self.now.orders.items (file_in c.args.self.now.files.items c.args.file).pool
    c.requires.order in
    omega (
      arith,
      b.0,
      b.1,
      c.number-2.ensures,
      ap (λ (y : CachedFile). y.pool) (file_here _ c.number.ensures c.index.ensures c.requires.file),
      c.args.self.now.orders.ok.0,
    )

same_reserved : (c d : Cached) (f n k : ℕ) (x : CachedFile) (m : ExtentMap) (r q : Ranking) → n ≡ f
    → (0 < f) × (f ≤ length c.files) → x ≡ file_in c.files f
    → m ≡ (let y : ExtentMap = record { extents = x.extents.extents; room = m.room } in y)
    → k ≡ (file_in c.files f).pool → (0 < (file_in c.files f).pool) × ((file_in c.files f).pool ≤ length c.orders)
    → r ≡ order_in c.orders (file_in c.files f).pool → q ≡ (let y : Ranking = record r { room = q.room } in y)
    → d.files ≡ set c.files (n - 1) (record { pool = x.pool; extents = m }) → d.orders ≡ set c.orders (k - 1) q
    → d.marks ≡ c.marks → SameButRoom c d
same_reserved c d f n k x m r q is numbered there extents pool ordered order ranking files orders marks =
    let p = (file_in c.files f).pool in
    let now = orders ∙ set_orders c.orders p k q pool ordered.0 in
    same_room c d f (record { pool = x.pool; extents = m }) numbered (files
    ∙ ap (λ i. set c.files (i - 1) (record { pool = x.pool; extents = m })) is
    ∙ file_set c.files f (record { pool = x.pool; extents = m }) numbered.0) (ap (λ (y : CachedFile). y.pool) there)
    (ap (λ (y : ExtentMap). y.extents) extents ∙ ap (λ (y : CachedFile). y.extents.extents) there)
    (λ g. ap (λ os. (order_in os g).entries) now
    ∙ order_room c.orders p q g ordered (ap (λ (y : Ranking). y.entries) ranking
    ∙ ap (λ (y : Ranking). y.entries) order))
    (λ g. ap (λ os. (order_in os g).low) now
    ∙ order_low c.orders p q g ordered (ap (λ (y : Ranking). y.low) ranking ∙ ap (λ (y : Ranking). y.low) order))
    (λ g. ap (λ os. (order_in os g).kept) now ∙ order_kept c.orders p q g ordered (ap (λ (y : Ranking). y.kept) ranking
    ∙ ap (λ (y : Ranking). y.kept) order))
    (ap length now ∙ length-with_order c.orders p q) marks

-- The file and its order have more room, or the order has not.
reserved : (c : After-reserve-2) (d : Cached)
    → d.files ≡ set c.args.self.now.files.items (c.number.result - 1)
    (record { pool = c.index_mut.result.now.pool; extents = c.reserve.new.self })
    → d.orders ≡ set c.args.self.now.orders.items (c.number-2.result - 1) c.reserve-2.new.self
    → d.marks ≡ c.args.self.now.marks
    → SameButRoom (cached_of c.args.self.now) d
reserved c d files orders marks =
    let fs = c.args.self.now.files.items in
    let os = c.args.self.now.orders.items in
    let ob = numbered_bounds c.args.self.now.orders.items (file_in c.args.self.now.files.items c.args.file).pool
    c.requires.order in
    let pool = c.number-2.ensures
    ∙ ap (λ (y : CachedFile). y.pool) (file_here _ c.number.ensures c.index.ensures c.requires.file) in
    let o = order_at_number os (file_in fs c.args.file).pool c.number-2.result c.index_mut-2.result.now pool ob
    c.index_mut-2.ensures.value in
    same_reserved (cached_of c.args.self.now) d c.args.file c.number.result c.number-2.result c.index_mut.result.now
    c.reserve.new.self c.index_mut-2.result.now c.reserve-2.new.self c.number.ensures
    (numbered_bounds fs c.args.file c.requires.file)
    (file_here _ c.number.ensures c.index_mut.ensures.value c.requires.file) c.reserve.ensures.same pool ob o
    c.reserve-2.ensures.same files orders marks

pub returns-in_err-reserve-2 : goal.returns-in_err-reserve-2
returns-in_err-reserve-2 c =
    record {
      same = reserved (goal.at.returns-in_err-reserve-2 c).After-reserve-2 _ refl refl refl;
      extents =
          search (rules);
      entries = search (rules);
    }

pub returns : goal.returns
returns c =
    let fs = c.args.self.now.files.items in
    let os = c.args.self.now.orders.items in
    let p = (file_in fs c.args.file).pool in
    let b = numbered_bounds fs c.args.file c.requires.file in
    let ob = numbered_bounds os p c.requires.order in
    let new : CachedFile = record { pool = c.index_mut.result.now.pool; extents = c.reserve.new.self } in
    let pool : c.number-2.result ≡ p = c.number-2.ensures
    ∙ ap (λ (y : CachedFile). y.pool) (file_here _ c.number.ensures c.index.ensures c.requires.file) in
    let q = c.reserve-2.new.self in
    record {
      same = reserved (goal.at.returns c).After-reserve-2 _ refl refl refl;
      extents =
          omega (
            arith,
            c.in_ok-reserve.ensures.room,
            ap (λ (y : CachedFile). y.extents.room)
                (ap (λ l. file_in l c.args.file) (file_put fs new c.number.ensures c.requires.file)
                ∙ file_same fs c.args.file new b.0 b.1),
          );
      entries =
          omega (
            arith,
            c.in_ok-reserve-2.ensures.room,
            ap (λ (y : Ranking). y.room) (ap (λ l. order_in l p) (set_orders os p c.number-2.result q pool ob.0)
                ∙ order_same os p q ob.0 ob.1),
          );
    }
