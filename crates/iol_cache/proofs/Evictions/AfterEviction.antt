-- The state after an eviction.
use Rattle.std.proofs.Common.{inl, inr, ◌≡◌, ℕ, ◌+◌, ◌-◌, ◌<◌, ◌≤◌, Bool, false, cond, List, [], flat_map, length, set}
use Rattle.std.proofs.Common.{Option, Some, IfSome, sym, ap, ◌∙◌, arith, subst}
use Rattle.std.proofs.lemmas.Bool.{cases_eq}
use Rattle.iol_core.specs.NumberedLists.{is_numbered}
use Rattle.iol_core.specs.declared.numbers.BufId.{BufId}
use Rattle.iol_pool.specs.Pools.{Pool, pool_in}
use Rattle.iol_hold.specs.StoreState.{Stored}
use Rattle.iol_hold.specs.Moves.{tally, Moves, Covers, Stays}
use Rattle.iol_hold.specs.Texts.{bufs_of}
use Rattle.iol_hold.proofs.Counts.{tally_none}
use Rattle.iol_hold.specs.declared.slices.Slice.{Slice}
use Rattle.iol_extent.specs.Extents.{Extent, ExtentMap, begins_at, without_at}
use Rattle.iol_evict.specs.Order.{Ranking, evicted_at}
use Rattle.iol_cache.specs.declared.files.CachedFile.{CachedFile}
use Rattle.iol_cache.specs.Marks.{at_page, Unmarks}
use Rattle.iol_cache.specs.CacheState.{Cached, file_in, order_in, extents_in, parts_in, parts_at, all_parts}
use Rattle.iol_cache.specs.CacheState.{clean_parts, held, clean_held, lacking, without_extent, with_evicted, AreRanked}
use Rattle.iol_cache.specs.CacheState.{AreReady}
use Rattle.iol_cache.specs.Sound.{IsLaid, IsFiled, IsSound, IsUsable}
use Rattle.iol_cache.specs.Evictions.{Holding, IsCleanAt, Evicts}
use Rattle.iol_cache.proofs.Extents.FileEntries.{file_same, file_other, file_set, order_set, length-with_file}
use Rattle.iol_cache.proofs.Extents.FileEntries.{length-with_order, numbered_bounds, numbered_yes, IsAdditive}
use Rattle.iol_cache.proofs.Extents.FileEntries.{additive_tally, additive_page, additive_bufs, sum-flat, sum-with_file}
use Rattle.iol_cache.proofs.Extents.FileEntries.{sum-without_at, each-without_at}
use Rattle.iol_cache.proofs.Extents.FewerExtents.{apart-without_at, last_end-without_at, laid_stays}
use Rattle.iol_cache.proofs.Evictions.RankedEntries.{ranked_evicted}
use Rattle.iol_cache.proofs.Evictions.Ready.{ready_evicted}
use Rattle.iol_cache.proofs.Extents.HeldSlices.{clean_numbered, covers_file}

pub usable_of : {s : Stored} {c : Cached} → IsSound s c → IsUsable s c.files c.marks
usable_of sound = record { files = sound.files; covered = sound.covered; marked = sound.marked; pages = sound.pages }

-- How often buffers are held.

-- the buffers that some slices of each extent hold
abbrev held_by : (Extent → List Slice) → CachedFile → List BufId
held_by some x = bufs_of (flat_map some x.extents.extents)

some_less : (some : Extent → List Slice) (h : List BufId → ℕ) → IsAdditive h
    → (fs : List CachedFile) (f at : ℕ) (e : Extent) → (0 < f) × (f ≤ length fs)
    → begins_at (extents_in fs f) at ≡ Some e
    → h (flat_map (held_by some) fs) ≡ h (bufs_of (some e)) + h (flat_map (held_by some) (without_extent fs f at))
some_less some h a fs f at e numbered begins =
    let es = extents_in fs f in
    omega (
      arith,
      sum-flat a (held_by some) fs,
      sum-flat a (held_by some) (without_extent fs f at),
      sum-with_file (λ x. h (held_by some x)) fs f (lacking (file_in fs f) at) numbered.0 numbered.1,
      sum-flat (additive_bufs a) some es,
      sum-flat (additive_bufs a) some (without_at es at),
      sum-without_at (λ (y : Extent). h (bufs_of (some y))) es at e begins,
    )

pub held_less : (h : List BufId → ℕ) → IsAdditive h → (fs : List CachedFile) (f at : ℕ) (e : Extent)
    → (0 < f) × (f ≤ length fs) → begins_at (extents_in fs f) at ≡ Some e
    → h (held fs) ≡ h (bufs_of e.parts) + h (held (without_extent fs f at))
unfolding held
held_less = some_less (λ (e : Extent). e.parts)

pub clean_less : (h : List BufId → ℕ) → IsAdditive h → (fs : List CachedFile) (f at : ℕ) (e : Extent)
    → (0 < f) × (f ≤ length fs) → begins_at (extents_in fs f) at ≡ Some e → e.dirty ≡ false
    → h (clean_held fs) ≡ h (bufs_of e.parts) + h (clean_held (without_extent fs f at))
unfolding clean_held
clean_less h a fs f at e numbered begins clean =
    some_less clean_parts h a fs f at e numbered begins
    ∙ ap
    (λ (b : Bool). h (bufs_of (cond b [] e.parts)) + h (flat_map (held_by clean_parts) (without_extent fs f at)))
    clean

-- A file from which a clean extent was removed, and the other files.

filed_lacking : {s t : Stored} (x : CachedFile) (at : ℕ) → IsFiled s x → Stays s t
    → Covers t (bufs_of (all_parts (without_at x.extents.extents at))) → (e : Extent)
    → begins_at x.extents.extents at ≡ Some e → IsFiled t (lacking x at)
filed_lacking {s = s} x at filed stays covers e begins = record {
  apart = apart-without_at 0 x.extents.extents at filed.apart;
  laid =
      laid_stays x.pool (without_at x.extents.extents at) stays covers
      (each-without_at (IsLaid s x.pool) x.extents.extents at filed.laid);
  short = omega (arith, filed.short, last_end-without_at x.extents.extents at e begins);
}

pub filed_stays : {s t : Stored} (x : CachedFile) → IsFiled s x → Stays s t
    → Covers t (bufs_of (all_parts x.extents.extents)) → IsFiled t x
filed_stays x filed stays covers =
    record {
      apart = filed.apart;
      laid = laid_stays x.pool x.extents.extents stays covers filed.laid;
      short =
          filed.short;
    }

pub covers_evicted : {s t : Stored} (fs : List CachedFile) (f at : ℕ) (e : Extent) → (0 < f) × (f ≤ length fs)
    → begins_at (extents_in fs f) at ≡ Some e → Covers s (held fs) → Moves s t (bufs_of e.parts) []
    → Covers t (held (without_extent fs f at))
covers_evicted fs f at e numbered begins covers moves =
    record {
      each =
          λ b. omega (
            arith,
            covers.each b,
            held_less (tally b) (additive_tally b) fs f at e numbered begins,
            moves.counts.each b,
            tally_none b,
          );
    }

pub files_evicted : {s t : Stored} (fs : List CachedFile) (f at : ℕ) (e : Extent) → (0 < f) × (f ≤ length fs)
    → begins_at (extents_in fs f) at ≡ Some e → Covers t (held (without_extent fs f at)) → Stays s t
    → ((g : ℕ) → IsFiled s (file_in fs g)) → (g : ℕ) → IsFiled t (file_in (without_extent fs f at) g)
files_evicted {s = s} {t = t} fs f at e numbered begins covers stays filed g =
    let x = lacking (file_in fs f) at in
    let c = covers_file (without_extent fs f at) g covers in
    elim (cases_eq g f) [
      | inl same ↦ (
          let is : file_in (without_extent fs f at) g ≡ x = ap (file_in (without_extent fs f at)) same
          ∙ file_same fs f x numbered.0 numbered.1 in
          subst (IsFiled t) (sym is)
          (filed_lacking (file_in fs f) at (filed f) stays
          (subst (λ (y : CachedFile). Covers t (bufs_of (all_parts y.extents.extents))) is c) e begins))
      | inr ne ↦ (
          let is : file_in (without_extent fs f at) g ≡ file_in fs g = file_other fs f g x ne in
          subst (IsFiled t) (sym is)
          (filed_stays (file_in fs g) (filed g) stays
          (subst (λ (y : CachedFile). Covers t (bufs_of (all_parts y.extents.extents))) is c)))
    ]

-- the pool of each file
pub pool_evicted : (fs : List CachedFile) (f at g : ℕ) → (0 < f) × (f ≤ length fs)
    → (file_in (without_extent fs f at) g).pool ≡ (file_in fs g).pool
pool_evicted fs f at g numbered =
    let x = lacking (file_in fs f) at in
    elim (cases_eq g f) [
      | inl same ↦ ap (λ n. (file_in (without_extent fs f at) n).pool) same
          ∙ ap (λ (y : CachedFile). y.pool) (file_same fs f x numbered.0 numbered.1)
          ∙ ap (λ n. (file_in fs n).pool) (sym same)
      | inr ne ↦ ap (λ (y : CachedFile). y.pool) (file_other fs f g x ne)
    ]

parts_of : (fs : List CachedFile) (f at : ℕ) (c : IsCleanAt fs f at) → parts_at fs f at ≡ c.extent.parts
parts_of fs f at c = ap parts_in c.begins

pub sound_evicted : (old new : Holding) (f at : ℕ) → IsSound old.store old.cache → Evicts f at old new
    → Unmarks old.cache.marks new.cache.marks (parts_at old.cache.files f at) → IsSound new.store new.cache
sound_evicted old new f at sound gone unmarks =
    let fs = old.cache.files in
    let there = gone.there in
    let numbered = clean_numbered there in
    let opened = sound.opened f (numbered_yes fs f numbered.0 numbered.1) in
    let ordered = numbered_bounds old.cache.orders (file_in fs f).pool opened.ordered in
    let moves = subst (λ xs. Moves old.store new.store (bufs_of xs) []) (parts_of fs f at there) gone.moves in
    let covers = covers_evicted fs f at there.extent numbered there.begins sound.covered moves in
    let marks = subst (λ xs. Unmarks old.cache.marks new.cache.marks xs) (parts_of fs f at there) unmarks in
    let numbers : length new.cache.files ≡ length fs = ap length gone.files
    ∙ length-with_file fs f (lacking (file_in fs f) at) in
    let orders : length new.cache.orders ≡ length old.cache.orders = ap length gone.orders ∙ length-with_order _ _ _ in
    record {
      files =
          λ g. subst (λ gs. IsFiled new.store (file_in gs g)) (sym gone.files)
          (files_evicted fs f at there.extent numbered there.begins covers moves.stays sound.files g);
      opened = λ g is. (
          let bounds = numbered_bounds new.cache.files g is in
          let o = sound.opened g (numbered_yes fs g bounds.0 (omega (arith, bounds.1, numbers))) in
          let pool : (file_in new.cache.files g).pool ≡ (file_in fs g).pool = ap (λ gs. (file_in gs g).pool) gone.files
          ∙ pool_evicted fs f at g numbered in
          let ob = numbered_bounds old.cache.orders (file_in fs g).pool o.ordered in
          record {
            is_open = ap (λ p. (pool_in new.store.pools p).closed) pool
                ∙ ap (λ (x : Pool). x.closed) (gone.frees.pools (file_in fs g).pool o.is_open) ∙ o.is_open;
            ordered = ap (is_numbered new.cache.orders) pool
                ∙ numbered_yes new.cache.orders (file_in fs g).pool ob.0 (omega (arith, ob.1, orders));
          });
      covered = subst (λ gs. Covers new.store (held gs)) (sym gone.files) covers;
      marked = record {
        each =
            λ p. (let less = clean_less (at_page p) (additive_page p) fs f at there.extent numbered there.begins
            there.clean in
            omega (arith, marks.each p, sound.marked.each p, less, ap (λ gs. at_page p (clean_held gs)) gone.files));
      };
      pages = marks.long ∙ sound.pages ∙ sym gone.frees.count;
      ranked =
          subst (λ os. AreRanked new.cache.files os) (sym gone.orders)
          (subst (λ gs. AreRanked gs (with_evicted old.cache.orders (file_in fs f).pool f at)) (sym gone.files)
          (ranked_evicted fs old.cache.orders f at numbered ordered sound.ranked (sound.files f) there));
      ready =
          subst (λ os. AreReady new.cache.files os) (sym gone.orders)
          (subst (λ gs. AreReady gs (with_evicted old.cache.orders (file_in fs f).pool f at)) (sym gone.files)
          (ready_evicted fs old.cache.orders f at there.extent numbered ordered there.begins there.clean sound.ready));
      few_files = omega (arith, numbers, sound.few_files);
      few_orders = omega (arith, orders, sound.few_orders);
      tidy = moves.tidy sound.tidy;
      still = moves.still sound.still;
    }

-- The code's results, by the definitions.

pub given_is : (es : List Extent) (at : ℕ) (e : Extent) (xs : List Slice) → begins_at es at ≡ Some e
    → IfSome (begins_at es at) (λ (x : Extent). xs ≡ x.parts) → xs ≡ e.parts
given_is es at e xs begins h = let o : IfSome (Some e) (λ (x : Extent). xs ≡ x.parts) =
    subst (λ (y : Option Extent). IfSome y (λ (x : Extent). xs ≡ x.parts)) begins h in o

pub begins_in : (fs : List CachedFile) (f at : ℕ) (x : CachedFile) (e : Extent) → x ≡ file_in fs f
    → begins_at (extents_in fs f) at ≡ Some e → begins_at x.extents.extents at ≡ Some e
begins_in fs f at x e is h = ap (λ (y : CachedFile). begins_at y.extents.extents at) is ∙ h

lacking_is : (x : CachedFile) (at : ℕ) (m : ExtentMap) → m.extents ≡ without_at x.extents.extents at
    → m.room ≡ x.extents.room + 1 → ◌≡◌ {A = CachedFile} (record { pool = x.pool; extents = m }) (lacking x at)
lacking_is x at m es room =
    λ i. (let y : CachedFile = record { pool = x.pool; extents = record { extents = es i; room = room i } } in y)

pub files_are : (fs : List CachedFile) (f at n : ℕ) (x : CachedFile) (m : ExtentMap) → n ≡ f → 0 < f → x ≡ file_in fs f
    → m.extents ≡ without_at x.extents.extents at → m.room ≡ x.extents.room + 1
    → set fs (n - 1) (record { pool = x.pool; extents = m }) ≡ without_extent fs f at
files_are fs f at n x m is some there es room =
    ap (set fs (n - 1)) (lacking_is x at m es room ∙ ap (λ (y : CachedFile). lacking y at) there)
    ∙ ap (λ k. set fs (k - 1) (lacking (file_in fs f) at)) is ∙ file_set fs f (lacking (file_in fs f) at) some

pub orders_are : (os : List Ranking) (p f at n : ℕ) (r s : Ranking) → n ≡ p → 0 < p → r ≡ order_in os p
    → s ≡ evicted_at r f at → set os (n - 1) s ≡ with_evicted os p f at
orders_are os p f at n r s is some there gone =
    ap (set os (n - 1)) (gone ∙ ap (λ (y : Ranking). evicted_at y f at) there)
    ∙ ap (λ k. set os (k - 1) (evicted_at (order_in os p) f at)) is
    ∙ order_set os p (evicted_at (order_in os p) f at) some
