-- A cache of which the extents of a file changed.
use Rattle.std.proofs.Common.{inl, inr, ◌≡◌, ◌∙◌, ℕ, ◌+◌, ◌<◌, ◌≤◌, true, cond, eqb, List, ◌++◌, length, refl, sym, ap}
use Rattle.std.specs.List.{AllByRecursion}
use Rattle.std.proofs.Common.{arith, subst}
use Rattle.std.proofs.lemmas.Bool.{cases_eq}
use Rattle.std.proofs.lemmas.Bool.Decides.{nat_tests}
use Rattle.iol_core.specs.NumberedLists.{is_numbered}
use Rattle.iol_core.specs.declared.limits.TheConstants.{MAX_FILE_BYTES}
use Rattle.iol_core.specs.declared.numbers.BufId.{BufId}
use Rattle.iol_pool.specs.Pools.{Pool, pool_in}
use Rattle.iol_hold.specs.Moves.{tally, Covers}
use Rattle.iol_hold.specs.Texts.{bufs_of}
use Rattle.iol_hold.specs.declared.slices.Slice.{Slice}
use Rattle.iol_hold.proofs.Counts.{bufs-append, tally-append}
use Rattle.iol_extent.specs.Extents.{Extent, last_end}
use Rattle.iol_evict.specs.Order.{Ranking}
use Rattle.iol_cache.specs.declared.files.CachedFile.{CachedFile}
use Rattle.iol_cache.specs.Marks.{at_page}
use Rattle.iol_cache.specs.CacheState.{AreReady, file_in, with_file, order_in, with_order, extents_in, all_parts}
use Rattle.iol_cache.specs.CacheState.{clean_in, held, clean_held, clean_of, clean_at, entries_at}
use Rattle.iol_cache.specs.Evictions.{Holding}
use Rattle.iol_cache.specs.Sound.{IsLaid, IsFiled, IsSound}
use Rattle.iol_cache.specs.Writes.{Changes}
use Rattle.iol_cache.proofs.Extents.FewerExtents.{laid_stays}
use Rattle.iol_cache.proofs.Extents.FileEntries.{file_same, file_other, order_same, order_other, length-with_file}
use Rattle.iol_cache.proofs.Extents.FileEntries.{length-with_order, numbered_bounds, numbered_yes, IsAdditive}
use Rattle.iol_cache.proofs.Extents.FileEntries.{additive_tally, additive_page, sum-flat, sum-with_file}
use Rattle.iol_cache.proofs.Evictions.Ready.{ready_changed}
use Rattle.iol_cache.proofs.Evictions.Roomy.{ranks_file}
use Rattle.iol_cache.proofs.Extents.HeldSlices.{covers_file}

-- Sums over the file that changed.

held_change : (h : List BufId → ℕ) → IsAdditive h → (fs : List CachedFile) (f : ℕ) (x : CachedFile)
    → (0 < f) × (f ≤ length fs) → h (held (with_file fs f x)) + h (bufs_of (all_parts (extents_in fs f)))
    ≡ h (held fs) + h (bufs_of (all_parts x.extents.extents))
unfolding held
held_change h a fs f x numbered =
    let g : CachedFile → List BufId = λ y. bufs_of (all_parts y.extents.extents) in
    omega (
      arith,
      sum-flat a g fs,
      sum-flat a g (with_file fs f x),
      sum-with_file (λ y. h (g y)) fs f x numbered.0 numbered.1,
    )

clean_change : (h : List BufId → ℕ) → IsAdditive h → (fs : List CachedFile) (f : ℕ) (x : CachedFile)
    → (0 < f) × (f ≤ length fs) → h (clean_held (with_file fs f x)) + h (bufs_of (clean_in (extents_in fs f)))
    ≡ h (clean_held fs) + h (bufs_of (clean_in x.extents.extents))
unfolding clean_held
clean_change h a fs f x numbered =
    let g : CachedFile → List BufId = λ y. bufs_of (clean_in y.extents.extents) in
    omega (
      arith,
      sum-flat a g fs,
      sum-flat a g (with_file fs f x),
      sum-with_file (λ y. h (g y)) fs f x numbered.0 numbered.1,
    )

-- The cache after the change.

module _ (old new : Holding) (f : ℕ) (own : List Slice) (sound : IsSound old.store old.cache)
    (there : is_numbered old.cache.files f ≡ true) (puts : Changes f own old new)
    (held_all : Covers old.store (held old.cache.files ++ bufs_of own)) where
  abbrev fs : List CachedFile
  fs = old.cache.files

  abbrev pool : ℕ
  pool = (file_in fs f).pool

  abbrev es : List Extent
  es = extents_in fs f

  abbrev x : CachedFile
  x = record { pool = pool; extents = puts.extents }

  numbered : (0 < f) × (f ≤ length fs)
  numbered = numbered_bounds fs f there

  pub held_is : (b : BufId) → tally b (held new.cache.files) + tally b (bufs_of (all_parts es)) ≡ tally b (held fs)
      + tally b (bufs_of (all_parts puts.extents.extents))
  held_is b = ap (λ l. tally b (held l) + tally b (bufs_of (all_parts es))) puts.files
      ∙ held_change (tally b) (additive_tally b) fs f x numbered

  pub covers_new : Covers new.store (held new.cache.files)
  covers_new = record {
    each = λ b. omega (
      arith,
      held_all.each b,
      tally-append b (held fs) (bufs_of own),
      held_is b,
      puts.moves.counts.each b,
      ap (tally b) (bufs-append (all_parts es) own),
      tally-append b (bufs_of (all_parts es)) (bufs_of own),
    );
  }

  pub file_is : file_in new.cache.files f ≡ x
  file_is = ap (λ l. file_in l f) puts.files ∙ file_same fs f x numbered.0 numbered.1

  pub other_is : (g : ℕ) → (g ≡ f → ⊥) → file_in new.cache.files g ≡ file_in fs g
  other_is g ne = ap (λ l. file_in l g) puts.files ∙ file_other fs f g x ne

  covers_of : (g : ℕ) → Covers new.store (bufs_of (all_parts (extents_in new.cache.files g)))
  covers_of g = covers_file new.cache.files g covers_new

  covers_here : Covers new.store (bufs_of (all_parts puts.extents.extents))
  covers_here = subst (λ (y : CachedFile). Covers new.store (bufs_of (all_parts y.extents.extents))) file_is
      (covers_of f)

  filed : AllByRecursion (IsLaid new.store pool) puts.extents.extents → last_end puts.extents.extents ≤ MAX_FILE_BYTES
      → (g : ℕ)
      → IsFiled new.store (file_in new.cache.files g)
  filed laid short g = elim (cases_eq g f) [
    | inl same ↦
        subst (λ n. IsFiled new.store (file_in new.cache.files n)) (sym same)
        (subst (IsFiled new.store) (sym file_is) (record {
          apart = puts.apart;
          laid = laid;
          short = short;
        }))
    | inr ne ↦ (
        let was = sound.files g in
        let c = subst (λ (y : CachedFile). Covers new.store (bufs_of (all_parts y.extents.extents))) (other_is g ne)
        (covers_of g) in
        subst (IsFiled new.store) (sym (other_is g ne))
        (record {
          apart = was.apart;
          laid =
              laid_stays (file_in fs g).pool (extents_in fs g) puts.moves.stays c was.laid;
          short = was.short;
        }))
  ]

  pub pool_same : (g : ℕ) → (file_in new.cache.files g).pool ≡ (file_in fs g).pool
  pool_same g = elim (cases_eq g f) [
    | inl same ↦ ap (λ n. (file_in new.cache.files n).pool) same ∙ ap (λ (y : CachedFile). y.pool) file_is
        ∙ ap (λ n. (file_in fs n).pool) (sym same)
    | inr ne ↦ ap (λ (y : CachedFile). y.pool) (other_is g ne)
  ]

  pub count_same : length new.cache.files ≡ length fs
  count_same = ap length puts.files ∙ length-with_file fs f x

  ordered : (0 < pool) × (pool ≤ length old.cache.orders)
  ordered = numbered_bounds old.cache.orders pool (sound.opened f there).ordered

  abbrev r : Ranking
  r = order_in old.cache.orders pool

  orders_same : length new.cache.orders ≡ length old.cache.orders
  orders_same = ap length puts.orders ∙ length-with_order old.cache.orders pool puts.order

  if_pool : (m n k : ℕ) → m ≡ n → cond {A = ℕ} (eqb m n) k 0 ≡ k
  if_pool m n k is = grind (arith, nat_tests, is)

  not_pool : (m n k : ℕ) → (m ≡ n → ⊥) → cond {A = ℕ} (eqb m n) k 0 ≡ 0
  not_pool m n k ne = grind (arith, nat_tests, ne)

  of_file : (q b : ℕ) → clean_of new.cache.files q f b ≡ cond {A = ℕ} (eqb pool q) (clean_at b puts.extents.extents) 0
  of_file q b = ap (λ (y : CachedFile). cond {A = ℕ} (eqb y.pool q) (clean_at b y.extents.extents) 0) file_is

  of_other : (q g b : ℕ) → (g ≡ f → ⊥) → clean_of new.cache.files q g b ≡ clean_of fs q g b
  of_other q g b ne =
      ap (λ (y : CachedFile). cond {A = ℕ} (eqb y.pool q) (clean_at b y.extents.extents) 0) (other_is g ne)

  here_ranked : (g b : ℕ) → entries_at g b puts.order.entries ≡ clean_of new.cache.files pool g b
  here_ranked g b = elim (cases_eq g f) [
    | inl same ↦ ap (λ n. entries_at n b puts.order.entries) same
        ∙ (puts.follows.ranked (ranks_file old.store old.cache f sound)).each b
        ∙ sym (if_pool pool pool (clean_at b puts.extents.extents) refl) ∙ sym (of_file pool b)
        ∙ ap (λ n. clean_of new.cache.files pool n b) (sym same)
    | inr ne ↦ puts.follows.others g b ne ∙ sound.ranked.each pool g b ∙ sym (of_other pool g b ne)
  ]

  ranked : (q g b : ℕ) → entries_at g b (order_in new.cache.orders q).entries ≡ clean_of new.cache.files q g b
  ranked q g b = ap (λ os. entries_at g b (order_in os q).entries) puts.orders ∙ elim (cases_eq q pool) [
    | inl same ↦ ap (λ n. entries_at g b (order_in (with_order old.cache.orders pool puts.order) n).entries) same
        ∙ ap (λ (y : Ranking). entries_at g b y.entries)
        (order_same old.cache.orders pool puts.order ordered.0 ordered.1) ∙ here_ranked g b
        ∙ ap (λ n. clean_of new.cache.files n g b) (sym same)
    | inr apart ↦ ap (λ (y : Ranking). entries_at g b y.entries) (order_other old.cache.orders pool q puts.order apart)
        ∙ sound.ranked.each q g b ∙ elim (cases_eq g f) [
          | inl same ↦ ap (λ n. clean_of fs q n b) same ∙ not_pool pool q (clean_at b es) (λ e. apart (sym e))
              ∙ sym (not_pool pool q (clean_at b puts.extents.extents) (λ e. apart (sym e))) ∙ sym (of_file q b)
              ∙ ap (λ n. clean_of new.cache.files q n b) (sym same)
          | inr ne ↦ sym (of_other q g b ne)
        ]
  ]

  pub sound_laid : AllByRecursion (IsLaid new.store pool) puts.extents.extents
      → last_end puts.extents.extents ≤ MAX_FILE_BYTES
      → IsSound new.store new.cache
  sound_laid laid short =
      record {
        files = filed laid short;
        opened = λ g is. (
            let b = numbered_bounds new.cache.files g is in
            let o = sound.opened g (numbered_yes fs g b.0 (omega (arith, b.1, count_same))) in
            let ob = numbered_bounds old.cache.orders (file_in fs g).pool o.ordered in
            record {
              is_open = ap (λ p. (pool_in new.store.pools p).closed) (pool_same g)
                  ∙ ap (λ (y : Pool). y.closed) (puts.pools (file_in fs g).pool o.is_open) ∙ o.is_open;
              ordered =
                  ap (is_numbered new.cache.orders) (pool_same g)
                  ∙ numbered_yes new.cache.orders (file_in fs g).pool ob.0 (omega (arith, ob.1, orders_same));
            });
        covered = covers_new;
        marked =
            record {
              each =
                  λ q. omega (
                    arith,
                    puts.follows.each q,
                    sound.marked.each q,
                    ap (λ l. at_page q (clean_held l)) puts.files,
                    clean_change (at_page q) (additive_page q) fs f x numbered,
                  );
            };
        pages = puts.follows.long ∙ sound.pages ∙ sym puts.pages;
        ranked = record { each = ranked };
        ready =
            subst (λ l. AreReady l new.cache.orders) (sym puts.files)
            (subst (AreReady (with_file fs f x)) (sym puts.orders)
            (ready_changed fs old.cache.orders f x puts.order numbered ordered refl puts.follows.kept sound.ready));
        few_files = omega (arith, count_same, sound.few_files);
        few_orders = omega (arith, orders_same, sound.few_orders);
        tidy = puts.moves.tidy sound.tidy;
        still = puts.moves.still sound.still;
      }

  -- if the extents were already laid in the old store, the cache stays sound
  pub sound_changed : AllByRecursion (IsLaid old.store pool) puts.extents.extents
      → last_end puts.extents.extents ≤ MAX_FILE_BYTES
      → IsSound new.store new.cache
  sound_changed laid short = sound_laid (laid_stays pool puts.extents.extents puts.moves.stays covers_here laid) short
