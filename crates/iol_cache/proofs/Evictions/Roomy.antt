-- Reserved room and counted hits do not change what a cache represents.
use Rattle.std.proofs.Common.{inl, inr, ◌≡◌, ℕ, zero, suc, ◌+◌, ◌-◌, ◌<◌, ◌≤◌, Bool, true, false, cond, eqb, List, []}
use Rattle.std.specs.List.{AllByRecursion}
use Rattle.std.proofs.Common.{◌∷◌, ◌++◌, length, get_or, set, Option, Some, None, refl, sym, ap, ◌∙◌, arith, subst}
use Rattle.std.specs.Prelude.{flat_map}
use Rattle.std.proofs.lemmas.Bool.{cases_eq}
use Rattle.std.proofs.lemmas.Bool.Decides.{nat_tests}
use Rattle.std.proofs.lemmas.List.Concat.{flat_map-cons}
use Rattle.iol_arena.specs.State.{pages_for}
use Rattle.iol_core.specs.NumberedLists.{is_numbered, numbered_or, with_numbered}
use Rattle.iol_core.specs.declared.numbers.BufId.{BufId}
use Rattle.iol_pool.specs.Pools.{pool_in}
use Rattle.iol_hold.specs.Moves.{Covers}
use Rattle.iol_hold.specs.StoreState.{Stored}
use Rattle.iol_hold.specs.Texts.{bufs_of}
use Rattle.iol_extent.specs.Extents.{Extent, IsApart, last_end, extent_over}
use Rattle.iol_extent.specs.Spans.{AreInOrder}
use Rattle.iol_extent.specs.declared.spans.Span.{Span}
use Rattle.iol_evict.specs.Order.{Ranking, hit_at}
use Rattle.iol_cache.specs.declared.files.CachedFile.{CachedFile}
use Rattle.iol_cache.specs.CacheState.{AreReady, Cached, file_in, with_file, no_file, order_in, with_order, extents_in}
use Rattle.iol_cache.specs.CacheState.{all_parts, clean_in, held, clean_held, clean_of, clean_at, entries_at}
use Rattle.iol_cache.specs.Gaps.{gap_pages}
use Rattle.iol_cache.specs.ReadSteps.{CountsHits}
use Rattle.iol_cache.specs.Marks.{Counted}
use Rattle.iol_cache.specs.RangeReads.{SameButRoom, RanksFile, hit_counted, hits_counted}
use Rattle.iol_cache.specs.Sound.{IsLaid, IsFiled, IsSound}
use Rattle.iol_cache.proofs.Extents.FileEntries.{file_same, file_other, order_same, order_other, length-with_file}
use Rattle.iol_cache.proofs.Extents.FileEntries.{length-with_order, numbered_bounds, numbered_yes}
use Rattle.iol_cache.proofs.Evictions.Entries.{hit_entries}
use Rattle.iol_cache.proofs.Evictions.Ready.{hits_kept, ready_hits, ready_same}

-- gaps need no more pages than they have bytes
pub gap_few : (low high : ℕ) (gs : List Span) → AreInOrder low high gs → gap_pages gs + low ≤ high
unfolding pages_for
gap_few low high [] order = omega (arith, order)
gap_few low high (g ∷ gs) order = omega (arith, gap_few g.to high gs order.2, order.0, order.1)

-- Lists of files in which one changed and its slices did not.

flat-set : (g : CachedFile → List BufId) (fs : List CachedFile) (i : ℕ) (x d : CachedFile) → g x ≡ g (get_or fs i d)
    → flat_map g (set fs i x) ≡ flat_map g fs
flat-set g [] i x d e = refl
flat-set g (y ∷ fs) zero x d e = flat_map-cons g x fs ∙ ap (λ t. t ++ flat_map g fs) e ∙ sym (flat_map-cons g y fs)
flat-set g (y ∷ fs) (suc i) x d e = flat_map-cons g y (set fs i x) ∙ ap (λ t. g y ++ t) (flat-set g fs i x d e)
    ∙ sym (flat_map-cons g y fs)

flat-with : (g : CachedFile → List BufId) (fs : List CachedFile) (f : ℕ) (x : CachedFile) → g x ≡ g (file_in fs f)
    → flat_map g (with_file fs f x) ≡ flat_map g fs
unfolding file_in with_file
flat-with g fs f x e = elim (cases_eq f 0) [
  | inl k ↦ grind (arith, nat_tests, k)
  | inr k ↦ (
      let is : numbered_or fs f no_file ≡ get_or fs (f - 1) no_file = grind (arith, nat_tests, k) in
      let there : with_numbered fs f x ≡ set fs (f - 1) x = grind (arith, nat_tests, k) in
      ap (flat_map g) there ∙ flat-set g fs (f - 1) x no_file (e ∙ ap g is))
]

pub held-same : (fs : List CachedFile) (f : ℕ) (x : CachedFile) → x.extents.extents ≡ extents_in fs f
    → held (with_file fs f x) ≡ held fs
unfolding held
held-same fs f x e =
    flat-with (λ (y : CachedFile). bufs_of (all_parts y.extents.extents)) fs f x
    (ap (λ (es : List Extent). bufs_of (all_parts es)) e)

pub clean_held-same : (fs : List CachedFile) (f : ℕ) (x : CachedFile) → x.extents.extents ≡ extents_in fs f
    → clean_held (with_file fs f x) ≡ clean_held fs
unfolding clean_held
clean_held-same fs f x e =
    flat-with (λ (y : CachedFile). bufs_of (clean_in y.extents.extents)) fs f x
    (ap (λ (es : List Extent). bufs_of (clean_in es)) e)

-- one file has different room, and so have the orders
pub same_room : (c d : Cached) (f : ℕ) (x : CachedFile) → (0 < f) × (f ≤ length c.files)
    → d.files ≡ with_file c.files f x → x.pool ≡ (file_in c.files f).pool → x.extents.extents ≡ extents_in c.files f
    → ((p : ℕ) → (order_in d.orders p).entries ≡ (order_in c.orders p).entries)
    → ((p : ℕ) → (order_in d.orders p).low ≡ (order_in c.orders p).low)
    → ((p : ℕ) → (order_in d.orders p).kept ≡ (order_in c.orders p).kept) → length d.orders ≡ length c.orders
    → d.marks ≡ c.marks → SameButRoom c d
same_room c d f x numbered files pool extents entries low kept orders marks = record {
  pools = λ g. ap (λ fs. (file_in fs g).pool) files ∙ elim (cases_eq g f) [
    | inl same ↦ ap (λ n. (file_in (with_file c.files f x) n).pool) same
        ∙ ap (λ (y : CachedFile). y.pool) (file_same c.files f x numbered.0 numbered.1) ∙ pool
        ∙ ap (λ n. (file_in c.files n).pool) (sym same)
    | inr ne ↦ ap (λ (y : CachedFile). y.pool) (file_other c.files f g x ne)
  ];
  extents = λ g. ap (λ fs. extents_in fs g) files ∙ elim (cases_eq g f) [
    | inl same ↦ ap (λ n. extents_in (with_file c.files f x) n) same
        ∙ ap (λ (y : CachedFile). y.extents.extents) (file_same c.files f x numbered.0 numbered.1) ∙ extents
        ∙ ap (λ n. extents_in c.files n) (sym same)
    | inr ne ↦ ap (λ (y : CachedFile). y.extents.extents) (file_other c.files f g x ne)
  ];
  files = ap length files ∙ length-with_file c.files f x;
  held = ap held files ∙ held-same c.files f x extents;
  clean = ap clean_held files ∙ clean_held-same c.files f x extents;
  entries = entries;
  low = low;
  kept = kept;
  orders = orders;
  marks = marks;
}

-- one order has different room
pub order_room : (os : List Ranking) (p : ℕ) (r : Ranking) (q : ℕ) → (0 < p) × (p ≤ length os)
    → r.entries ≡ (order_in os p).entries → (order_in (with_order os p r) q).entries ≡ (order_in os q).entries
order_room os p r q numbered e = elim (cases_eq q p) [
  | inl same ↦ ap (λ n. (order_in (with_order os p r) n).entries) same
      ∙ ap (λ (x : Ranking). x.entries) (order_same os p r numbered.0 numbered.1) ∙ e
      ∙ ap (λ n. (order_in os n).entries) (sym same)
  | inr ne ↦ ap (λ (x : Ranking). x.entries) (order_other os p q r ne)
]

pub order_low : (os : List Ranking) (p : ℕ) (r : Ranking) (q : ℕ) → (0 < p) × (p ≤ length os)
    → r.low ≡ (order_in os p).low → (order_in (with_order os p r) q).low ≡ (order_in os q).low
order_low os p r q numbered e = elim (cases_eq q p) [
  | inl same ↦ ap (λ n. (order_in (with_order os p r) n).low) same
      ∙ ap (λ (x : Ranking). x.low) (order_same os p r numbered.0 numbered.1) ∙ e
      ∙ ap (λ n. (order_in os n).low) (sym same)
  | inr ne ↦ ap (λ (x : Ranking). x.low) (order_other os p q r ne)
]

pub order_kept : (os : List Ranking) (p : ℕ) (r : Ranking) (q : ℕ) → (0 < p) × (p ≤ length os)
    → r.kept ≡ (order_in os p).kept → (order_in (with_order os p r) q).kept ≡ (order_in os q).kept
order_kept os p r q numbered e = elim (cases_eq q p) [
  | inl same ↦ ap (λ n. (order_in (with_order os p r) n).kept) same
      ∙ ap (λ (x : Ranking). x.kept) (order_same os p r numbered.0 numbered.1) ∙ e
      ∙ ap (λ n. (order_in os n).kept) (sym same)
  | inr ne ↦ ap (λ (x : Ranking). x.kept) (order_other os p q r ne)
]

pub filed_same : (s : Stored) (x y : CachedFile) → y.pool ≡ x.pool → y.extents.extents ≡ x.extents.extents → IsFiled s x
    → IsFiled s y
filed_same s x y pool es filed = record {
  apart = subst (IsApart 0) (sym es) filed.apart;
  laid =
      subst (λ (zs : List Extent). AllByRecursion (IsLaid s y.pool) zs) (sym es)
      (subst (λ p. AllByRecursion (IsLaid s p) x.extents.extents) (sym pool) filed.laid);
  short = omega (arith, filed.short, ap last_end es);
}

pub sound_same : (s : Stored) (c d : Cached) → IsSound s c → SameButRoom c d → IsSound s d
sound_same s c d sound same = record {
  files = λ f. filed_same s (file_in c.files f) (file_in d.files f) (same.pools f) (same.extents f) (sound.files f);
  opened = λ f is. (
      let b = numbered_bounds d.files f is in
      let o = sound.opened f (numbered_yes c.files f b.0 (omega (arith, b.1, same.files))) in
      let ob = numbered_bounds c.orders (file_in c.files f).pool o.ordered in
      record {
        is_open = ap (λ p. (pool_in s.pools p).closed) (same.pools f) ∙ o.is_open;
        ordered =
            ap (is_numbered d.orders) (same.pools f)
            ∙ numbered_yes d.orders (file_in c.files f).pool ob.0 (omega (arith, ob.1, same.orders));
      });
  covered = subst (Covers s) (sym same.held) sound.covered;
  marked =
      subst (λ bs. Counted d.marks bs) (sym same.clean)
      (subst (λ ms. Counted ms (clean_held c.files)) (sym same.marks) sound.marked);
  pages = ap length same.marks ∙ sound.pages;
  ranked = record {
    each = λ p f at. ap (entries_at f at) (same.entries p) ∙ sound.ranked.each p f at
        ∙ sym (ap (λ n. cond {A = ℕ} (eqb n p) (clean_at at (extents_in d.files f)) 0) (same.pools f)
        ∙ ap (λ (es : List Extent). cond {A = ℕ} (eqb (file_in c.files f).pool p) (clean_at at es) 0) (same.extents f));
  };
  ready = ready_same c d same sound.ready;
  few_files = omega (arith, same.files, sound.few_files);
  few_orders = omega (arith, same.orders, sound.few_orders);
  tidy = sound.tidy;
  still = sound.still;
}

-- Hits.

pub hits_entries : (r : Ranking) (f : ℕ) (es : List Extent) (ss : List Span) (g b : ℕ)
    → entries_at g b (hits_counted r f es ss).entries ≡ entries_at g b r.entries
hits_entries r f es [] g b = refl
hits_entries r f es (s ∷ ss) g b = hits_entries (hit_counted r f (extent_over es s.from)) f es ss g b
    ∙ one (extent_over es s.from)
  where
    dirty : (d : Bool) (at : ℕ) → entries_at g b (cond d r (hit_at r f at)).entries ≡ entries_at g b r.entries
    dirty true at = refl
    dirty false at = hit_entries r f at g b

    one : (o : Option Extent) → entries_at g b (hit_counted r f o).entries ≡ entries_at g b r.entries
    one None = refl
    one (Some e) = dirty e.dirty e.at

pub ranks_file : (s : Stored) (c : Cached) (f : ℕ) → IsSound s c
    → RanksFile (order_in c.orders (file_in c.files f).pool) f (extents_in c.files f)
ranks_file s c f sound =
    record {
      each = λ at. sound.ranked.each (file_in c.files f).pool f at
          ∙ self (file_in c.files f).pool (clean_at at (extents_in c.files f));
    }
  where
    self : (n k : ℕ) → cond {A = ℕ} (eqb n n) k 0 ≡ k
    self n k = grind (arith, nat_tests)

pub sound_hits : (s : Stored) (c d : Cached) (f : ℕ) (ss : List Span) → IsSound s c → is_numbered c.files f ≡ true
    → CountsHits f ss c d → IsSound s d
sound_hits s c d f ss sound numbered hits =
    let p = (file_in c.files f).pool in
    let r = hits_counted (order_in c.orders p) f (extents_in c.files f) ss in
    let ob = numbered_bounds c.orders p (sound.opened f numbered).ordered in
    let long : length d.orders ≡ length c.orders = ap length hits.orders ∙ length-with_order c.orders p r in
    record {
      files = λ g. subst (λ fs. IsFiled s (file_in fs g)) (sym hits.files) (sound.files g);
      opened = λ g is. (
          let o = sound.opened g (ap (λ fs. is_numbered fs g) (sym hits.files) ∙ is) in
          let pool = ap (λ fs. (file_in fs g).pool) hits.files in
          let b = numbered_bounds c.orders (file_in c.files g).pool o.ordered in
          record {
            is_open = ap (λ k. (pool_in s.pools k).closed) pool ∙ o.is_open;
            ordered =
                ap (is_numbered d.orders) pool
                ∙ numbered_yes d.orders (file_in c.files g).pool b.0 (omega (arith, b.1, long));
          });
      covered = subst (λ fs. Covers s (held fs)) (sym hits.files) sound.covered;
      marked =
          subst (λ fs. Counted d.marks (clean_held fs)) (sym hits.files)
          (subst (λ ms. Counted ms (clean_held c.files)) (sym hits.marks) sound.marked);
      pages = ap length hits.marks ∙ sound.pages;
      ranked = record {
        each = λ q g b. ap (λ os. entries_at g b (order_in os q).entries) hits.orders ∙ elim (cases_eq q p) [
          | inl same ↦ ap (λ n. entries_at g b (order_in (with_order c.orders p r) n).entries) same
              ∙ ap (λ (x : Ranking). entries_at g b x.entries) (order_same c.orders p r ob.0 ob.1)
              ∙ hits_entries (order_in c.orders p) f (extents_in c.files f) ss g b
              ∙ ap (λ n. entries_at g b (order_in c.orders n).entries) (sym same)
          | inr ne ↦ ap (λ (x : Ranking). entries_at g b x.entries) (order_other c.orders p q r ne)
        ] ∙ sound.ranked.each q g b ∙ ap (λ fs. clean_of fs q g b) (sym hits.files);
      };
      ready =
          subst (λ fs. AreReady fs d.orders) (sym hits.files)
          (subst (AreReady c.files) (sym hits.orders)
          (ready_hits c.files c.orders p r ob (hits_kept (order_in c.orders p) f (extents_in c.files f) ss)
          sound.ready));
      few_files = omega (arith, ap length hits.files, sound.few_files);
      few_orders = omega (arith, long, sound.few_orders);
      tidy = sound.tidy;
      still = sound.still;
    }
