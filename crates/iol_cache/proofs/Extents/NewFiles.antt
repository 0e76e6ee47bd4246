-- A cache of no files, and one file more.
use Rattle.std.proofs.Common.{inl, inr, ◌≡◌, ◌⊎◌, length-append, ℕ, zero, suc, ◌+◌, ◌-◌, ◌<◌, ◌≤◌, ◌^◌, Bool, true}
use Rattle.std.proofs.Common.{false, cond, eqb, List, [], ◌∷◌, ◌++◌, length, get_or, refl, sym, ap, ◌∙◌, arith, subst}
use Rattle.std.specs.Prelude.{replicate, flat_map}
use Rattle.std.proofs.lemmas.Bool.{cases_lt}
use Rattle.std.proofs.lemmas.Bool.Decides.{nat_tests}
use Rattle.std.proofs.lemmas.List.{append-nil}
use Rattle.std.proofs.lemmas.Grind.{common_steps, flat_map-append}
use Rattle.iol_core.specs.NumberedLists.{is_numbered}
use Rattle.iol_core.specs.declared.limits.TheConstants.{MAX_FILES}
use Rattle.iol_core.proofs.Lookups.{numbered_or-push}
use Rattle.iol_arena.specs.State.{page_count}
use Rattle.iol_pool.specs.Pools.{pool_in}
use Rattle.iol_hold.specs.Moves.{tally}
use Rattle.iol_hold.specs.StoreState.{Stored, IsTidy, IsStill}
use Rattle.iol_hold.specs.Texts.{bufs_of}
use Rattle.iol_hold.proofs.Counts.{tally_none}
use Rattle.iol_hold.proofs.Rooms.{open_numbered}
use Rattle.iol_evict.specs.Order.{Ranking}
use Rattle.iol_cache.specs.declared.files.CachedFile.{CachedFile}
use Rattle.iol_cache.specs.Marks.{at_page}
use Rattle.iol_cache.specs.CacheState.{AreReady, Cached, file_in, no_file, new_file, order_in, no_order, held}
use Rattle.iol_cache.specs.CacheState.{clean_held, all_parts, clean_in, clean_of, clean_at, entries_at}
use Rattle.iol_cache.specs.Sound.{IsFiled, IsSound}
use Rattle.iol_cache.proofs.Evictions.Marks.{at_page-none}
use Rattle.iol_cache.proofs.Evictions.Ready.{ready_pushed}
use Rattle.iol_cache.proofs.Extents.FileEntries.{numbered_bounds, numbered_yes, file_nowhere, order_nowhere}

filed_new : (s : Stored) (p : ℕ) → IsFiled s (new_file p)
filed_new s p = record { apart = tt; laid = tt; short = omega arith }

if_none : (b : Bool) → cond {A = ℕ} b 0 0 ≡ 0
if_none true = refl
if_none false = refl

zeros : (n p : ℕ) → ◌≡◌ {A = ℕ} (get_or (replicate n 0) p 0) 0
zeros zero p = refl
zeros (suc n) zero = refl
zeros (suc n) (suc p) = zeros n p

long : (n : ℕ) → length (replicate {A = ℕ} n 0) ≡ n
long zero = refl
long (suc n) = omega (arith, long n)

pub sound_new : (s : Stored) (c : Cached) (n : ℕ) → c.files ≡ [] → c.orders ≡ [] → c.marks ≡ replicate n 0
    → page_count s.arena ≡ n → IsTidy s → IsStill s.arena → IsSound s c
unfolding held clean_held
sound_new s c n files orders marks pages tidy still = record {
  files =
      λ f. subst (λ fs. IsFiled s (file_in fs f)) (sym files)
      (subst (IsFiled s) (sym (file_nowhere [] f (none f))) (filed_new s 0));
  opened = λ f is. (let b = numbered_bounds c.files f is in absurd (omega (arith, b.0, b.1, ap length files)));
  covered =
      record {
        each =
            λ b. omega (
              arith,
              ap (λ fs. tally b (flat_map (λ (x : CachedFile). bufs_of (all_parts x.extents.extents)) fs))
                  files,
              tally_none b,
            );
      };
  marked =
      record {
        each = λ p. ap (λ ms. get_or ms p 0) marks ∙ zeros n p
            ∙ sym (ap (λ fs. at_page p (flat_map (λ (x : CachedFile). bufs_of (clean_in x.extents.extents)) fs)) files
            ∙ at_page-none p);
      };
  pages = ap length marks ∙ long n ∙ sym pages;
  ranked =
      record {
        each = λ p f at. ap (λ os. entries_at f at (order_in os p).entries) orders
            ∙ ap (λ (r : Ranking). entries_at f at r.entries) (order_nowhere [] p (λ h. h))
            ∙ sym (ap (λ fs. clean_of fs p f at) files
            ∙ ap (λ (x : CachedFile). cond {A = ℕ} (eqb x.pool p) (clean_at at x.extents.extents) 0)
            (file_nowhere [] f (none f)) ∙ if_none (eqb 0 p));
      };
  ready =
      subst (λ fs. AreReady fs c.orders) (sym files)
      (subst (AreReady []) (sym orders)
      (record { each = λ p. ap (λ (r : Ranking). r.kept) (order_nowhere [] p (λ h. h)) }));
  few_files = omega (arith, ap length files);
  few_orders = omega (arith, ap length orders);
  tidy = tidy;
  still = still;
}
  where
    none : (f : ℕ) → is_numbered {A = CachedFile} [] f ≡ false
    none f = grind (arith, nat_tests)

file_push : (fs : List CachedFile) (x : CachedFile) (f : ℕ) → (file_in (fs ++ x ∷ []) f ≡ file_in fs f)
    ⊎ ((file_in fs f ≡ no_file) × (file_in (fs ++ x ∷ []) f ≡ x))
unfolding file_in
file_push fs x f = numbered_or-push fs f x no_file

file_last : (fs : List CachedFile) (x : CachedFile) (f : ℕ) → f ≡ length fs + 1 → file_in (fs ++ x ∷ []) f ≡ x
unfolding file_in
file_last fs x f is = let nz : f ≡ 0 → ⊥ = λ e. absurd (omega (arith, e, is)) in let back : f - 1 ≡ length fs =
    omega (arith, is) in grind (arith, nat_tests, common_steps, nz, back)

file_first : (fs : List CachedFile) (x : CachedFile) (f : ℕ) → 0 < f → f ≤ length fs
    → file_in (fs ++ x ∷ []) f ≡ file_in fs f
unfolding file_in
file_first fs x f h k = let nz : f ≡ 0 → ⊥ = λ e. absurd (omega (arith, e, h)) in let l : f - 1 < length fs =
    omega (arith, h, k) in grind (arith, nat_tests, common_steps, nz, l)

pub order_push : (os : List Ranking) (p : ℕ) → order_in (os ++ no_order ∷ []) p ≡ order_in os p
unfolding order_in
order_push os p = elim (numbered_or-push os p no_order no_order) [ inl e ↦ e | inr e ↦ e.1 ∙ sym e.0 ]

pub sound_added : (s : Stored) (c d : Cached) (p : ℕ) → IsSound s c → length c.files < MAX_FILES
    → (pool_in s.pools p).closed ≡ false → d.files ≡ c.files ++ new_file p ∷ []
    → ((q : ℕ) → order_in d.orders q ≡ order_in c.orders q) → p ≤ length d.orders → length c.orders ≤ length d.orders
    → length d.orders < 2 ^ 32 → d.marks ≡ c.marks → IsSound s d
unfolding held clean_held
sound_added s c d p sound more is files orders enough no_fewer few marks = record {
  files = λ f. subst (λ fs. IsFiled s (file_in fs f)) (sym files) (elim (file_push c.files (new_file p) f) [
    | inl e ↦ subst (IsFiled s) (sym e) (sound.files f)
    | inr e ↦ subst (IsFiled s) (sym e.1) (filed_new s p)
  ]);
  opened = λ f there. (
      let b = numbered_bounds d.files f there in
      let n : length d.files ≡ length c.files + 1 = ap length files
      ∙ omega (arith, length-append c.files (new_file p ∷ [])) in
      elim (cases_lt (length c.files) f) [
        | inl past ↦ (
            let e = ap (λ fs. file_in fs f) files ∙ file_last c.files (new_file p) f (omega (arith, past, b.1, n)) in
            let q = ap (λ (x : CachedFile). x.pool) e in
            let o = numbered_bounds s.pools p (open_numbered s.pools p is) in
            record {
              is_open = ap (λ k. (pool_in s.pools k).closed) q ∙ is;
              ordered = ap (is_numbered d.orders) q
                  ∙ numbered_yes d.orders p o.0 enough;
            })
        | inr within ↦ (
            let e = ap (λ fs. file_in fs f) files ∙ file_first c.files (new_file p) f b.0 within in
            let q = ap (λ (x : CachedFile). x.pool) e in
            let o = sound.opened f (numbered_yes c.files f b.0 within) in
            let ob = numbered_bounds c.orders (file_in c.files f).pool o.ordered in
            record {
              is_open = ap (λ k. (pool_in s.pools k).closed) q ∙ o.is_open;
              ordered = ap (is_numbered d.orders) q
                  ∙ numbered_yes d.orders (file_in c.files f).pool ob.0 (omega (arith, ob.1, no_fewer));
            })
      ]);
  covered =
      record {
        each =
            λ b. omega (
              arith,
              sound.covered.each b,
              ap (tally b) (ap (flat_map (λ (x : CachedFile). bufs_of (all_parts x.extents.extents))) files
                  ∙ flat_map-append (λ (x : CachedFile). bufs_of (all_parts x.extents.extents)) c.files
                  (new_file p ∷ [])
                  ∙ append-nil (flat_map (λ (x : CachedFile). bufs_of (all_parts x.extents.extents)) c.files)),
            );
      };
  marked =
      record {
        each = λ q. ap (λ ms. get_or ms q 0) marks ∙ sound.marked.each q
            ∙ sym (ap (at_page q) (ap (flat_map (λ (x : CachedFile). bufs_of (clean_in x.extents.extents))) files
            ∙ flat_map-append (λ (x : CachedFile). bufs_of (clean_in x.extents.extents)) c.files (new_file p ∷ [])
            ∙ append-nil (flat_map (λ (x : CachedFile). bufs_of (clean_in x.extents.extents)) c.files)));
      };
  pages = ap length marks ∙ sound.pages;
  ranked =
      record {
        each = λ q f at. ap (λ (r : Ranking). entries_at f at r.entries) (orders q) ∙ sound.ranked.each q f at
            ∙ sym (ap (λ fs. clean_of fs q f at) files ∙ same q f at);
      };
  ready = subst (λ fs. AreReady fs d.orders) (sym files) (ready_pushed c.files c.orders d.orders p orders sound.ready);
  few_files = omega (arith, ap length files, length-append c.files (new_file p ∷ []), more);
  few_orders = few;
  tidy = sound.tidy;
  still = sound.still;
}
  where
    same : (q f at : ℕ) → clean_of (c.files ++ new_file p ∷ []) q f at ≡ clean_of c.files q f at
    same q f at = elim (file_push c.files (new_file p) f) [
      | inl e ↦ ap (λ (x : CachedFile). cond {A = ℕ} (eqb x.pool q) (clean_at at x.extents.extents) 0) e
      | inr e ↦ ap (λ (x : CachedFile). cond {A = ℕ} (eqb x.pool q) (clean_at at x.extents.extents) 0) e.1
          ∙ if_none (eqb p q)
          ∙ sym (ap (λ (x : CachedFile). cond {A = ℕ} (eqb x.pool q) (clean_at at x.extents.extents) 0) e.0
          ∙ if_none (eqb 0 q))
    ]
