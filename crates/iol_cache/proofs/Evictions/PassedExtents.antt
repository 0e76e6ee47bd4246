-- Extents that a search passed, after an eviction.
use Rattle.std.proofs.Common.{inl, inr, ◌≡◌, ℕ, ◌<◌, ◌≤◌, ◌==◌, Bool, true, false, cond, List, [], ◌∷◌, length, get_or}
use Rattle.std.proofs.Common.{Some, sym, ap, ◌∙◌, arith, subst}
use Rattle.std.specs.List.{list_any}
use Rattle.std.proofs.lemmas.Bool.{cases_eq}
use Rattle.std.proofs.lemmas.Bool.Decides.{nat_tests}
use Rattle.std.proofs.lemmas.List.Elements.{All-from_get_or}
use Rattle.iol_hold.specs.StoreState.{Stored}
use Rattle.iol_hold.specs.Moves.{Counts}
use Rattle.iol_hold.specs.declared.slices.Slice.{Slice}
use Rattle.iol_extent.specs.Extents.{Extent, IsApart, end_of, begins_at, without_at}
use Rattle.iol_evict.specs.declared.entry.Entry.{Entry}
use Rattle.iol_evict.specs.declared.entry.Rank.{Rank}
use Rattle.iol_evict.specs.Order.{Ranking, evicted_at, no_entry}
use Rattle.iol_evict.specs.Ranks.{least_rank}
use Rattle.iol_evict.specs.Victims.{AreUsedBelow}
use Rattle.iol_evict.proofs.Below.{below-least, below-same}
use Rattle.iol_cache.specs.declared.files.CachedFile.{CachedFile}
use Rattle.iol_cache.specs.Marks.{is_held_beside}
use Rattle.iol_cache.specs.CacheState.{file_in, order_in, extents_in, parts_in, parts_at, clean_held, lacking}
use Rattle.iol_cache.specs.CacheState.{without_extent}
use Rattle.iol_cache.specs.Sound.{IsSound}
use Rattle.iol_cache.specs.Evictions.{Holding, in_use, ArePassed, Evicts}
use Rattle.iol_cache.proofs.Extents.FewerExtents.{begins_above}
use Rattle.iol_cache.proofs.Extents.FileEntries.{file_same, file_other, order_same, numbered_bounds, numbered_yes}
use Rattle.iol_cache.proofs.Evictions.Files.{gives_up_none, gives_up_more}
use Rattle.iol_cache.proofs.Evictions.Pins.{beside_same}
use Rattle.iol_cache.proofs.Evictions.RankedEntries.{entry_counts, ranked_clean}
use Rattle.iol_cache.proofs.Extents.HeldSlices.{clean_numbered}

ne_of : (m n : ℕ) → m < n → (m == n) ≡ false
ne_of m n h = grind (arith, nat_tests)

-- an extent that begins at a place after another was removed began there before
begins_left : (low : ℕ) (es : List Extent) (at b : ℕ) (e : Extent) → IsApart low es
    → begins_at (without_at es at) b ≡ Some e → begins_at es b ≡ Some e
begins_left low [] at b e apart h = h
begins_left low (x ∷ xs) at b e apart h = pick (x.at == at) h (begins_left (end_of x) xs at b e apart.2) where
  rest : (c : Bool) → cond c (Some x) (begins_at (without_at xs at) b) ≡ Some e
      → (begins_at (without_at xs at) b ≡ Some e → begins_at xs b ≡ Some e) → cond c (Some x) (begins_at xs b) ≡ Some e
  rest true h ih = h
  rest false h ih = ih h

  pick : (c : Bool) → begins_at (cond c xs (x ∷ without_at xs at)) b ≡ Some e
      → (begins_at (without_at xs at) b ≡ Some e → begins_at xs b ≡ Some e) → begins_at (x ∷ xs) b ≡ Some e
  pick true h ih = let a = begins_above (end_of x) xs b e apart.2 h in
      ap (λ c. cond c (Some x) (begins_at xs b)) (ne_of x.at b (omega (arith, a.0, a.1, apart.1))) ∙ h
  pick false h ih = rest (x.at == b) h ih

begins_still : (fs : List CachedFile) (f at g b : ℕ) (e : Extent) → (0 < f) × (f ≤ length fs)
    → IsApart 0 (extents_in fs f) → begins_at (extents_in (without_extent fs f at) g) b ≡ Some e
    → begins_at (extents_in fs g) b ≡ Some e
begins_still fs f at g b e numbered apart h =
    let x = lacking (file_in fs f) at in
    elim (cases_eq g f) [
      | inl same ↦ (
          let is : extents_in (without_extent fs f at) g ≡ without_at (extents_in fs f) at =
          ap (extents_in (without_extent fs f at)) same
          ∙ ap (λ (y : CachedFile). y.extents.extents) (file_same fs f x numbered.0 numbered.1) in
          ap (λ n. begins_at (extents_in fs n) b) same
          ∙ begins_left 0 (extents_in fs f) at b e apart (sym (ap (λ es. begins_at es b) is) ∙ h))
      | inr ne ↦ sym (ap (λ (y : CachedFile). begins_at y.extents.extents b) (file_other fs f g x ne)) ∙ h
    ]

-- a remaining extent is as much in use as before
in_use_left : {s t : Stored} (fs gs : List CachedFile) (g b : ℕ) → Counts s t (clean_held fs) (clean_held gs)
    → parts_at gs g b ≡ parts_at fs g b → in_use t gs g b ≡ in_use s fs g b
unfolding in_use
in_use_left {s = s} {t = t} fs gs g b counts same =
    ap (list_any (λ (x : Slice). is_held_beside t (clean_held gs) x.hold.buf)) same
    ∙ (λ i. list_any (λ (x : Slice). beside_same {s = s} {t = t} {clean = clean_held fs} {left = clean_held gs}
    x.hold.buf counts i) (parts_at fs g b))

-- so the extents below a rank stay in use, if the order keeps them below it
pub passed_evicted : (old new : Holding) (f at : ℕ) (was now : Rank) (r s : Ranking) → IsSound old.store old.cache
    → IsSound new.store new.cache → Evicts f at old new → r ≡ order_in old.cache.orders (file_in old.cache.files f).pool
    → s ≡ evicted_at r f at → ((u : ℕ → ℕ → Bool) → AreUsedBelow u was r.entries → AreUsedBelow u now s.entries)
    → ArePassed was (file_in old.cache.files f).pool old → ArePassed now (file_in old.cache.files f).pool new
passed_evicted old new f at was now r s sound sound' gone there next keeps passed =
    let fs = old.cache.files in
    let gs = new.cache.files in
    let os = old.cache.orders in
    let p = (file_in fs f).pool in
    let n = clean_numbered gone.there in
    let b = numbered_bounds os p (sound.opened f (numbered_yes fs f n.0 n.1)).ordered in
    let is : s ≡ order_in new.cache.orders p = next ∙ ap (λ (x : Ranking). evicted_at x f at) there
    ∙ sym (ap (λ l. order_in l p) gone.orders ∙ order_same os p (evicted_at (order_in os p) f at) b.0 b.1) in
    let counts = (gives_up_more old old new f at (gives_up_none old) sound gone).clean in
    let u = in_use old.store fs in
    let v = in_use new.store gs in
    let es = (order_in new.cache.orders p).entries in
    let was_used =
    subst (λ (x : Ranking). AreUsedBelow u now x.entries) is
    (keeps u (subst (λ (x : Ranking). AreUsedBelow u was x.entries) (sym there) passed)) in
    let same = All-from_get_or (λ (e : Entry). v e.file e.at ≡ u e.file e.at) es no_entry (λ k within. (
    let e = get_or es k no_entry in
    let clean =
    ranked_clean gs new.cache.orders p e.file e.at sound'.ranked (sound'.files e.file)
    (entry_counts es k no_entry within) in
    let begins = subst (λ hs. begins_at (extents_in hs e.file) e.at ≡ Some clean.1.extent) gone.files clean.1.begins in
    let before = begins_still fs f at e.file e.at clean.1.extent n (sound.files f).apart begins in
    in_use_left {s = old.store} {t = new.store} fs gs e.file e.at counts
    (ap parts_in (clean.1.begins ∙ sym before)))) in
    below-same u v now es same was_used

-- of the pool that the search is in
pub passed_pool : (p q : ℕ) (was now : Rank) (old new : Holding) → p ≡ q → (ArePassed was p old → ArePassed now p new)
    → ArePassed was q old → ArePassed now q new
passed_pool p q was now old new same keeps passed =
    subst (λ n. ArePassed now n new) same (keeps (subst (λ n. ArePassed was n old) (sym same) passed))

pub passed_least : (p : ℕ) (rank : Rank) (h : Holding) → rank ≡ least_rank → ArePassed rank p h
passed_least p rank h is =
    subst (λ (r : Rank). ArePassed r p h) (sym is)
    (below-least (in_use h.store h.cache.files) (order_in h.cache.orders p).entries)
