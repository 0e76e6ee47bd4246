-- A range of a file that is replaced: the order and the marks follow its extents.
use Rattle.std.proofs.Common.{◌≡◌, ℕ, ◌+◌, ◌<◌, ◌≤◌, ◌==◌, ◌&&◌, Bool, true, false, cond, eqb, List, [], ◌∷◌, ◌++◌}
use Rattle.std.proofs.Common.{length, Some, None, IsSome, refl, sym, ap, ◌∙◌, arith}
use Rattle.std.specs.Prelude.{not, sum_by}
use Rattle.std.proofs.lemmas.Bool.Decides.{nat_tests}
use Rattle.iol_core.specs.declared.numbers.BufId.{BufId}
use Rattle.iol_hold.specs.Moves.{Counts, Covers, Moves, tally}
use Rattle.iol_hold.specs.StoreState.{Stored}
use Rattle.iol_hold.specs.Texts.{AllReadable, bufs_of}
use Rattle.iol_hold.proofs.ReadSlices.{readable_joined}
use Rattle.iol_cache.proofs.RangeReads.SharedBytes.{over_readable, readable_parts}
use Rattle.iol_hold.specs.declared.slices.Slice.{Slice}
use Rattle.iol_agg.proofs.KnownHolds.{tally-few}
use Rattle.iol_cache.proofs.Evictions.Marks.{at_page-append}
use Rattle.iol_hold.proofs.Counts.{bufs-append, tally-append, tally_none}
use Rattle.iol_extent.specs.Extents.{Extent, IsApart, IsFirstMet, IsGap, begins_at, extent_over, meets, put_in, unmet}
use Rattle.iol_extent.specs.Extents.{without_at, one_dirty}
use Rattle.iol_extent.proofs.RangeExtents.{met_begins, unmet_less}
use Rattle.iol_hold.proofs.Moves.{stays_trans}
use Rattle.iol_extent.proofs.Cover.{extent_begins, some_begins}
use Rattle.iol_evict.specs.Order.{Ranking, entered, entry_at, left_at, with_one_given_back, with_one_kept}
use Rattle.iol_evict.specs.declared.entry.Entry.{Entry}
use Rattle.iol_cache.specs.CacheState.{begins_clean, clean_at, clean_in, clean_parts, entry_one, all_parts}
use Rattle.iol_cache.specs.Marks.{HaveMarks, Marks, Unmarks, at_page}
use Rattle.iol_cache.specs.RangeReads.{RanksFile}
use Rattle.iol_cache.specs.Replacement.{Reindexes, HaveClean, put_some}
use Rattle.iol_cache.proofs.Evictions.Entries.{entered_entries}
use Rattle.iol_cache.proofs.Extents.FewerExtents.{begins_above}
use Rattle.iol_cache.proofs.Extents.FileEntries.{IsAdditive, additive_bufs, additive_page, additive_tally, sum-flat}
use Rattle.iol_cache.proofs.Extents.FileEntries.{sum-put_in, sum-without, sum-without_at}
use Rattle.iol_cache.proofs.Evictions.RankedEntries.{clean_one, entry_absent, entry_found, found_at}
use Rattle.iol_cache.proofs.RangeReads.TakenBack.{begins_gap}
use Rattle.iol_hold.specs.Places.{byte_len}
use Rattle.std.proofs.lemmas.List.Sums.{sum_by-cons}

pub reindexes_none : (f : ℕ) (es : List Extent) (r : Ranking) (marks : List ℕ) → Reindexes f es es r r marks marks
reindexes_none f es r marks = record {
  ranked = λ h. h;
  others = λ g b ne. refl;
  low = refl;
  kept = refl;
  each =
      λ p. refl;
  long = refl;
}

pub reindexes_then : {f : ℕ} {as' bs cs : List Extent} {r s t : Ranking} {a b c : List ℕ} → Reindexes f as' bs r s a b
    → Reindexes f bs cs s t b c → Reindexes f as' cs r t a c
reindexes_then m n = record {
  ranked = λ h. n.ranked (m.ranked h);
  others = λ g b ne. n.others g b ne ∙ m.others g b ne;
  low = n.low ∙ m.low;
  kept = omega (arith, m.kept, n.kept);
  each = λ p. omega (arith, m.each p, n.each p);
  long = n.long ∙ m.long;
}

-- Sums over the extents of a file.

clean-less : (h : List BufId → ℕ) → IsAdditive h → (es : List Extent) (at : ℕ) (e : Extent) → begins_at es at ≡ Some e
    → h (bufs_of (clean_in es)) ≡ h (bufs_of (clean_parts e)) + h (bufs_of (clean_in (without_at es at)))
clean-less h a es at e begins =
    omega (
      arith,
      sum-flat (additive_bufs a) clean_parts es,
      sum-flat (additive_bufs a) clean_parts (without_at es at),
      sum-without_at (λ (y : Extent). h (bufs_of (clean_parts y))) es at e begins,
    )

clean-more : (h : List BufId → ℕ) → IsAdditive h → (es : List Extent) (e : Extent)
    → h (bufs_of (clean_in (put_in es e))) ≡ h (bufs_of (clean_parts e)) + h (bufs_of (clean_in es))
clean-more h a es e =
    omega (
      arith,
      sum-flat (additive_bufs a) clean_parts es,
      sum-flat (additive_bufs a) clean_parts (put_in es e),
      sum-put_in (λ (y : Extent). h (bufs_of (clean_parts y))) es e,
    )

pub parts-less : (h : List BufId → ℕ) → IsAdditive h → (es : List Extent) (at : ℕ) (e : Extent)
    → begins_at es at ≡ Some e
    → h (bufs_of (all_parts es)) ≡ h (bufs_of e.parts) + h (bufs_of (all_parts (without_at es at)))
parts-less h a es at e begins =
    let g : Extent → List Slice = λ (y : Extent). y.parts in
    omega (
      arith,
      sum-flat (additive_bufs a) g es,
      sum-flat (additive_bufs a) g (without_at es at),
      sum-without_at (λ (y : Extent). h (bufs_of y.parts)) es at e begins,
    )

pub parts-more : (h : List BufId → ℕ) → IsAdditive h → (es : List Extent) (e : Extent)
    → h (bufs_of (all_parts (put_in es e))) ≡ h (bufs_of e.parts) + h (bufs_of (all_parts es))
parts-more h a es e =
    let g : Extent → List Slice = λ (y : Extent). y.parts in
    omega (
      arith,
      sum-flat (additive_bufs a) g es,
      sum-flat (additive_bufs a) g (put_in es e),
      sum-put_in (λ (y : Extent). h (bufs_of y.parts)) es e,
    )

clean_of_dirty : (e : Extent) → e.dirty ≡ true → clean_parts e ≡ []
clean_of_dirty e d = ap (λ b. cond b [] e.parts) d

clean_of_clean : (e : Extent) → e.dirty ≡ false → clean_parts e ≡ e.parts
clean_of_clean e d = ap (λ b. cond b [] e.parts) d

none_dirty : (at : ℕ) (e : Extent) → e.dirty ≡ true → begins_clean at e ≡ 0
none_dirty at e d = ap (λ b. cond {A = ℕ} (eqb e.at at && not b) 1 0) d ∙ off (eqb e.at at)
  where
    off : (b : Bool) → cond {A = ℕ} (b && false) 1 0 ≡ 0
    off true = refl
    off false = refl

-- A dirty extent is removed or put in.

pub dirty_goes : (f : ℕ) (es : List Extent) (at : ℕ) (e : Extent) (r : Ranking) (marks : List ℕ)
    → begins_at es at ≡ Some e → e.dirty ≡ true → 0 < r.kept
    → Reindexes f es (without_at es at) r (with_one_given_back r) marks marks
dirty_goes f es at e r marks begins dirty some = record {
  ranked =
      λ h. record {
        each =
            λ b. omega (arith, h.each b, sum-without_at (begins_clean b) es at e begins, none_dirty b e dirty);
      };
  others = λ g b ne. refl;
  low = refl;
  kept = omega (arith, some, sum-without_at one_dirty es at e begins, ap (λ b. cond {A = ℕ} b 1 0) dirty);
  each =
      λ p. omega (
        arith,
        clean-less (at_page p) (additive_page p) es at e begins,
        ap (λ xs. at_page p (bufs_of xs)) (clean_of_dirty e dirty),
        (additive_page p).none,
      );
  long = refl;
}

pub dirty_comes : (f : ℕ) (es : List Extent) (e : Extent) (r : Ranking) (marks : List ℕ) → e.dirty ≡ true
    → Reindexes f es (put_in es e) r (with_one_kept r) marks marks
dirty_comes f es e r marks dirty = record {
  ranked = λ h. record { each = λ b. omega (arith, h.each b, sum-put_in (begins_clean b) es e, none_dirty b e dirty) };
  others = λ g b ne. refl;
  low = refl;
  kept = omega (arith, sum-put_in one_dirty es e, ap (λ b. cond {A = ℕ} b 1 0) dirty);
  each =
      λ p. omega (
        arith,
        clean-more (at_page p) (additive_page p) es e,
        ap (λ xs. at_page p (bufs_of xs)) (clean_of_dirty e dirty),
        (additive_page p).none,
      );
  long = refl;
}

-- A clean extent is removed with its entry and marks, or put in.

same_one : (f at b : ℕ) (e : Extent) (v : Entry) → e.at ≡ at → e.dirty ≡ false → v.file ≡ f → v.at ≡ at
    → begins_clean b e ≡ entry_one f b v
same_one f at b e v ea clean vf va = ap (λ d. cond {A = ℕ} (eqb e.at b && not d) 1 0) clean
    ∙ grind (arith, nat_tests, ea, vf, va)

other_one : (f g b : ℕ) (v : Entry) → v.file ≡ f → (g ≡ f → ⊥) → entry_one g b v ≡ 0
other_one f g b v vf ne = grind (arith, nat_tests, vf, ne)

pub clean_entry : (f : ℕ) (es : List Extent) (at : ℕ) (e : Extent) (r : Ranking) → IsApart 0 es
    → begins_at es at ≡ Some e → e.dirty ≡ false → RanksFile r f es → (v : Entry) × (entry_at r.entries f at ≡ Some v)
clean_entry f es at e r apart begins clean ranked =
    let one = clean_one at e (begins_above 0 es at e apart begins).1 clean in
    entry_found r.entries f at (omega (arith, ranked.each at, sum-without_at (begins_clean at) es at e begins, one))

pub clean_goes : (f : ℕ) (es : List Extent) (at : ℕ) (e : Extent) (r : Ranking) (marks new : List ℕ) → IsApart 0 es
    → begins_at es at ≡ Some e → e.dirty ≡ false → RanksFile r f es → Unmarks marks new e.parts
    → Reindexes f es (without_at es at) r (left_at r f at) marks new
clean_goes f es at e r marks new apart begins clean ranked unmarks =
    let v = clean_entry f es at e r apart begins clean ranked in
    let lies = found_at r.entries f at v.0 v.1 in
    let at_is = (begins_above 0 es at e apart begins).1 in
    record {
      ranked =
          λ h. record {
            each =
                λ b. omega (
                  arith,
                  h.each b,
                  sum-without_at (begins_clean b) es at e begins,
                  same_one f at b e v.0 at_is clean lies.0 lies.1,
                  sum-without (entry_one f b) r.entries f at v.0 v.1,
                );
          };
      others =
          λ g b ne. omega (arith, sum-without (entry_one g b) r.entries f at v.0 v.1, other_one f g b v.0 lies.0 ne);
      low = refl;
      kept = omega (arith, sum-without_at one_dirty es at e begins, ap (λ b. cond {A = ℕ} b 1 0) clean);
      each =
          λ p. omega (
            arith,
            clean-less (at_page p) (additive_page p) es at e begins,
            ap (λ xs. at_page p (bufs_of xs)) (clean_of_clean e clean),
            unmarks.each p,
          );
      long = unmarks.long;
    }

entry_of : (f at b : ℕ) (e : Extent) → e.at ≡ at → e.dirty ≡ false
    → begins_clean b e ≡ cond {A = ℕ} (eqb f f && eqb at b) 1 0
entry_of f at b e ea clean = ap (λ d. cond {A = ℕ} (eqb e.at b && not d) 1 0) clean ∙ grind (arith, nat_tests, ea)

no_entry_of : (f g at b : ℕ) → (g ≡ f → ⊥) → cond {A = ℕ} (eqb f g && eqb at b) 1 0 ≡ 0
no_entry_of f g at b ne = grind (arith, nat_tests, ne)

pub clean_comes : (f : ℕ) (es : List Extent) (e : Extent) (size : ℕ) (r : Ranking) (marks new : List ℕ)
    → e.dirty ≡ false → Marks marks new e.parts → Reindexes f es (put_in es e) r (entered r f e.at size 1) marks new
clean_comes f es e size r marks new clean marked = record {
  ranked =
      λ h. record {
        each =
            λ b. omega (
              arith,
              h.each b,
              sum-put_in (begins_clean b) es e,
              entry_of f e.at b e refl clean,
              entered_entries r f e.at size 1 f b,
            );
      };
  others = λ g b ne. omega (arith, entered_entries r f e.at size 1 g b, no_entry_of f g e.at b ne);
  low = refl;
  kept = omega (arith, sum-put_in one_dirty es e, ap (λ b. cond {A = ℕ} b 1 0) clean);
  each =
      λ p. omega (
        arith,
        clean-more (at_page p) (additive_page p) es e,
        ap (λ xs. at_page p (bufs_of xs)) (clean_of_clean e clean),
        marked.each p,
      );
  long = marked.long;
}

-- Held and marked after a step.

pub marked_after : {f : ℕ} {es fs : List Extent} {r t : Ranking} {marks new : List ℕ} → Reindexes f es fs r t marks new
    → HaveClean marks es → HaveClean new fs
marked_after m h = record { each = λ p. omega (arith, m.each p, h.each p) }

-- The extent over the byte at which one begins.
pub begins_over : (es : List Extent) (at : ℕ) (y : Extent) → IsApart 0 es → IsSome (begins_at es at)
    → extent_over es at ≡ Some y → begins_at es at ≡ Some y
begins_over es at y apart some found =
    let e = some_begins (begins_at es at) some in
    let over = extent_begins 0 es at e.0 apart e.1 in
    let same : Some y ≡ Some e.0 = sym found ∙ over.0 in
    let is : y ≡ e.0 = cc in
    e.1 ∙ ap (λ (x : Extent). Some x) (sym is)

pub nothing_begins : (es : List Extent) (at : ℕ) → IsApart 0 es → IsSome (begins_at es at) → extent_over es at ≡ None
    → ⊥
nothing_begins es at apart some none =
    let e = some_begins (begins_at es at) some in
    let over = extent_begins 0 es at e.0 apart e.1 in
    let same : Some e.0 ≡ None = sym over.0 ∙ none in
    cc

pub entry_some : (f : ℕ) (es : List Extent) (at : ℕ) (e : Extent) (r : Ranking) → IsApart 0 es
    → begins_at es at ≡ Some e → e.dirty ≡ false → RanksFile r f es → entry_at r.entries f at ≡ None → ⊥
entry_some f es at e r apart begins clean ranked none =
    (let v = clean_entry f es at e r apart begins clean ranked in let same : Some v.0 ≡ None = sym v.1 ∙ none in cc)

pub marks_of : (marks : List ℕ) (es : List Extent) (at : ℕ) (e : Extent) → begins_at es at ≡ Some e → e.dirty ≡ false
    → HaveClean marks es → HaveMarks marks e.parts
marks_of marks es at e begins clean h =
    record {
      each =
          λ p. omega (
            arith,
            h.each p,
            clean-less (at_page p) (additive_page p) es at e begins,
            ap (λ xs. at_page p (bufs_of xs)) (clean_of_clean e clean),
          );
    }

-- The extent that is removed.

pub moves_part : {s t : Stored} (es : List Extent) (at : ℕ) (e : Extent) → begins_at es at ≡ Some e
    → Moves s t (bufs_of e.parts) [] → Moves s t (bufs_of (all_parts es)) (bufs_of (all_parts (without_at es at)))
moves_part es at e begins m = record {
  counts =
      record {
        each =
            λ b. omega (arith, m.counts.each b, tally_none b, parts-less (tally b) (additive_tally b) es at e begins);
      };
  stays = m.stays;
  still = m.still;
  tidy = m.tidy;
}

pub covers_part : {s : Stored} (es : List Extent) (at : ℕ) (e : Extent) → begins_at es at ≡ Some e
    → Covers s (bufs_of (all_parts es)) → Covers s (bufs_of e.parts)
covers_part es at e begins c =
    record { each = λ b. omega (arith, c.each b, parts-less (tally b) (additive_tally b) es at e begins) }

pub covers_moved : {s t : Stored} {xs ys : List BufId} → Covers s xs → Moves s t xs ys → Covers t ys
covers_moved c m = record { each = λ b. omega (arith, c.each b, m.counts.each b) }

pub readable_part : {s : Stored} (es : List Extent) (at : ℕ) (e : Extent) → IsApart 0 es → begins_at es at ≡ Some e
    → AllReadable s (all_parts es) → AllReadable s e.parts
readable_part {s} es at e apart begins all = over_readable {s = s} es at e (extent_begins 0 es at e apart begins).0 all

pub readable_less : {s : Stored} (es : List Extent) (at : ℕ) → AllReadable s (all_parts es)
    → AllReadable s (all_parts (without_at es at))
readable_less {s} [] at all = all
readable_less {s} (x ∷ xs) at all =
    let both = readable_parts {s = s} x.parts (all_parts xs) all in
    here (x.at == at) both (readable_less {s = s} xs at both.1)
  where
    here : (b : Bool) → AllReadable s x.parts × AllReadable s (all_parts xs)
        → AllReadable s (all_parts (without_at xs at)) → AllReadable s (all_parts (cond b xs (x ∷ without_at xs at)))
    here true both rest = both.1
    here false both rest = readable_joined {s = s} both.0 rest

pub fewer : (es : List Extent) (at : ℕ) (e : Extent) → begins_at es at ≡ Some e → length (without_at es at) < length es
fewer [] at e h = cc
fewer (x ∷ xs) at e h = here (x.at == at) h (fewer xs at e) where
  here : (b : Bool) → cond b (Some x) (begins_at xs at) ≡ Some e
      → (begins_at xs at ≡ Some e → length (without_at xs at) < length xs)
      → length (cond b xs (x ∷ without_at xs at)) < length (x ∷ xs)
  here true h ih = omega arith
  here false h ih = omega (arith, ih h)

pub moves_on : {a b c : Stored} {xs ys zs : List BufId} → Moves a b xs ys → Moves b c ys zs → Moves a c xs zs
moves_on m n = record {
  counts = record { each = λ b. omega (arith, m.counts.each b, n.counts.each b) };
  stays = stays_trans m.stays n.stays;
  still = λ h. n.still (m.still h);
  tidy = λ h. n.tidy (m.tidy h);
}

-- The extent that is met first.
pub met_begins_at : (es : List Extent) (from to at : ℕ) → IsApart 0 es → (m : IsFirstMet es from to at)
    → begins_at es at ≡ Some m.extent
met_begins_at es from to at apart m = ap (begins_at es) (sym m.begins) ∙ met_begins 0 es from to m.extent apart m.is

pub met_less : (es : List Extent) (from to at : ℕ) → IsApart 0 es → (m : IsFirstMet es from to at)
    → unmet (without_at es at) from to ≡ unmet es from to
met_less es from to at apart m = ap (λ n. unmet (without_at es n) from to) (sym m.begins)
    ∙ unmet_less 0 es from to m.extent apart m.is

pub counts_part : {s t : Stored} (es : List Extent) (at : ℕ) (e : Extent) → begins_at es at ≡ Some e
    → Counts s t (bufs_of (all_parts es)) (bufs_of (all_parts (without_at es at))) → Counts s t (bufs_of e.parts) []
counts_part es at e begins c =
    record { each = λ b. omega (arith, c.each b, tally_none b, parts-less (tally b) (additive_tally b) es at e begins) }

-- no extent begins at the place of the new one
clean_none : (es : List Extent) (at : ℕ) → begins_at es at ≡ None → clean_at at es ≡ 0
clean_none [] at h = refl
clean_none (x ∷ xs) at h = sum_by-cons (begins_clean at) x xs ∙ here (eqb x.at at) x.dirty h (clean_none xs at)
  where
    here : (b d : Bool) → cond b (Some x) (begins_at xs at) ≡ None → (begins_at xs at ≡ None → clean_at at xs ≡ 0)
        → cond {A = ℕ} (b && not d) 1 0 + clean_at at xs ≡ 0
    here true d h ih = cc
    here false d h ih = omega (arith, ih h)

pub absent_gap : (f : ℕ) (es : List Extent) (at to : ℕ) (r : Ranking) → IsApart 0 es → IsGap es at to → at < to
    → RanksFile r f es → entry_at r.entries f at ≡ None
absent_gap f es at to r apart gap some ranked =
    entry_absent r.entries f at (ranked.each at ∙ clean_none es at (begins_gap 0 es at to apart gap some))

-- Sums over the remaining extents, and over the new ones.

pub unmet-clean : (h : List BufId → ℕ) → IsAdditive h → (es : List Extent) (from to : ℕ)
    → h (bufs_of (clean_in (unmet es from to))) ≤ h (bufs_of (clean_in es))
unmet-clean h a es from to =
    omega (
      arith,
      sum-flat (additive_bufs a) clean_parts es,
      sum-flat (additive_bufs a) clean_parts (unmet es from to),
      fewer_sum (λ (y : Extent). h (bufs_of (clean_parts y))) es,
    )
  where
    fewer_sum : (w : Extent → ℕ) (es : List Extent) → sum_by w (unmet es from to) ≤ sum_by w es
    fewer_sum w [] = omega arith
    fewer_sum w (x ∷ xs) = here (meets from to x) (fewer_sum w xs)
      where
        here : (b : Bool) → sum_by w (unmet xs from to) ≤ sum_by w xs
            → sum_by w (cond b (unmet xs from to) (x ∷ unmet xs from to)) ≤ sum_by w (x ∷ xs)
        here true ih = omega (arith, ih, sum_by-cons w x xs)
        here false ih = omega (arith, ih, sum_by-cons w x xs, sum_by-cons w x (unmet xs from to))

clean_few : (h : List BufId → ℕ) → IsAdditive h → (e : Extent) → h (bufs_of (clean_parts e)) ≤ h (bufs_of e.parts)
clean_few h a e = here e.dirty
  where
    here : (b : Bool) → h (bufs_of (cond b [] e.parts)) ≤ h (bufs_of e.parts)
    here true = omega (arith, a.none)
    here false = omega arith

pub some-clean : (h : List BufId → ℕ) → IsAdditive h → (es : List Extent) (e : Extent)
    → h (bufs_of (clean_in (put_some es e))) ≤ h (bufs_of e.parts) + h (bufs_of (clean_in es))
some-clean h a es e = here (byte_len e.parts == 0)
  where
    here : (b : Bool) → h (bufs_of (clean_in (cond b es (put_in es e)))) ≤ h (bufs_of e.parts)
        + h (bufs_of (clean_in es))
    here true = omega arith
    here false = omega (arith, clean-more h a es e, clean_few h a e)

pub some-parts : (b : BufId) (es : List Extent) (e : Extent)
    → tally b (bufs_of (all_parts (put_some es e))) ≡ tally b (bufs_of e.parts) + tally b (bufs_of (all_parts es))
some-parts b es e = here (byte_len e.parts == 0) (none_of (byte_len e.parts))
  where
    none_of : (n : ℕ) → (n == 0) ≡ true → n ≡ 0
    none_of n h = grind (arith, nat_tests)

    here : (c : Bool) → (c ≡ true → byte_len e.parts ≡ 0)
        → tally b (bufs_of (all_parts (cond c es (put_in es e)))) ≡ tally b (bufs_of e.parts)
        + tally b (bufs_of (all_parts es))
    here true none = omega (arith, none refl, tally-few b e.parts)
    here false none = parts-more (tally b) (additive_tally b) es e

-- the four lists of slices together
pub tally-four : (b : BufId) (as' ls rs ns : List Slice)
    → tally b (bufs_of (as' ++ (ls ++ (rs ++ ns)))) ≡ tally b (bufs_of as') + tally b (bufs_of ls)
    + tally b (bufs_of rs) + tally b (bufs_of ns)
tally-four b as' ls rs ns =
    let x = ap (tally b) (bufs-append as' (ls ++ (rs ++ ns)))
    ∙ tally-append b (bufs_of as') (bufs_of (ls ++ (rs ++ ns))) in
    let y = ap (tally b) (bufs-append ls (rs ++ ns)) ∙ tally-append b (bufs_of ls) (bufs_of (rs ++ ns)) in
    let z = ap (tally b) (bufs-append rs ns) ∙ tally-append b (bufs_of rs) (bufs_of ns) in
    omega (arith, x, y, z)

pub page-three : (p : ℕ) (ls rs ns : List Slice)
    → at_page p (bufs_of (ls ++ (rs ++ ns))) ≡ at_page p (bufs_of ls) + at_page p (bufs_of rs) + at_page p (bufs_of ns)
page-three p ls rs ns =
    let y = ap (at_page p) (bufs-append ls (rs ++ ns)) ∙ at_page-append p (bufs_of ls) (bufs_of (rs ++ ns)) in
    let z = ap (at_page p) (bufs-append rs ns) ∙ at_page-append p (bufs_of rs) (bufs_of ns) in
    omega (arith, y, z)
