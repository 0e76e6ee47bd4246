-- Extents that enter an order, and hits that are counted.
use Rattle.std.proofs.Common.{◌≡◌, ◌≢◌, ℕ, zero, suc, ◌+◌, ◌<◌, ◌≤◌, ◌==◌, Bool, true, false, cond, eqb, List, [], ◌∷◌}
use Rattle.std.proofs.Common.{◌++◌, length, get_or, take, drop, Some, None, IsSome, refl, sym, ap, ◌∙◌, arith, subst}
use Rattle.std.specs.Prelude.{◌&&◌}
use Rattle.std.proofs.lemmas.Bool.Decides.{nat_tests}
use Rattle.std.proofs.lemmas.List.{take_more, append-nil}
use Rattle.std.proofs.lemmas.Grind.{flat_map-append}
use Rattle.iol_hold.specs.Places.{byte_len}
use Rattle.iol_hold.specs.Texts.{bufs_of}
use Rattle.iol_hold.specs.declared.slices.Slice.{Slice}
use Rattle.iol_hold.proofs.Counts.{bufs-append}
use Rattle.iol_extent.specs.Extents.{Extent, extent_over, begins_at, IsApart, end_of, is_over}
use Rattle.iol_extent.specs.Spans.{AreInOrder}
use Rattle.iol_extent.specs.declared.spans.Span.{Span}
use Rattle.iol_extent.proofs.Cover.{extent_begins, some_begins}
use Rattle.iol_evict.specs.Order.{Ranking, entered, entry_or, hit_at, is_at, set_at, worth, entry_at}
use Rattle.iol_evict.specs.declared.entry.Entry.{Entry}
use Rattle.iol_cache.specs.CacheState.{parts_in, begins_clean, entries_at, entry_one}
use Rattle.iol_cache.specs.Marks.{Marks, at_page, HasMarksLeft}
use Rattle.iol_cache.specs.RangeReads.{RanksFile, parts_from, parts_of_spans, AreAbsent}
use Rattle.iol_cache.proofs.Evictions.Marks.{at_page-append, at_page-none}
use Rattle.iol_cache.proofs.Extents.FileEntries.{sum-put_in-entry, sum-map_entry, sum-without_at}
use Rattle.iol_cache.proofs.Extents.FewerExtents.{begins_above}
use Rattle.iol_cache.proofs.Evictions.RankedEntries.{clean_one, entry_there}

-- the extent over a byte is the one that begins at its place
pub over_begins : (low : ℕ) (es : List Extent) (i : ℕ) (e : Extent) → IsApart low es → extent_over es i ≡ Some e
    → (begins_at es e.at ≡ Some e) × (low ≤ e.at)
over_begins low [] i e a h = absurd cc
over_begins low (x ∷ xs) i e a h = here (is_over x i) h (over_begins (end_of x) xs i e a.2) where
  self : (n : ℕ) → (n == n) ≡ true
  self n = grind (arith, nat_tests)

  other : (m n : ℕ) → m < n → (m == n) ≡ false
  other m n l = grind (arith, nat_tests)

  here : (b : Bool) → cond b (Some x) (extent_over xs i) ≡ Some e
      → (extent_over xs i ≡ Some e → (begins_at xs e.at ≡ Some e) × (end_of x ≤ e.at))
      → (begins_at (x ∷ xs) e.at ≡ Some e) × (low ≤ e.at)
  here true h ih = let same : x ≡ e = cc in let P : Extent → Type 0 = λ y. (begins_at (x ∷ xs) y.at ≡ Some y)
      × (low ≤ y.at) in
      subst P same (ap (λ b. cond b (Some x) (begins_at xs x.at)) (self x.at), a.0)
  here false h ih =
      (let r = ih h in (
        ap (λ b. cond b (Some x) (begins_at xs e.at)) (other x.at e.at (omega (arith, r.1, a.1)))
            ∙ r.0,
        omega (arith, r.1, a.0, a.1),
      ))

-- Hits.

pub hit_there : (r : Ranking) (f : ℕ) (es : List Extent) (i : ℕ) (e : Extent) → IsApart 0 es → RanksFile r f es
    → extent_over es i ≡ Some e → e.dirty ≡ false → entry_at r.entries f e.at ≢ None
hit_there r f es i e apart ranked found clean =
    let begins = (over_begins 0 es i e apart found).0 in
    let one = clean_one e.at e refl clean in
    entry_there r.entries f e.at
    (omega (arith, ranked.each e.at, sum-without_at (begins_clean e.at) es e.at e begins, one))

pub hit_entries : (r : Ranking) (f at g b : ℕ) → entries_at g b (hit_at r f at).entries ≡ entries_at g b r.entries
hit_entries r f at g b = sum-map_entry (entry_one g b) (set_at f at h) r.entries (λ e. pick e (is_at e f at))
  where
    h : ℕ
    h = r.low + worth (entry_or r.entries f at).size (entry_or r.entries f at).cost

    pick : (e : Entry) (c : Bool) → entry_one g b (cond c (let y : Entry = record e { height = h } in y) e)
        ≡ entry_one g b e
    pick e true = refl
    pick e false = refl

-- Extents that enter.

pub begin_is : (es : List Extent) (at : ℕ) (y : Extent) → IsApart 0 es → IsSome (begins_at es at)
    → extent_over es at ≡ Some y → y.parts ≡ parts_in (begins_at es at)
begin_is es at y apart some found =
    let e = some_begins (begins_at es at) some in
    let over = extent_begins 0 es at e.0 apart e.1 in
    let same : Some y ≡ Some e.0 = sym found ∙ over.0 in
    let is : y ≡ e.0 = cc in
    ap (λ (x : Extent). x.parts) is ∙ sym (ap parts_in e.1)

pub begin_not : (es : List Extent) (at : ℕ) → IsApart 0 es → IsSome (begins_at es at) → extent_over es at ≡ None → ⊥
begin_not es at apart some none =
    let e = some_begins (begins_at es at) some in
    let over = extent_begins 0 es at e.0 apart e.1 in
    let same : Some e.0 ≡ None = sym over.0 ∙ none in
    cc

pub begin_some : (es : List Extent) (at : ℕ) → IsApart 0 es → IsSome (begins_at es at)
    → 0 < byte_len (parts_in (begins_at es at))
begin_some es at apart some =
    let e = some_begins (begins_at es at) some in
    subst (λ (xs : List Slice). 0 < byte_len xs) (sym (ap parts_in e.1)) (begins_above 0 es at e.0 apart e.1).2

pub marks_then : {a b c : List ℕ} (xs ys : List Slice) → Marks a b xs → Marks b c ys → Marks a c (xs ++ ys)
marks_then xs ys m n = record {
  each =
      λ p. omega (
        arith,
        m.each p,
        n.each p,
        ap (at_page p) (bufs-append xs ys),
        at_page-append p (bufs_of xs) (bufs_of ys),
      );
  long = n.long ∙ m.long;
}

pub marks_nothing : (a : List ℕ) → Marks a a []
marks_nothing a = record { each = λ p. omega (arith, at_page-none p); long = refl }

pub parts-take_more : (es : List Extent) (ss : List Span) (i : ℕ) (d : Span) → i < length ss
    → parts_of_spans es (take (i + 1) ss) ≡ parts_of_spans es (take i ss) ++ parts_from es (get_or ss i d)
parts-take_more es ss i d h = ap (parts_of_spans es) (take_more ss i d h)
    ∙ flat_map-append (parts_from es) (take i ss) (get_or ss i d ∷ [])
    ∙ ap (λ t. parts_of_spans es (take i ss) ++ t) (append-nil (parts_from es (get_or ss i d)))

parts-split : (es : List Extent) (ss : List Span) (i : ℕ) (d : Span) (p : ℕ) → i < length ss
    → at_page p (bufs_of (parts_of_spans es ss)) ≡ at_page p (bufs_of (parts_of_spans es (take i ss)))
    + (at_page p (bufs_of (parts_from es (get_or ss i d))) + at_page p (bufs_of (parts_of_spans es (drop (i + 1) ss))))
parts-split es [] i d p h = absurd (omega (arith, h))
parts-split es (s ∷ ss) zero d p h = joined p (parts_from es s) (parts_of_spans es ss) ∙ omega (arith, at_page-none p)
  where
    joined : (p : ℕ) (xs ys : List Slice)
        → at_page p (bufs_of (xs ++ ys)) ≡ at_page p (bufs_of xs) + at_page p (bufs_of ys)
    joined p xs ys = ap (at_page p) (bufs-append xs ys) ∙ at_page-append p (bufs_of xs) (bufs_of ys)
parts-split es (s ∷ ss) (suc i) d p h =
    let ih = parts-split es ss i d p (omega (arith, h)) in
    let on : drop (suc i + 1) (s ∷ ss) ≡ drop (i + 1) ss =
    (let n : suc i + 1 ≡ suc (i + 1) = omega arith in ap (λ k. drop k (s ∷ ss)) n) in
    omega (
      arith,
      ih,
      ap (λ (l : List Span). at_page p (bufs_of (parts_of_spans es l))) on,
      joined p (parts_from es s) (parts_of_spans es ss),
      joined p (parts_from es s) (parts_of_spans es (take i ss)),
    )
  where
    joined : (p : ℕ) (xs ys : List Slice)
        → at_page p (bufs_of (xs ++ ys)) ≡ at_page p (bufs_of xs) + at_page p (bufs_of ys)
    joined p xs ys = ap (at_page p) (bufs-append xs ys) ∙ at_page-append p (bufs_of xs) (bufs_of ys)

pub few_left : (old now : List ℕ) (es : List Extent) (ss : List Span) (i : ℕ) (d : Span) → i < length ss
    → Marks old now (parts_of_spans es (take i ss)) → HasMarksLeft old (parts_of_spans es ss)
    → HasMarksLeft now (parts_from es (get_or ss i d))
few_left old now es ss i d h marks few =
    record { each = λ p. omega (arith, marks.each p, few.each p, parts-split es ss i d p h) }

pub order_lower : (low to : ℕ) (ss : List Span) → AreInOrder low to ss → AreInOrder 0 to ss
order_lower low to [] h = omega arith
order_lower low to (s ∷ ss) h = (omega arith, h.1, h.2)

pub entered_entries : (r : Ranking) (f at size cost g b : ℕ)
    → entries_at g b (entered r f at size cost).entries ≡ cond {A = ℕ} (eqb f g && eqb at b) 1 0 + entries_at g b
    r.entries
entered_entries r f at size cost g b =
    sum-put_in-entry (entry_one g b) r.entries (record {
      file = f;
      at = at;
      size = size;
      cost = cost;
      height =
          r.low + worth size cost;
    })

pub absent_after : (r : Ranking) (f at size cost low to : ℕ) (ss : List Span) → at < low → AreInOrder low to ss
    → AreAbsent r f ss → AreAbsent (entered r f at size cost) f ss
absent_after r f at size cost low to [] h order absent = tt
absent_after r f at size cost low to (s ∷ ss) h order absent = (
  omega (arith, entered_entries r f at size cost f s.from, none f at s.from (omega (arith, order.0, h)), absent.0),
  absent_after r f at size cost s.to to ss (omega (arith, order.0, order.1, h)) order.2 absent.1,
)
  where
    none : (f m n : ℕ) → m < n → cond {A = ℕ} (eqb f f && eqb m n) 1 0 ≡ 0
    none f m n l = grind (arith, nat_tests, l)
