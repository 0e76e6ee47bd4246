-- The replacement of a range of a file, part by part: extents are removed, and others are put in.
use Rattle.std.proofs.Common.{◌≡◌, ◌∙◌, ℕ, ◌+◌, ◌<◌, ◌≤◌, ◌^◌, List, [], length, sym, ap, arith, subst}
use Rattle.std.specs.Prelude.{slice_index}
use Rattle.iol_core.specs.declared.numbers.BufId.{BufId}
use Rattle.iol_evict.specs.Order.{Ranking}
use Rattle.iol_extent.specs.Extents.{Adds, Extent, ExtentMap, IsApart, IsGap, end_of, unmet}
use Rattle.iol_extent.specs.declared.spans.Span.{Span}
use Rattle.iol_hold.specs.Moves.{Counts, Covers, Moves, tally}
use Rattle.iol_hold.specs.Releases.{FreesOnly}
use Rattle.iol_hold.specs.StoreState.{Stored, count_of}
use Rattle.iol_hold.specs.Texts.{AllReadable, bufs_of}
use Rattle.iol_hold.proofs.ReadSlices.{readable_stays}
use Rattle.iol_hold.proofs.Releases.{frees_trans}
use Rattle.iol_cache.specs.CacheState.{all_parts, clean_in}
use Rattle.iol_cache.specs.Cuts.{CutsAround}
use Rattle.iol_cache.specs.Marks.{AreWithin, at_page}
use Rattle.iol_cache.specs.Replacement.{ClearsRange, Indexing, IsIndexed, LetsGo, MayCome, MayGo, PutsIn, Reindexes}
use Rattle.iol_cache.specs.Replacement.{indexing_of, put_some}
use Rattle.iol_cache.specs.Writes.{MayReplace, Replaces}
use Rattle.iol_cache.specs.declared.write.cut.Replacement.{Replacement}
use Rattle.iol_cache.proofs.Evictions.Ready.{ready_after}
use Rattle.iol_cache.proofs.Evictions.Orders.{reordered_is}
use Rattle.iol_cache.proofs.Extents.FileEntries.{additive_page}
use Rattle.iol_cache.proofs.Extents.HeldSlices.{are_within}
use Rattle.iol_cache.proofs.RangeWrites.Cuts.{left_gap, left_of, new_gap, replaced, right_gap}
use Rattle.iol_cache.proofs.RangeWrites.Replacement.{covers_moved, marked_after, moves_on, page-three, reindexes_then}
use Rattle.iol_cache.proofs.RangeWrites.Replacement.{some-clean, some-parts, tally-four, unmet-clean}

-- Extents are removed.

indexed_after : {f : ℕ} {es fs : List Extent} {r t : Ranking} {marks new : List ℕ} → Reindexes f es fs r t marks new
    → IsApart 0 fs → IsIndexed f es r marks → IsIndexed f fs t new
indexed_after m apart h = record {
  apart = apart;
  ranked = m.ranked h.ranked;
  ready = ready_after m h.ready;
  marked =
      marked_after m h.marked;
}

pub may_advance : {f : ℕ} {s t : Stored} {a b : Indexing} → MayGo f s a
    → Reindexes f a.extents.extents b.extents.extents a.order b.order a.marks b.marks
    → Moves s t (bufs_of (all_parts a.extents.extents)) (bufs_of (all_parts b.extents.extents)) → FreesOnly s t
    → IsApart 0 b.extents.extents → AllReadable s (all_parts b.extents.extents) → MayGo f t b
may_advance {b = b} may follows moves frees apart all =
    let held = covers_moved may.held moves in
    record {
      indexed = indexed_after follows apart may.indexed;
      pages = follows.long ∙ may.pages ∙ sym frees.count;
      held = held;
      readable = readable_stays (all_parts b.extents.extents) moves.stays held all;
    }

-- one after another
pub gone_on : {f : ℕ} {s t u : Stored} {a b c : Indexing} {xs : List BufId} → LetsGo f s t a b → LetsGo f t u b c
    → Counts t u xs [] → LetsGo f s u a c
gone_on m n counts = record {
  room = omega (arith, m.room, n.room);
  order_room = omega (arith, m.order_room, n.order_room);
  follows = reindexes_then m.follows n.follows;
  moves = moves_on m.moves n.moves;
  frees = frees_trans m.frees n.frees counts;
  lists = n.lists ∙ m.lists;
  reclaims = λ h. n.reclaims (m.reclaims h);
  left = n.left;
}

-- Extents are put in: the part on the left, the part on the right, the new bytes.

-- a part adds no more marks than it has slices
marks_more : {f : ℕ} {e : Extent} {es fs : ExtentMap} {r q : Ranking} {marks new : List ℕ}
    → PutsIn f e es fs r q marks new → (p : ℕ) → slice_index new p ≤ slice_index marks p + at_page p (bufs_of e.parts)
marks_more {e = e} {es = es} puts p =
    omega (
      arith,
      puts.remembers.follows.each p,
      some-clean (at_page p) (additive_page p) es.extents e,
      ap (λ xs. at_page p (bufs_of (clean_in xs))) puts.comes.extents,
    )

module _ {f : ℕ} {range : Span} {put : Replacement} {s t : Stored} {o : Indexing} {ax : ExtentMap} {ar : Ranking}
    {am : List ℕ} (may : MayReplace f range put s o)
    (clears : ClearsRange f range.from range.to s t o.extents ax o.order ar o.marks am) where
  abbrev from : ℕ
  from = range.from

  abbrev to : ℕ
  to = range.to

  abbrev l : Extent
  l = put.left

  abbrev r : Extent
  r = put.right

  abbrev n : Extent
  n = put.bytes

  abbrev a : Indexing
  a = indexing_of ax ar am

  abbrev es : List Extent
  es = o.extents.extents

  cuts : CutsAround es from to l r n
  cuts = may.cuts

  apart : IsApart 0 es
  apart = may.stands.indexed.apart

  held_beside : (b : BufId) → tally b (bufs_of (all_parts es)) + tally b (bufs_of l.parts) + tally b (bufs_of r.parts)
      + tally b (bufs_of n.parts) ≤ count_of s b
  held_beside b = omega (arith, may.beside.each b, tally-four b (all_parts es) l.parts r.parts n.parts)

  within_pages : (e : Extent) (b : Indexing) → length b.marks ≡ length o.marks
      → ((x : BufId) → tally x (bufs_of e.parts) ≤ count_of s x) → AreWithin (length b.marks) e.parts
  within_pages e b long held = are_within e.parts _ (long ∙ may.stands.pages) (let h : Covers s (bufs_of e.parts) =
      record { each = held } in h)

  marks_few : (p : ℕ) → slice_index a.marks p + at_page p (bufs_of l.parts) + at_page p (bufs_of r.parts)
      + at_page p (bufs_of n.parts) < 2 ^ 63
  marks_few p =
      omega (
        arith,
        may.few.each p,
        page-three p l.parts r.parts n.parts,
        clears.gone.follows.each p,
        unmet-clean (at_page p) (additive_page p) es from to,
        ap (λ xs. at_page p (bufs_of (clean_in xs))) clears.extents,
      )

  pub left_may : MayCome f l a
  left_may = record {
    fits = λ some. omega (arith, (left_of es from l cuts.before some).ends, cuts.some, cuts.after.begins, cuts.fits);
    gap =
        λ some. subst (λ (xs : List Extent). IsGap xs l.at (end_of l)) (sym clears.extents)
        (left_gap es from to l apart cuts.some cuts.before some);
    indexed = clears.gone.left.indexed;
    places = record {
      extents = omega (arith, may.places.extents, clears.gone.room);
      entries =
          omega (arith, may.places.entries, clears.gone.order_room);
    };
    within = within_pages l a clears.gone.follows.long (λ b. omega (arith, held_beside b));
    few = record { each = λ p. omega (arith, marks_few p) };
  }

  module _ {bx : ExtentMap} {br : Ranking} {bm : List ℕ} (x : PutsIn f l ax bx ar br am bm) where
    abbrev b : Indexing
    b = indexing_of bx br bm

    adds_left : Adds (unmet es from to) l b.extents.extents
    adds_left = subst (λ (xs : List Extent). Adds xs l b.extents.extents) clears.extents x.comes.adds

    pub right_may : MayCome f r b
    right_may = record {
      fits = λ some. cuts.fits;
      gap = λ some. right_gap es b.extents.extents from to l r apart cuts.some cuts.before cuts.after some adds_left;
      indexed = indexed_after x.remembers.follows x.comes.apart clears.gone.left.indexed;
      places = record {
        extents = omega (arith, may.places.extents, clears.gone.room, x.comes.room);
        entries =
            omega (arith, may.places.entries, clears.gone.order_room, x.remembers.room);
      };
      within =
          within_pages r b (x.remembers.follows.long ∙ clears.gone.follows.long) (λ q. omega (arith, held_beside q));
      few = record { each = λ p. omega (arith, marks_few p, marks_more x p) };
    }

    module _ {cx : ExtentMap} {cr : Ranking} {cm : List ℕ} (y : PutsIn f r bx cx br cr bm cm) where
      abbrev c : Indexing
      c = indexing_of cx cr cm

      pub new_may : MayCome f n c
      new_may = record {
        fits = λ some. omega (arith, cuts.ends, cuts.after.begins, cuts.fits);
        gap =
            λ some. subst (λ k. IsGap c.extents.extents k (end_of n)) (sym cuts.begins)
            (subst (IsGap c.extents.extents from) (sym cuts.ends)
            (new_gap es b.extents.extents c.extents.extents from to l r apart cuts.some cuts.before cuts.after adds_left
            y.comes.adds));
        indexed = indexed_after y.remembers.follows y.comes.apart right_may.indexed;
        places = record {
          extents = omega (arith, may.places.extents, clears.gone.room, x.comes.room, y.comes.room);
          entries = omega (arith, may.places.entries, clears.gone.order_room, x.remembers.room, y.remembers.room);
        };
        within = within_pages n c (y.remembers.follows.long ∙ x.remembers.follows.long ∙ clears.gone.follows.long)
            (λ q. omega (arith, held_beside q));
        few = record { each = λ p. omega (arith, marks_few p, marks_more x p, marks_more y p) };
      }

      pub replaces : {dx : ExtentMap} {dr : Ranking} {dm : List ℕ} → PutsIn f n cx dx cr dr cm dm
          → Replaces f range put s t o.extents dx o.order dr o.marks dm
      replaces {dx} {dr} z =
          let m = clears.gone.moves in
          record {
            is = z.comes.extents
                ∙ ap (λ xs. put_some xs n) (y.comes.extents
                ∙ ap (λ xs. put_some xs r) (x.comes.extents ∙ ap (λ xs. put_some xs l) clears.extents));
            adds = replaced es b.extents.extents c.extents.extents dx.extents from to l r n apart cuts.some cuts.before
                cuts.after cuts.begins cuts.ends adds_left y.comes.adds z.comes.adds;
            apart = z.comes.apart;
            ranks = reordered_is o.order ar br cr dr f es from to l r n clears.order x.remembers.order y.remembers.order
                z.remembers.order;
            follows =
                reindexes_then clears.gone.follows
                (reindexes_then x.remembers.follows (reindexes_then y.remembers.follows z.remembers.follows));
            moves = record {
              counts = record {
                each = λ q.
                    let held = λ (xs : List Extent). tally q (bufs_of (all_parts xs)) in
                    omega (
                      arith,
                      m.counts.each q,
                      tally-four q (all_parts es) l.parts r.parts n.parts,
                      some-parts q a.extents.extents l,
                      some-parts q b.extents.extents r,
                      some-parts q c.extents.extents n,
                      ap held x.comes.extents,
                      ap held y.comes.extents,
                      ap held z.comes.extents,
                    );
              };
              stays = m.stays;
              still = m.still;
              tidy = m.tidy;
            };
            frees = clears.gone.frees;
            lists = clears.gone.lists;
            reclaims = clears.gone.reclaims;
          }
