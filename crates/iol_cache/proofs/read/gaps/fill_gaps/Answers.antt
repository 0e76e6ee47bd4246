use Rattle.std.proofs.Common.{false, refl, ◌≡◌, ◌∙◌, ◌+◌, ◌-◌, ◌<◌, ◌∷◌, All, ap, sym, subst, get_or, length, map, take}
use Rattle.std.proofs.Common.{drop, List, ℕ, arith}
use Rattle.std.proofs.Math.Seq.{take-length}
use Rattle.std.proofs.lemmas.List.{take_more, length-drop, length-take}
use Rattle.std.proofs.lemmas.List.Elements.{All-take, All-tail, All-head}
use Rattle.iol_arena.specs.State.{pages_for}
use Rattle.iol_core.specs.Text as text
use Rattle.iol_back.specs.Disk.{content}
use Rattle.iol_hold.specs.Moves.{pool_meant}
use Rattle.iol_hold.specs.Places.{byte_len}
use Rattle.iol_hold.specs.Room.{free_of}
use Rattle.iol_hold.specs.Texts.{bufs_of}
use Rattle.iol_pool.specs.Pools.{Pool, pool_in}
use Rattle.iol_extent.proofs.Alone.{ends_high}
use Rattle.iol_extent.specs.Extents.{Extent, IsGap, extent_of}
use Rattle.iol_extent.specs.Spans.{AreInOrder, IsGapSpan}
use Rattle.iol_extent.specs.declared.spans.Span.{Span}
use Rattle.iol_cache.specs.Gaps.{FillsGap, FillsGaps, gap_pages}
use Rattle.iol_cache.proofs.RangeReads.FilledGaps.{CanTakeBack, asks_after, can_take_back, covers_back, fills_more}
use Rattle.iol_cache.proofs.RangeReads.FilledGaps.{fills_none, gap_pages-push, gap_pages-take, gaps_left, order_drop}
use Rattle.iol_cache.proofs.RangeReads.FilledGaps.{order_take, placed_some, span_next, taken_back}
use Rattle.iol_cache.specs.CacheState.{all_parts}
use Rattle.iol_cache.proofs.read.gaps.fill_gaps.Given.{Over}
use Rattle.iol_cache.proofs.read.gaps.fill_gaps.Goals.{In-Err, In-Ok}
use Rattle.iol_cache.proofs.read.gaps.fill_gaps.Goals as goal

abbrev no_span : Span
no_span = record { from = 0; to = 0 }

pub loop-i-init : goal.loop-i-init
loop-i-init g c = record {
  within = omega arith;
  fills = fills_none c.args.store.now c.args.extents.now c.args.pool (g.B.Backing.disk c.args.backing.now) c.args.file
      c.requires.apart;
  left = c.requires.each;
  reclaims = λ h. h;
  honest = refl;
  slots = λ y. refl;
  failures = refl;
  works = λ h. absurd (omega arith);
}

pub gap_agg-requires : goal.gap_agg-requires
gap_agg-requires g c =
    let gaps = c.args.gaps.now in
    let i = c.loop-i.i in
    let gap = get_or gaps i no_span in
    let next =
    order_drop 0 4294967295 gaps i gap (drop (i + 1) gaps) c.requires.in_order
    (span_next gaps i no_span c.loop-i-test.true) in
    record {
      some = omega (arith, next.0);
      fits = omega (arith, next.0, ends_high gap.to 4294967295 (drop (i + 1) gaps) next.1);
      opened = ap (λ (ps : List Pool). (pool_in ps c.args.pool).closed) c.loop-i.invariant.fills.places.pools
          ∙ c.requires.opened;
    }

-- the extents of the gaps filled so far can be taken back
back : (g : Over) (c : In-Err g)
    → CanTakeBack c.loop-i.store c.args.extents.now.extents c.loop-i.extents.extents (take c.loop-i.i c.args.gaps.now)
    (bufs_of (all_parts c.loop-i.invariant.fills.made))
back g c =
    let gaps = c.args.gaps.now in
    let i = c.loop-i.i in
    can_take_back 0 4294967295 c.requires.apart (order_take 0 4294967295 gaps i c.requires.in_order)
    (All-take (IsGapSpan c.args.extents.now.extents) i gaps c.requires.each) c.loop-i.invariant.fills

pub take_back-requires-clause-begin : goal.take_back-requires-clause-begin
take_back-requires-clause-begin g c = (back g (goal.at.take_back-requires-clause-begin g c).In-Err).begin

pub take_back-requires-clause-covered : goal.take_back-requires-clause-covered
take_back-requires-clause-covered g c =
    covers_back c.loop-i.invariant.fills.moves c.in-Err.ensures.keeps.none
    (back g (goal.at.take_back-requires-clause-covered g c).In-Err).same

pages_more : (gaps : List Span) (i : ℕ) → i < length gaps
    → gap_pages (take (i + 1) gaps) ≡ gap_pages (take i gaps)
    + pages_for ((get_or gaps i no_span).to - (get_or gaps i no_span).from)
pages_more gaps i h = ap gap_pages (take_more gaps i no_span h) ∙ gap_pages-push (take i gaps) (get_or gaps i no_span)

pub returns-in-Err : goal.returns-in-Err
returns-in-Err g c =
    let v = c.loop-i.invariant in
    let gaps = c.args.gaps.now in
    let i = c.loop-i.i in
    let k = c.in-Err.ensures.keeps in
    let left = placed_some (gap_pages gaps) (gap_pages-take gaps i) v.fills.places k.kept c.take_back.ensures.frees
    k.pools in
    record {
      fills = tt;
      reads = taken_back gaps c.in-Err.refusal v.fills (back g (goal.at.returns-in-Err g c).In-Err) k.none
          (ap (map pool_meant) (k.pools ∙ v.fills.places.pools)) (λ all. k.reclaims (v.reclaims all))
          c.take_back.ensures left
          (λ p is. omega (
            arith,
            k.no_room p is,
            ap length v.fills.places.free,
            length-drop (gap_pages (take i gaps)) (free_of c.args.store.now c.args.pool),
            v.fills.places.enough,
            pages_more gaps i c.loop-i-test.true,
            gap_pages-take gaps (i + 1),
          ))
          (asks_after (length gaps) (omega (arith, c.loop-i-test.true)) v.honest v.slots v.failures
          c.in-Err.ensures.asks) k.late;
    }

-- the next gap, and the gaps after it
next_gap : (g : Over) (c : In-Ok g)
    → (let i = c.loop-i.i in let gap = get_or c.args.gaps.now i no_span in
    (gap.from < gap.to) × AreInOrder gap.to 4294967295 (drop (i + 1) c.args.gaps.now))
next_gap g c =
    let gaps = c.args.gaps.now in
    let i = c.loop-i.i in
    order_drop 0 4294967295 gaps i (get_or gaps i no_span) (drop (i + 1) gaps) c.requires.in_order
    (span_next gaps i no_span c.loop-i-test.true)

is_left : (g : Over) (c : In-Ok g)
    → All (IsGapSpan c.loop-i.extents.extents) (get_or c.args.gaps.now c.loop-i.i no_span
    ∷ drop (c.loop-i.i + 1) c.args.gaps.now)
is_left g c =
    subst (All (IsGapSpan c.loop-i.extents.extents)) (span_next c.args.gaps.now c.loop-i.i no_span c.loop-i-test.true)
    c.loop-i.invariant.left

ends : (g : Over) (c : In-Ok g)
    → (let gap = get_or c.args.gaps.now c.loop-i.i no_span in gap.from + byte_len c.in-Ok.agg ≡ gap.to)
ends g c = omega (arith, c.in-Ok.ensures.loads.long, (next_gap g c).0)

roomy : (g : Over) (c : In-Ok g) → 0 < c.loop-i.extents.room
roomy g c =
    omega (
      arith,
      c.loop-i.invariant.fills.room,
      length-take c.loop-i.i c.args.gaps.now,
      c.requires.room,
      c.loop-i-test.true,
    )

pub put-requires-clause-room : goal.put-requires-clause-room
put-requires-clause-room g c = roomy g (goal.at.put-requires-clause-room g c).In-Ok

pub put-requires-clause-some : goal.put-requires-clause-some
put-requires-clause-some g c = let at = (goal.at.put-requires-clause-some g c).In-Ok in
    omega (arith, ends g at, (next_gap g at).0)

pub put-requires-clause-fits : goal.put-requires-clause-fits
put-requires-clause-fits g c =
    let at = (goal.at.put-requires-clause-fits g c).In-Ok in
    let gaps = c.args.gaps.now in
    omega (
      arith,
      ends g at,
      ends_high (get_or gaps c.loop-i.i no_span).to 4294967295 (drop (c.loop-i.i + 1) gaps)
          (next_gap g at).1,
    )

pub put-requires-clause-gap : goal.put-requires-clause-gap
put-requires-clause-gap g c =
    let at = (goal.at.put-requires-clause-gap g c).In-Ok in
    let gap = get_or c.args.gaps.now c.loop-i.i no_span in
    subst (λ n. IsGap c.loop-i.extents.extents gap.from n) (sym (ends g at))
    (All-head (IsGapSpan c.loop-i.extents.extents) gap (drop (c.loop-i.i + 1) c.args.gaps.now) (is_left g at))

pub loop-i-preserved : goal.loop-i-preserved
loop-i-preserved g c =
    let at = (goal.at.loop-i-preserved g c).In-Ok in
    let v = c.loop-i.invariant in
    let gaps = c.args.gaps.now in
    let i = c.loop-i.i in
    let gap = get_or gaps i no_span in
    let h = c.loop-i-test.true in
    let d = g.B.Backing.disk c.loop-i.backing in
    let l = c.in-Ok.ensures.loads in
    let k = c.in-Ok.ensures.keeps in
    let asks = c.in-Ok.ensures.asks in
    let x : Extent = extent_of gap.from c.in-Ok.agg false in
    let f : FillsGap c.loop-i.store c.gap_agg.new.store c.loop-i.extents c.put.new.self c.args.pool gap d c.args.file =
    record {
      made = x;
      is = record {
        begins = refl;
        ends = ends g at;
        clean = refl;
        readable = l.readable;
        pooled = l.pooled;
        fresh =
            record { each = l.placed.made };
      };
      extents = c.put.ensures.extents;
      adds = c.put.ensures.adds;
      apart = c.put.ensures.apart;
      room = omega (arith, c.put.ensures.room, roomy g at);
      moves = l.placed.moves;
      grows = l.placed.grows;
      places = l.placed.pages;
      mirrors = λ y. record {
        within = omega (arith, ends g at, (next_gap g at).0, l.inside y);
        is =
            l.value y
            ∙ ap (λ n. text.labelled c.args.pool (take (n - gap.from) (drop gap.from (content d.slots c.args.file))))
            (sym (ends g at));
      };
    } in
    record {
      within = omega (arith, h);
      fills =
          subst (λ (k : List Span). FillsGaps c.args.store.now c.gap_agg.new.store c.args.extents.now c.put.new.self
          c.args.pool k (g.B.Backing.disk c.args.backing.now) c.args.file) (sym (take_more gaps i no_span h))
          (fills_more c.args.store.now c.loop-i.store c.gap_agg.new.store c.args.extents.now c.loop-i.extents
          c.put.new.self c.args.pool c.args.file (take i gaps) gap (g.B.Backing.disk c.args.backing.now) d v.honest
          v.slots v.fills f);
      left = gaps_left c.loop-i.extents.extents c.put.new.self.extents x 4294967295 (drop (i + 1) gaps)
          (subst (λ n. AreInOrder n 4294967295 (drop (i + 1) gaps)) (sym (ends g at)) (next_gap g at).1)
          (All-tail (IsGapSpan c.loop-i.extents.extents) gap (drop (i + 1) gaps) (is_left g at)) f.adds;
      reclaims = λ all. k.reclaims (v.reclaims all);
      honest = asks.honest ∙ v.honest;
      slots = λ y. asks.slots (v.honest ∙ y) ∙ v.slots y;
      failures = asks.counts.0 ∙ v.failures;
      works = λ y. omega (arith, asks.counts.1 (omega arith), v.failures);
    }

pub returns : goal.returns
returns g c =
    let v = c.loop-i.invariant in
    let gaps = c.args.gaps.now in
    let i : c.loop-i.i ≡ length gaps = omega (arith, c.loop-i-test.false, v.within) in
    record {
      fills =
          subst (λ (k : List Span). FillsGaps c.args.store.now c.loop-i.store c.args.extents.now c.loop-i.extents
          c.args.pool k (g.B.Backing.disk c.args.backing.now) c.args.file) (ap (λ n. take n gaps) i ∙ take-length gaps)
          v.fills;
      reads = record {
        same = tt;
        leaves = record {
          none = tt;
          given_back = tt;
          lists = ap (map pool_meant) v.fills.places.pools;
          reclaims =
              v.reclaims;
          no_room = tt;
        };
        asks =
            record {
              honest = v.honest;
              slots = v.slots;
              counts =
                  (v.failures, λ some. v.works (omega (arith, some, c.loop-i-test.false)));
            };
        late = tt;
      };
    }
