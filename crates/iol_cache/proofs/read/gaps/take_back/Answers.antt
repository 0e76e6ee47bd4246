use Rattle.std.proofs.Common.{◌≡◌, ◌∙◌, ◌-◌, ◌++◌, [], Some, IsSome, IfSome, ap, sym, subst, refl, get_or, drop, List}
use Rattle.std.proofs.Common.{Option, ℕ, arith}
use Rattle.iol_hold.specs.Moves.{Covers, Moves, tally}
use Rattle.iol_hold.specs.StoreState.{Stored}
use Rattle.iol_hold.specs.Texts.{AllReadable, bufs_of}
use Rattle.iol_hold.specs.declared.slices.Slice.{Slice}
use Rattle.iol_hold.proofs.Counts.{tally-append, tally_none}
use Rattle.iol_hold.proofs.Moves.{moves_trans}
use Rattle.iol_hold.proofs.ReadSlices.{readable_stays}
use Rattle.iol_hold.proofs.Releases.{frees_trans}
use Rattle.iol_extent.specs.Extents.{Extent, begins_at}
use Rattle.iol_extent.specs.declared.spans.Span.{Span}
use Rattle.iol_cache.specs.Gaps.{parts_back}
use Rattle.iol_cache.proofs.RangeReads.TakenBack.{next_back, back_fewer, readable_back, readable_here}
use Rattle.iol_cache.specs.CacheState.{parts_in}
use Rattle.iol_cache.proofs.read.gaps.take_back.Goals as goal

abbrev no_span : Span
no_span = record { from = 0; to = 0 }

given_is : (o : Option Extent) (xs : List Slice) (e : Extent) → IfSome o (λ x. xs ≡ x.parts) → o ≡ Some e → xs ≡ e.parts
given_is o xs e h is = subst (λ (o : Option Extent). IfSome o (λ x. xs ≡ x.parts)) is h

-- the slices that are released next are held
covered : (s t : Stored) (es : List Extent) (gs : List Span) (n : ℕ) (xs back : List Slice)
    → Covers s (bufs_of (parts_back es gs)) → Moves s t (bufs_of back) []
    → bufs_of (parts_back es (drop n gs)) ≡ bufs_of back ++ bufs_of xs → Covers t (bufs_of xs)
covered s t es gs n xs back c m e =
    record {
      each =
          λ b. omega (
            arith,
            c.each b,
            m.counts.each b,
            tally_none b,
            back_fewer es gs n b,
            ap (tally b) e,
            tally-append b (bufs_of back) (bufs_of xs),
          );
    }

pub remove-agg-requires : goal.remove-agg-requires
remove-agg-requires c =
    let v = c.loop-left.invariant in
    let g = get_or c.args.spans.now (c.loop-left.left - 1) no_span in
    let next = next_back c.args.extents.now.extents c.loop-left.extents.extents c.args.spans.now c.loop-left.left g
    no_span c.loop-left-test.true v.few refl c.requires.begin v.extents in
    subst IsSome (sym next.begins) refl

pub release-requires : goal.release-requires
release-requires c =
    let v = c.loop-left.invariant in
    let g = get_or c.args.spans.now (c.loop-left.left - 1) no_span in
    let next = next_back c.args.extents.now.extents c.loop-left.extents.extents c.args.spans.now c.loop-left.left g
    no_span c.loop-left-test.true v.few refl c.requires.begin v.extents in
    let is = given_is (begins_at c.loop-left.extents.extents g.from) c.remove-agg.result next.extent
    c.remove-agg.ensures.given next.begins in
    let back = parts_back c.args.extents.now.extents (drop c.loop-left.left c.args.spans.now) in
    covered c.args.store.now c.loop-left.store c.args.extents.now.extents c.args.spans.now (c.loop-left.left - 1)
    c.remove-agg.result back c.requires.covered v.moves (next.parts
    ∙ ap (λ xs. bufs_of back ++ bufs_of xs) (sym is))

pub loop-left-preserved : goal.loop-left-preserved
loop-left-preserved c =
    let v = c.loop-left.invariant in
    let es = c.args.extents.now.extents in
    let spans = c.args.spans.now in
    let g = get_or spans (c.loop-left.left - 1) no_span in
    let next = next_back es c.loop-left.extents.extents spans c.loop-left.left g no_span c.loop-left-test.true v.few
    refl c.requires.begin v.extents in
    let is = given_is (begins_at c.loop-left.extents.extents g.from) c.remove-agg.result next.extent
    c.remove-agg.ensures.given next.begins in
    let back = parts_back es (drop c.loop-left.left spans) in
    let parts : bufs_of (parts_back es (drop (c.loop-left.left - 1) spans)) ≡ bufs_of back
    ++ bufs_of c.remove-agg.result = next.parts ∙ ap (λ xs. bufs_of back ++ bufs_of xs) (sym is) in
    record {
      few = omega (arith, v.few);
      extents = c.remove-agg.ensures.extents ∙ next.extents;
      room = omega (arith, c.remove-agg.ensures.room, v.room, c.loop-left-test.true);
      moves =
          subst (λ bs. Moves c.args.store.now c.release.new.store bs []) (sym parts)
          (moves_trans v.moves c.release.ensures.moves);
      lists = c.release.ensures.lists ∙ v.lists;
      frees = frees_trans v.frees c.release.ensures.frees c.release.ensures.moves.counts;
      reclaims = λ readable all.
          let here =
          readable_here es g (drop c.loop-left.left spans)
          (subst (λ (l : List Span). AllReadable c.args.store.now (parts_back es l)) next.left_is
          (readable_back es spans (c.loop-left.left - 1) readable)) in
          let there : AllReadable c.args.store.now c.remove-agg.result =
          subst (AllReadable c.args.store.now)
          (ap parts_in (ap (λ (xs : List Extent). begins_at xs g.from) (sym v.extents) ∙ next.begins) ∙ sym is)
          here in
          c.release.ensures.reclaims
          (readable_stays c.remove-agg.result v.moves.stays
          (covered c.args.store.now c.loop-left.store es spans (c.loop-left.left - 1) c.remove-agg.result back
          c.requires.covered v.moves parts) there) (v.reclaims readable all);
    }
