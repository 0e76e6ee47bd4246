use Rattle.std.proofs.Common.{◌≡◌, ℕ, ◌+◌, ◌-◌, ◌<◌, ◌++◌, List, length, take, drop, get_or, slice_range, subst, sym}
use Rattle.std.proofs.Common.{ap, ◌∙◌, arith, rules}
use Rattle.std.proofs.lemmas.Grind.{common_steps}
use Rattle.std.proofs.lemmas.List.{take_rest, drop_all, length-drop, get_or-drop}
use Rattle.iol_hold.specs.Places.{places}
use Rattle.iol_hold.specs.StoreState.{Stored, Buffer}
use Rattle.iol_hold.specs.Texts.{bufs_of}
use Rattle.iol_hold.specs.declared.slices.Slice.{Slice}
use Rattle.iol_agg.specs.Pours.{AreShareable, Pours, meeting}
use Rattle.iol_agg.proofs.Cuts.{cut_more}
use Rattle.iol_agg.proofs.Division.{drop-halves}
use Rattle.iol_agg.proofs.RangeSlices.{meeting-drop, meeting-empty, meeting-nil, meeting_more, meeting_done}
use Rattle.iol_agg.proofs.Pours.{shareable_drop, pours_rest, pours_within, pours_more, pours_one, next_live, next_few}
use Rattle.iol_agg.proofs.aggregates.pour.pour.Goals as goal

-- the slices from the k-th on
abbrev later : List Slice → ℕ → List Slice
later xs k = slice_range xs k (length xs)

-- slices poured from the first i of these are poured from all slices
poured : {s t : Stored} {before after : List Slice} (xs : List Slice) (k i : ℕ)
    → Pours s t before after (bufs_of (take i (later xs k))) → Pours s t before after (bufs_of xs)
poured {s} {t} {before} {after} xs k i m =
    pours_rest xs k (subst (λ l. Pours s t before after (bufs_of l)) (take_rest xs k) (pours_within (later xs k) i m))

shareable_later : {s : Stored} (xs : List Slice) (k : ℕ) → AreShareable s (bufs_of xs)
    → AreShareable s (bufs_of (later xs k))
shareable_later {s} xs k held =
    subst (λ l. AreShareable s (bufs_of l)) (sym (take_rest xs k)) (shareable_drop xs k held)

-- the next slice has more bytes than are skipped
ends_after : (xs : List Slice) (i skip : ℕ) (x : Slice) → x ≡ get_or xs i x
    → ((d : Slice) → 0 < skip → skip < (get_or xs i d).len) → skip < x.len
ends_after xs i skip x is inside = grind (arith, inside x, ap (λ (w : Slice). w.len) is, x.some)

-- likewise for the first of them, which is the k-th slice
inside_later : (xs : List Slice) (k r : ℕ) → ((d : Slice) → 0 < r → r < (get_or xs k d).len) → (d : Slice) → 0 < r
    → r < (get_or (later xs k) 0 d).len
inside_later xs k r inside d some =
    let at : k + 0 ≡ k = omega arith in
    let first : get_or (later xs k) 0 d ≡ get_or xs k d = ap (λ l. get_or l 0 d) (take_rest xs k) ∙ get_or-drop k xs 0 d
    ∙ ap (λ j. get_or xs j d) at in
    omega (arith, inside d some, ap (λ (w : Slice). w.len) first)

pub loop-slice-init : goal.loop-slice-init
loop-slice-init c =
    let xs = c.args.slices.now in
    let out = c.args.out.now.items in
    let k = c.place_of-whole.result.0 in
    let r = c.place_of-whole.result.1 in
    let n = c.args.to - c.args.from in
    record {
      so_far = ap (λ l. places out ++ take n (drop r (places l))) (take_rest xs k)
          ∙ ap (λ l. places out ++ take n l) (drop-halves xs k r c.args.from c.place_of-whole.ensures.at);
      pours = search rules;
      bufs = ap (λ l. bufs_of out ++ bufs_of (meeting r (r + n) l)) (take_rest xs k)
          ∙ ap (λ l. bufs_of out ++ bufs_of l) (meeting-drop xs k r n c.args.from c.args.to c.place_of-whole.ensures.at
          (omega arith));
      inside = inside_later xs k r c.place_of-whole.ensures.inside;
      capacity = search rules;
      short = omega (arith, ap length (take_rest xs k), length-drop k xs);
    }

pub returns-then-left-eq0 : goal.returns-then-left-eq0
returns-then-left-eq0 c =
    let m = c.loop-slice.invariant in
    let out = c.loop-slice.out.items in
    let rest = drop c.loop-slice.slice-index (later c.args.slices.now c.place_of-whole.result.0) in
    let skip = c.loop-slice.skip in
    let left = c.loop-slice.left in
    let here : skip + left ≡ skip = omega arith in
    record {
      places = grind (arith, common_steps, m.so_far);
      pours = poured c.args.slices.now c.place_of-whole.result.0 c.loop-slice.slice-index m.pours;
      bufs = meeting_done out rest skip left _ (ap (λ n. meeting skip n rest) here ∙ meeting-empty skip rest) m.bufs;
      capacity = m.capacity;
      len = omega (arith, m.short);
    }

pub returns : goal.returns
returns c =
    let m = c.loop-slice.invariant in
    let out = c.loop-slice.out.items in
    let xs = later c.args.slices.now c.place_of-whole.result.0 in
    let i = c.loop-slice.slice-index in
    let skip = c.loop-slice.skip in
    let left = c.loop-slice.left in
    let none = drop_all i xs (omega arith) in
    record {
      places = grind (arith, common_steps, m.so_far);
      pours = poured c.args.slices.now c.place_of-whole.result.0 i m.pours;
      bufs =
          meeting_done out (drop i xs) skip left _ (ap (meeting skip (skip + left)) none
          ∙ meeting-nil skip (skip + left)) m.bufs;
      capacity = m.capacity;
      len = omega (arith, m.short);
    }

pub share-requires-clause-live : goal.share-requires-clause-live
share-requires-clause-live c =
    let held = shareable_later c.args.slices.now c.place_of-whole.result.0 c.requires.held in
    next_live (later c.args.slices.now c.place_of-whole.result.0) c.loop-slice.slice-index c.slice-item.result
    (omega arith) c.slice-item.is held.covered c.loop-slice.invariant.pours

pub share-requires-clause-few : goal.share-requires-clause-few
share-requires-clause-few c =
    let held = shareable_later c.args.slices.now c.place_of-whole.result.0 c.requires.held in
    next_few (later c.args.slices.now c.place_of-whole.result.0) c.loop-slice.slice-index c.slice-item.result
    (omega arith) c.slice-item.is held.countable c.loop-slice.invariant.pours

pub loop-slice-preserved : goal.loop-slice-preserved
loop-slice-preserved c =
    let xs = later c.args.slices.now c.place_of-whole.result.0 in
    let i = c.loop-slice.slice-index in
    let out = c.loop-slice.out.items in
    let skip = c.loop-slice.skip in
    let left = c.loop-slice.left in
    let taken = c.min-taken.result in
    let x = c.slice-item.result in
    let part = c.cut.result in
    let m = c.loop-slice.invariant in
    let items = c.push_reserved.ensures.items in
    let is = c.slice-item.is in
    let ends = ends_after xs i skip x is m.inside in
    let same : part.hold.buf ≡ x.hold.buf = ap (λ (h : Buffer). h.buf) (c.cut.ensures.hold ∙ c.share.ensures.hold) in
    record {
      so_far =
          rw items (cut_more out xs i skip left taken x c.share.result part _ (omega arith) is ends (omega arith)
          c.share.ensures.places c.cut.ensures.places m.so_far);
      pours =
          rw items
          (pours_more xs i x (omega arith) is m.pours
          (pours_one c.loop-slice.store c.share.new.store out part x.hold.buf same c.share.ensures.shares));
      bufs =
          rw items (meeting_more out xs i skip left taken x part _ (omega arith) is (omega arith) ends (omega arith)
          same m.bufs);
      inside = λ d some. absurd (omega arith);
      capacity = c.push_reserved.ensures.capacity ∙ m.capacity;
      short = omega (arith, ends, m.short);
    }
