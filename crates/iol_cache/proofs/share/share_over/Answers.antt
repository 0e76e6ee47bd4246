use Rattle.std.proofs.lemmas.List.{append-nil}
use Rattle.std.proofs.Common.{◌≡◌, ◌∙◌, ◌+◌, ◌-◌, ◌<◌, ◌≤◌, ◌++◌, Option, None, Some, IsSome, ap, sym, subst, refl}
use Rattle.std.proofs.Common.{length, List, ℕ, arith, append_assoc, length-append}
use Rattle.iol_core.specs.declared.numbers.BufId.{BufId}
use Rattle.iol_agg.proofs.KnownHolds.{tally-few}
use Rattle.iol_agg.proofs.Pours.{shares_then}
use Rattle.iol_extent.specs.Extents.{Extent, end_of, extent_of, extent_over}
use Rattle.iol_hold.specs.Moves.{Shares}
use Rattle.iol_hold.specs.Places.{byte_len, places}
use Rattle.iol_hold.specs.StoreState.{Stored}
use Rattle.iol_hold.specs.Texts.{AllReadable, bufs_of}
use Rattle.iol_hold.specs.declared.slices.Slice.{Slice}
use Rattle.iol_hold.proofs.Counts.{tally-append}
use Rattle.iol_cache.specs.CacheState.{all_parts}
use Rattle.iol_cache.specs.SharedBytes.{IsCovered, places_over, slices_over}
use Rattle.iol_cache.proofs.RangeReads.SharedBytes.{all_shared, covered_over, length-places_over, over_at, over_join}
use Rattle.iol_cache.proofs.RangeReads.SharedBytes.{over_none, over_tally, over_there, readable_on, readable_places}
use Rattle.iol_cache.proofs.RangeReads.SharedBytes.{released_then, run_over}
use Rattle.iol_cache.proofs.RangeReads.SlicesOver.{over_next, parts_done, parts_more, slices_over_none}
use Rattle.iol_cache.proofs.share.share_over.Goals.{In-Err, In-Some}
use Rattle.iol_cache.proofs.share.share_over.Goals as goal

-- the number of bytes shared so far
long : (xs ys : List Slice) (es : List Extent) (from at : ℕ) → places xs ≡ places ys ++ places_over es from at
    → byte_len xs ≡ byte_len ys + (at - from)
long xs ys es from at e = ap length e ∙ length-append (places ys) (places_over es from at)
    ∙ ap (λ n. byte_len ys + n) (length-places_over es from at)

pub loop-at-init : goal.loop-at-init
loop-at-init c = record {
  begun = omega arith;
  within = c.requires.ordered;
  places = sym (ap (λ l. places c.args.so_far ++ l) (over_none c.args.extents.now.extents c.args.from)
      ∙ append-nil (places c.args.so_far));
  parts = refl;
  shares = same c.args.store.now (bufs_of c.args.so_far);
}
  where
    same : (s : Stored) (xs : List BufId) → Shares s s xs xs
    same s xs = record { counts = record { each = λ b. refl }; arena = refl; pools = refl; tidy = λ h. h }

no_extent : (o : Option Extent) → o ≡ None → IsSome o → ⊥
no_extent None is some = cc
no_extent (Some e) is some = cc

pub unreachable-requires : goal.unreachable-requires
unreachable-requires c =
    let es = c.args.extents.now.extents in
    no_extent (extent_over es c.loop-at.at) c.in_default.ensures.extent
    (covered_over es c.loop-at.at
    (c.requires.covered.each c.loop-at.at c.loop-at.invariant.begun c.loop-at-test.true))

-- the extent over byte `at`, and the slices shared before it
module _ (c : In-Some) where
  abbrev over : Extent
  over = extent_of c.in-Some.begin c.in-Some.agg.now c.in-Some._dirty

  has : (over.at ≤ c.loop-at.at) × (c.loop-at.at < end_of over)
  has = over_at c.args.extents.now.extents c.loop-at.at over c.in-Some.ensures.extent

  so_long : byte_len c.loop-at.shared ≡ byte_len c.args.so_far + (c.loop-at.at - c.args.from)
  so_long =
      long c.loop-at.shared c.args.so_far c.args.extents.now.extents c.args.from c.loop-at.at c.loop-at.invariant.places

  readable : AllReadable c.args.store.now c.loop-at.shared
  readable =
      let v = c.loop-at.invariant in
      let es = c.args.extents.now.extents in
      let covered : IsCovered es c.args.from c.loop-at.at =
      record { each = λ i lo hi. c.requires.covered.each i lo (omega (arith, hi, v.within)) } in
      readable_places {s = c.args.store.now} c.loop-at.shared c.args.so_far (places_over es c.args.from c.loop-at.at)
      v.places c.requires.own_readable (over_there es c.args.from c.loop-at.at covered c.requires.readable)

pub overflow_sub-skip : goal.overflow_sub-skip
overflow_sub-skip c = (has (goal.at.overflow_sub-skip c).In-Some).0

pub overflow_sub-len : goal.overflow_sub-len
overflow_sub-len c = let h = has (goal.at.overflow_sub-len c).In-Some in omega (arith, h.0, h.1, c.len.ensures)

pub add_range-requires-clause-within : goal.add_range-requires-clause-within
add_range-requires-clause-within c = let h = has (goal.at.add_range-requires-clause-within c).In-Some in
    omega (arith, h.0, h.1, c.len.ensures, c.min-count.ensures)

pub add_range-requires-clause-small : goal.add_range-requires-clause-small
add_range-requires-clause-small c =
    let n = so_long (goal.at.add_range-requires-clause-small c).In-Some in
    omega (arith, n, c.requires.small, c.loop-at.invariant.begun, c.loop-at.invariant.within, c.min-count.ensures)

pub add_range-requires-clause-covered : goal.add_range-requires-clause-covered
add_range-requires-clause-covered c =
    let es = c.args.extents.now.extents in
    let e = over (goal.at.add_range-requires-clause-covered c).In-Some in
    record {
      each =
          λ b. omega (
            arith,
            over_tally es c.loop-at.at e c.in-Some.ensures.extent b,
            c.requires.held.each b,
            tally-append b (bufs_of c.args.so_far) (bufs_of (all_parts es)),
            c.loop-at.invariant.shares.counts.each b,
          );
    }

pub add_range-requires-clause-countable : goal.add_range-requires-clause-countable
add_range-requires-clause-countable c =
    let n = so_long (goal.at.add_range-requires-clause-countable c).In-Some in
    record {
      each =
          λ b. omega (
            arith,
            tally-few b c.in-Some.agg.now,
            c.len.ensures,
            c.requires.few b,
            c.loop-at.invariant.shares.counts.each b,
            tally-few b c.loop-at.shared,
            n,
            c.requires.small,
            c.loop-at.invariant.within,
          );
    }

-- The addition was refused: the references of the slices shared so far are unchanged.
still : (c : In-Err)
    → Shares c.args.store.now c.add_range.new.store (bufs_of c.args.so_far) (bufs_of c.add_range.new.self)
still c =
    let s = c.args.store.now in
    let own = bufs_of c.args.so_far in
    subst (λ (t : Stored). Shares s t own (bufs_of c.add_range.new.self)) (sym c.in-Err.ensures.err_store)
    (subst (λ (xs : List Slice). Shares s c.loop-at.store own (bufs_of xs)) (sym c.in-Err.ensures.err)
    c.loop-at.invariant.shares)

pub release-requires : goal.release-requires
release-requires c =
    let all = bufs_of (all_parts c.args.extents.now.extents) in
    let m = still (goal.at.release-requires c).In-Err in
    record {
      each =
          λ b. omega (arith, c.requires.held.each b, tally-append b (bufs_of c.args.so_far) all, m.counts.each b);
    }

pub returns-in-Err : goal.returns-in-Err
returns-in-Err c =
    let at = goal.at.returns-in-Err c in
    let m = still at.In-Err in
    let r = c.release.ensures in
    let there = subst (AllReadable c.args.store.now) (sym c.in-Err.ensures.err) (readable at.In-Some) in
    record {
      places = tt;
      parts = tt;
      shared =
          released_then m r.moves r.lists r.frees (r.reclaims (readable_on c.add_range.new.self m there));
    }

pub returns : goal.returns
returns c =
    let v = c.loop-at.invariant in
    let end : c.loop-at.at ≡ c.args.to = omega (arith, c.loop-at-test.false, v.within) in
    let none = ap (λ n. slices_over c.args.extents.now.extents n c.args.to) end
    ∙ slices_over_none c.args.extents.now.extents c.args.to in
    record {
      places = v.places ∙ ap (λ n. places c.args.so_far ++ places_over c.args.extents.now.extents c.args.from n)
          end;
      parts = parts_done c.loop-at.shared _ _ none v.parts;
      shared = all_shared _ v.shares;
    }

pub loop-at-preserved : goal.loop-at-preserved
loop-at-preserved c =
    let v = c.loop-at.invariant in
    let es = c.args.extents.now.extents in
    let at = c.loop-at.at in
    let n = c.min-count.result in
    let e = over (goal.at.loop-at-preserved c).In-Some in
    let h = has (goal.at.loop-at-preserved c).In-Some in
    let run =
    run_over es at n e c.requires.apart c.in-Some.ensures.extent
    (omega (arith, h.0, h.1, c.len.ensures, c.min-count.ensures)) in
    record {
      begun = omega (arith, v.begun);
      within = omega (arith, c.min-count.ensures, c.loop-at-test.true);
      places = c.in_default-add_range.ensures.places ∙ ap (λ l. places c.loop-at.shared ++ l) (sym run)
          ∙ ap (λ l. l ++ places_over es at (at + n)) v.places
          ∙ append_assoc (places c.args.so_far) (places_over es c.args.from at) (places_over es at (at + n))
          ∙ ap (λ l. places c.args.so_far ++ l) (over_join es c.args.from at (at + n) v.begun (omega arith));
      parts = parts_more c.loop-at.shared _ _ _ _ _ c.in_default-add_range.ensures.most
          (over_next 0 es at n c.args.to e c.requires.apart c.in-Some.ensures.extent (omega (arith, v.within))
          (omega (arith, h.0, h.1, c.len.ensures, c.min-count.ensures))) v.parts;
      shares = shares_then v.shares c.in_default-add_range.ensures.shares;
    }

pub loop-at-smaller : goal.loop-at-smaller
loop-at-smaller c =
    let h = has (goal.at.loop-at-smaller c).In-Some in
    omega (arith, h.0, h.1, c.len.ensures, c.min-count.ensures, c.loop-at-test.true)
