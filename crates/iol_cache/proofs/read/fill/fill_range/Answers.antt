use Rattle.std.proofs.Common.{◌≡◌, ◌∙◌, refl, ap, arith}
use Rattle.iol_core.specs.declared.refusals.Refusal.TheVariants.{Memory, NoRoom}
use Rattle.iol_hold.specs.Texts.{bufs_of}
use Rattle.iol_hold.proofs.PageChanges.{keeps_pages_same}
use Rattle.iol_hold.proofs.ReadSlices.{readable_stays}
use Rattle.iol_hold.proofs.Releases.{frees_trans}
use Rattle.iol_extent.specs.Extents.{ExtentMap}
use Rattle.iol_cache.specs.CacheState.{all_parts}
use Rattle.iol_cache.specs.Gaps.{gap_pages}
use Rattle.iol_cache.specs.declared.files.CachedFile.{CachedFile}
use Rattle.iol_cache.proofs.RangeReads.FilledGaps.{CanTakeBack, can_take_back, covers_back, order_wide, placed_some}
use Rattle.iol_cache.proofs.RangeReads.FilledGaps.{reads_as, reads_refused, taken_back}
use Rattle.iol_cache.proofs.RangeReads.WholeRange.{range_held, range_few, range_covered, range_readable, range_still}
use Rattle.iol_cache.proofs.read.fill.fill_range.Given.{Over}
use Rattle.iol_cache.proofs.read.fill.fill_range.Goals.{In_default-weave}
use Rattle.iol_cache.proofs.read.fill.fill_range.Goals as goal

pub fill_gaps-requires : goal.fill_gaps-requires
fill_gaps-requires g c =
    let h = c.requires.gaps in
    record {
      apart = h.apart;
      in_order =
          order_wide c.args.part.now.from c.args.part.now.to 0 4294967295 c.args.gaps.now (omega arith)
          (omega (arith, c.requires.end)) h.in_order;
      each = h.each;
      room = h.room;
      opened = h.opened;
    }

-- a file with other extents
put : (x : CachedFile) (m : ExtentMap) → m ≡ x.extents
    → (let y : CachedFile = record { pool = x.pool; extents = m } in y) ≡ x
put x m e = ap (λ (l : ExtentMap). let y : CachedFile = record { pool = x.pool; extents = l } in y) e

pub returns-in-Err : goal.returns-in-Err
returns-in-Err g c =
    record {
      fills = tt;
      parts = tt;
      pool = refl;
      reads =
          reads_refused (put c.args.cached.now c.fill_gaps.new.extents) c.in-Err.ensures.reads;
    }

pub weave-requires : goal.weave-requires
weave-requires g c =
    let from = c.args.part.now.from in
    let to = c.args.part.now.to in
    let h = c.requires.gaps in
    let b = c.requires.beside in
    let fills = c.in_default.ensures.fills in
    let held = range_held _ _ _ _ _ _ from to _ _ fills c.requires.held in
    let still = range_still _ _ _ _ _ _ from to _ _ fills (bufs_of c.args.beside.now) b.held in
    record {
      there =
          record {
            apart = fills.apart;
            held = held;
            readable =
                range_readable _ _ _ _ _ _ _ _ fills c.requires.readable held;
          };
      in_order = h.in_order;
      covered = range_covered _ _ _ _ _ _ from to _ _ fills h.in_order h.each;
      beside =
          record {
            long = b.long;
            held = still;
            readable =
                readable_stays c.args.beside.now fills.moves.stays still b.readable;
          };
      few = range_few _ _ _ _ _ _ from to _ _ fills (omega (arith, c.requires.end)) h.in_order c.requires.few;
    }

-- The gaps were read, and there was no memory for the range.

back : (g : Over) (c : In_default-weave g)
    → CanTakeBack c.fill_gaps.new.store c.args.cached.now.extents.extents c.fill_gaps.new.extents.extents
    c.args.gaps.now (bufs_of (all_parts c.in_default.ensures.fills.made))
back g c = let h = c.requires.gaps in
    can_take_back c.args.part.now.from c.args.part.now.to h.apart h.in_order h.each c.in_default.ensures.fills

pub take_back-requires-clause-begin : goal.take_back-requires-clause-begin
take_back-requires-clause-begin g c = (back g (goal.at.take_back-requires-clause-begin g c).In_default-weave).begin

pub take_back-requires-clause-covered : goal.take_back-requires-clause-covered
take_back-requires-clause-covered g c =
    covers_back c.in_default.ensures.fills.moves c.in_default-weave.ensures.shared.gone
    (back g (goal.at.take_back-requires-clause-covered g c).In_default-weave).same

pub returns-in_default-weave : goal.returns-in_default-weave
returns-in_default-weave g c =
    let gaps = c.args.gaps.now in
    let t = c.fill_gaps.new.store in
    let fills = c.in_default.ensures.fills in
    let e = c.in_default.ensures.reads in
    let w = c.weave.ensures.shared in
    let taken = c.take_back.ensures in
    let left = placed_some (gap_pages gaps) (omega arith) fills.places (keeps_pages_same t t refl refl)
    (frees_trans w.frees taken.frees taken.moves.counts) refl in
    record {
      fills = tt;
      parts = tt;
      pool = refl;
      reads =
          reads_as refl (put c.args.cached.now c.take_back.new.extents)
          (taken_back gaps Memory fills (back g (goal.at.returns-in_default-weave g c).In_default-weave)
          c.in_default-weave.ensures.shared.gone (w.lists ∙ e.leaves.lists) (λ all. w.reclaims (e.leaves.reclaims all))
          taken left
          (λ q is. absurd (let other : Memory ≡ NoRoom q = is in cc))
          (record { honest = e.asks.honest; slots = e.asks.slots; counts = e.asks.counts.0 }) tt);
    }
