use Rattle.std.proofs.Common.{◌+◌, ◌-◌, min, arith}
use Rattle.iol_tier.specs.Blocks.{AreLaid, Grows}
use Rattle.iol_tier.proofs.EmptyBlocks.{grows_laid, grows_then, wide_less}
use Rattle.iol_tier.proofs.tiers.TieredVec.reserve.Goals.{After-widen_blocks}
use Rattle.iol_tier.proofs.tiers.TieredVec.reserve.Goals as goal

grows : (c : After-widen_blocks) → Grows c.self.inside.blocks.items c.widen_blocks.new.blocks.items
grows c = grows_then c.self.inside.blocks.items c.add_blocks.new.blocks.items c.widen_blocks.new.blocks.items
    c.add_blocks.ensures.adds.grows c.widen_blocks.ensures.widens.grows

laid : (c : After-widen_blocks) → AreLaid c.widen_blocks.new.blocks.items c.self.inside.skip c.self.inside.len
laid c =
    grows_laid c.self.inside.blocks.items c.widen_blocks.new.blocks.items c.self.inside.skip c.self.inside.len (grows c)
    (omega (
      arith,
      c.widen_blocks.ensures.widens.count,
      c.add_blocks.ensures.adds.few,
      c.blocks_for.ensures.few,
      c.self.invariant.laid.few,
    )) c.self.invariant.laid

pub invariant_of-self-in_err-widen_blocks : goal.invariant_of-self-in_err-widen_blocks
invariant_of-self-in_err-widen_blocks c =
    let t = c.self.inside in
    let after = (goal.at.invariant_of-self-in_err-widen_blocks c).After-widen_blocks in
    let width = min 128 (t.len + t.room) in
    record {
      laid = laid after;
      room = omega (arith, (grows after).count, c.self.invariant.room);
      wide =
          c.widen_blocks.ensures.widens.wide width
          (c.add_blocks.ensures.adds.wide width (omega (arith, c.min.ensures, c.if-count-self.false))
          c.self.invariant.wide);
    }

pub invariant_of-self-2 : goal.invariant_of-self-2
invariant_of-self-2 c =
    let t = c.self.inside in
    let new = c.widen_blocks.new.blocks.items in
    record {
      laid = laid (goal.at.invariant_of-self-2 c).After-widen_blocks;
      room =
          omega (arith, c.most_in.ensures.keys, c.most_in.ensures.fits, c.len.ensures, c.widen_blocks.new.blocks.ok.0);
      wide =
          wide_less new (min 128 (t.len + (c.most_in.result - t.len))) c.min-2.result c.in_ok-widen_blocks.ensures.wide
          (omega (arith, c.most_in.ensures.keys, c.most_in.ensures.width, c.min-2.ensures));
    }
