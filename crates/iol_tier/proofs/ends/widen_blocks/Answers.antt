use Rattle.std.proofs.Common.{◌<◌, length, set, arith}
use Rattle.iol_tier.specs.Blocks.{Widens}
use Rattle.iol_tier.proofs.EmptyBlocks.{widened, widened_here, widened_width}
use Rattle.iol_tier.proofs.ends.widen_blocks.Goals.{After-widen}
use Rattle.iol_tier.proofs.ends.widen_blocks.Goals as goal

within : (c : After-widen) → c.loop-at.at < length c.loop-at.blocks.items
within c =
    omega (arith, c.loop-at-test.true, c.len-at-end.ensures, c.args.blocks.now.ok.0, c.loop-at.invariant.widens.count)

widens : (c : After-widen) → Widens c.args.blocks.now.items (set c.loop-at.blocks.items c.loop-at.at c.widen.new.self)
widens c = widened c.args.blocks.now.items c.loop-at.blocks.items c.loop-at.at c.index_mut.result.now c.widen.new.self
    c.loop-at.invariant.widens (within c) c.index_mut.ensures.value c.widen.ensures.keys c.widen.ensures.kept

pub returns-in_err-widen-clause-widens : goal.returns-in_err-widen-clause-widens
returns-in_err-widen-clause-widens c = widens (goal.at.returns-in_err-widen-clause-widens c).After-widen

pub loop-at-preserved : goal.loop-at-preserved
loop-at-preserved c =
    let mid = c.loop-at.blocks.items in
    let b = c.widen.new.self in
    let after = (goal.at.loop-at-preserved c).After-widen in
    record {
      widens = widens after;
      wide = λ k below. widened_here mid c.loop-at.at b k c.args.width (within after) c.in_ok-widen.ensures.width
          (λ j l. widened_width mid c.loop-at.at c.index_mut.result.now b j c.args.width (within after)
          c.index_mut.ensures.value c.widen.ensures.kept (c.loop-at.invariant.wide j l)) below;
    }
