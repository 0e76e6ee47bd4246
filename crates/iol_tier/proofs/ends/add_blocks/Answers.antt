use Rattle.std.proofs.Common.{◌≡◌, ◌≤◌, List, [], ◌∷◌, ◌++◌, ap, ◌∙◌, subst, sym, arith, length, length-append}
use Rattle.iol_tier.specs.Blocks.{Block, AreWide, Grows}
use Rattle.iol_tier.proofs.EmptyBlocks.{grows_more, wide_more}
use Rattle.iol_tier.proofs.ends.add_blocks.Goals as goal

pub loop-alloc-preserved : goal.loop-alloc-preserved
loop-alloc-preserved c =
    let old = c.args.blocks.now.items in
    let mid = c.loop-alloc.blocks.items in
    let b = c.widen.new.self in
    let is : c.push_back_reserved.new.self.items ≡ mid ++ b ∷ [] = c.push_back_reserved.ensures.items
    ∙ ap (λ (bs : List Block). bs ++ b ∷ []) c.reserve.ensures.items in
    let wide : c.args.width ≤ b.capacity = c.in_ok-widen.ensures.width in
    record {
      grows =
          subst (Grows old) (sym is) (grows_more old mid b c.loop-alloc.invariant.grows (c.widen.ensures.keys
          ∙ c.new-block.ensures));
      wide =
          λ w l all. subst (λ (bs : List Block). AreWide bs w) (sym is)
          (wide_more mid b w (c.loop-alloc.invariant.wide w l all) (omega (arith, l, wide)));
      few =
          omega (
            arith,
            ap length is,
            length-append mid (b ∷ []),
            c.loop-alloc-test.true,
            c.len.ensures,
            c.loop-alloc.blocks.ok.0,
          );
    }
