use Rattle.std.proofs.Common.{◌∙◌, arith, length-append}
use Rattle.iol_back.proofs.Contents.{content-push_none}
use Rattle.iol_back.proofs.slots.reach.Goals as goal

pub loop-alloc-preserved : goal.loop-alloc-preserved
loop-alloc-preserved c = record {
  no_fewer = rw (c.push_reserved.ensures.items, c.reserve.ensures.items) (simp length-append (omega arith));
  few = rw (c.push_reserved.ensures.items, c.reserve.ensures.items) (simp length-append (omega arith));
  stay =
      record {
        each =
            λ f. rw (c.push_reserved.ensures.items, c.reserve.ensures.items)
            (content-push_none (λ v. v.items) _ c.new.result f c.new.ensures.items
            ∙ c.loop-alloc.invariant.stay.each f);
      };
}
