use Rattle.std.proofs.Common.{◌∙◌, ap, arith, length, length-append, [], ◌∷◌, ◌++◌}
use Rattle.iol_cache.specs.CacheState.{order_in, no_order}
use Rattle.iol_cache.proofs.Extents.NewFiles.{order_push}
use Rattle.iol_cache.proofs.cache.add_orders.Goals as goal

pub loop-alloc-preserved : goal.loop-alloc-preserved
loop-alloc-preserved c =
    let items = c.push_reserved.ensures.items ∙ ap (λ r. c.loop-alloc.orders.items ++ r ∷ []) c.new.ensures in
    let long = ap length items ∙ length-append c.loop-alloc.orders.items (no_order ∷ []) in
    record {
      same = λ p. ap (λ l. order_in l p) items ∙ order_push c.loop-alloc.orders.items p ∙ c.loop-alloc.invariant.same p;
      no_fewer = omega (arith, long, c.loop-alloc.invariant.no_fewer);
      no_more =
          omega (
            arith,
            long,
            c.loop-alloc.invariant.no_more,
            c.loop-alloc-test.true,
            c.len.ensures,
            c.loop-alloc.orders.ok.0,
          );
      room = omega (arith, c.push_reserved.ensures.capacity, c.loop-alloc.invariant.room);
    }
