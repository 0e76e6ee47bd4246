use Rattle.std.proofs.Common.{arith}
use Rattle.iol_extent.specs.Extents.{extent_of}
use Rattle.iol_cache.proofs.RangeReads.SharedBytes.{over_at, over_tally}
use Rattle.iol_cache.proofs.write.cut.cut_left.Goals as goal

pub overflow_sub-from : goal.overflow_sub-from
overflow_sub-from c = let h =
    over_at c.args.extents.now.extents (c.args.from) (extent_of c.in-Some.begin c.in-Some.agg.now c.in-Some.dirty)
    c.in-Some.ensures.extent in omega (arith, h.0)

pub cut-requires-clause-covered : goal.cut-requires-clause-covered
cut-requires-clause-covered c =
    record {
      each =
          λ b.
          omega (
            arith,
            over_tally c.args.extents.now.extents (c.args.from)
                (extent_of c.in-Some.begin c.in-Some.agg.now c.in-Some.dirty)
                c.in-Some.ensures.extent b,
            c.requires.held.each b,
          );
    }

pub cut-requires-clause-countable : goal.cut-requires-clause-countable
cut-requires-clause-countable c =
    record {
      each =
          λ b.
          omega (
            arith,
            over_tally c.args.extents.now.extents (c.args.from)
                (extent_of c.in-Some.begin c.in-Some.agg.now c.in-Some.dirty)
                c.in-Some.ensures.extent b,
            c.requires.held.each b,
            c.requires.few.each b,
          );
    }

pub cut-requires-clause-within : goal.cut-requires-clause-within
cut-requires-clause-within c = let h =
    over_at c.args.extents.now.extents (c.args.from) (extent_of c.in-Some.begin c.in-Some.agg.now c.in-Some.dirty)
    c.in-Some.ensures.extent in omega (arith, h.0, h.1)
