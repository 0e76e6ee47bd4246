use Rattle.std.proofs.Common.{◌-◌, arith}
use Rattle.iol_extent.specs.Extents.{extent_of}
use Rattle.iol_cache.proofs.RangeReads.SharedBytes.{over_at, over_tally}
use Rattle.iol_cache.proofs.write.cut.cut_right.Goals as goal

pub overflow_sub-to-2 : goal.overflow_sub-to-2
overflow_sub-to-2 c = let h =
    over_at c.args.extents.now.extents (c.args.to - 1) (extent_of c.in-Some.begin c.in-Some.agg.now c.in-Some.dirty)
    c.in-Some.ensures.extent in omega (arith, h.0)

pub cut-requires-clause-covered : goal.cut-requires-clause-covered
cut-requires-clause-covered c =
    record {
      each =
          λ b.
          omega (
            arith,
            over_tally c.args.extents.now.extents (c.args.to - 1)
                (extent_of c.in-Some.begin c.in-Some.agg.now c.in-Some.dirty)
                c.in-Some.ensures.extent b,
            c.requires.may.held.each b,
          );
    }

pub cut-requires-clause-countable : goal.cut-requires-clause-countable
cut-requires-clause-countable c =
    record {
      each =
          λ b.
          omega (
            arith,
            over_tally c.args.extents.now.extents (c.args.to - 1)
                (extent_of c.in-Some.begin c.in-Some.agg.now c.in-Some.dirty)
                c.in-Some.ensures.extent b,
            c.requires.may.held.each b,
            c.requires.may.few.each b,
          );
    }

pub cut-requires-clause-ordered : goal.cut-requires-clause-ordered
cut-requires-clause-ordered c = let h =
    over_at c.args.extents.now.extents (c.args.to - 1) (extent_of c.in-Some.begin c.in-Some.agg.now c.in-Some.dirty)
    c.in-Some.ensures.extent in omega (arith, h.0, h.1, c.len.ensures, c.requires.some)
