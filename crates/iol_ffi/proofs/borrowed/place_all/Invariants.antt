use Rattle.std.proofs.Common.{◌≡◌, ◌+◌, ◌≤◌, ◌<◌, drop, length, min}
use Rattle.iol_ffi.specs.Parts.{WritesBelow, all_bytes}
use Rattle.iol_ffi.proofs.borrowed.place_all.Given as goal

-- The parts that were counted and those that are left are all parts. The parts that were counted are written.
abbrev pub invariant-loop-part : goal.invariant-loop-part
invariant-loop-part l = record {
  can : (goal.iterator-loop-part).can_next l.part-iterator;
  finite : (goal.iterator-loop-part).is_finite l.part-iterator;
  count_fits : l.count ≤ 18446744073709551615;
  len_fits : l.len ≤ 18446744073709551615;
  parts : min (l.count + length l.part-iterator) 18446744073709551615 ≡ min (length l.fn.parts) 18446744073709551615;
  bytes : min (l.len + length (all_bytes l.part-iterator)) 18446744073709551615 ≡ min (length (all_bytes l.fn.parts))
      18446744073709551615;
  rest : l.count < 18446744073709551615 → l.part-iterator ≡ drop l.count l.fn.parts;
  written : WritesBelow l.count l.fn.parts l.fn.skip l.fn.room l.room;
}
