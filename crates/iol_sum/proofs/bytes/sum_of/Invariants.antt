use Rattle.std.proofs.Common.{◌≡◌, ◌+◌, ◌*◌, ◌≤◌, drop, length, cond, ◌∷◌}
use Rattle.iol_core.specs.Checksum.{word_sum, folded}
use Rattle.iol_sum.proofs.bytes.sum_of.Given as goal

-- the total is swapped: 256 times the total has the sum of the bytes so far
abbrev pub invariant-loop-chunk : goal.invariant-loop-chunk
invariant-loop-chunk l = record {
  sum : folded (256 * l.total + word_sum (drop (8 * l.chunk-index) l.bytes)) ≡ folded (word_sum l.bytes);
  bound : l.total ≤ l.chunk-index * 18446744073709551615;
}

abbrev pub invariant-loop-byte : goal.invariant-loop-byte
invariant-loop-byte l = record {
  sum :
      folded
      (256 * l.total + cond l.is_first (word_sum (drop l.byte-index l.rest)) (word_sum (0 ∷ drop l.byte-index l.rest)))
      ≡ folded (word_sum l.bytes);
  bound : l.total ≤ length l.bytes * 18446744073709551615 + 65280 * l.byte-index;
}
