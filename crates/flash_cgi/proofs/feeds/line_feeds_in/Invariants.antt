use Rattle.std.proofs.Common.{◌≡◌, ◌+◌, count_by, length}
use Rattle.std.specs.List.{concat}
use Rattle.flash_cgi.specs.Script.{is_line_feed}
use Rattle.flash_cgi.proofs.feeds.line_feeds_in.Given as goal

-- the count so far plus that of the remaining bytes is the count of all bytes
abbrev pub invariant-loop-part : goal.invariant-loop-part
invariant-loop-part l = record {
  can : (goal.iterator-loop-part).can_next l.part-iterator;
  finite : (goal.iterator-loop-part).is_finite l.part-iterator;
  lines : l.count + count_by is_line_feed (concat l.part-iterator) ≡ count_by is_line_feed (concat l.fn.parts);
  bytes : length (concat l.fn.parts) ≡ l.fn.len;
}
