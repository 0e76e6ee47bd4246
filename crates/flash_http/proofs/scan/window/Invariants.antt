use Rattle.std.proofs.Common.{◌≡◌, ◌<◌, ◌+◌}
use Rattle.std.specs.List.{concat}
use Rattle.flash_http.specs.Window.{window_in}
use Rattle.flash_http.specs.Scan.{window_from}
use Rattle.flash_http.proofs.scan.window.Given as goal

-- a search of the remaining pieces gives the window of all pieces
abbrev pub invariant-loop-part : goal.invariant-loop-part
invariant-loop-part l = record {
  can : (goal.iterator-loop-part).can_next l.part-iterator;
  finite : (goal.iterator-loop-part).is_finite l.part-iterator;
  room : l.scan.skip + l.scan.len < 8192;
  same : window_from l.scan (concat l.part-iterator) ≡ window_in (concat l.fn.parts);
}
