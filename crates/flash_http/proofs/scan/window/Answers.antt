use Rattle.std.proofs.Common.{arith}
use Rattle.std.specs.List.{concat}
use Rattle.flash_http.proofs.ScanLemmas.{window_start}
use Rattle.flash_http.proofs.scan.window.Goals as goal

pub loop-part-init : goal.loop-part-init
loop-part-init c = record {
  can = tt;
  finite = tt;
  room = omega arith;
  same = rw c.into_iter-part-iterator.ensures.into_iter_gives (window_start (concat c.args.parts));
}
