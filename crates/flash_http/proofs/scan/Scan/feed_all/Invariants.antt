use Rattle.std.proofs.Common.{◌≡◌, ◌<◌, ◌+◌, ◌++◌, List, ℕ, length}
use Rattle.flash_http.specs.Scan.{window_from}
use Rattle.flash_http.proofs.scan.Scan.feed_all.Given as goal

-- a search of the remaining bytes gives the window of all bytes
abbrev pub invariant-loop-rest : goal.invariant-loop-rest
invariant-loop-rest l = record {
  room : l.self.skip + l.self.len < 8192;
  same : (rest : List ℕ) → window_from l.self (l.rest ++ rest) ≡ window_from l.fn.self (l.fn.bytes ++ rest);
}

abbrev pub decreases-loop-rest : goal.decreases-loop-rest
decreases-loop-rest l = length l.rest
