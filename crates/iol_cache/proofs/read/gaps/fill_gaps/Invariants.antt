use Rattle.std.proofs.Common.{◌≡◌, ◌<◌, ◌≤◌, true, All, length, take, drop}
use Rattle.iol_back.specs.Disk.{last_failure}
use Rattle.iol_extent.specs.Spans.{IsGapSpan}
use Rattle.iol_hold.specs.StoreState.{AllReclaimed}
use Rattle.iol_cache.specs.Gaps.{FillsGaps}
use Rattle.iol_cache.proofs.read.gaps.fill_gaps.Given as goal

abbrev pub invariant-loop-i : goal.invariant-loop-i
invariant-loop-i g l = record {
  within : l.i ≤ length l.gaps;
  fills : FillsGaps l.fn.store l.store l.fn.extents l.extents l.pool (take l.i l.gaps) (g.B.Backing.disk l.fn.backing)
      l.file;
  left : All (IsGapSpan l.extents.extents) (drop l.i l.gaps);
  reclaims : AllReclaimed l.fn.store → AllReclaimed l.store;
  honest : (g.B.Backing.disk l.backing).honest ≡ (g.B.Backing.disk l.fn.backing).honest;
  slots : (g.B.Backing.disk l.fn.backing).honest ≡ true
      → (g.B.Backing.disk l.backing).slots ≡ (g.B.Backing.disk l.fn.backing).slots;
  failures : (g.B.Backing.disk l.backing).failures ≡ (g.B.Backing.disk l.fn.backing).failures;
  works : 0 < l.i → (g.B.Backing.disk l.fn.backing).failures < last_failure;
}
