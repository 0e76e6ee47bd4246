use Rattle.std.proofs.Common.{◌≡◌, ◌+◌, ◌-◌, ◌≤◌, vec_len, vec_capacity}
use Rattle.iol_kernel.specs.Report.{reports_of}
use Rattle.iol_kernel.proofs.report.report_pools.Given as goal

abbrev pub invariant-loop-n : goal.invariant-loop-n
invariant-loop-n l = record {
  so_far : l.reports.items ≡ reports_of l.store l.n;
  room : vec_len l.reports + (l.count - l.n) ≤ vec_capacity l.reports;
}
