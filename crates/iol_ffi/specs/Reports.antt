-- A report that C gets.
use Rattle.std.specs.Prelude.{◌≡◌, length, Option, Some, Result, Ok, Err}
use Rattle.core.specs.declared.alloc.AllocError.{AllocError}
use Rattle.iol_kernel.specs.KernelState.{KernelState}
use Rattle.iol_kernel.specs.Report.{Reports}
use Rattle.iol_kernel.specs.declared.report.Report.{Report}
use Rattle.iol_ffi.specs.declared.Machine.{Machine}
use Rattle.iol_ffi.specs.declared.report.IolReport.{IolReport}

-- C gets the numbers of this report
abbrev pub HasCounts : Report → IolReport → Type 0
HasCounts x r = (r.refusal ≡ 0) × (r.buffers ≡ x.buffers) × (r.extents ≡ x.extents) × (r.dirty ≡ x.dirty)
    × (r.pools ≡ length x.pools.items)

-- C gets the numbers of this report, or the refusal for lack of memory
abbrev pub IsCounted : Result Report AllocError → IolReport → Type 0
IsCounted (Ok x) r = HasCounts x r
IsCounted (Err e) r = r.refusal ≡ 17

-- C gets the counts of a system
pub record IsReported (h : KernelState) (r : IolReport) : Type 0 where
  pub report : Result Report AllocError
  pub reports : Reports h report
  pub counted : IsCounted report r

-- likewise for the machine in a handle
abbrev pub ReportsTo : Option Machine → IolReport → Type 0
ReportsTo (Some m) r = IsReported m.system.kernel r
ReportsTo o r = ⊥
