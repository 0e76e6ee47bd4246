use Rattle.iol_kernel.specs.Kernel.{state_of}
use Rattle.iol_kernel.proofs.FileCalls.FileNames.{cache_sound}
use Rattle.iol_kernel.proofs.kernel.Kernel.report.Goals as goal

pub report-cached-requires-clause-short : goal.report-cached-requires-clause-short
report-cached-requires-clause-short c f = (let filed = (cache_sound (state_of c.args.self.now) c.requires).files f in
    filed.short)
