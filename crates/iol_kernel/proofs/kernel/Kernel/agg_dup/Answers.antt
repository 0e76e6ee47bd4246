use Rattle.std.proofs.Common.{rules}
use Rattle.iol_kernel.specs.Kernel.{state_of}
use Rattle.iol_kernel.proofs.AggregateCalls.Additions.{dup_answers}
use Rattle.iol_kernel.proofs.kernel.Kernel.agg_dup.Goals as goal

pub returns : goal.returns
returns c =
    let done = dup_answers (state_of c.args.self.now) (state_of c.add_cut.new.self) c.args.by c.args.agg c.in_ok-len.len
    c.in_ok-add_cut.field-0 c.in_ok-len.ensures.ok.len c.in_ok-add_cut.ensures.done in
    search (rules, done)
