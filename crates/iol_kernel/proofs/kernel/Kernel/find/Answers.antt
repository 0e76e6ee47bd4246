use Rattle.std.proofs.Common.{◌∙◌, sym}
use Rattle.iol_kernel.specs.Kernel.{state_of}
use Rattle.iol_kernel.proofs.AggregateCalls.Slices.{is_found, no_domain_missing, no_agg_missing}
use Rattle.iol_kernel.proofs.kernel.Kernel.find.Goals as goal

pub returns-then-not-live-clause-err : goal.returns-then-not-live-clause-err
returns-then-not-live-clause-err c =
    no_domain_missing (state_of c.args.self.now) c.args.d c.args.agg (sym c.live.ensures ∙ c.if-not-live.true)

pub returns-in-Some-clause-ok : goal.returns-in-Some-clause-ok
returns-in-Some-clause-ok c =
    is_found (state_of c.args.self.now) c.args.d c.args.agg c.in-Some.found.now (sym c.live.ensures
    ∙ c.if-not-live.false) c.in-Some.ensures

pub returns-in-None-clause-err : goal.returns-in-None-clause-err
returns-in-None-clause-err c =
    no_agg_missing (state_of c.args.self.now) c.args.d c.args.agg (sym c.live.ensures ∙ c.if-not-live.false)
    c.in-None.ensures
