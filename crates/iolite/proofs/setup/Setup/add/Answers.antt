use Rattle.std.proofs.Common.{inl, inr}
use Rattle.iolite.proofs.CallNames.{config_alone, fault_alone}
use Rattle.iolite.proofs.ReadTexts.{takes_as}
use Rattle.iolite.proofs.setup.Setup.add.Goals as goal

pub returns-in-config : goal.returns-in-config
returns-in-config c =
    let old = c.args.self.now in
    takes_as c.set_sizes.new.self c.set_sizes.result (λ x sets. inl (c.in-config.is, sets))
    (λ x sets. config_alone c.args.name.now c.args.rest.now old x c.in-config.is sets) c.set_sizes.ensures

pub returns-in-fault : goal.returns-in-fault
returns-in-fault c =
    let old = c.args.self.now in
    takes_as c.set_fault.new.self c.set_fault.result (λ x sets. inr (inl (c.in-fault.is, sets)))
    (λ x sets. fault_alone c.args.name.now c.args.rest.now old x c.in-fault.is sets) c.set_fault.ensures
