use Rattle.std.proofs.Common.{sym, ◌∙◌}
use Rattle.flash_http.proofs.TargetLemmas.{not_served}
use Rattle.flash_http.proofs.targets.uri_of.Goals as goal

pub returns-in-Ok-2-clause-uri : goal.returns-in-Ok-2-clause-uri
returns-in-Ok-2-clause-uri c =
    not_served c.args.target.now c.in-Ok.uri c.in-Ok.ensures.ok (sym c.is_served_form.ensures
    ∙ c.if-is_served_form.false)
