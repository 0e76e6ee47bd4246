use Rattle.std.proofs.Common.{◌∙◌}
use Rattle.flash_http.proofs.TargetLemmas.{no_file, file_named}
use Rattle.flash_http.proofs.targets.file_of.Goals as goal

pub returns-in_default-2-clause-file : goal.returns-in_default-2-clause-file
returns-in_default-2-clause-file c =
    no_file c.args.target.now c.in-Some.uri (rw c.in-Some.is at c.in_ok-uri.ensures.uri)
    (λ h. (rw c.in_default-2.is at c.in_ok-name.ensures) (rw c.path.ensures.value h))

pub returns-clause-file : goal.returns-clause-file
returns-clause-file c =
    let named = rw c.in-Some-2.is at c.in_ok-name.ensures in
    file_named c.args.target.now c.in-Some.uri c.path.result.now _ _ (rw c.in-Some.is at c.in_ok-uri.ensures.uri)
    c.path.ensures.value named.0 named.1
    (c.in_ok-query.ensures.ok ∙ c.query_of.ensures)
