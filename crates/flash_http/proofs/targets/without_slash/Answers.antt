use Rattle.std.proofs.Common.{Some, None, lit<}
use Rattle.std.proofs.lemmas.Str.Pattern.{strip_prefix_char}
use Rattle.flash_http.proofs.TargetLemmas.{with_slash, no_slash}
use Rattle.flash_http.proofs.targets.without_slash.Goals as goal

pub returns-in-Some : goal.returns-in-Some
returns-in-Some c =
    with_slash c.args.path.now c.in-Some.name.now
    (strip_prefix_char 47 c.args.path.now (Some c.in-Some.name) c.in-Some.ensures.cases (lit< tt))

pub returns-in-None : goal.returns-in-None
returns-in-None c =
    no_slash c.args.path.now (strip_prefix_char 47 c.args.path.now None c.in-None.ensures.cases (lit< tt))
