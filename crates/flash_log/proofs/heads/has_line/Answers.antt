use Rattle.std.proofs.Common.{◌==◌, ◌++◌, codes, rules, tests}
use Rattle.std.proofs.lemmas.Iterator.Search.{any_from_yields_List}
use Rattle.std.proofs.lemmas.Iterator.Splits.{YieldsList-from_slice_split}
use Rattle.std.specs.Str.{bytes_eq}
use Rattle.flash_log.proofs.heads.has_line.Goals as goal

pub returns : goal.returns
returns c =
    any_from_yields_List (λ line. bytes_eq line (c.args.wanted.now ++ codes "\r")) _ _ _ c.any.ensures.ran
    (YieldsList-from_slice_split _ (λ b. b == 10) c.args.head.now c.split.ensures.rest c.split.ensures.done
    c.split.ensures.closure (λ x b q k. search (rules, tests)))
    (λ x b q k. search (rules, tests))
