use Rattle.std.proofs.Common.{◌∙◌, ◌==◌, ap, rules, tests, List, ℕ, Option, option_and_then}
use Rattle.std.proofs.lemmas.Iterator.Search.{find_from_yields_List}
use Rattle.std.proofs.lemmas.Iterator.Splits.{YieldsList-from_slice_split}
use Rattle.flash_log.specs.Head.{has_length, length_in}
use Rattle.flash_log.proofs.heads.content_length.Goals as goal

pub returns-in-Some : goal.returns-in-Some
returns-in-Some c =
    let found = find_from_yields_List has_length _ _ c.find.result c.find.ensures.ran
    (YieldsList-from_slice_split _ (λ b. b == 10) c.args.head.now c.split.ensures.rest c.split.ensures.done
    c.split.ensures.closure (λ x b q k. search (rules, tests)))
    (λ x b q k. search (rules, tests)) in
    c.length_in.ensures ∙ ap (λ (o : Option (List ℕ)). option_and_then length_in o) (rw c.in-Some.is at found)

pub returns-in-None : goal.returns-in-None
returns-in-None c =
    let found = find_from_yields_List has_length _ _ c.find.result c.find.ensures.ran
    (YieldsList-from_slice_split _ (λ b. b == 10) c.args.head.now c.split.ensures.rest c.split.ensures.done
    c.split.ensures.closure (λ x b q k. search (rules, tests)))
    (λ x b q k. search (rules, tests)) in
    ap (λ (o : Option (List ℕ)). option_and_then length_in o) (rw c.in-None.is at found)
