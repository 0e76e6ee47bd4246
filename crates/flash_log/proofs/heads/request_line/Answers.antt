use Rattle.std.proofs.Common.{◌∙◌, ◌==◌, ap, rules, tests, List, ℕ, Option, []}
use Rattle.std.proofs.lemmas.Iterator.Search.{find_from_yields_List}
use Rattle.std.proofs.lemmas.Iterator.Splits.{YieldsList-from_slice_split}
use Rattle.std.specs.Option.{option_map_or}
use Rattle.std.specs.Str.Lines.{strip_carriage_return}
use Rattle.flash_log.specs.Head.{has_text}
use Rattle.flash_log.proofs.heads.request_line.Goals as goal

pub returns-in-Some : goal.returns-in-Some
returns-in-Some c =
    let found = find_from_yields_List has_text _ _ c.find.result c.find.ensures.ran
    (YieldsList-from_slice_split _ (λ b. b == 10) c.args.request.now c.split.ensures.rest c.split.ensures.done
    c.split.ensures.closure (λ x b q k. search (rules, tests)))
    (λ x b q k. search (rules, tests)) in
    c.without_return.ensures
    ∙ ap (λ (o : Option (List ℕ)). option_map_or strip_carriage_return o []) (rw c.in-Some.is at found)

pub returns-in-None : goal.returns-in-None
returns-in-None c =
    let found = find_from_yields_List has_text _ _ c.find.result c.find.ensures.ran
    (YieldsList-from_slice_split _ (λ b. b == 10) c.args.request.now c.split.ensures.rest c.split.ensures.done
    c.split.ensures.closure (λ x b q k. search (rules, tests)))
    (λ x b q k. search (rules, tests)) in
    ap (λ (o : Option (List ℕ)). option_map_or strip_carriage_return o []) (rw c.in-None.is at found)
