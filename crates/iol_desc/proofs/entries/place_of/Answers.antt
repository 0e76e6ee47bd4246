use Rattle.std.proofs.Common.{Ok, Err, rules}
use Rattle.std.proofs.lemmas.List.Sorted.{answers_always}
use Rattle.iol_desc.proofs.RisingNumbers.{searched_any}
use Rattle.iol_desc.proofs.entries.place_of.Goals as goal

pub returns-in-Ok : goal.returns-in-Ok
returns-in-Ok g c =
    let facts = c.in-Ok.ensures in
    searched_any c.args.list.now c.args.number c.requires (Ok c.in-Ok.at) facts.bound
    (facts.position (λ e. e.0) (answers_always _ _ _ (λ f a r h called. search rules)))

pub returns : goal.returns
returns g c =
    let facts = c.in_default.ensures in
    searched_any c.args.list.now c.args.number c.requires (Err c.in_default.field-0) facts.bound
    (facts.position (λ e. e.0) (answers_always _ _ _ (λ f a r h called. search rules)))
