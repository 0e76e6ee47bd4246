use Rattle.std.proofs.Common.{◌∙◌, ap, sym, true, false}
use Rattle.flash_laws.specs.Serves.Rounds.{next_in}
use Rattle.flash_lite.proofs.Order.{ascend, next_is, next_some}
use Rattle.flash_lite.proofs.table.held.Clients.seek.Goals as goal

pub first_from-requires : goal.first_from-requires
first_from-requires c =
    ascend true c.self.inside.places.items c.as_slice.result.now (c.as_slice.ensures.value ∙ c.self.invariant.1.held_is)

pub first_from-requires-else-free : goal.first_from-requires-else-free
first_from-requires-else-free c =
    ascend false c.self.inside.places.items c.as_slice-else-free.result.now (c.as_slice-else-free.ensures.value
    ∙ c.self.invariant.1.going_is)

pub returns-then-free-clause-place : goal.returns-then-free-clause-place
returns-then-free-clause-place c =
    c.first_from.ensures
    ∙ (next_is true c.self.inside.places.items c.as_slice.result.now c.args.from (c.as_slice.ensures.value
    ∙ c.self.invariant.1.held_is)
    ∙ (ap (λ b. next_in b c.self.inside.places.items c.args.from) (sym c.if-free.true)
    ∙ ap (λ l. next_in c.args.free l c.args.from) c.self.view_is))

pub returns-then-free-clause-within : goal.returns-then-free-clause-within
returns-then-free-clause-within c =
    next_some true c.args.self.now c.args.from c.first_from.result
    (c.first_from.ensures
    ∙ (next_is true c.self.inside.places.items c.as_slice.result.now c.args.from (c.as_slice.ensures.value
    ∙ c.self.invariant.1.held_is)
    ∙ ap (λ l. next_in true l c.args.from) c.self.view_is))

pub returns-else-free-clause-place : goal.returns-else-free-clause-place
returns-else-free-clause-place c =
    c.first_from-else-free.ensures
    ∙ (next_is false c.self.inside.places.items c.as_slice-else-free.result.now c.args.from
    (c.as_slice-else-free.ensures.value ∙ c.self.invariant.1.going_is)
    ∙ (ap (λ b. next_in b c.self.inside.places.items c.args.from) (sym c.if-free.false)
    ∙ ap (λ l. next_in c.args.free l c.args.from) c.self.view_is))

pub returns-else-free-clause-within : goal.returns-else-free-clause-within
returns-else-free-clause-within c =
    next_some false c.args.self.now c.args.from c.first_from-else-free.result
    (c.first_from-else-free.ensures
    ∙ (next_is false c.self.inside.places.items c.as_slice-else-free.result.now c.args.from
    (c.as_slice-else-free.ensures.value ∙ c.self.invariant.1.going_is)
    ∙ ap (λ l. next_in false l c.args.from) c.self.view_is))
