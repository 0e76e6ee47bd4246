use Rattle.std.proofs.Common.{◌≡◌, List, ◌∷◌, [], Option, Some, Result, Ok, subst, arith}
use Rattle.std.specs.Result.{IfOk}
use Rattle.std.specs.Option.{MatchOption}
use Rattle.std.specs.List.{All}
use Rattle.iol_core.specs.declared.refusals.Refusal.{Refusal}
use Rattle.iol_hold.specs.StoreState.{Stored, Buffer}
use Rattle.iol_hold.specs.Texts.{IsFilled}
use Rattle.test_iol_store.proofs.tests.holds.fill_one.Goals as goal

filled_first : (s : Stored) (r : Result (List Buffer) Refusal) (o : Option Buffer) (holds rest : List Buffer)
    (h : Buffer) → IfOk r (λ xs. All (IsFilled s) xs) → r ≡ Ok holds
    → MatchOption o ((holds ≡ []) × (rest ≡ [])) (λ x. holds ≡ x ∷ rest) → o ≡ Some h → IsFilled s h
filled_first s r o holds rest h filled ok first is =
    let all = subst (λ (x : Result (List Buffer) Refusal). IfOk x (λ xs. All (IsFilled s) xs)) ok filled in
    let e = subst (λ (x : Option Buffer). MatchOption x ((holds ≡ []) × (rest ≡ [])) (λ y. holds ≡ y ∷ rest)) is
    first in
    subst (All (IsFilled s)) e all 0 h (omega arith)

pub returns-clause-filled : goal.returns-clause-filled
returns-clause-filled g c =
    filled_first c.fill.new.self c.fill.result c.take_first.result c.expect-holds.result c.take_first.new.self
    c.expect.result c.fill.ensures.filled c.expect-holds.ensures c.take_first.ensures c.expect.ensures

pub returns-clause-held : goal.returns-clause-held
returns-clause-held g c = c.fill.ensures.tidy.held c.expect.result.buf (returns-clause-filled g c).live
