use Rattle.std.proofs.Common.{◌≡◌, List, [], Result, Ok, subst, map}
use Rattle.std.specs.Result.{IfOk}
use Rattle.iol_core.specs.declared.refusals.Refusal.{Refusal}
use Rattle.iol_hold.specs.StoreState.{Stored, Buffer}
use Rattle.iol_hold.specs.Moves.{Moves, Covers}
use Rattle.iol_hold.proofs.Moves.{covers_given}
use Rattle.test_iol_store.proofs.tests.holds.fill_two.Goals as goal

made : (s t : Stored) (r : Result (List Buffer) Refusal) (holds : List Buffer)
    → IfOk r (λ xs. Moves s t [] (map (λ h. h.buf) xs)) → r ≡ Ok holds → Covers t (map (λ h. h.buf) holds)
made s t r holds moves ok =
    covers_given (subst (λ (x : Result (List Buffer) Refusal). IfOk x (λ xs. Moves s t [] (map (λ h. h.buf) xs))) ok
    moves).counts

pub release_two-requires : goal.release_two-requires
release_two-requires g c =
    made c.args.store.now c.fill.new.self c.fill.result c.expect-holds.result c.fill.ensures.moves
    c.expect-holds.ensures
