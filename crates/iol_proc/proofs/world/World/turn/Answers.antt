use Rattle.std.proofs.Common.{◌≡◌, inr}
use Rattle.iol_proc.proofs.Runs.{of_some}
use Rattle.iol_proc.proofs.world.World.turn.Goals as goal

-- the process slot that was found has its turn
pub returns-in-Some : goal.returns-in-Some
returns-in-Some g c =
    rw (← c.self.view_is)
    (let found = rw c.deref.ensures.value at c.in-Some.ensures in
    let turn = c.place_turn-outcome.ensures.turn in
    inr (record {
      place = c.in-Some.place;
      yields = c.place_turn-outcome.result.yields;
      turn = turn;
      domain = of_some (λ s. s.by ≡ c.args.by) _ _ turn.sits found.0;
    }))
