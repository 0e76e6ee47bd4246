use Rattle.iol_core.proofs.Access.{access_new, access_step}
use Rattle.iol_core.proofs.Positions.{placed_new, placed_step}
use Rattle.iol_laws.proofs.Order.Steps.{orderly_new, orderly_step}
use Rattle.iol_laws.proofs.laws.each_step_keeps_order.Goals as goal

pub returns : goal.returns
returns c = record {
  new = orderly_new;
  step = orderly_step;
  new_access = access_new;
  access = access_step;
  new_places =
      placed_new;
  places = placed_step;
}
