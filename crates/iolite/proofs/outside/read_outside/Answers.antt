use Rattle.std.proofs.Common.{refl, rules}
use Rattle.iolite.proofs.CallNames.{peer_closed_alone}
use Rattle.iolite.proofs.outside.read_outside.Goals as goal

pub returns-in_err-event-in-peer_closed : goal.returns-in_err-event-in-peer_closed
returns-in_err-event-in-peer_closed c = record {
  some = search (rules);
  can = search (rules);
  none =
      λ none e happens. c.in_err-event-in-peer_closed.ensures.none refl e
      (peer_closed_alone c.args.name.now c.args.rest.now e c.in-peer_closed.is happens);
}
