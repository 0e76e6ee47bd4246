-- The reply is of this event's type.
use Rattle.iol_core.specs.Calls.Outside as calls
use Rattle.iol_api.specs.Typed as spec
use Rattle.iol_api.proofs.Shapes.{reply_of}
use Rattle.iol_api.proofs.outside.Outside.peer_closed.Goals as goal

pub done-requires : goal.done-requires
done-requires g c =
    reply_of spec.done (λ s. calls.peer_closed s c.args.conn c.args.how) c.event.ensures.step.step.beside
