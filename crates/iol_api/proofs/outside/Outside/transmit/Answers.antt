-- The reply is of this event's type.
use Rattle.iol_core.specs.Calls.Outside as calls
use Rattle.iol_api.specs.Typed as spec
use Rattle.iol_api.proofs.Shapes.{reply_of}
use Rattle.iol_api.proofs.outside.Outside.transmit.Goals as goal

pub segment-requires : goal.segment-requires
segment-requires g c =
    reply_of spec.segment (λ s. calls.transmit s c.args.conn c.args.max) c.event.ensures.step.step.beside
