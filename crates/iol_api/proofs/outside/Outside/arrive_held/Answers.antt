-- The reply is of this event's type.
use Rattle.iol_core.specs.Calls.Outside as calls
use Rattle.iol_core.specs.declared.events.Reply.TheVariants as reply
use Rattle.iol_api.proofs.Shapes.{reply_of}
use Rattle.iol_api.proofs.outside.Outside.arrive_held.Goals as goal

pub count-requires : goal.count-requires
count-requires g c =
    reply_of reply.Count (λ s. calls.arrive s c.args.conn c.args.bytes) c.event.ensures.step.step.beside
