-- The reply is of this event's type.
use Rattle.iol_core.specs.Calls.Outside as calls
use Rattle.iol_core.specs.declared.events.Reply.TheVariants as reply
use Rattle.iol_api.proofs.Shapes.{reply_of}
use Rattle.iol_api.proofs.outside.Outside.connect.Goals as goal

pub conn-requires : goal.conn-requires
conn-requires g c = reply_of reply.Conn (λ s. calls.conn_new s c.args.pool) c.event.ensures.step.step.beside
