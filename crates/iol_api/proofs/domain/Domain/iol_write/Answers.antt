-- The reply is of this call's type.
use Rattle.iol_core.specs.Calls.Writes as calls
use Rattle.iol_core.specs.declared.events.Reply.TheVariants as reply
use Rattle.iol_api.proofs.Shapes.{reply_of}
use Rattle.iol_api.proofs.domain.Domain.iol_write.Goals as goal

pub count-requires : goal.count-requires
count-requires g c =
    reply_of reply.Count (λ s. calls.iol_write s c.args.self.now.by c.args.fd c.args.agg) c.call.ensures.call.beside
