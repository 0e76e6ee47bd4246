-- The reply is of this call's type.
use Rattle.iol_core.specs.Calls.Writes as calls
use Rattle.iol_core.specs.declared.events.Reply.TheVariants as reply
use Rattle.iol_api.proofs.Shapes.{reply_of}
use Rattle.iol_api.proofs.domain.Domain.write.Goals as goal

pub count-requires : goal.count-requires
count-requires g c =
    reply_of reply.Count (λ s. calls.write s c.args.self.now.by c.args.fd c.args.bytes.now) c.write_bytes.ensures.beside
