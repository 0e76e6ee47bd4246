-- The reply is of this call's type.
use Rattle.iol_core.specs.Calls.Files as calls
use Rattle.iol_core.specs.declared.events.Reply.TheVariants as reply
use Rattle.iol_api.proofs.Shapes.{reply_of}
use Rattle.iol_api.proofs.domain.Domain.new_file.Goals as goal

pub file-requires : goal.file-requires
file-requires g c =
    reply_of reply.File (λ s. calls.file_new s c.args.self.now.by c.args.name c.args.pool) c.call.ensures.call.beside
