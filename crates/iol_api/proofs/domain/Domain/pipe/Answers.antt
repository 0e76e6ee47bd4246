-- The reply is of this call's type.
use Rattle.iol_core.specs.Calls.Descriptors as calls
use Rattle.iol_api.specs.Typed as spec
use Rattle.iol_api.proofs.Shapes.{reply_of}
use Rattle.iol_api.proofs.domain.Domain.pipe.Goals as goal

pub fds-requires : goal.fds-requires
fds-requires g c = reply_of spec.fds (λ s. calls.pipe s c.args.self.now.by) c.call.ensures.call.beside
