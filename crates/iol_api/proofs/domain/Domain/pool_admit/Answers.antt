-- The reply is of this call's type.
use Rattle.iol_core.specs.Calls.Pools as calls
use Rattle.iol_api.specs.Typed as spec
use Rattle.iol_api.proofs.Shapes.{reply_of}
use Rattle.iol_api.proofs.domain.Domain.pool_admit.Goals as goal

pub done-requires : goal.done-requires
done-requires g c =
    reply_of spec.done (λ s. calls.pool_admit s c.args.self.now.by c.args.pool c.args.domain) c.call.ensures.call.beside
