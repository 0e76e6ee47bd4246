-- The reply is of this call's type.
use Rattle.iol_core.specs.Calls.Aggregates as calls
use Rattle.iol_api.specs.Typed as spec
use Rattle.iol_api.proofs.Shapes.{reply_of}
use Rattle.iol_api.proofs.domain.Domain.agg_split.Goals as goal

pub aggs-requires : goal.aggs-requires
aggs-requires g c =
    reply_of spec.aggs (λ s. calls.agg_split s c.args.self.now.by c.args.agg c.args.at) c.call.ensures.call.beside
