-- The reply is of this call's type.
use Rattle.iol_core.specs.Calls.Aggregates as calls
use Rattle.iol_core.specs.declared.events.Reply.TheVariants as reply
use Rattle.iol_api.proofs.Shapes.{reply_of}
use Rattle.iol_api.proofs.domain.Domain.agg_make.Goals as goal

pub agg-requires : goal.agg-requires
agg-requires g c =
    reply_of reply.Agg (λ s. calls.agg_make s c.args.self.now.by c.args.bytes.now) c.make_agg.ensures.beside
