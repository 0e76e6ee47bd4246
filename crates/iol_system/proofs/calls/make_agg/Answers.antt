-- The effect of the call, from the kernel's contract.
use Rattle.std.proofs.Common.{refl}
use Rattle.iol_core.specs.Calls.Aggregates as aggs
use Rattle.iol_core.specs.declared.events.Call.TheVariants as call
use Rattle.iol_core.specs.declared.events.Event.TheVariants as event
use Rattle.iol_core.specs.declared.events.Reply.TheVariants as reply
use Rattle.iol_kernel.specs.Kernel.{state_of}
use Rattle.iol_system.specs.Wants.{for_made}
use Rattle.iol_core.proofs.Values.{values_with_agg}
use Rattle.iol_system.proofs.Effects.{as_call}
use Rattle.iol_system.proofs.ReplyAnswers.{reported_step}
use Rattle.iol_system.proofs.FileEffects.{places_does}
use Rattle.iol_system.proofs.calls.make_agg.Goals as goal

pub returns : goal.returns
returns c =
    λ disk. as_call refl c.agg.ensures (places_does reply.Agg (λ s. (aggs.agg_make s c.args.by c.args.bytes.now))
    (λ s t. aggs.with_agg s c.args.by t) (for_made (state_of c.args.kernel.now) c.args.by c.args.bytes.now)
    (event.Call c.args.by (call.AggMake c.args.bytes.now)) disk (state_of c.args.kernel.now)
    (state_of c.agg_make.new.self) c.agg_make.result (λ a. refl)
    (record {
      unwritten = refl;
      unlent = refl;
      goes = λ d p k. k;
      asks = λ s. refl;
      uses = λ s. refl;
      unshared =
          λ s. refl;
      moving = refl;
      inside = λ s. refl;
      changes = refl;
      keeps = λ s t. values_with_agg s c.args.by t;
      has =
          λ d k. k;
      lacks = λ d k. k;
      fits = λ d k. k;
      publishes = λ n k. k;
      creates = λ x n. tt;
      late = λ d x n k. k;
      sums =
          λ x n k. k;
    }) (λ s t r step. reported_step reply.Agg (λ a. refl) (aggs.agg_make s c.args.by c.args.bytes.now) s t r
    step) tt c.agg_make.ensures.places c.agg_make.ensures.slices)
