use Rattle.iol_desc.specs.Tables.{domains_of}
use Rattle.iol_kernel.specs.Kernel.{state_of}
use Rattle.iol_kernel.proofs.AggregateCalls.DomainEnd.{all_covered, aggs_dropped}
use Rattle.iol_kernel.proofs.State.ReadOf.{live_held}
use Rattle.iol_kernel.proofs.kernel.Kernel.drop_aggs.Goals as goal

pub release_all-requires : goal.release_all-requires
release_all-requires c =
    all_covered (state_of c.args.self.now) c.args.by c.take_aggs-aggs.result c.requires.sound
    (live_held _ (state_of c.args.self.now) c.args.by c.requires.live) c.take_aggs-aggs.ensures.given

pub returns-clause-dropped : goal.returns-clause-dropped
returns-clause-dropped c =
    aggs_dropped (state_of c.args.self.now) c.release_all.new.store (domains_of c.take_aggs-aggs.new.self) c.args.by
    c.take_aggs-aggs.result c.requires.sound
    (live_held _ (state_of c.args.self.now) c.args.by c.requires.live) c.take_aggs-aggs.ensures.given
    c.take_aggs-aggs.ensures.rest c.release_all.ensures
