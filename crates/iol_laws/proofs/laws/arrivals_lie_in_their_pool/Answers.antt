use Rattle.iol_laws.proofs.Streams.Labels.{home_new, home_step, home_reached, home_each, home_reads, home_copies}
use Rattle.iol_laws.proofs.laws.arrivals_lie_in_their_pool.Goals as goal

pub returns : goal.returns
returns c = record {
  new = home_new;
  step = home_step;
  reached = home_reached;
  each = home_each;
  reads = home_reads;
  copies = home_copies;
}
