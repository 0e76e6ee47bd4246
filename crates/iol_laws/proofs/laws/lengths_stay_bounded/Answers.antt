use Rattle.iol_laws.proofs.Bounds.Lengths.{short_new, short_step, short_reached, short_readable, short_pipe}
use Rattle.iol_laws.proofs.Bounds.Lengths.{short_incoming, short_outgoing}
use Rattle.iol_laws.proofs.laws.lengths_stay_bounded.Goals as goal

pub returns : goal.returns
returns c = record {
  new = short_new;
  step = short_step;
  reached = short_reached;
  readable = short_readable;
  written = short_pipe;
  incoming = short_incoming;
  outgoing = short_outgoing;
}
