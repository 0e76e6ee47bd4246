use Rattle.iol_proc.specs.World.{copying}
use Rattle.iol_proc.proofs.Chains.{system_as}
use Rattle.iol_proc.proofs.Streams.{machine_as, history_proceeds, runs_follow, stream_over-append, sent_over-append}
use Rattle.iol_proc.proofs.Streams.{stream_over-more, sent_over-more, unread_over, unsent_over, waiting_over}
use Rattle.iol_proc.proofs.laws.histories_of_choices.Goals as goal

pub returns : goal.returns
returns g c = record {
  machine = machine_as g.P.Process.turns;
  system = system_as g.P.Process.turns;
  proceeds = history_proceeds g.P.Process.turns;
  follows = runs_follow copying g.P.Process.turns;
  stream = stream_over-append copying g.P.Process.turns;
  sent = sent_over-append copying g.P.Process.turns;
  stream_more = stream_over-more;
  sent_more = sent_over-more;
  unread = unread_over g.P.Process.turns;
  unsent = unsent_over g.P.Process.turns;
  waiting = waiting_over g.P.Process.turns;
}
