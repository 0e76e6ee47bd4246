use Rattle.iol_laws.proofs.Streams.Histories.{stream-append, sent-append, unread_run, unsent_run}
use Rattle.iol_laws.proofs.Streams.Backlog.{waiting_run}
use Rattle.iol_laws.proofs.laws.histories_add_up.Goals as goal

pub returns : goal.returns
returns c = record {
  stream = stream-append;
  sent = sent-append;
  unread = unread_run;
  unsent = unsent_run;
  waiting =
      waiting_run;
}
