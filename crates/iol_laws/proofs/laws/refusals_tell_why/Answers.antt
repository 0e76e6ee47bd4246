use Rattle.iol_laws.proofs.Refusals.Waits.{arrival_is_full, segment_is_empty}
use Rattle.iol_laws.proofs.Refusals.FromOutside.{arrival_is_broken}
use Rattle.iol_laws.proofs.Refusals.Reasons.{conn_is_empty, pipe_is_empty, conn_is_hidden, pipe_is_hidden, conn_is_full}
use Rattle.iol_laws.proofs.Refusals.Reasons.{pipe_is_full, peer_is_gone, nobody_reads, nobody_waits, close_is_done}
use Rattle.iol_laws.proofs.Refusals.Reasons.{drop_is_done}
use Rattle.iol_laws.proofs.laws.refusals_tell_why.Goals as goal

pub returns : goal.returns
returns c = record {
  conn_is_empty = conn_is_empty;
  pipe_is_empty = pipe_is_empty;
  conn_is_hidden = conn_is_hidden;
  pipe_is_hidden = pipe_is_hidden;
  conn_is_full = conn_is_full;
  pipe_is_full = pipe_is_full;
  peer_is_gone = peer_is_gone;
  nobody_reads = nobody_reads;
  arrival_is_full = arrival_is_full;
  segment_is_empty = segment_is_empty;
  arrival_is_broken = arrival_is_broken;
  nobody_waits = nobody_waits;
  close_is_done = close_is_done;
  drop_is_done = drop_is_done;
}
