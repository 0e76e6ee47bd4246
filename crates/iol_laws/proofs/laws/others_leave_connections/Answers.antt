use Rattle.iol_laws.proofs.Streams.OtherCalls.{other_conn, other_waiting, other_accepted}
use Rattle.iol_laws.proofs.Streams.Outside.{does_connect, does_arrive, does_transmit, does_peer_closed, count_arrived}
use Rattle.iol_laws.proofs.Streams.Outside.{count_sent}
use Rattle.iol_laws.proofs.laws.others_leave_connections.Goals as goal

pub returns : goal.returns
returns c = record {
  conn = other_conn;
  waiting = other_waiting;
  accepted = other_accepted;
  connect = does_connect;
  arrive = does_arrive;
  transmit = does_transmit;
  peer_closed = does_peer_closed;
  arrive_count = count_arrived;
  transmit_count = count_sent;
}
