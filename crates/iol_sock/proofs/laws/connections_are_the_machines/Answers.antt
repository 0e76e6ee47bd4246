use Rattle.iol_sock.proofs.MachineConns.{over_meant, closes_meant, arrives_meant, takes_meant, wants_meant, sends_meant}
use Rattle.iol_sock.proofs.MachineConns.{fits_meant, queues_meant}
use Rattle.iol_sock.proofs.laws.connections_are_the_machines.Goals as goal

pub returns : goal.returns
returns c = record {
  arrive = arrives_meant;
  arrive_count = takes_meant;
  arrive_late = wants_meant;
  queue = queues_meant;
  queue_count = fits_meant;
  segment = sends_meant;
  peer_closed = closes_meant;
  over = over_meant;
}
