use Rattle.iol_laws.proofs.Caller.Copies.{does_copy_to_file, does_copy_to_conn, does_copy_to_pipe, does_copy_from_file}
use Rattle.iol_laws.proofs.Caller.Copies.{does_copy_from_conn, does_copy_from_pipe}
use Rattle.iol_laws.proofs.laws.copying_calls_serve_their_domain.Goals as goal

pub returns : goal.returns
returns c = record {
  write_file = does_copy_to_file;
  write_conn = does_copy_to_conn;
  write_pipe = does_copy_to_pipe;
  read_file = does_copy_from_file;
  read_conn = does_copy_from_conn;
  read_pipe = does_copy_from_pipe;
}
