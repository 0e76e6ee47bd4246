use Rattle.iol_laws.proofs.Caller.Files.{does_make_file, does_open, does_seek, does_measure, does_sync}
use Rattle.iol_laws.proofs.Caller.FileBytes.{does_read_file, does_write_file}
use Rattle.iol_laws.proofs.laws.file_calls_serve_their_domain.Goals as goal

pub returns : goal.returns
returns c = record {
  makes = does_make_file;
  opens = does_open;
  seeks = does_seek;
  measures = does_measure;
  syncs = does_sync;
  reads_file = does_read_file;
  writes_file = does_write_file;
}
