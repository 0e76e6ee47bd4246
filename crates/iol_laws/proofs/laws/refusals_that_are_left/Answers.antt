use Rattle.iol_laws.proofs.Refusals.Waits.{which_waits}
use Rattle.iol_laws.proofs.Refusals.FromOutside.{left_connect, left_arrive, left_transmit, left_flush, left_peer_closed}
use Rattle.iol_laws.proofs.Refusals.FromOutside.{left_drop_clean}
use Rattle.iol_laws.proofs.Refusals.Calls.{who_waits, left_domain_new, left_make, left_dup, left_cut, left_split}
use Rattle.iol_laws.proofs.Refusals.Calls.{left_join, left_show, left_give_agg, left_pipe, left_give_fd, left_accept}
use Rattle.iol_laws.proofs.Refusals.Calls.{left_read, left_copy, left_write, left_copy_to}
use Rattle.iol_laws.proofs.Refusals.OfFiles.{left_read_file, left_copy_file, left_write_file, left_copy_to_file}
use Rattle.iol_laws.proofs.Refusals.OfFiles.{left_file_new, left_open_file, left_sync, left_seek, left_length}
use Rattle.iol_laws.proofs.Refusals.OfPools.{left_pool_create, left_pool_close, left_pool_admit, left_set_pool}
use Rattle.iol_laws.proofs.Refusals.OfPools.{left_replace, left_close, left_drop, left_exit}
use Rattle.iol_laws.proofs.laws.refusals_that_are_left.Goals as goal

pub returns : goal.returns
returns c = record {
  waits = who_waits;
  event_waits = which_waits;
  domain_new = left_domain_new;
  make = left_make;
  dup = left_dup;
  cut = left_cut;
  split = left_split;
  join = left_join;
  shows = left_show;
  gives_agg = left_give_agg;
  pipe = left_pipe;
  gives_fd = left_give_fd;
  accepts = left_accept;
  reads_queue = left_read;
  copies_queue = left_copy;
  writes_queue = left_write;
  copies_to_queue = left_copy_to;
  reads_file = left_read_file;
  copies_file = left_copy_file;
  writes_file = left_write_file;
  copies_to_file = left_copy_to_file;
  file_new = left_file_new;
  open_file = left_open_file;
  syncs = left_sync;
  replace = left_replace;
  pool_create = left_pool_create;
  pool_close = left_pool_close;
  pool_admit = left_pool_admit;
  connects = left_connect;
  arrives = left_arrive;
  transmits = left_transmit;
  flushes = left_flush;
  set_pool = left_set_pool;
  seeks = left_seek;
  measures = left_length;
  closes = left_close;
  drops = left_drop;
  exits = left_exit;
  peer_closes = left_peer_closed;
  drops_clean = left_drop_clean;
}
