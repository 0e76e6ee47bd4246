use Rattle.iol_laws.proofs.Caller.Aggregates.{does_make, does_dup, does_cut, does_split, does_join, does_replace}
use Rattle.iol_laws.proofs.Caller.Aggregates.{does_show, does_drop}
use Rattle.iol_laws.proofs.Caller.Descriptors.{does_read_conn, does_write_conn, does_close, does_close_conn}
use Rattle.iol_laws.proofs.Caller.Descriptors.{does_accept}
use Rattle.iol_laws.proofs.Caller.Pipes.{does_make_pipe, does_read_pipe, does_write_pipe, does_close_write_end}
use Rattle.iol_laws.proofs.Caller.Pipes.{does_close_read_end}
use Rattle.iol_laws.proofs.Caller.Gifts.{does_give_fd, does_give_agg}
use Rattle.iol_laws.proofs.laws.calls_serve_their_domain.Goals as goal

pub returns : goal.returns
returns c = record {
  make = does_make;
  cut = does_cut;
  split = does_split;
  join = does_join;
  dup = does_dup;
  replace = does_replace;
  shows = does_show;
  drops = does_drop;
  read_conn = does_read_conn;
  write_conn = does_write_conn;
  makes_pipe = does_make_pipe;
  read_pipe = does_read_pipe;
  write_pipe = does_write_pipe;
  closes_write_end = does_close_write_end;
  closes_read_end = does_close_read_end;
  gives_fd = does_give_fd;
  gives_agg = does_give_agg;
  closes = does_close;
  closes_conn = does_close_conn;
  accepts = does_accept;
}
