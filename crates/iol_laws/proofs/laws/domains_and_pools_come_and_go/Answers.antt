use Rattle.iol_laws.proofs.Caller.Domains.{does_start, does_exit, does_make_pool, does_close_pool, does_admit}
use Rattle.iol_laws.proofs.Caller.Domains.{does_set_pool}
use Rattle.iol_laws.proofs.laws.domains_and_pools_come_and_go.Goals as goal

pub returns : goal.returns
returns c = record {
  starts = does_start;
  exits = does_exit;
  makes_pool = does_make_pool;
  closes_pool = does_close_pool;
  admits = does_admit;
  sets_pool = does_set_pool;
}
