use Rattle.iol_laws.proofs.NewNumbers.{fresh_agg, named_agg, fresh_fd}
use Rattle.iol_laws.proofs.laws.numbers_are_new.Goals as goal

pub returns : goal.returns
returns c = record {
  agg = fresh_agg;
  named = named_agg;
  fd = fresh_fd;
}
