use Rattle.iol_sum.specs.Sums.{IsRight}
use Rattle.bench_sums.proofs.rounds.sum_remembered_often.Given as goal

abbrev pub invariant-loop : goal.invariant-loop
invariant-loop l = IsRight l.store.arena l.sums
