use Rattle.iol_sum.proofs.KeptSums.{IsRight-keeps}
use Rattle.iol_sum.proofs.laws.sums_stay_right.Goals as goal

pub returns-clause-kept : goal.returns-clause-kept
returns-clause-kept c s t sums k h = IsRight-keeps s t sums k h

pub returns-clause-moved : goal.returns-clause-moved
returns-clause-moved c s t sums k h = IsRight-keeps s.arena t.arena sums k.keeps h

pub returns-clause-grown : goal.returns-clause-grown
returns-clause-grown c s t sums k h = IsRight-keeps s t sums k.keeps h
