use Rattle.iol_desc.specs.Tables.{domains_of}
use Rattle.iol_kernel.specs.Kernel.{state_of}
use Rattle.iol_kernel.proofs.State.TableCalls.{attempted}
use Rattle.iol_kernel.proofs.AggregateCalls.SliceMoves.{join_answers, join_in}
use Rattle.iol_kernel.proofs.kernel.Kernel.join.Goals as goal

pub join_aggs-requires : goal.join_aggs-requires
join_aggs-requires c = join_in c.requires

pub returns : goal.returns
returns c =
    let e = c.in_ok-join_aggs.ensures in
    attempted (join_answers (state_of c.args.self.now) (domains_of c.join_aggs.new.domains) c.args.by c.args.first
    c.args.second e.joined c.in_ok-join_aggs.field-0 c.requires e.number)
