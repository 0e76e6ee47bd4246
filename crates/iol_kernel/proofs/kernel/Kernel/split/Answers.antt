use Rattle.iol_desc.specs.Tables.{domains_of}
use Rattle.iol_kernel.specs.Kernel.{state_of}
use Rattle.iol_kernel.proofs.State.TableCalls.{attempted}
use Rattle.iol_kernel.proofs.AggregateCalls.SliceMoves.{split_answers, split_in}
use Rattle.iol_kernel.proofs.kernel.Kernel.split.Goals as goal

pub split_agg-requires : goal.split_agg-requires
split_agg-requires c = split_in c.requires

pub returns : goal.returns
returns c =
    let e = c.in_ok-split_agg.ensures in
    attempted (split_answers (state_of c.args.self.now) c.split_agg.new.store (domains_of c.split_agg.new.domains)
    c.args.by c.args.agg c.args.at e.split c.in_ok-split_agg.field-0 c.requires e.numbers)
