use Rattle.iol_desc.specs.Tables.{domains_of}
use Rattle.iol_kernel.specs.Kernel.{state_of}
use Rattle.iol_kernel.proofs.State.TableCalls.{attempted}
use Rattle.iol_kernel.proofs.AggregateCalls.Gifts.{give_in, given_answers}
use Rattle.iol_kernel.proofs.kernel.Kernel.give.Goals as goal

pub move_agg-requires : goal.move_agg-requires
move_agg-requires c = give_in c.requires

pub returns : goal.returns
returns c =
    let e = c.in_ok-move_agg.ensures in
    attempted (given_answers (state_of c.args.self.now) (domains_of c.move_agg.new.domains) c.args.by c.args.agg
    c.args.to c.requires e.moved c.in_ok-move_agg.field-0 e.number)
