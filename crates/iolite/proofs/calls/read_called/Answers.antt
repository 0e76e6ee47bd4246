use Rattle.std.proofs.Common.{subst, sym}
use Rattle.iolite.specs.Calls.{CanBeMade, IsCalled, call_of}
use Rattle.iolite.specs.Reads.{ReadsAs}
use Rattle.iolite.specs.declared.names.CallName.{CallName}
use Rattle.iolite.proofs.calls.read_called.Goals as goal

pub returns-in-PoolCreate : goal.returns-in-PoolCreate
returns-in-PoolCreate c =
    subst (λ (n : CallName). ReadsAs (IsCalled n c.args.rest.now) call_of CanBeMade c.read_pool_create.result)
    (sym c.in-PoolCreate.is) c.read_pool_create.ensures

pub returns-in-AggFill : goal.returns-in-AggFill
returns-in-AggFill c =
    subst (λ (n : CallName). ReadsAs (IsCalled n c.args.rest.now) call_of CanBeMade c.read_fill.result)
    (sym c.in-AggFill.is) c.read_fill.ensures

pub returns-in-Write : goal.returns-in-Write
returns-in-Write c =
    subst (λ (n : CallName). ReadsAs (IsCalled n c.args.rest.now) call_of CanBeMade c.read_write.result)
    (sym c.in-Write.is) c.read_write.ensures

pub returns-in-FileNew : goal.returns-in-FileNew
returns-in-FileNew c =
    subst (λ (n : CallName). ReadsAs (IsCalled n c.args.rest.now) call_of CanBeMade c.read_file_new.result)
    (sym c.in-FileNew.is) c.read_file_new.ensures

pub returns-in-OpenFile : goal.returns-in-OpenFile
returns-in-OpenFile c =
    subst (λ (n : CallName). ReadsAs (IsCalled n c.args.rest.now) call_of CanBeMade c.read_open_file.result)
    (sym c.in-OpenFile.is) c.read_open_file.ensures
