use Rattle.std.proofs.Common.{ap}
use Rattle.iol_back.specs.Disk.{Disk}
use Rattle.iol_reactor.proofs.Bytes.{rest_none}
use Rattle.iol_reactor.proofs.Serving.{arrives_page, arrives_refused}
use Rattle.iol_reactor.proofs.steps.hand_in_page.Goals as goal

pub returns-in-Ok-clause-alone : goal.returns-in-Ok-clause-alone
returns-in-Ok-clause-alone g c =
    λ honest. (let t = c.in-Ok.ensures.copied honest in
    arrives_page g.P.Process.turns c.args.conn _ _ _ t.bytes _ _ t.given t.count t.arrives)

pub returns-in-Err-clause-honest : goal.returns-in-Err-clause-honest
returns-in-Err-clause-honest g c = record { same = ap (λ (d : Disk). d.honest) c.arrive_from.ensures.system.disk }

pub returns-in-Err-clause-alone : goal.returns-in-Err-clause-alone
returns-in-Err-clause-alone g c =
    λ honest. arrives_refused g.P.Process.turns c.args.conn _ _ _ _
    (ap (λ r. r.now) c.in-Err.ensures.system.refuses.err_reader) (c.in-Err.ensures.err_copied honest)

pub returns-in-Ok-clause-rest : goal.returns-in-Ok-clause-rest
returns-in-Ok-clause-rest g c = (c.in-Ok.ensures.system.read.bytes, c.in-Ok.ensures.system.read.given)

pub returns-in-Err-clause-rest : goal.returns-in-Err-clause-rest
returns-in-Err-clause-rest g c = rest_none _ _ (ap (λ r. r.now) c.in-Err.ensures.system.refuses.err_reader)
