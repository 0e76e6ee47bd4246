use Rattle.std.proofs.Common.{false, ◌∙◌}
use Rattle.iol_serve.proofs.Steps.{serves_alone, serves_sent, serves_then}
use Rattle.iol_serve.proofs.serve.exchange.Goals as goal

pub returns-then-not-is_idle-clause-serves : goal.returns-then-not-is_idle-clause-serves
returns-then-not-is_idle-clause-serves g c = λ honest.
    let left = g.R.Read.remaining c.args.reader.now in
    let quiescent = serves_alone g.P.Process.turns c.args.conn false left (g.W.Write.contents c.args.writer.now) _ _
    (c.quiesce-is_idle.ensures.proceeds honest) in
    serves_then g.P.Process.turns c.args.conn false false _ _ _ _ _ _ _ _ _ quiescent
    (serves_sent g.P.Process.turns c.args.conn left _ _ _ _ c.send-step.ensures.sends)

pub returns-in_default-clause-serves : goal.returns-in_default-clause-serves
returns-in_default-clause-serves g c = λ honest.
    let left = g.R.Read.remaining c.args.reader.now in
    let quiescent = serves_alone g.P.Process.turns c.args.conn false left (g.W.Write.contents c.args.writer.now) _ _
    (c.quiesce-is_idle.ensures.proceeds honest) in
    serves_then g.P.Process.turns c.args.conn false false _ _ _ _ _ _ _ _ _ quiescent
    (serves_sent g.P.Process.turns c.args.conn left _ _ _ _ c.send-step.ensures.sends)

pub returns-in-Idle-clause-serves : goal.returns-in-Idle-clause-serves
returns-in-Idle-clause-serves g c = λ honest.
    let left = g.R.Read.remaining c.args.reader.now in
    let quiescent = serves_alone g.P.Process.turns c.args.conn false left (g.W.Write.contents c.args.writer.now) _ _
    (c.quiesce-is_idle.ensures.proceeds honest) in
    let sent =
    serves_then g.P.Process.turns c.args.conn false false _ _ _ _ _ _ _ _ _ quiescent
    (serves_sent g.P.Process.turns c.args.conn left _ _ _ _ c.send-step.ensures.sends) in
    serves_then g.P.Process.turns c.args.conn false false _ _ _ _ _ _ _ _ _ sent
    (c.receive.ensures.serves (c.send-step.ensures.honest.same ∙ (c.quiesce-is_idle.ensures.honest.same ∙ honest)))
