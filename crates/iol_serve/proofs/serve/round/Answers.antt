use Rattle.std.proofs.Common.{◌∙◌, false, sym}
use Rattle.iol_serve.proofs.Steps.{serves_alone, serves_as, serves_then}
use Rattle.iol_serve.proofs.serve.round.Goals as goal

pub returns-then-is_gone-clause-serves : goal.returns-then-is_gone-clause-serves
returns-then-is_gone-clause-serves g c = λ honest.
    serves_then g.P.Process.turns c.args.conn false _ _ _ _ _ _ _ _ _ _ (c.exchange-reached.ensures.serves honest)
    (serves_alone g.P.Process.turns c.args.conn _ _ _ _ _
    (c.tell.ensures.proceeds (c.exchange-reached.ensures.honest.same ∙ honest)))

pub returns-clause-serves : goal.returns-clause-serves
returns-clause-serves g c = λ honest.
    serves_as g.P.Process.turns c.args.conn _ _ _ _ _ _ _ _ (sym c.if-is_gone.false ∙ c.is_gone.ensures)
    (c.exchange-reached.ensures.serves honest)
