use Rattle.std.proofs.Common.{[], ◌∙◌}
use Rattle.iol_serve.proofs.ConnEnd.{ended_beside}
use Rattle.iol_serve.proofs.Steps.{goes_none, goes_hung_up, goes_then}
use Rattle.iol_serve.proofs.serve.hang_up.Goals as goal

pub returns-then-is_there-clause-ended : goal.returns-then-is_there-clause-ended
returns-then-is_there-clause-ended g c =
    ended_beside _ _ c.args.conn c.step_outside.result (c.is_there.ensures.safe c.if-is_there.true).sound
    (c.is_there.ensures.found c.if-is_there.true) c.step_outside.ensures.step.step.beside

pub returns-then-is_there-clause-proceeds : goal.returns-then-is_there-clause-proceeds
returns-then-is_there-clause-proceeds g c = λ honest.
    goes_then g.P.Process.turns c.args.conn [] [] [] [] _ _ _ _ _
    (goes_none g.P.Process.turns c.args.conn _ _ c.is_there.ensures.same)
    (goes_hung_up g.P.Process.turns c.args.conn _ _ _
    (c.step_outside.ensures.copied (c.is_there.ensures.honest.same ∙ honest)))

pub returns-else-is_there-clause-proceeds : goal.returns-else-is_there-clause-proceeds
returns-else-is_there-clause-proceeds g c =
    λ honest. goes_none g.P.Process.turns c.args.conn _ _ c.is_there.ensures.same
