use Rattle.std.proofs.Common.{◌∙◌, refl}
use Rattle.iol_reactor.proofs.Bytes.{rest_then, rest_whole}
use Rattle.iol_reactor.proofs.Serving.{arrives_none, arrives_then}
use Rattle.iol_reactor.proofs.steps.hand_in.Goals as goal

pub loop-init : goal.loop-init
loop-init g c = record {
  honest = record { same = refl };
  rest = rest_whole _;
  alone = λ honest. arrives_none g.P.Process.turns c.args.conn _ _;
}

pub loop-preserved : goal.loop-preserved
loop-preserved g c = record {
  honest = record { same = c.hand_in_page.ensures.honest.same ∙ c.loop.invariant.honest.same };
  rest = rest_then _ _ _ c.loop.invariant.rest c.hand_in_page.ensures.rest;
  alone = λ honest. arrives_then g.P.Process.turns c.args.conn _ _ _ _ _ _ (c.loop.invariant.alone honest)
      (c.hand_in_page.ensures.alone (c.loop.invariant.honest.same ∙ honest));
}

pub returns-then-is_empty-clause-honest : goal.returns-then-is_empty-clause-honest
returns-then-is_empty-clause-honest g c = c.loop.invariant.honest

pub returns-then-is_empty-clause-rest : goal.returns-then-is_empty-clause-rest
returns-then-is_empty-clause-rest g c = c.loop.invariant.rest

pub returns-then-is_empty-clause-alone : goal.returns-then-is_empty-clause-alone
returns-then-is_empty-clause-alone g c = c.loop.invariant.alone

pub returns-then-not-hand_in_page-clause-honest : goal.returns-then-not-hand_in_page-clause-honest
returns-then-not-hand_in_page-clause-honest g c =
    record { same = c.hand_in_page.ensures.honest.same ∙ c.loop.invariant.honest.same }

pub returns-then-not-hand_in_page-clause-rest : goal.returns-then-not-hand_in_page-clause-rest
returns-then-not-hand_in_page-clause-rest g c = rest_then _ _ _ c.loop.invariant.rest c.hand_in_page.ensures.rest

pub returns-then-not-hand_in_page-clause-alone : goal.returns-then-not-hand_in_page-clause-alone
returns-then-not-hand_in_page-clause-alone g c =
    λ honest. arrives_then g.P.Process.turns c.args.conn _ _ _ _ _ _ (c.loop.invariant.alone honest)
    (c.hand_in_page.ensures.alone (c.loop.invariant.honest.same ∙ honest))

pub returns-clause-honest : goal.returns-clause-honest
returns-clause-honest g c = c.loop.invariant.honest

pub returns-clause-rest : goal.returns-clause-rest
returns-clause-rest g c = c.loop.invariant.rest

pub returns-clause-alone : goal.returns-clause-alone
returns-clause-alone g c = c.loop.invariant.alone
