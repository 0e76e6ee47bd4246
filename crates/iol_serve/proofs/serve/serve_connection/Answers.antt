use Rattle.std.proofs.Common.{◌∙◌, refl, sym, ap}
use Rattle.iol_serve.proofs.Rounds.{ended_last, hung_up-after, over_last}
use Rattle.iol_serve.proofs.Steps.{appends_none, serves_alone, serves_as, serves_kept, serves_none, serves_then}
use Rattle.iol_serve.specs.Service.{hung_up}
use Rattle.iol_serve.proofs.serve.serve_connection.Goals as goal

pub loop-init : goal.loop-init
loop-init g c = record {
  honest = record { same = refl };
  serves = λ honest. serves_none g.P.Process.turns c.args.conn _ _ _ _ (appends_none _);
}

pub loop-preserved : goal.loop-preserved
loop-preserved g c = record {
  honest = record { same = c.round-step.ensures.honest.same ∙ c.loop.invariant.honest.same };
  serves =
      λ honest. serves_as g.P.Process.turns c.args.conn _ _ _ _ _ _ _ _ (hung_up-after _ _
      ∙ ap hung_up (sym c.after-ending.ensures))
      (serves_then g.P.Process.turns c.args.conn _ _ _ _ _ _ _ _ _ _ _ (c.loop.invariant.serves honest)
      (c.round-step.ensures.serves (c.loop.invariant.honest.same ∙ honest)));
}

pub returns-then-is_last : goal.returns-then-is_last
returns-then-is_last g c = record {
  ended = ended_last _ c.args.conn _ _ (sym c.is_last.ensures ∙ c.if-is_last.true) c.round-step.ensures.gone
      c.round-step.ensures.over;
  over = λ is. over_last _ _ (sym c.is_last.ensures ∙ c.if-is_last.true) (sym c.after-ending.ensures ∙ is)
      c.round-step.ensures.over;
  honest = record { same = c.round-step.ensures.honest.same ∙ c.loop.invariant.honest.same };
  serves =
      λ honest. serves_as g.P.Process.turns c.args.conn _ _ _ _ _ _ _ _ (hung_up-after _ _
      ∙ ap hung_up (sym c.after-ending.ensures))
      (serves_kept g.P.Process.turns c.args.conn _ _ _ _ _ _ _ _ c.finish.ensures
      (serves_then g.P.Process.turns c.args.conn _ _ _ _ _ _ _ _ _ _ _ (c.loop.invariant.serves honest)
      (c.round-step.ensures.serves (c.loop.invariant.honest.same ∙ honest))));
}

pub returns : goal.returns
returns g c = record {
  ended = c.hang_up.ensures.ended;
  over = λ is. c.hang_up.ensures.lacks (c.long.ensures.over is);
  honest = record { same = c.hang_up.ensures.honest.same ∙ c.loop.invariant.honest.same };
  serves = λ honest. serves_as g.P.Process.turns c.args.conn _ _ _ _ _ _ _ _ (sym c.long.ensures.reported)
      (serves_then g.P.Process.turns c.args.conn _ _ _ _ _ _ _ _ _ _ _ (c.loop.invariant.serves honest)
      (serves_alone g.P.Process.turns c.args.conn _ _ _ _ _
      (c.hang_up.ensures.proceeds (c.loop.invariant.honest.same ∙ honest))));
}
