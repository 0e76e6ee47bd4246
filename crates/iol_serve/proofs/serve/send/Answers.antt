use Rattle.std.proofs.Common.{◌∙◌, refl}
use Rattle.iol_serve.proofs.Steps.{appends_none, sends_none, sends_then}
use Rattle.iol_serve.proofs.serve.send.Goals as goal

pub loop-init : goal.loop-init
loop-init g c = record {
  honest = record { same = refl };
  sends = sends_none g.P.Process.turns c.args.conn _ _ _ _ (appends_none _) refl;
}

pub loop-preserved : goal.loop-preserved
loop-preserved g c = record {
  honest = record { same = c.send_piece.ensures.honest.same ∙ c.loop.invariant.honest.same };
  sends = sends_then g.P.Process.turns c.args.conn _ _ _ _ _ _ c.loop.invariant.sends c.send_piece.ensures.sends;
}

pub returns-in-Idle-clause-sends : goal.returns-in-Idle-clause-sends
returns-in-Idle-clause-sends g c =
    sends_then g.P.Process.turns c.args.conn _ _ _ _ _ _ c.loop.invariant.sends c.send_piece.ensures.sends

pub returns-in_default-clause-sends : goal.returns-in_default-clause-sends
returns-in_default-clause-sends g c =
    sends_then g.P.Process.turns c.args.conn _ _ _ _ _ _ c.loop.invariant.sends c.send_piece.ensures.sends
