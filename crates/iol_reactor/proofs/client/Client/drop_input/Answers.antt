use Rattle.std.proofs.Common.{◌∙◌, refl}
use Rattle.iol_reactor.proofs.Bytes.{grows_none, grows_then, keeps_same, keeps_then, same_input_then}
use Rattle.iol_reactor.proofs.client.Client.drop_input.Goals as goal

pub loop-init : goal.loop-init
loop-init g c = record {
  same = record { bytes = refl; asked = refl; given = refl };
  came = grows_none _ _ (keeps_same _);
  sent = keeps_same _;
  whole = refl;
  phase = refl;
  output = refl;
  ended = refl;
  last = refl;
  time = refl;
}

pub loop-preserved : goal.loop-preserved
loop-preserved g c = record {
  same = same_input_then _ _ _ c.loop.invariant.same c.drop_from.ensures.same;
  came = grows_then _ _ _ c.loop.invariant.came c.drop_from.ensures.came;
  sent = keeps_then _ _ _ c.loop.invariant.sent c.drop_from.ensures.sent;
  whole = c.loop.invariant.whole;
  phase = c.loop.invariant.phase;
  output = c.loop.invariant.output;
  ended = c.drop_from.ensures.ended ∙ c.loop.invariant.ended;
  last = c.loop.invariant.last;
  time = c.loop.invariant.time;
}

pub returns-in-Empty-clause-same : goal.returns-in-Empty-clause-same
returns-in-Empty-clause-same g c = same_input_then _ _ _ c.loop.invariant.same c.drop_from.ensures.same

pub returns-in-Empty-clause-came : goal.returns-in-Empty-clause-came
returns-in-Empty-clause-came g c = grows_then _ _ _ c.loop.invariant.came c.drop_from.ensures.came

pub returns-in-Empty-clause-sent : goal.returns-in-Empty-clause-sent
returns-in-Empty-clause-sent g c = keeps_then _ _ _ c.loop.invariant.sent c.drop_from.ensures.sent

pub returns-in-End-clause-same : goal.returns-in-End-clause-same
returns-in-End-clause-same g c = same_input_then _ _ _ c.loop.invariant.same c.drop_from.ensures.same

pub returns-in-End-clause-came : goal.returns-in-End-clause-came
returns-in-End-clause-came g c = grows_then _ _ _ c.loop.invariant.came c.drop_from.ensures.came

pub returns-in-End-clause-sent : goal.returns-in-End-clause-sent
returns-in-End-clause-sent g c = keeps_then _ _ _ c.loop.invariant.sent c.drop_from.ensures.sent
