use Rattle.std.proofs.Common.{inr}
use Rattle.iolite.proofs.ScriptAnswers.{begun_by, never_bad, replayed_by, whole_by}
use Rattle.iolite.proofs.replay.replay_text.Goals as goal

pub returns : goal.returns
returns g c = record {
  untouched = never_bad c.answer_lines.result _ c.answer_lines.ensures.error;
  bad = never_bad c.answer_lines.result _ c.answer_lines.ensures.error;
  begun =
      inr (begun_by c.args.text.now c.in_ok-setup.setup c.in_ok-system.system (g.W.Write.contents c.args.output.now)
      (g.W.Write.contents c.answer_lines.new.output) c.in_ok-setup.ensures.judged c.in_ok-system.ensures.new
      c.answer_lines.ensures.within);
  whole =
      λ wants. inr (whole_by c.args.text.now c.in_ok-setup.setup c.in_ok-system.system c.answer_lines.new.system
      (g.W.Write.contents c.args.output.now) (g.W.Write.contents c.answer_lines.new.output) c.in_ok-setup.ensures.judged
      c.in_ok-system.ensures.new (c.answer_lines.ensures.memory wants));
  replayed = replayed_by c.answer_lines.result c.args.text.now c.in_ok-setup.setup c.in_ok-system.system
      c.answer_lines.new.system (g.W.Write.contents c.args.output.now) (g.W.Write.contents c.answer_lines.new.output)
      c.in_ok-setup.ensures.judged c.in_ok-system.ensures.new c.answer_lines.ensures.answered;
}
