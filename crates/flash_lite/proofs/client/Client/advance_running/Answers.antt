use Rattle.std.proofs.Common.{rules, sym, ◌∙◌}
use Rattle.flash_lite.specs.ReceivedBytes.{received}
use Rattle.flash_lite.proofs.Responses.RunsOn.{on_err, run_answers, run_stays, run_waits, run_wants_on, goes_wants}
use Rattle.flash_lite.proofs.client.Client.advance_running.Goals as goal

pub returns-then-is_later : goal.returns-then-is_later
returns-then-is_later c = record {
  course =
      run_stays c.args.context.worker c.args.self.now c.args.running c.args.reply.last.now (received c.args.reply.parts)
      c.requires.runs c.requires.goes.1 (sym c.is_later.ensures ∙ c.if-is_later.true);
  err = tt;
  wants = tt;
}

pub returns-then-waits : goal.returns-then-waits
returns-then-waits c = record {
  course = run_waits c.args.context.worker c.args.self.now c.args.running c.run_after-next.result c.args.reply.last.now
      (received c.args.reply.parts) c.requires.runs c.requires.goes.1 c.run_after-next.ensures.after
      (sym c.waits.ensures ∙ c.if-waits.true);
  err = tt;
  wants = tt;
}

pub returns-in-Some : goal.returns-in-Some
returns-in-Some c = record {
  course = run_answers c.args.context.worker c.args.self.now c.args.running c.run_after-next.result c.in-Some.phase
      c.args.reply.last.now (received c.args.reply.parts) c.requires.runs c.requires.goes.1
      c.run_after-next.ensures.after c.run_after-next.ensures.small c.in-Some.ensures.phase c.in-Some.ensures.some;
  err = tt;
  wants = tt;
}

pub returns-in_err-course-in-Some-after_run : goal.returns-in_err-course-in-Some-after_run
returns-in_err-course-in-Some-after_run c = record {
  course = search rules;
  err = search rules;
  wants =
      on_err c.from_residual.result _ (run_wants_on c.args.context.scripts c.args.context.worker c.args.self.now
      c.args.running
      c.run_after-next.result c.in-Some-after_run.phase c.args.reply.last.now (received c.args.reply.parts)
      c.requires.runs
      c.requires.goes.1
      (sym c.is_later.ensures ∙ c.if-is_later.false) c.run_after-next.ensures.after c.in-Some-after_run.ensures.over
      c.in-Some-after_run.ensures.after c.in_err-course-in-Some-after_run.ensures.wants);
}

pub returns-in_err-call-in-None : goal.returns-in_err-call-in-None
returns-in_err-call-in-None c = record {
  course = search rules;
  err = search rules;
  wants =
      on_err c.from_residual-in_err-call-in-None.result _
      (goes_wants c.args.context.scripts c.args.context.worker c.args.self.now c.args.running c.run_after-next.result
      c.args.reply.last.now
      (received c.args.reply.parts) c.requires.runs c.requires.goes.1
      (sym c.is_later.ensures ∙ c.if-is_later.false) c.run_after-next.ensures.after (sym c.waits.ensures
      ∙ c.if-waits.false) c.in_default.ensures.none c.in-None.ensures.none c.in_err-call-in-None.ensures.wants);
}
