use Rattle.std.proofs.Common.{◌++◌, inr, refl}
use Rattle.iolite.specs.PrintedText.{answer_text, newline}
use Rattle.iolite.proofs.replay.answer_line.Goals as goal

pub unreachable-requires : goal.unreachable-requires
unreachable-requires c = c.in_default.ensures.none refl c.requires.0 c.requires.1

-- the request was executed, and its answer's text is the one for which memory ran out
pub returns-clause-lost : goal.returns-clause-lost
returns-clause-lost c =
    let answer = c.in_ok-answer.answer in
    inr (
      answer_text answer ++ newline,
      record {
        line = c.in-Ok.line;
        answer = answer;
        asks = rw (c.in-Ok.ensures) c.in-Some.ensures.some;
        answered = c.in_ok-answer.ensures.answer;
        is = refl;
      },
    )
