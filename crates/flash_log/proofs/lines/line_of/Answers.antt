use Rattle.std.proofs.Common.{rules}
use Rattle.flash_log.specs.Line.{front_of}
use Rattle.flash_log.proofs.Printable.{printable_front}
use Rattle.flash_log.proofs.lines.line_of.Goals as goal

pub returns-clause-one : goal.returns-clause-one
returns-clause-one c = record {
  front = front_of c.args.entry.now;
  is = search rules;
  printable = printable_front c.args.entry.now;
}
